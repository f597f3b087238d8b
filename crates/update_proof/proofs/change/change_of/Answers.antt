use Rattle.std.proofs.Common.{sym, ap}
use Rattle.update_proof.specs.Changes.{change_in}
use Rattle.update_proof.proofs.change.change_of.Goals as goal

pub returns-in-Remove : goal.returns-in-Remove
returns-in-Remove c = ap change_in (sym c.in-Remove.is)
