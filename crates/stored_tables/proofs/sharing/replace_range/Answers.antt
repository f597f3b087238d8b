use Rattle.std.proofs.Common.{arith}
use Rattle.std.proofs.lemmas.Grind.{common_steps}
use Rattle.std.proofs.lemmas.List.{take-map}
use Rattle.std.specs.List.{drop-map}
use Rattle.stored_tables.proofs.sharing.replace_range.Goals as goal

pub returns : goal.returns
returns g c = grind (arith, common_steps, take-map, drop-map, c.in_ok-share.ensures, c.in_ok-share-2.ensures, c.in_ok-share-3.ensures)
