use Rattle.std.proofs.Common.{map}
use Rattle.range_proof.specs.Lending.{lent_need}
use Rattle.range_proof.proofs.Visits.{cover_at_root}
use Rattle.range_proof.proofs.active_needs.ActiveNeeds.at_root.Goals as goal

pub invariant_of-result : goal.invariant_of-result
invariant_of-result c = rw c.in_ok-active_at_root.ensures (cover_at_root (map lent_need c.args.all.now))
