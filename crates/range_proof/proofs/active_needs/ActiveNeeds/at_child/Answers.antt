use Rattle.std.proofs.Common.{map}
use Rattle.range_proof.specs.Lending.{lent_need}
use Rattle.range_proof.proofs.Visits.{cover_below}
use Rattle.range_proof.proofs.active_needs.ActiveNeeds.at_child.Goals as goal

pub invariant_of-result-2 : goal.invariant_of-result-2
invariant_of-result-2 c =
    rw (c.max_lower.ensures, c.min_upper.ensures, c.requires, ← c.self.view_is)
    (cover_below (map lent_need c.self.inside.all.now) (map lent_need c.self.inside.active.items) _ _ _ _ c.self.invariant)
