use Rattle.std.proofs.Common.{ap, ◌∙◌, arith}
use Rattle.vo_spec.specs.Secret.{secret_leaves}
use Rattle.round_trips.proofs.SealedJournals.{some_leaf}
use Rattle.owner_state.specs.Held.{Held}
use Rattle.owner_state.proofs.OwnerSteps.{spent_exactly}
use Rattle.owner_state.proofs.owner.Owner.is_spent.Goals as goal

pub overflow_sub-result : goal.overflow_sub-result
overflow_sub-result c = omega (arith, c.leaf_count.ensures.value, some_leaf c.self.inside.key)

pub returns-clause-spent : goal.returns-clause-spent
returns-clause-spent c =
    spent_exactly c.leaf_count.result c.self.inside.roots.version c.args.self.now.roots.version (secret_leaves c.args.self.now.key) (some_leaf c.args.self.now.key)
    (c.leaf_count.ensures.value ∙ ap (λ (h : Held). secret_leaves h.key) c.self.view_is) (ap (λ (h : Held). h.roots.version) c.self.view_is)
