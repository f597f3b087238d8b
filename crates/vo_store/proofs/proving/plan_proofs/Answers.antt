use Rattle.std.proofs.Common.{◌≡◌, ◌==◌, true, [], ◌∷◌, Option, None, Some, length, ap, sym, subst, ◌∙◌, IfOk, arith}
use Rattle.vo_spec.specs.Trees.{RowTree}
use Rattle.vo_spec.specs.Scans.{seen}
use Rattle.vo_spec.specs.Pruning.{prune_tree}
use Rattle.query_binding.specs.declared.bound_sources.BoundSource.{BoundSource as HeldBoundSource}
use Rattle.query_binding.specs.HeldSources.{bound_sources_seen}
use Rattle.query_plan.specs.Plans.{plan_need}
use Rattle.query_plan.specs.PlanViews.{plan_seen}
use Rattle.vo_format.specs.View.{row_trees_of}
use Rattle.vo_store.specs.Proving.{HasTables}
use Rattle.vo_store.proofs.ProofLaws.{beside, made_alone}
use Rattle.vo_store.proofs.proving.plan_proofs.Goals as goal

pub tree_of-left-requires : goal.tree_of-left-requires
tree_of-left-requires c = c.requires.tables 0 (omega arith)

pub joined_proofs-requires-clause-right : goal.joined_proofs-requires-clause-right
joined_proofs-requires-clause-right c =
    let both : HasTables c.args.tables.now (beside c.args.plan.now.query.now.bound_sources.left (Some c.in-Some.right)) =
    subst (λ (r : Option HeldBoundSource). HasTables c.args.tables.now (beside c.args.plan.now.query.now.bound_sources.left r)) c.in-Some.is c.requires.tables in
    both 1 (omega arith)

pub joined_proofs-requires-clause-shown : goal.joined_proofs-requires-clause-shown
joined_proofs-requires-clause-shown c =
    subst (λ (t : RowTree). seen (plan_need (plan_seen c.args.plan.now) t) t ≡ None → ⊥) (sym c.tree_of-left.ensures) c.requires.shown

pub returns-in-None : goal.returns-in-None
returns-in-None c =
    let p = plan_seen c.args.plan.now in
    let stored = c.args.tables.now in
    let one : (length (bound_sources_seen c.args.plan.now.query.now.bound_sources) == 1) ≡ true = ap (λ (r : Option HeldBoundSource). length (beside c.args.plan.now.query.now.bound_sources.left r) == 1) c.in-None.is in
    subst (λ trees. IfOk c.proofs_of_one.result (λ proofs. row_trees_of proofs ≡ trees))
    (ap (λ (t : RowTree). prune_tree (plan_need p t ∷ []) t ∷ []) c.tree_of-left.ensures ∙ made_alone p stored one)
    c.proofs_of_one.ensures
