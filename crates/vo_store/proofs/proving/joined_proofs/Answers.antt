use Rattle.std.proofs.Common.{◌≡◌, ◌==◌, true, false, [], ◌∷◌, List, Option, None, length, ap, sym, subst, ◌∙◌, IfOk}
use Rattle.vo_spec.specs.declared.needs.Need.{Need}
use Rattle.vo_spec.specs.Results.{bound_source_at}
use Rattle.vo_spec.specs.Trees.{RowTree}
use Rattle.vo_spec.specs.Scans.{seen}
use Rattle.vo_spec.specs.Pruning.{prune_tree}
use Rattle.vo_spec.specs.Needs.{same_table}
use Rattle.vo_spec.specs.Honest.{stored_tree}
use Rattle.query_binding.specs.declared.bound_sources.BoundSource.{BoundSource as HeldBoundSource}
use Rattle.query_binding.specs.HeldSources.{bound_sources_seen}
use Rattle.query_plan.specs.Plans.{plan_need}
use Rattle.query_plan.specs.PlanViews.{plan_seen}
use Rattle.plan_run.specs.Running.{lefts_seen, needs_of}
use Rattle.vo_format.specs.View.{row_trees_of}
use Rattle.vo_store.specs.Proving.{left_need_by, right_needs_by, left_proof, tree_by}
use Rattle.vo_store.proofs.ProofLaws.{beside, made_of_both, made_of_each}
use Rattle.vo_store.proofs.proving.joined_proofs.Goals as goal

pub needs_by_left-requires : goal.needs_by_left-requires
needs_by_left-requires c =
    record { shown = subst (λ (t : RowTree). seen (plan_need (plan_seen c.args.plan.now) t) t ≡ None → ⊥) (sym c.root-root.ensures.value) c.requires.shown }

pub returns-then-same_table : goal.returns-then-same_table
returns-then-same_table c =
    let p = plan_seen c.args.plan.now in
    let stored = c.args.tables.now in
    let same : same_table (bound_sources_seen c.args.plan.now.query.now.bound_sources) ≡ true = sym c.same_table.ensures ∙ c.if-same_table.true in
    let two : (length (bound_sources_seen c.args.plan.now.query.now.bound_sources) == 1) ≡ false = ap (λ (r : Option HeldBoundSource). length (beside c.args.plan.now.query.now.bound_sources.left r) == 1) c.requires.joined in
    let root : c.root-root.result.now ≡ tree_by (plan_seen c.args.plan.now) c.args.tables.now 0 = c.root-root.ensures.value ∙ c.requires.tree in
    let need : c.in_ok-need.need ≡ left_need_by (plan_seen c.args.plan.now) c.args.tables.now = c.in_ok-need.ensures ∙ ap (plan_need (plan_seen c.args.plan.now)) root in
    let rights : c.in_ok-rights.rights.items ≡ right_needs_by (plan_seen c.args.plan.now) c.args.tables.now =
    c.in_ok-rights.ensures ∙ ap (λ (t : RowTree). needs_of (plan_seen c.args.plan.now) (lefts_seen (plan_seen c.args.plan.now) t)) root in
    subst (λ trees. IfOk c.proofs_of_both.result (λ proofs. row_trees_of proofs ≡ trees))
    (ap (λ (n : Need). prune_tree (n ∷ c.in_ok-rights.rights.items) c.args.left.now ∷ []) need
    ∙ ap (λ (ns : List Need). prune_tree (left_need_by p stored ∷ ns) c.args.left.now ∷ []) rights
    ∙ ap (λ (t : RowTree). prune_tree (left_need_by p stored ∷ right_needs_by p stored) t ∷ []) c.requires.tree
    ∙ made_of_both p stored two same)
    c.proofs_of_both.ensures

pub returns : goal.returns
returns c =
    let p = plan_seen c.args.plan.now in
    let stored = c.args.tables.now in
    let apart : same_table (bound_sources_seen c.args.plan.now.query.now.bound_sources) ≡ false = sym c.same_table.ensures ∙ c.if-same_table.false in
    let two : (length (bound_sources_seen c.args.plan.now.query.now.bound_sources) == 1) ≡ false = ap (λ (r : Option HeldBoundSource). length (beside c.args.plan.now.query.now.bound_sources.left r) == 1) c.requires.joined in
    let root : c.root-root.result.now ≡ tree_by (plan_seen c.args.plan.now) c.args.tables.now 0 = c.root-root.ensures.value ∙ c.requires.tree in
    let need : c.in_ok-need.need ≡ left_need_by (plan_seen c.args.plan.now) c.args.tables.now = c.in_ok-need.ensures ∙ ap (plan_need (plan_seen c.args.plan.now)) root in
    let rights : c.in_ok-rights.rights.items ≡ right_needs_by (plan_seen c.args.plan.now) c.args.tables.now =
    c.in_ok-rights.ensures ∙ ap (λ (t : RowTree). needs_of (plan_seen c.args.plan.now) (lefts_seen (plan_seen c.args.plan.now) t)) root in
    let right_tree : c.tree_of.result.now ≡ tree_by (plan_seen c.args.plan.now) c.args.tables.now 1 =
    c.tree_of.ensures ∙ ap (λ (r : Option HeldBoundSource). stored_tree c.args.tables.now (bound_source_at (beside c.args.plan.now.query.now.bound_sources.left r) 1).table) (sym c.requires.joined) in
    subst (λ trees. IfOk c.proofs_of_each.result (λ proofs. row_trees_of proofs ≡ trees))
    (ap (λ (n : Need). prune_tree (n ∷ []) c.args.left.now ∷ prune_tree c.in_ok-rights.rights.items c.tree_of.result.now ∷ []) need
    ∙ ap (λ (t : RowTree). prune_tree (left_need_by p stored ∷ []) t ∷ prune_tree c.in_ok-rights.rights.items c.tree_of.result.now ∷ []) c.requires.tree
    ∙ ap (λ (ns : List Need). left_proof p stored ∷ prune_tree ns c.tree_of.result.now ∷ []) rights
    ∙ ap (λ (t : RowTree). left_proof p stored ∷ prune_tree (right_needs_by p stored) t ∷ []) right_tree
    ∙ made_of_each p stored two apart)
    (rw c.deref.ensures.value at c.proofs_of_each.ensures)
