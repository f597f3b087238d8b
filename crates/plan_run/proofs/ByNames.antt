-- What a plan of a query gives is what the query gives by names.
use Rattle.std.proofs.Common.{◌≡◌, Bool, true, false, cond, List, [], ◌∷◌, ◌++◌, Option, Some, None, map, refl, sym, ap, ◌∙◌}
use Rattle.std.specs.Prelude.{filter, flat_map, option_map, option_to_list}
use Rattle.vo_spec.specs.declared.needs.Need.{Need}
use Rattle.vo_spec.specs.declared.queries.Join.{Join}
use Rattle.vo_spec.specs.Conditions.{Query}
use Rattle.vo_spec.specs.Results.{BoundSource, schema_at, RowView, first_rows, unlimited_rows as unlimited_by_names, answer_rows}
use Rattle.vo_spec.specs.Trees.{RowTree}
use Rattle.vo_spec.specs.Needs.{seen_row_views, left_need, has_join_value, right_need, right_needs, needs, seen_lefts, seen_rights, meets_left as meets_by_names, tree_at, right_tree}
use Rattle.vo_laws.proofs.AnswerLaws.{unlimited_rows_are}
use Rattle.query_plan.specs.BoundQueries.{bound_join, bound_query}
use Rattle.query_plan.specs.Plans.{QueryPlan, plan_of, plan_need, right_need_of, meets_left}
use Rattle.query_plan.proofs.MeaningLaws.{same_filter, left_need_same, value_same, right_need_same, meets_same}
use Rattle.query_plan.specs.Answers.{unlimited_rows}
use Rattle.query_plan.proofs.AnswerLaws.{rows_kept}
use Rattle.plan_run.specs.Running.{group_needs, lefts_seen, rights_by, rights_seen, needs_by as needs_at, needs_of, run_rows, run_needs}

module _ (ss : List BoundSource) (q : Query) where
  abbrev p : QueryPlan
  p = plan_of (bound_query ss q)

  lefts_same : (tree : RowTree) → lefts_seen p tree ≡ filter (meets_by_names ss q) (seen_row_views (schema_at ss 0) (left_need ss q tree) tree)
  lefts_same tree =
      same_filter (meets_left p) (meets_by_names ss q) (meets_same ss q) (seen_row_views (schema_at ss 0) (plan_need p tree) tree)
      ∙ ap (λ (n : Need). filter (meets_by_names ss q) (seen_row_views (schema_at ss 0) n tree)) (left_need_same ss q tree)

  rights_same : (j : Option Join) (tree : RowTree) (left : RowView)
      → flat_map (λ on. rights_by p on tree left) (option_to_list (option_map (bound_join ss) j)) ≡ flat_map (λ k. seen_row_views (schema_at ss 1) (right_need ss q k left) tree) (option_to_list j)
  rights_same None tree left = refl
  rights_same (Some j) tree left = ap (λ (n : Need). seen_row_views (schema_at ss 1) n tree ++ []) (right_need_same ss q j left)

  unlimited_same : (trees : List RowTree) → unlimited_rows p (lefts_seen p (tree_at trees 0)) (rights_seen p (right_tree ss trees))
      ≡ unlimited_by_names ss q (seen_lefts ss q trees) (seen_rights ss q trees)
  unlimited_same trees =
      ap (λ ls. unlimited_rows p ls (rights_seen p (right_tree ss trees))) (lefts_same (tree_at trees 0))
      ∙ rows_kept ss q (seen_row_views (schema_at ss 0) (left_need ss q (tree_at trees 0)) (tree_at trees 0)) (rights_seen p (right_tree ss trees)) (seen_rights ss q trees) (rights_same q.join (right_tree ss trees))
      ∙ sym (unlimited_rows_are ss q (seen_lefts ss q trees) (seen_rights ss q trees))

  pub rows_same : (trees : List RowTree) → run_rows p trees ≡ answer_rows ss q (seen_lefts ss q trees) (seen_rights ss q trees)
  rows_same trees = ap (first_rows q.limit) (unlimited_same trees)

  -- of left rows, those that have a value for ON
  needs_joined : (j : Join) (lefts : List RowView) → flat_map (needs_at p (bound_join ss j)) lefts ≡ map (right_need ss q j) (filter (has_join_value ss j) lefts)
  needs_joined j [] = refl
  needs_joined j (left ∷ lefts) =
      ap (λ b. cond b (right_need_of p (bound_join ss j) left ∷ []) [] ++ flat_map (needs_at p (bound_join ss j)) lefts) (value_same ss j left)
      ∙ ap (λ (n : Need). cond (has_join_value ss j left) (n ∷ []) [] ++ flat_map (needs_at p (bound_join ss j)) lefts) (right_need_same ss q j left)
      ∙ ap (λ (ns : List Need). cond (has_join_value ss j left) (right_need ss q j left ∷ []) [] ++ ns) (needs_joined j lefts)
      ∙ step (has_join_value ss j left)
    where
      step : (b : Bool) → cond b (right_need ss q j left ∷ []) [] ++ map (right_need ss q j) (filter (has_join_value ss j) lefts)
          ≡ map (right_need ss q j) (cond b (left ∷ filter (has_join_value ss j) lefts) (filter (has_join_value ss j) lefts))
      step true = refl
      step false = refl

  needs_by : (j : Option Join) (lefts : List RowView) → flat_map (λ on. flat_map (needs_at p on) lefts) (option_to_list (option_map (bound_join ss) j))
      ≡ flat_map (λ k. map (right_need ss q k) (filter (has_join_value ss k) lefts)) (option_to_list j)
  needs_by None lefts = refl
  needs_by (Some j) lefts = ap (λ (ns : List Need). ns ++ []) (needs_joined j lefts)

  pub right_needs_same : (tree : RowTree) → needs_of p (lefts_seen p tree) ≡ right_needs ss q (tree ∷ [])
  right_needs_same tree = ap (needs_of p) (lefts_same tree) ∙ needs_by q.join (seen_lefts ss q (tree ∷ []))

  pub needs_same : (trees : List RowTree) → run_needs p trees ≡ needs ss q trees
  needs_same trees =
      ap (λ ns. group_needs ss (plan_need p (tree_at trees 0)) ns) (ap (needs_of p) (lefts_same (tree_at trees 0)) ∙ needs_by q.join (seen_lefts ss q trees))
      ∙ ap (λ (n : Need). group_needs ss n (right_needs ss q trees)) (left_need_same ss q (tree_at trees 0))
