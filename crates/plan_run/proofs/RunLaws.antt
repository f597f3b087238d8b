-- From what left rows show to what a run gives.
use Rattle.std.proofs.Common.{◌≡◌, ℕ, ◌<◌, Bool, true, false, cond, List, [], ◌∷◌, Option, Some, None, Result, Ok, Err, length, get_or, map, refl, sym, ap, ◌∙◌, append-nil, arith}
use Rattle.std.specs.Prelude.{◌==◌, ◌||◌, filter, flat_map, is_none, option_to_list, unwrap_or}
use Rattle.std.specs.List.{list_any}
use Rattle.std.proofs.lemmas.Bool.{or_left, or_right, or_from}
use Rattle.vo_spec.specs.declared.values.Value.{Value}
use Rattle.vo_spec.specs.declared.trees.ScanFault.{ScanFault}
use Rattle.vo_spec.specs.declared.trees.ScanFault.TheVariants.{Missing, Memory}
use Rattle.vo_spec.specs.declared.needs.Need.{Need}
use Rattle.vo_spec.specs.declared.needs.SeenRow.{SeenRow}
use Rattle.vo_spec.specs.Results.{BoundSource, ColumnPlace, RowView, bound_source_at, schema_at, place_value, first_rows}
use Rattle.vo_spec.specs.Trees.{RowTree}
use Rattle.vo_spec.specs.Scans.{seen}
use Rattle.vo_spec.specs.Walks.{walk}
use Rattle.vo_spec.specs.Cuts.{RowCondition, nth_met, limited_need}
use Rattle.vo_spec.specs.Needs.{seen_row_view, left_limit, same_table, tables_used, tree_at, right_tree}
use Rattle.vo_laws.proofs.CutShows.{columns_kept as columns_of_cut}
use Rattle.mb_tree.specs.declared.parts.PartTree.{PartTree}
use Rattle.mb_tree.specs.View.{part_of}
use Rattle.range_proof.specs.Finding.{FindsOrMissing}
use Rattle.query_plan.specs.Plans.{QueryPlan, plan_meets, plan_need, has_join_value, meets_left}
use Rattle.plan_run.specs.declared.ran.Ran.{Ran}
use Rattle.plan_run.specs.declared.left_views.RowsAndNeeds.{RowsAndNeeds}
use Rattle.query_plan.specs.Answers.{answer_at, pair_answers, left_answers, unlimited_rows}
use Rattle.plan_run.specs.Running.{Runs, RanOf, Shows, ShowsPairs, group_needs, lefts_seen, rights_by, rights_asked, rights_seen, needs_by, needs_of, stops_at, is_unseen}
use Rattle.query_plan.proofs.AnswerLaws.{flat_same, valueless_gives_none}
use Rattle.plan_run.proofs.AnswerSteps.{any_flat_map}

module _ (p : QueryPlan) (lefts : List RowView) (tree : RowTree) where
  -- by whether there is a join
  abbrev rows_by : Option (ColumnPlace × ColumnPlace) → List (List Value)
  rows_by o = flat_map (λ left. left_answers p.query p.late o (flat_map (λ on. rights_by p on tree left) (option_to_list o)) left) lefts

  abbrev needs_joined : Option (ColumnPlace × ColumnPlace) → List Need
  needs_joined o = flat_map (λ on. flat_map (needs_by p on) lefts) (option_to_list o)

  module _ (on : ColumnPlace × ColumnPlace) (is : p.query.join ≡ Some on) where
    needs_are : needs_of p lefts ≡ flat_map (needs_by p on) lefts
    needs_are = ap needs_joined is ∙ append-nil (flat_map (needs_by p on) lefts)

    unseen_are : list_any (is_unseen tree) (needs_of p lefts) ≡ list_any (stops_at p on tree) lefts
    unseen_are = ap (list_any (is_unseen tree)) needs_are ∙ any_flat_map (is_unseen tree) (needs_by p on) lefts

    -- a left row without a value for ON is joined with none, whatever rows there are
    asked_same : (left : RowView) → pair_answers p.query p.late (rights_asked p on tree left) left ≡ pair_answers p.query p.late (rights_by p on tree left) left
    asked_same left = step (has_join_value on left) refl
      where
        step : (b : Bool) → has_join_value on left ≡ b → pair_answers p.query p.late (cond b (rights_by p on tree left) []) left ≡ pair_answers p.query p.late (rights_by p on tree left) left
        step true e = refl
        step false e = sym (valueless_gives_none p.query p.late on left is e (rights_by p on tree left))

    rows_are : flat_map (λ left. pair_answers p.query p.late (rights_asked p on tree left) left) lefts ≡ unlimited_rows p lefts (rights_seen p tree)
    rows_are =
        flat_same (λ left. pair_answers p.query p.late (rights_asked p on tree left) left) (λ left. pair_answers p.query p.late (flat_map (λ k. rights_by p k tree left) (on ∷ [])) left)
        (λ left. asked_same left ∙ ap (λ rights. pair_answers p.query p.late rights left) (sym (append-nil (rights_by p on tree left)))) lefts
        ∙ ap rows_by (sym is)

    pub pairs_shown : (r : Result RowsAndNeeds ScanFault) → ShowsPairs r p on lefts tree → Shows r p lefts tree
    pairs_shown (Ok shown) h = (unseen_are ∙ h.0, h.1 ∙ rows_are, h.2 ∙ sym needs_are)
    pairs_shown (Err Missing) h = unseen_are ∙ h
    pairs_shown (Err Memory) h = tt

  pub alone_shown : p.query.join ≡ None → (rows : List (List Value)) → rows ≡ flat_map (λ left. answer_at p.query p.late (place_value (left ∷ []))) lefts
      → (list_any (is_unseen tree) (needs_of p lefts) ≡ false) × (rows ≡ unlimited_rows p lefts (rights_seen p tree)) × ([] ≡ needs_of p lefts)
  alone_shown is rows are = (ap (λ o. list_any (is_unseen tree) (needs_joined o)) is, are ∙ ap rows_by (sym is), ap needs_joined (sym is))

-- a query uses a table
pub used_some : (ss : List BoundSource) → 0 < length (tables_used ss)
used_some ss = step (length ss == 1 || same_table ss)
  where
    step : (b : Bool) → 0 < length (cond b ((bound_source_at ss 0).table ∷ []) ((bound_source_at ss 0).table ∷ (bound_source_at ss 1).table ∷ []))
    step true = omega arith
    step false = omega arith

pub first_tree : (trees : List PartTree) (t : PartTree) → 0 < length trees → t ≡ get_or trees 0 t → part_of t ≡ tree_at (map part_of trees) 0
first_tree [] t lt is = absurd (omega arith)
first_tree (x ∷ trees) t lt is = ap part_of is

-- a cut leaves the columns as they are
columns_by : (limit : Option ℕ) (need : Need) (meets : RowCondition) (tree : RowTree) → (limited_need need meets limit tree).columns ≡ need.columns
columns_by None need meets tree = refl
columns_by (Some n) need meets tree = columns_of_cut (nth_met meets n (walk need tree).rows) need

pub columns_kept : (p : QueryPlan) (tree : RowTree) → (plan_need p tree).columns ≡ p.uncut_need.columns
columns_kept p tree = columns_by (left_limit p.query.join p.query.limit) p.uncut_need (plan_meets p) tree

-- The left rows that a tree shows, by the rows that a scan for the plan's need gives.
module _ (p : QueryPlan) (tree : RowTree) (rows : List SeenRow) (found : seen (plan_need p tree) tree ≡ Some rows) where
  abbrev pub lefts_found : List RowView
  lefts_found = filter (meets_left p) (map (seen_row_view (schema_at p.query.bound_sources 0) p.uncut_need.columns) rows)

  pub lefts_are : lefts_found ≡ lefts_seen p tree
  lefts_are =
      ap (λ columns. filter (meets_left p) (map (seen_row_view (schema_at p.query.bound_sources 0) columns) rows)) (sym (columns_kept p tree))
      ∙ ap (λ (o : Option (List SeenRow)). filter (meets_left p) (map (seen_row_view (schema_at p.query.bound_sources 0) (plan_need p tree).columns) (unwrap_or o []))) (sym found)

module _ (p : QueryPlan) (ts : List RowTree) (tree : RowTree) (tree_is : tree ≡ tree_at ts 0) where
  abbrev first : RowTree
  first = tree_at ts 0

  pub left_fault : (fault : ScanFault) → FindsOrMissing {A = List SeenRow} (Err fault) (seen (plan_need p tree) tree) → Runs (Err fault) p ts
  left_fault Missing h = or_left (is_unseen first (plan_need p first)) _ (ap (λ t. is_none (seen (plan_need p t) t)) (sym tree_is) ∙ ap is_none h)
  left_fault Memory h = tt

  module _ (rows : List SeenRow) (found : seen (plan_need p tree) tree ≡ Some rows) where
    abbrev lefts : List RowView
    lefts = lefts_found p tree rows found

    same_lefts : lefts ≡ lefts_seen p first
    same_lefts = lefts_are p tree rows found ∙ ap (lefts_seen p) tree_is

    left_seen : is_unseen first (plan_need p first) ≡ false
    left_seen = ap (λ t. is_none (seen (plan_need p t) t)) (sym tree_is) ∙ ap is_none found

    pub run_done : (r : Result Ran ScanFault) (shown : RowsAndNeeds) → Shows (Ok shown) p lefts (right_tree p.query.bound_sources ts) → RanOf r p (plan_need p tree) shown → Runs r p ts
    run_done (Ok ran) shown s h = (
      or_from (is_unseen first (plan_need p first)) (list_any (is_unseen (right_tree p.query.bound_sources ts)) (needs_of p (lefts_seen p first))) left_seen
          (ap (λ ls. list_any (is_unseen (right_tree p.query.bound_sources ts)) (needs_of p ls)) (sym same_lefts) ∙ s.0),
      h.0 ∙ ap (first_rows p.query.limit) (s.1 ∙ ap (λ ls. unlimited_rows p ls (rights_seen p (right_tree p.query.bound_sources ts))) same_lefts),
      h.1 ∙ ap (group_needs p.query.bound_sources (plan_need p tree)) (s.2 ∙ ap (needs_of p) same_lefts)
          ∙ ap (λ t. group_needs p.query.bound_sources (plan_need p t) (needs_of p (lefts_seen p first))) tree_is,
    )
    run_done (Err Missing) shown s h = absurd h
    run_done (Err Memory) shown s h = tt

    pub right_fault : (fault : ScanFault) → Shows (Err fault) p lefts (right_tree p.query.bound_sources ts) → Runs (Err fault) p ts
    right_fault Missing u =
        or_right (is_unseen first (plan_need p first)) _ (ap (λ ls. list_any (is_unseen (right_tree p.query.bound_sources ts)) (needs_of p ls)) (sym same_lefts) ∙ u)
    right_fault Memory u = tt
