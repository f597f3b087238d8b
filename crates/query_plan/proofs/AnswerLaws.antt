-- What a bound query shows of rows is what the query shows by names.
use Rattle.std.proofs.Common.{◌≡◌, ℕ, zero, suc, ◌+◌, ◌<◌, Bool, true, false, cond, List, [], ◌∷◌, ◌++◌, Option, Some, None, length, get_or, drop, map, refl, sym, ap, ◌∙◌}
use Rattle.std.specs.Prelude.{◌&&◌, ◌||◌, ◌==◌, filter, flat_map, option_map, slice_index_or}
use Rattle.std.specs.Option.{option_map_or}
use Rattle.std.specs.List.{AllByRecursion}
use Rattle.std.proofs.lemmas.Bool.{eqb-true, both_ways, not-false, or_left, or_right}
use Rattle.std.proofs.lemmas.List.{drop_more}
use Rattle.vo_spec.specs.declared.values.Value.{Value}
use Rattle.vo_spec.specs.declared.queries.Ref.{Ref}
use Rattle.vo_spec.specs.declared.queries.Cmp.TheVariants as cmp
use Rattle.vo_spec.specs.declared.queries.Join.{Join}
use Rattle.vo_spec.specs.declared.tables.Table.{Table}
use Rattle.vo_spec.specs.Values.{is_null, value_cmp}
use Rattle.vo_spec.specs.Conditions.{Condition, condition_refs, is_true, compares, comparison_truth, is_met, Query}
use Rattle.vo_spec.specs.Results.{BoundSource, ColumnPlace, place_of, shown_places, RowView, no_row_view, place_value, ref_value, is_joined, first_rows, unlimited_rows as unlimited_by_names, answer_rows, row_views_at}
use Rattle.vo_spec.specs.Needs.{left_truth, meets_left as meets_by_names}
use Rattle.vo_laws.proofs.ListLaws.{each_from, flat_map_kept}
use Rattle.vo_laws.proofs.ConditionLaws.{SameLeft, same_left}
use Rattle.vo_laws.proofs.AnswerLaws.{answer_of, answers_of, unlimited_rows_are, failing_gives_none}
use Rattle.query_plan.specs.BoundConditions.{BoundCondition, all_hold, conjuncts_where}
use Rattle.query_plan.specs.BoundQueries.{BoundQuery, bound_condition, bound_join, bound_query}
use Rattle.query_plan.specs.Plans.{QueryPlan, plan_of, has_join_value, meets_left}
use Rattle.query_plan.specs.Answers.{are_joined, answer_at, pair_answers, left_answers, unlimited_rows, plan_rows}
use Rattle.query_plan.proofs.MeaningLaws.{same_filter, truth_same, conjuncts_hold, left_same, meets_same}

pub flat_same : {A B : Type 0} (f g : A → List B) → ((x : A) → f x ≡ g x) → (xs : List A) → flat_map f xs ≡ flat_map g xs
flat_same f g e [] = refl
flat_same f g e (x ∷ xs) = rw (e x, flat_same f g e xs) refl

-- a row further among those that meet a test
pub filter_at : {A : Type 0} (test : RowView → Bool) (g : A → RowView) (xs : List A) (i : ℕ) (x : A) → i < length xs → x ≡ get_or xs i x
    → filter test (map g (drop i xs)) ≡ cond (test (g x)) (g x ∷ filter test (map g (drop (i + 1) xs))) (filter test (map g (drop (i + 1) xs)))
filter_at test g xs i x lt is =
    let first : drop i xs ≡ x ∷ drop (i + 1) xs = drop_more xs i x lt ∙ ap (λ l. l ∷ drop (i + 1) xs) (sym is) in
    ap (λ ls. filter test (map g ls)) first

-- only the right rows of the left rows that are kept matter
kept_same : {B : Type 0} (test : RowView → Bool) (f g : RowView → List B) → ((x : RowView) → test x ≡ true → f x ≡ g x) → (xs : List RowView)
    → flat_map f (filter test xs) ≡ flat_map g (filter test xs)
kept_same test f g e [] = refl
kept_same {B} test f g e (x ∷ xs) = step (test x) refl (kept_same test f g e xs)
  where
    step : (b : Bool) → test x ≡ b → flat_map f (filter test xs) ≡ flat_map g (filter test xs)
        → flat_map f (cond b (x ∷ filter test xs) (filter test xs)) ≡ flat_map g (cond b (x ∷ filter test xs) (filter test xs))
    step true is rest = ap (λ (ys : List B). ys ++ flat_map f (filter test xs)) (e x is) ∙ ap (λ (ys : List B). g x ++ ys) rest
    step false is rest = rest

-- A left row whose value for ON is NULL is joined with no right row.

module _ (left right : RowView) where
  -- a NULL of the left row is one beside a right row too
  null_beside : (bound_source column : ℕ) → is_null (slice_index_or (left ∷ []) bound_source no_row_view column) ≡ true
      → is_null (slice_index_or (left ∷ right ∷ []) bound_source no_row_view column) ≡ true
  null_beside zero column e = e
  null_beside (suc bound_source) column e = absurd (both_ways false refl e)

  joined_by_none : (a b : Value) → (is_null a || is_null b) ≡ true → is_true (comparison_truth cmp.Eq a b) ≡ false
  joined_by_none a b e = ap (λ n. is_true (cond n None (Some (compares cmp.Eq (value_cmp a b))))) e

  valueless_unjoined : (on : ColumnPlace × ColumnPlace) → has_join_value on left ≡ false → are_joined (place_value (left ∷ right ∷ [])) (Some on) ≡ false
  valueless_unjoined on e = step (on.0.bound_source == 1) (not-false _ e)
    where
      row : ColumnPlace → Value
      row = place_value (left ∷ right ∷ [])

      step : (b : Bool) → is_null (place_value (left ∷ []) (cond b on.1 on.0)) ≡ true → is_true (comparison_truth cmp.Eq (row on.0) (row on.1)) ≡ false
      step true n = joined_by_none (row on.0) (row on.1) (or_right (is_null (row on.0)) (is_null (row on.1)) (null_beside on.1.bound_source on.1.column n))
      step false n = joined_by_none (row on.0) (row on.1) (or_left (is_null (row on.0)) (is_null (row on.1)) (null_beside on.0.bound_source on.0.column n))

pub valueless_gives_none : (b : BoundQuery) (late : List BoundCondition) (on : ColumnPlace × ColumnPlace) (left : RowView) → b.join ≡ Some on → has_join_value on left ≡ false
    → (rights : List RowView) → pair_answers b late rights left ≡ []
valueless_gives_none b late on left is e [] = refl
valueless_gives_none b late on left is e (right ∷ rights) =
    ap (λ t. cond (t && all_hold (place_value (left ∷ right ∷ [])) late) (map (place_value (left ∷ right ∷ [])) b.output ∷ []) [] ++ pair_answers b late rights left)
    (ap (are_joined (place_value (left ∷ right ∷ []))) is ∙ valueless_unjoined left right on e)
    ∙ valueless_gives_none b late on left is e rights

module _ (ss : List BoundSource) (q : Query) where
  abbrev p : QueryPlan
  p = plan_of (bound_query ss q)

  -- left columns have their values in the left row
  left_alone : (left : RowView) (rest : List RowView) (rs : List Ref) → AllByRecursion (SameLeft ss (ref_value ss (left ∷ rest)) (ref_value ss (left ∷ []))) rs
  left_alone left rest [] = tt
  left_alone left rest (r ∷ rs) = ((λ e. at (place_of ss r).bound_source (place_of ss r).column (eqb-true (place_of ss r).bound_source 0 e)), left_alone left rest rs)
    where
      at : (bound_source column : ℕ) → bound_source ≡ 0 → slice_index_or (left ∷ rest) bound_source no_row_view column ≡ slice_index_or (left ∷ []) bound_source no_row_view column
      at bound_source column e = rw e refl

  -- beside a left row that meets the left condition, the late condition is the whole one
  late_same : (o : Option Condition) (left : RowView) (rest : List RowView) → option_map_or (left_truth ss (ref_value ss (left ∷ []))) o true ≡ true
      → all_hold (place_value (left ∷ rest)) (option_map_or (conjuncts_where false) (option_map (bound_condition ss) o) []) ≡ is_met (ref_value ss (left ∷ rest)) o
  late_same None left rest met = refl
  late_same (Some c) left rest met =
      let lefts : all_hold (place_value (left ∷ rest)) (conjuncts_where true (bound_condition ss c)) ≡ true =
      left_same ss (place_value (left ∷ rest)) c
      ∙ same_left ss (ref_value ss (left ∷ rest)) (ref_value ss (left ∷ [])) c (left_alone left rest (condition_refs c)) ∙ met in
      ap (λ b. b && all_hold (place_value (left ∷ rest)) (conjuncts_where false (bound_condition ss c))) (sym lefts)
      ∙ conjuncts_hold (place_value (left ∷ rest)) (bound_condition ss c) ∙ ap is_true (truth_same ss (place_value (left ∷ rest)) c)

  joined_same : (rows : List RowView) (j : Option Join) → are_joined (place_value rows) (option_map (bound_join ss) j) ≡ is_joined ss rows j
  joined_same rows None = refl
  joined_same rows (Some j) = refl

  answer_same : (left : RowView) (rest : List RowView) → meets_by_names ss q left ≡ true → answer_at p.query p.late (place_value (left ∷ rest)) ≡ answer_of ss q (left ∷ rest)
  answer_same left rest met =
      ap (λ b. cond b (map (place_value (left ∷ rest)) (shown_places ss q.items) ∷ []) [])
      (ap (λ b. b && all_hold (place_value (left ∷ rest)) p.late) (joined_same (left ∷ rest) q.join)
      ∙ ap (λ b. is_joined ss (left ∷ rest) q.join && b) (late_same q.condition left rest met))

  answers_by : (j : Option Join) (rights others : RowView → List RowView) (left : RowView) → rights left ≡ others left → meets_by_names ss q left ≡ true
      → left_answers p.query p.late (option_map (bound_join ss) j) (rights left) left ≡ answers_of ss q j others left
  answers_by None rights others left same met = answer_same left [] met
  answers_by (Some j) rights others left same met =
      ap (λ rs. pair_answers p.query p.late rs left) same
      ∙ flat_same (λ right. answer_at p.query p.late (place_value (left ∷ right ∷ []))) (λ right. answer_of ss q (left ∷ right ∷ [])) (λ right. answer_same left (right ∷ []) met) (others left)

  -- the rows of left rows that meet the left condition
  pub rows_kept : (row_views : List RowView) (rights others : RowView → List RowView) → ((left : RowView) → rights left ≡ others left)
      → unlimited_rows p (filter (meets_by_names ss q) row_views) rights ≡ flat_map (answers_of ss q q.join others) (filter (meets_by_names ss q) row_views)
  rows_kept row_views rights others same =
      kept_same (meets_by_names ss q) (λ left. left_answers p.query p.late p.query.join (rights left) left) (answers_of ss q q.join others)
      (λ left met. answers_by q.join rights others left (same left) met) row_views

  unlimited_same : (tables : List Table)
      → unlimited_rows p (filter (meets_left p) (row_views_at tables ss 0)) (λ left. row_views_at tables ss 1)
      ≡ unlimited_by_names ss q (row_views_at tables ss 0) (λ left. row_views_at tables ss 1)
  unlimited_same tables =
      ap (λ ls. unlimited_rows p ls (λ left. row_views_at tables ss 1)) (same_filter (meets_left p) (meets_by_names ss q) (meets_same ss q) (row_views_at tables ss 0))
      ∙ rows_kept (row_views_at tables ss 0) (λ left. row_views_at tables ss 1) (λ left. row_views_at tables ss 1) (λ left. refl)
      ∙ flat_map_kept (answers_of ss q q.join (λ left. row_views_at tables ss 1)) (meets_by_names ss q) (row_views_at tables ss 0)
      (each_from (λ x. meets_by_names ss q x ≡ false → answers_of ss q q.join (λ left. row_views_at tables ss 1) x ≡ []) (row_views_at tables ss 0)
      (λ x i e. failing_gives_none ss q x e q.join (λ left. row_views_at tables ss 1)))
      ∙ sym (unlimited_rows_are ss q (row_views_at tables ss 0) (λ left. row_views_at tables ss 1))

  -- A plan keeps its query's result: run over the lines of plain tables, it gives the query's rows.
  pub plain_same : (tables : List Table)
      → plan_rows p (filter (meets_left p) (row_views_at tables ss 0)) (λ left. row_views_at tables ss 1) ≡ answer_rows ss q (row_views_at tables ss 0) (λ left. row_views_at tables ss 1)
  plain_same tables = ap (first_rows q.limit) (unlimited_same tables)
