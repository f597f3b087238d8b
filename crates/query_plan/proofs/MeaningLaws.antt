-- What a query says by its columns' numbers is what it says by names.
use Rattle.std.proofs.Common.{◌≡◌, ℕ, Bool, true, false, cond, List, [], ◌∷◌, ◌++◌, Option, Some, None, length, map, refl, sym, ap, ◌∙◌}
use Rattle.std.specs.Prelude.{not, ◌&&◌, ◌||◌, ◌==◌, filter, option_map}
use Rattle.std.specs.Option.{option_map_or}
use Rattle.std.specs.List.{list_any, list_all}
use Rattle.std.proofs.lemmas.List.{map-append}
use Rattle.vo_spec.specs.declared.values.Value.{Value}
use Rattle.vo_spec.specs.declared.needs.Need.{Need}
use Rattle.vo_spec.specs.declared.needs.SeenRow.{SeenRow}
use Rattle.vo_spec.specs.declared.keys.Interval.{Interval}
use Rattle.vo_spec.specs.declared.queries.Ref.{Ref}
use Rattle.vo_spec.specs.declared.queries.Cmp.TheVariants as cmp
use Rattle.vo_spec.specs.declared.queries.Operand.{Operand}
use Rattle.vo_spec.specs.declared.queries.Operand.TheVariants.{Ref as Column, Literal}
use Rattle.vo_spec.specs.declared.queries.Items.{Items}
use Rattle.vo_spec.specs.declared.queries.Items.TheVariants.{All, Refs}
use Rattle.vo_spec.specs.declared.queries.Join.{Join}
use Rattle.vo_spec.specs.Values.{is_null, key_of}
use Rattle.vo_spec.specs.Tables.{cell_number}
use Rattle.vo_spec.specs.Conditions.{Truth, is_true, both, every, some, negated, test, none, more, with_tests_in, truth_of_all, comparison, null_test, comparison_truth, NameTest, Condition, Conditions, operand_refs, test_refs, condition_refs, operand_value, test_truth, truth, Query, is_met}
use Rattle.vo_spec.specs.Results.{BoundSource, ColumnPlace, schema_at, place_of, join_places, item_refs, join_refs, numbers_from, shown_places, RowView, place_value, ref_value}
use Rattle.vo_spec.specs.Trees.{RowTree}
use Rattle.vo_spec.specs.Cuts.{limited_need}
use Rattle.vo_spec.specs.Needs.{all_keys, keys_that, join_value, has_join_value as has_value_by_names, test_interval, interval_of, is_left, left_truth, left_truths, is_place, shows_all, is_named_column, named_cells, uncut_need, meets_row, left_limit, left_need, right_need, seen_row_view, meets_left as meets_by_names}
use Rattle.query_plan.specs.BoundConditions.{BoundCondition, BoundConditions, term_value, bound_test_truth, bound_truth, holds, all_hold, term_places, test_places, condition_places, bound_test_interval, bound_interval, is_left_place, is_on_left, one_where, conjuncts_where, all_where}
use Rattle.query_plan.specs.BoundQueries.{bound_term, bound_test, bound_condition, bound_join, bound_query, join_columns}
use Rattle.query_plan.specs.NamedCells.{is_at, names, is_named_cell, bound_cells}
use Rattle.query_plan.specs.Plans.{plan_of, plan_need, left_column, has_join_value, right_need_of, meets_left, plan_meets}
use Rattle.query_plan.proofs.FormulaLaws.{truth_with, tests_with, interval_with}

-- Tests of mapped items, and tests that agree.

all_mapped : {A B : Type 0} (p : B → Bool) (f : A → B) (xs : List A) → list_all p (map f xs) ≡ list_all (λ x. p (f x)) xs
all_mapped p f [] = refl
all_mapped p f (x ∷ xs) = ap (λ b. p (f x) && b) (all_mapped p f xs)

any_mapped : {A B : Type 0} (p : B → Bool) (f : A → B) (xs : List A) → list_any p (map f xs) ≡ list_any (λ x. p (f x)) xs
any_mapped p f [] = refl
any_mapped p f (x ∷ xs) = ap (λ b. p (f x) || b) (any_mapped p f xs)

pub same_filter : {A : Type 0} (p q : A → Bool) → ((x : A) → p x ≡ q x) → (xs : List A) → filter p xs ≡ filter q xs
same_filter p q e [] = refl
same_filter p q e (x ∷ xs) = ap (λ b. cond b (x ∷ filter p xs) (filter p xs)) (e x) ∙ ap (λ ys. cond (q x) (x ∷ ys) ys) (same_filter p q e xs)

-- The columns that a condition speaks of are those that its references mean.

module _ (ss : List BoundSource) where
  term_columns : (o : Operand) → term_places (bound_term ss o) ≡ map (place_of ss) (operand_refs o)
  term_columns (Column r) = refl
  term_columns (Literal v) = refl

  test_columns : (t : NameTest) → test_places (bound_test ss t) ≡ map (place_of ss) (test_refs t)
  test_columns (comparison left op right) = ap (λ ps. place_of ss left ∷ ps) (term_columns right)
  test_columns (null_test left is_not) = refl

  pub condition_columns : (c : Condition) → condition_places (bound_condition ss c) ≡ map (place_of ss) (condition_refs c)
  condition_columns c = tests_with (bound_test ss) test_places test_refs (place_of ss) test_columns c

  left_columns : (c : Condition) → is_on_left (bound_condition ss c) ≡ is_left ss c
  left_columns c = ap (list_all is_left_place) (condition_columns c) ∙ all_mapped is_left_place (place_of ss) (condition_refs c)

-- Truth.

module _ (ss : List BoundSource) (row : ColumnPlace → Value) where
  abbrev by_name : Ref → Value
  by_name r = row (place_of ss r)

  term_valued : (o : Operand) → term_value row (bound_term ss o) ≡ operand_value by_name o
  term_valued (Column r) = refl
  term_valued (Literal v) = refl

  test_same : (t : NameTest) → bound_test_truth row (bound_test ss t) ≡ test_truth by_name (operand_value by_name) t
  test_same (comparison left op right) = ap (comparison_truth op (row (place_of ss left))) (term_valued right)
  test_same (null_test left is_not) = refl

  pub truth_same : (c : Condition) → bound_truth row (bound_condition ss c) ≡ truth by_name c
  truth_same c = truth_with (bound_test ss) (bound_test_truth row) (test_truth by_name (operand_value by_name)) test_same c

  pub met_same : (o : Option Condition) → option_map_or (holds row) (option_map (bound_condition ss) o) true ≡ is_met by_name o
  met_same None = refl
  met_same (Some c) = ap is_true (truth_same c)

-- The left interval.

module _ (ss : List BoundSource) where
  abbrev key : ℕ
  key = (schema_at ss 0).key

  test_interval_same : (t : NameTest) → bound_test_interval key (bound_test ss t) ≡ test_interval ss t
  test_interval_same (comparison left op (Column r)) = refl
  test_interval_same (comparison left op (Literal v)) = refl
  test_interval_same (null_test left is_not) = refl

  interval_same : (c : Condition) → bound_interval key (bound_condition ss c) ≡ interval_of ss c
  interval_same c = interval_with (bound_test ss) (bound_test_interval key) (test_interval ss) test_interval_same c

  left_interval : (o : Option Condition) → option_map_or (bound_interval key) (option_map (bound_condition ss) o) all_keys ≡ option_map_or (interval_of ss) o all_keys
  left_interval None = refl
  left_interval (Some c) = interval_same c

-- The left condition, and both.

hold_append : (row : ColumnPlace → Value) (xs ys : List BoundCondition) → all_hold row (xs ++ ys) ≡ (all_hold row xs && all_hold row ys)
hold_append row [] ys = refl
hold_append row (x ∷ xs) ys = ap (λ b. holds row x && b) (hold_append row xs ys) ∙ and_assoc (holds row x) (all_hold row xs) (all_hold row ys)
  where
    and_assoc : (a b c : Bool) → (a && (b && c)) ≡ ((a && b) && c)
    and_assoc true b c = refl
    and_assoc false b c = refl

and_true : (b : Bool) → (b && true) ≡ b
and_true true = refl
and_true false = refl

-- both are true where each of them is
true_of_both : (a b : Truth) → is_true (both a b) ≡ (is_true a && is_true b)
true_of_both (Some true) b = refl
true_of_both (Some false) b = refl
true_of_both None (Some true) = refl
true_of_both None (Some false) = refl
true_of_both None None = refl

module _ (row : ColumnPlace → Value) where
  one_left : (c : BoundCondition) → all_hold row (one_where true c) ≡ cond (is_on_left c) (holds row c) true
  one_left c = step (is_on_left c)
    where
      step : (b : Bool) → all_hold row (cond b (c ∷ []) []) ≡ cond b (holds row c) true
      step true = and_true (holds row c)
      step false = refl

  one_of_both : (c : BoundCondition) → (all_hold row (one_where true c) && all_hold row (one_where false c)) ≡ holds row c
  one_of_both c = step (is_on_left c)
    where
      step : (b : Bool) → (all_hold row (cond b (c ∷ []) []) && all_hold row (cond (not b) (c ∷ []) [])) ≡ holds row c
      step true = and_true (holds row c && true) ∙ and_true (holds row c)
      step false = and_true (holds row c)

  regroup : (a b c d : Bool) → ((a && b) && (c && d)) ≡ ((a && c) && (b && d))
  regroup false b c d = refl
  regroup true true c d = refl
  regroup true false true d = refl
  regroup true false false d = refl

  -- the conjuncts together are the condition
  mutual
    pub conjuncts_hold : (c : BoundCondition) → (all_hold row (conjuncts_where true c) && all_hold row (conjuncts_where false c)) ≡ holds row c
    conjuncts_hold (every cs) = parts_hold cs
    conjuncts_hold (some cs) = one_of_both (some cs)
    conjuncts_hold (negated c) = one_of_both (negated c)
    conjuncts_hold (test t) = one_of_both (test t)

    parts_hold : (cs : BoundConditions) → (all_hold row (all_where true cs) && all_hold row (all_where false cs)) ≡ is_true (truth_of_all (bound_test_truth row) cs)
    parts_hold none = refl
    parts_hold (more c cs) =
        ap (λ b. b && all_hold row (all_where false (more c cs))) (hold_append row (conjuncts_where true c) (all_where true cs))
        ∙ ap (λ b. (all_hold row (conjuncts_where true c) && all_hold row (all_where true cs)) && b) (hold_append row (conjuncts_where false c) (all_where false cs))
        ∙ regroup (all_hold row (conjuncts_where true c)) (all_hold row (all_where true cs)) (all_hold row (conjuncts_where false c)) (all_hold row (all_where false cs))
        ∙ ap (λ b. b && (all_hold row (all_where true cs) && all_hold row (all_where false cs))) (conjuncts_hold c)
        ∙ ap (λ b. holds row c && b) (parts_hold cs)
        ∙ sym (true_of_both (bound_truth row c) (truth_of_all (bound_test_truth row) cs))

module _ (ss : List BoundSource) (row : ColumnPlace → Value) where
  abbrev named : Ref → Value
  named r = row (place_of ss r)

  one_same : (c : Condition) → all_hold row (one_where true (bound_condition ss c)) ≡ cond (is_left ss c) (is_true (truth named c)) true
  one_same c =
      one_left row (bound_condition ss c)
      ∙ ap (λ b. cond b (holds row (bound_condition ss c)) true) (left_columns ss c)
      ∙ ap (λ t. cond (is_left ss c) (is_true t) true) (truth_same ss row c)

  mutual
    pub left_same : (c : Condition) → all_hold row (conjuncts_where true (bound_condition ss c)) ≡ left_truth ss named c
    left_same (every cs) = lefts_same cs
    left_same (some cs) = one_same (some cs)
    left_same (negated c) = one_same (negated c)
    left_same (test t) = one_same (test t)

    lefts_same : (cs : Conditions) → all_hold row (all_where true (with_tests_in (bound_test ss) cs)) ≡ left_truths ss named cs
    lefts_same none = refl
    lefts_same (more c cs) =
        hold_append row (conjuncts_where true (bound_condition ss c)) (all_where true (with_tests_in (bound_test ss) cs))
        ∙ ap (λ b. b && all_hold row (all_where true (with_tests_in (bound_test ss) cs))) (left_same c)
        ∙ ap (λ b. left_truth ss named c && b) (lefts_same cs)

-- ON's column of the left source, and whether a left row has a value there.

choice : (b : Bool) (x y : ColumnPlace) → cond b y x ≡ (let p : ColumnPlace × ColumnPlace = cond b (y, x) (x, y) in p.0)
choice true x y = refl
choice false x y = refl

module _ (ss : List BoundSource) where
  column_same : (j : Join) → left_column (bound_join ss j) ≡ (join_places ss j).0
  column_same j = choice ((place_of ss j.left_ref).bound_source == 1) (place_of ss j.left_ref) (place_of ss j.right_ref)

  pub value_same : (j : Join) (left : RowView) → has_join_value (bound_join ss j) left ≡ has_value_by_names ss j left
  value_same j left = ap (λ (p : ColumnPlace). not (is_null (place_value (left ∷ []) p))) (column_same j)

-- The cells that a query names.

module _ (ss : List BoundSource) (q : Query) where
  join_places_same : (j : Option Join) → option_map_or join_columns (option_map (bound_join ss) j) [] ≡ map (place_of ss) (option_map_or join_refs j [])
  join_places_same None = refl
  join_places_same (Some j) = refl

  where_places_same : (o : Option Condition) → option_map_or condition_places (option_map (bound_condition ss) o) [] ≡ map (place_of ss) (option_map_or condition_refs o [])
  where_places_same None = refl
  where_places_same (Some c) = condition_columns ss c

  abbrev on_refs : List Ref
  on_refs = option_map_or join_refs q.join []

  abbrev where_refs : List Ref
  where_refs = option_map_or condition_refs q.condition []

  -- by the items, of which references mean what is shown
  places_by : (rs : List Ref) → (map (place_of ss) rs ++ option_map_or join_columns (option_map (bound_join ss) q.join) []) ++ option_map_or condition_places (option_map (bound_condition ss) q.condition) []
      ≡ map (place_of ss) ((rs ++ on_refs) ++ where_refs)
  places_by rs =
      ap (λ ps. (map (place_of ss) rs ++ ps) ++ option_map_or condition_places (option_map (bound_condition ss) q.condition) []) (join_places_same q.join)
      ∙ ap (λ ps. (map (place_of ss) rs ++ map (place_of ss) on_refs) ++ ps) (where_places_same q.condition)
      ∙ ap (λ ps. ps ++ map (place_of ss) where_refs) (sym (map-append (place_of ss) rs on_refs))
      ∙ sym (map-append (place_of ss) (rs ++ on_refs) where_refs)

  names_by : (items : Items) (at : ColumnPlace)
      → (shows_all items || list_any (is_at at) ((shown_places ss items ++ option_map_or join_columns (option_map (bound_join ss) q.join) []) ++ option_map_or condition_places (option_map (bound_condition ss) q.condition) []))
      ≡ (shows_all items || list_any (λ r. is_place (place_of ss r) at) ((item_refs items ++ on_refs) ++ where_refs))
  names_by All at = refl
  names_by (Refs rs) at = ap (list_any (is_at at)) (places_by rs) ∙ any_mapped (is_at at) (place_of ss) ((rs ++ on_refs) ++ where_refs)

  names_same : (bound_source column : ℕ) → names (bound_query ss q) (record { bound_source = bound_source; column = column }) ≡ is_named_column ss q bound_source column
  names_same bound_source column = names_by q.items (record { bound_source = bound_source; column = column })

  pub cells_same : (bound_source : ℕ) → bound_cells (bound_query ss q) bound_source ≡ named_cells ss q bound_source
  cells_same bound_source =
      ap (map (cell_number (schema_at ss bound_source).key))
      (same_filter (is_named_cell (bound_query ss q) bound_source (schema_at ss bound_source).key) (λ column. not (column == (schema_at ss bound_source).key) && is_named_column ss q bound_source column)
      (λ column. ap (λ b. not (column == (schema_at ss bound_source).key) && b) (names_same bound_source column))
      (numbers_from 0 (length (schema_at ss bound_source).columns)))

  -- The parts of a plan.

  pub uncut_need_same : (plan_of (bound_query ss q)).uncut_need ≡ uncut_need ss q
  uncut_need_same =
      ap (λ (i : Interval). let n : Need = record { interval = i; columns = bound_cells (bound_query ss q) 0 } in n) (left_interval ss q.condition)
      ∙ ap (λ (cs : List ℕ). let n : Need = record { interval = option_map_or (interval_of ss) q.condition all_keys; columns = cs } in n) (cells_same 0)

  pub right_need_same : (j : Join) (left : RowView) → right_need_of (plan_of (bound_query ss q)) (bound_join ss j) left ≡ right_need ss q j left
  right_need_same j left =
      ap (λ (p : ColumnPlace). let n : Need = record { interval = keys_that cmp.Eq (key_of (place_value (left ∷ []) p)); columns = bound_cells (bound_query ss q) 1 } in n) (column_same ss j)
      ∙ ap (λ (cs : List ℕ). let n : Need = record { interval = keys_that cmp.Eq (key_of (join_value ss j left)); columns = cs } in n) (cells_same 1)

  meets_by : (o : Option Condition) (left : RowView) → all_hold (place_value (left ∷ [])) (option_map_or (conjuncts_where true) (option_map (bound_condition ss) o) [])
      ≡ option_map_or (left_truth ss (ref_value ss (left ∷ []))) o true
  meets_by None left = refl
  meets_by (Some c) left = left_same ss (place_value (left ∷ [])) c

  pub meets_same : (left : RowView) → meets_left (plan_of (bound_query ss q)) left ≡ meets_by_names ss q left
  meets_same left = meets_by q.condition left

  -- The cut is at the same row of a left tree.

  pub counts_same : (row : SeenRow) → plan_meets (plan_of (bound_query ss q)) row ≡ meets_row ss q row
  counts_same row =
      meets_same (seen_row_view (schema_at ss 0) (plan_of (bound_query ss q)).uncut_need.columns row)
      ∙ ap (λ (need : Need). meets_by_names ss q (seen_row_view (schema_at ss 0) need.columns row)) uncut_need_same

  conditions_same : plan_meets (plan_of (bound_query ss q)) ≡ meets_row ss q
  conditions_same = λ i row. counts_same row i

  limit_same : (j : Option Join) → left_limit (option_map (bound_join ss) j) q.limit ≡ left_limit j q.limit
  limit_same None = refl
  limit_same (Some j) = refl

  pub left_need_same : (left : RowTree) → plan_need (plan_of (bound_query ss q)) left ≡ left_need ss q left
  left_need_same left =
      ap (λ limit. limited_need (plan_of (bound_query ss q)).uncut_need (plan_meets (plan_of (bound_query ss q))) limit left) (limit_same q.join)
      ∙ ap (λ need. limited_need need (plan_meets (plan_of (bound_query ss q))) (left_limit q.join q.limit) left) uncut_need_same
      ∙ ap (λ meets. limited_need (uncut_need ss q) meets (left_limit q.join q.limit) left) conditions_same
