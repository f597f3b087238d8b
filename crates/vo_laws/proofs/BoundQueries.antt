-- What binding shows of a query: its references mean columns, its join is on a key, and the two
-- sides of each comparison are of one kind. With one source its left condition is the whole one.
use Rattle.std.proofs.Common.{◌≡◌, Bool, true, false, cond, List, [], ◌∷◌, ◌++◌, Option, Some, None, map, refl, sym, ◌∙◌}
use Rattle.std.specs.Prelude.{◌&&◌, ◌||◌, ◌==◌, not, nat_lt, count_by, option_to_list}
use Rattle.std.specs.Option.{option_map_or}
use Rattle.std.specs.List.{list_all, AllByRecursion, position_or_len}
use Rattle.std.proofs.lemmas.Bool.{and_from}
use Rattle.vo_spec.specs.declared.queries.Ref.{Ref}
use Rattle.vo_spec.specs.declared.queries.QueryFault.{QueryFault}
use Rattle.vo_spec.specs.declared.queries.QueryFault.TheVariants.{NoTable, NoColumn, Ambiguous}
use Rattle.vo_spec.specs.declared.values.Value.{Value}
use Rattle.vo_spec.specs.Firsts.{first_of, first_some}
use Rattle.vo_spec.specs.Tables.{TableHeader}
use Rattle.vo_spec.specs.Conditions.{every, some, negated, test, none, more, Truth, is_true, both, truth, truth_of_all, of_tests_in, test_refs, condition_refs, comparisons, operand_value, test_truth, is_met, Condition, Conditions, Query}
use Rattle.vo_spec.specs.Results.{BoundSource, RowView, bound_sources, sources, place_of, means_column_of, qualifies, qualifier_of, missing_table, same_alias, ref_fault, join_fault, kind_fault, query_refs, item_refs, join_refs, binding_fault, ref_value}
use Rattle.vo_spec.specs.Needs.{is_left, left_truth, left_truths, meets_left}
use Rattle.vo_laws.proofs.ListLaws.{each_left, each_right}
use Rattle.vo_laws.proofs.ConditionLaws.{KindsAgree}

-- Of tests in a row none finds a fault.

none_left : {F : Type 0} (xs ys : List (Option F)) → first_some (xs ++ ys) ≡ None → first_some xs ≡ None
none_left [] ys e = refl
none_left (None ∷ xs) ys e = none_left xs ys e
none_left (Some f ∷ xs) ys e = absurd (cc)

none_right : {F : Type 0} (xs ys : List (Option F)) → first_some (xs ++ ys) ≡ None → first_some ys ≡ None
none_right [] ys e = e
none_right (None ∷ xs) ys e = none_right xs ys e
none_right (Some f ∷ xs) ys e = absurd (cc)

none_each : {A F : Type 0} (f : A → Option F) (xs : List A) → first_some (map f xs) ≡ None → AllByRecursion (λ x. f x ≡ None) xs
none_each f [] e = tt
none_each {A} {F} f (x ∷ xs) e = step (f x) refl e (none_each f xs)
  where
    step : (o : Option F) → f x ≡ o → first_some (o ∷ map f xs) ≡ None → (first_some (map f xs) ≡ None → AllByRecursion (λ y. f y ≡ None) xs)
        → (f x ≡ None) × AllByRecursion (λ y. f y ≡ None) xs
    step None g e later = (g, later e)
    step (Some y) g e later = absurd (cc)

module _ (hs : List TableHeader) (q : Query) (bound : binding_fault hs q ≡ None) where
  abbrev bound_to : List BoundSource
  bound_to = bound_sources hs q

  abbrev of_names : List (Option QueryFault)
  of_names = map (missing_table hs) (sources q) ++ (same_alias (sources q) ∷ [])

  abbrev of_refs : List (Option QueryFault)
  of_refs = map (ref_fault bound_to) (query_refs q)

  abbrev of_joins : List (Option QueryFault)
  of_joins = map (join_fault bound_to) (option_to_list q.join)

  abbrev of_kinds : List (Option QueryFault)
  of_kinds = map (kind_fault bound_to) (option_map_or comparisons q.condition [])

  before_kinds : first_some (of_names ++ of_refs ++ of_joins) ≡ None
  before_kinds = none_left (of_names ++ of_refs ++ of_joins) of_kinds bound

  pub refs_bound : AllByRecursion (λ r. ref_fault bound_to r ≡ None) (query_refs q)
  refs_bound = none_each (ref_fault bound_to) (query_refs q) (none_right of_names of_refs (none_left (of_names ++ of_refs) of_joins before_kinds))

  pub joins_bound : AllByRecursion (λ j. join_fault bound_to j ≡ None) (option_to_list q.join)
  joins_bound = none_each (join_fault bound_to) (option_to_list q.join) (none_right (of_names ++ of_refs) of_joins before_kinds)

  pub kinds_bound : AllByRecursion (KindsAgree bound_to) (option_map_or comparisons q.condition [])
  kinds_bound = none_each (kind_fault bound_to) (option_map_or comparisons q.condition []) (none_right (of_names ++ of_refs ++ of_joins) of_kinds bound)

-- With one source each reference that is bound means one of its columns.

abbrev pub IsOfFirst : List BoundSource → Ref → Type 0
IsOfFirst ss r = ((place_of ss r).bound_source == 0) ≡ true

ref_of_first : (s : BoundSource) (r : Ref) → ref_fault (s ∷ []) r ≡ None → IsOfFirst (s ∷ []) r
ref_of_first s r e = step (qualifies r s || false) (means_column_of r s) refl e
  where
    step : (a b : Bool) → means_column_of r s ≡ b
        → first_of ((not a, NoTable (qualifier_of r)) ∷ (not (b || false), NoColumn r) ∷ (nat_lt 1 (count_by (means_column_of r) (s ∷ [])), Ambiguous r) ∷ []) ≡ None
        → (position_or_len (means_column_of r) (s ∷ []) == 0) ≡ true
    step a true f e = rw f refl
    step true false f e = absurd (cc)
    step false false f e = absurd (cc)

pub refs_of_first : (s : BoundSource) (rs : List Ref) → AllByRecursion (λ r. ref_fault (s ∷ []) r ≡ None) rs → AllByRecursion (IsOfFirst (s ∷ [])) rs
refs_of_first s [] all = tt
refs_of_first s (r ∷ rs) all = (ref_of_first s r all.0, refs_of_first s rs all.1)

-- The left condition is then the whole one.

all_left : (ss : List BoundSource) (rs : List Ref) → AllByRecursion (IsOfFirst ss) rs → list_all (λ r. (place_of ss r).bound_source == 0) rs ≡ true
all_left ss [] all = refl
all_left ss (r ∷ rs) all = and_from ((place_of ss r).bound_source == 0) (list_all (λ x. (place_of ss x).bound_source == 0) rs) all.0 (all_left ss rs all.1)

chosen : (b x : Bool) → b ≡ true → cond b x true ≡ x
chosen true x e = refl
chosen false x e = absurd (cc)

both_true : (a b : Truth) → is_true (both a b) ≡ (is_true a && is_true b)
both_true (Some true) b = refl
both_true (Some false) b = refl
both_true None (Some true) = refl
both_true None (Some false) = refl
both_true None None = refl

mutual
  left_is : (ss : List BoundSource) (row : Ref → Value) (c : Condition) → AllByRecursion (IsOfFirst ss) (condition_refs c) → left_truth ss row c ≡ is_true (truth row c)
  left_is ss row (every cs) all = lefts_are ss row cs all
  left_is ss row (some cs) all = chosen (is_left ss (some cs)) (is_true (truth row (some cs))) (all_left ss (condition_refs (some cs)) all)
  left_is ss row (negated c) all = chosen (is_left ss (negated c)) (is_true (truth row (negated c))) (all_left ss (condition_refs (negated c)) all)
  left_is ss row (test t) all = chosen (is_left ss (test t)) (is_true (truth row (test t))) (all_left ss (condition_refs (test t)) all)

  lefts_are : (ss : List BoundSource) (row : Ref → Value) (cs : Conditions) → AllByRecursion (IsOfFirst ss) (of_tests_in test_refs cs)
      → left_truths ss row cs ≡ is_true (truth_of_all (test_truth row (operand_value row)) cs)
  lefts_are ss row none all = refl
  lefts_are ss row (more c cs) all =
      rw (
        left_is ss row c (each_left (IsOfFirst ss) (condition_refs c) (of_tests_in test_refs cs) all),
        lefts_are ss row cs (each_right (IsOfFirst ss) (condition_refs c) (of_tests_in test_refs cs) all),
      ) (sym (both_true (truth row c) (truth_of_all (test_truth row (operand_value row)) cs)))

pub met_whole : (ss : List BoundSource) (q : Query) → AllByRecursion (IsOfFirst ss) (query_refs q) → (left : RowView)
    → meets_left ss q left ≡ true → is_met (ref_value ss (left ∷ [])) q.condition ≡ true
met_whole ss q all left e =
    step q.condition (each_right (IsOfFirst ss) (item_refs q.items ++ option_map_or join_refs q.join []) (option_map_or condition_refs q.condition []) all) e
  where
    step : (c : Option Condition) → AllByRecursion (IsOfFirst ss) (option_map_or condition_refs c [])
        → option_map_or (left_truth ss (ref_value ss (left ∷ []))) c true ≡ true → is_met (ref_value ss (left ∷ [])) c ≡ true
    step None all e = refl
    step (Some c) all e = sym (left_is ss (ref_value ss (left ∷ [])) c all) ∙ e
