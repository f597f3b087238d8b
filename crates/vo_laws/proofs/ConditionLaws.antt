-- Conditions: a condition's truth goes by what its references give; a row that meets one meets its
-- left part, and has its key in the interval.
use Rattle.std.proofs.Common.{◌≡◌, ℕ, Bool, true, false, cond, List, [], ◌∷◌, Some, None, Ordering, refl, sym, ap, ◌∙◌}
use Rattle.std.specs.Prelude.{◌==◌, ◌||◌, not}
use Rattle.std.specs.List.{list_all, AllByRecursion}
use Rattle.std.specs.declared.cmp.Ordering.TheVariants.{Less, Equal, Greater}
use Rattle.std.specs.Ordering.{is_lt, is_gt, is_eq, is_le, is_ge}
use Rattle.std.proofs.lemmas.Bool.{and_parts, and_from}
use Rattle.vo_spec.specs.declared.values.Kind.{Kind}
use Rattle.vo_spec.specs.declared.values.Kind.TheVariants as kind
use Rattle.vo_spec.specs.declared.values.Value.{Value}
use Rattle.vo_spec.specs.declared.queries.Ref.{Ref}
use Rattle.vo_spec.specs.declared.queries.Cmp.{Cmp}
use Rattle.vo_spec.specs.declared.queries.Cmp.TheVariants as cmp
use Rattle.vo_spec.specs.declared.queries.Operand.{Operand}
use Rattle.vo_spec.specs.declared.queries.Operand.TheVariants.{Ref as Column, Literal}
use Rattle.vo_spec.specs.declared.queries.QueryFault.TheVariants.{TypeMismatch}
use Rattle.vo_spec.specs.declared.keys.Bound.{Bound}
use Rattle.vo_spec.specs.declared.keys.Bound.TheVariants.{Absent, Inclusive, Exclusive}
use Rattle.vo_spec.specs.declared.keys.Interval.{Interval}
use Rattle.vo_spec.specs.Values.{is_null, is_of_kind, same_kind, key_of, key_cmp, key_lt, value_cmp, value_of_key, IsKeyOf}
use Rattle.vo_spec.specs.Conditions.{Formula, Formulas, every, some, negated, test, none, more, Truth, is_true, both, opposite, truth_by, truth_of_all, truth_of_any, of_tests, of_tests_in, comparison, null_test, NameTest, Condition, Conditions, operand_refs, test_refs, condition_refs, sides, comparisons, compares, operand_value, comparison_truth, test_truth, truth, FitsOperand}
use Rattle.vo_spec.specs.Results.{BoundSource, schema_at, place_of, ref_kind, kind_fault}
use Rattle.vo_spec.specs.Scans.{is_above, is_below, in_interval}
use Rattle.vo_spec.specs.Needs.{all_keys, keys_that, keys_that_compare, higher, lower, intersection, interval_by, interval_by_all, is_left_key, test_interval, interval_of, is_left, left_truth, left_truths}
use Rattle.vo_spec.specs.Checks.{key_kind}
use Rattle.vo_laws.proofs.KeyOrder.{flipped}
use Rattle.vo_laws.proofs.ListLaws.{each_left, each_right}
use Rattle.vo_laws.proofs.ValueOrder.{keys_in_order}

-- Two truths of tests that agree wherever P holds of what a test has agree on formulas likewise.

module _ {T A : Type 0} (one other : T → Truth) (has : T → List A) (P : A → Type 0) (agree : (t : T) → AllByRecursion P (has t) → one t ≡ other t) where
  mutual
    formulas_agree : (f : Formula T) → AllByRecursion P (of_tests has f) → truth_by one f ≡ truth_by other f
    formulas_agree (every fs) all = all_agree fs all
    formulas_agree (some fs) all = any_agree fs all
    formulas_agree (negated f) all = ap opposite (formulas_agree f all)
    formulas_agree (test t) all = agree t all

    all_agree : (fs : Formulas T) → AllByRecursion P (of_tests_in has fs) → truth_of_all one fs ≡ truth_of_all other fs
    all_agree none all = refl
    all_agree (more f fs) all =
        rw (
          formulas_agree f (each_left P (of_tests has f) (of_tests_in has fs) all),
          all_agree fs (each_right P (of_tests has f) (of_tests_in has fs) all),
        ) refl

    any_agree : (fs : Formulas T) → AllByRecursion P (of_tests_in has fs) → truth_of_any one fs ≡ truth_of_any other fs
    any_agree none all = refl
    any_agree (more f fs) all =
        rw (
          formulas_agree f (each_left P (of_tests has f) (of_tests_in has fs) all),
          any_agree fs (each_right P (of_tests has f) (of_tests_in has fs) all),
        ) refl

-- Rows that give the same for each reference of a condition agree on it.

abbrev pub Same : (Ref → Value) → (Ref → Value) → Ref → Type 0
Same row other r = row r ≡ other r

same_operand : (row other : Ref → Value) (o : Operand) → AllByRecursion (Same row other) (operand_refs o) → operand_value row o ≡ operand_value other o
same_operand row other (Column r) all = all.0
same_operand row other (Literal v) all = refl

same_test : (row other : Ref → Value) (t : NameTest) → AllByRecursion (Same row other) (test_refs t)
    → test_truth row (operand_value row) t ≡ test_truth other (operand_value other) t
same_test row other (comparison left op right) all = rw (all.0, same_operand row other right all.1) refl
same_test row other (null_test left is_not) all = rw all.0 refl

pub same_truth : (row other : Ref → Value) (c : Condition) → AllByRecursion (Same row other) (condition_refs c) → truth row c ≡ truth other c
same_truth row other =
    formulas_agree (test_truth row (operand_value row)) (test_truth other (operand_value other)) test_refs (Same row other) (same_test row other)

-- The left condition goes by the references that mean left columns.

abbrev pub SameLeft : List BoundSource → (Ref → Value) → (Ref → Value) → Ref → Type 0
SameLeft ss row other r = ((place_of ss r).bound_source == 0) ≡ true → row r ≡ other r

left_refs : (ss : List BoundSource) (row other : Ref → Value) (rs : List Ref) → list_all (λ r. (place_of ss r).bound_source == 0) rs ≡ true
    → AllByRecursion (SameLeft ss row other) rs → AllByRecursion (Same row other) rs
left_refs ss row other [] e all = tt
left_refs ss row other (r ∷ rs) e all =
    let p = and_parts ((place_of ss r).bound_source == 0) (list_all (λ x. (place_of ss x).bound_source == 0) rs) e in
    (all.0 p.0, left_refs ss row other rs p.1 all.1)

-- where the condition is on left columns alone, both rows agree on it
left_same : (ss : List BoundSource) (row other : Ref → Value) (c : Condition) → AllByRecursion (SameLeft ss row other) (condition_refs c)
    → is_left ss c ≡ true → truth row c ≡ truth other c
left_same ss row other c all e = same_truth row other c (left_refs ss row other (condition_refs c) e all)

same_choice : (b : Bool) (x y : Truth) → (b ≡ true → x ≡ y) → cond b (is_true x) true ≡ cond b (is_true y) true
same_choice true x y f = ap is_true (f refl)
same_choice false x y f = refl

mutual
  pub same_left : (ss : List BoundSource) (row other : Ref → Value) (c : Condition) → AllByRecursion (SameLeft ss row other) (condition_refs c)
      → left_truth ss row c ≡ left_truth ss other c
  same_left ss row other (every cs) all = same_lefts ss row other cs all
  same_left ss row other (some cs) all =
      same_choice (is_left ss (some cs)) (truth row (some cs)) (truth other (some cs)) (left_same ss row other (some cs) all)
  same_left ss row other (negated c) all =
      same_choice (is_left ss (negated c)) (truth row (negated c)) (truth other (negated c)) (left_same ss row other (negated c) all)
  same_left ss row other (test t) all =
      same_choice (is_left ss (test t)) (truth row (test t)) (truth other (test t)) (left_same ss row other (test t) all)

  same_lefts : (ss : List BoundSource) (row other : Ref → Value) (cs : Conditions) → AllByRecursion (SameLeft ss row other) (of_tests_in test_refs cs)
      → left_truths ss row cs ≡ left_truths ss other cs
  same_lefts ss row other none all = refl
  same_lefts ss row other (more c cs) all =
      rw (
        same_left ss row other c (each_left (SameLeft ss row other) (condition_refs c) (of_tests_in test_refs cs) all),
        same_lefts ss row other cs (each_right (SameLeft ss row other) (condition_refs c) (of_tests_in test_refs cs) all),
      ) refl

-- A row that meets a condition meets its left part.

-- where both hold, each does
pub both_parts : (a b : Truth) → is_true (both a b) ≡ true → (is_true a ≡ true) × (is_true b ≡ true)
both_parts (Some true) b e = (refl, e)
both_parts (Some false) b e = absurd (cc)
both_parts None (Some true) e = absurd (cc)
both_parts None (Some false) e = absurd (cc)
both_parts None None e = absurd (cc)

choice_true : (b x : Bool) → (b ≡ true → x ≡ true) → cond b x true ≡ true
choice_true true x f = f refl
choice_true false x f = refl

mutual
  pub left_met : (ss : List BoundSource) (row left : Ref → Value) (c : Condition) → AllByRecursion (SameLeft ss row left) (condition_refs c)
      → is_true (truth row c) ≡ true → left_truth ss left c ≡ true
  left_met ss row left (every cs) all e = lefts_met ss row left cs all e
  left_met ss row left (some cs) all e =
      choice_true (is_left ss (some cs)) (is_true (truth left (some cs))) (λ l. ap is_true (sym (left_same ss row left (some cs) all l)) ∙ e)
  left_met ss row left (negated c) all e =
      choice_true (is_left ss (negated c)) (is_true (truth left (negated c))) (λ l. ap is_true (sym (left_same ss row left (negated c) all l)) ∙ e)
  left_met ss row left (test t) all e =
      choice_true (is_left ss (test t)) (is_true (truth left (test t))) (λ l. ap is_true (sym (left_same ss row left (test t) all l)) ∙ e)

  lefts_met : (ss : List BoundSource) (row left : Ref → Value) (cs : Conditions) → AllByRecursion (SameLeft ss row left) (of_tests_in test_refs cs)
      → is_true (truth_of_all (test_truth row (operand_value row)) cs) ≡ true → left_truths ss left cs ≡ true
  lefts_met ss row left none all e = refl
  lefts_met ss row left (more c cs) all e =
      let p = both_parts (truth row c) (truth_of_all (test_truth row (operand_value row)) cs) e in
      and_from (left_truth ss left c) (left_truths ss left cs)
      (left_met ss row left c (each_left (SameLeft ss row left) (condition_refs c) (of_tests_in test_refs cs) all) p.0)
      (lefts_met ss row left cs (each_right (SameLeft ss row left) (condition_refs c) (of_tests_in test_refs cs) all) p.1)

-- What two intervals have, the interval that they share has.

pick_above : (b : Bool) (x y : Bound) (key : List ℕ) → is_above x key ≡ true → is_above y key ≡ true → is_above (cond b x y) key ≡ true
pick_above true x y key e f = e
pick_above false x y key e f = f

pick_below : (b : Bool) (x y : Bound) (key : List ℕ) → is_below x key ≡ true → is_below y key ≡ true → is_below (cond b x y) key ≡ true
pick_below true x y key e f = e
pick_below false x y key e f = f

higher_above : (a b : Bound) (key : List ℕ) → is_above a key ≡ true → is_above b key ≡ true → is_above (higher a b) key ≡ true
higher_above Absent b key e f = f
higher_above (Inclusive a) Absent key e f = e
higher_above (Exclusive a) Absent key e f = e
higher_above (Inclusive a) (Inclusive b) key e f = pick_above (key_lt a b) (Inclusive b) (Inclusive a) key f e
higher_above (Inclusive a) (Exclusive b) key e f = pick_above (key_lt b a) (Inclusive a) (Exclusive b) key e f
higher_above (Exclusive a) (Inclusive b) key e f = pick_above (key_lt a b) (Inclusive b) (Exclusive a) key f e
higher_above (Exclusive a) (Exclusive b) key e f = pick_above (key_lt a b) (Exclusive b) (Exclusive a) key f e

lower_below : (a b : Bound) (key : List ℕ) → is_below a key ≡ true → is_below b key ≡ true → is_below (lower a b) key ≡ true
lower_below Absent b key e f = f
lower_below (Inclusive a) Absent key e f = e
lower_below (Exclusive a) Absent key e f = e
lower_below (Inclusive a) (Inclusive b) key e f = pick_below (key_lt b a) (Inclusive b) (Inclusive a) key f e
lower_below (Inclusive a) (Exclusive b) key e f = pick_below (key_lt a b) (Inclusive a) (Exclusive b) key e f
lower_below (Exclusive a) (Inclusive b) key e f = pick_below (key_lt b a) (Inclusive b) (Exclusive a) key f e
lower_below (Exclusive a) (Exclusive b) key e f = pick_below (key_lt b a) (Exclusive b) (Exclusive a) key f e

in_intersection : (a b : Interval) (key : List ℕ) → in_interval a key ≡ true → in_interval b key ≡ true → in_interval (intersection a b) key ≡ true
in_intersection a b key e f =
    let p = and_parts (is_above a.low key) (is_below a.high key) e in
    let q = and_parts (is_above b.low key) (is_below b.high key) f in
    and_from (is_above (higher a.low b.low) key) (is_below (lower a.high b.high) key) (higher_above a.low b.low key p.0 q.0) (lower_below a.high b.high key p.1 q.1)

-- A key that compares so with a bound is in the interval of such keys.

not_less : (o : Ordering) → is_eq o ≡ true → not (is_lt o) ≡ true
not_less Less e = absurd (cc)
not_less Equal e = refl
not_less Greater e = absurd (cc)

not_greater : (o : Ordering) → is_eq o ≡ true → not (is_gt o) ≡ true
not_greater Less e = absurd (cc)
not_greater Equal e = refl
not_greater Greater e = absurd (cc)

up_to : (o : Ordering) → is_le o ≡ true → not (is_gt o) ≡ true
up_to Less e = refl
up_to Equal e = refl
up_to Greater e = absurd (cc)

from_on : (o : Ordering) → is_ge o ≡ true → not (is_lt o) ≡ true
from_on Less e = absurd (cc)
from_on Equal e = refl
from_on Greater e = refl

pub key_among : (op : Cmp) (key bound : List ℕ) → compares op (key_cmp key bound) ≡ true → in_interval (keys_that op bound) key ≡ true
key_among cmp.Eq key bound e =
    and_from (not (key_lt key bound)) (not (key_lt bound key)) (not_less (key_cmp key bound) e) (ap not (flipped key bound) ∙ not_greater (key_cmp key bound) e)
key_among cmp.Ne key bound e = refl
key_among cmp.Lt key bound e = e
key_among cmp.Le key bound e = ap not (flipped key bound) ∙ up_to (key_cmp key bound) e
key_among cmp.Gt key bound e = and_from (key_lt bound key) true (flipped key bound ∙ e) refl
key_among cmp.Ge key bound e = and_from (not (key_lt key bound)) true (from_on (key_cmp key bound) e) refl

-- A row that meets a condition has its key in the condition's interval.

pub same_kind_is : (a b : Kind) → same_kind a b ≡ true → b ≡ a
same_kind_is kind.Int kind.Int e = refl
same_kind_is kind.Int kind.Text e = absurd (cc)
same_kind_is kind.Int kind.Bool e = absurd (cc)
same_kind_is kind.Text kind.Int e = absurd (cc)
same_kind_is kind.Text kind.Text e = refl
same_kind_is kind.Text kind.Bool e = absurd (cc)
same_kind_is kind.Bool kind.Int e = absurd (cc)
same_kind_is kind.Bool kind.Text e = absurd (cc)
same_kind_is kind.Bool kind.Bool e = refl

-- the row has the key's value wherever the left key is meant
abbrev pub ReadsKey : List BoundSource → (Ref → Value) → List ℕ → Type 0
ReadsKey ss row key = (r : Ref) → is_left_key ss (place_of ss r) ≡ true → (row r ≡ value_of_key (key_kind (schema_at ss 0)) key) × (ref_kind ss r ≡ key_kind (schema_at ss 0))

abbrev pub KindsAgree : List BoundSource → Ref × Operand → Type 0
KindsAgree ss c = kind_fault ss c ≡ None

abbrev Fitting : Ref × Operand → Type 0
Fitting c = FitsOperand c.1

kinds_are : (ss : List BoundSource) (r : Ref) (v : Value) → KindsAgree ss (r, Literal v) → is_of_kind (ref_kind ss r) v ≡ true
kinds_are ss r v e = step (is_of_kind (ref_kind ss r) v) refl e
  where
    step : (b : Bool) → is_of_kind (ref_kind ss r) v ≡ b → cond b None (Some TypeMismatch) ≡ None → is_of_kind (ref_kind ss r) v ≡ true
    step true f e = f
    step false f e = absurd (cc)

-- a comparison that is true is of two values, and these compare so
pub compared : (op : Cmp) (a b : Value) → is_true (comparison_truth op a b) ≡ true → (is_null a ≡ false) × (is_null b ≡ false) × (compares op (value_cmp a b) ≡ true)
compared op a b e = step (is_null a) (is_null b) refl refl e
  where
    step : (m n : Bool) → is_null a ≡ m → is_null b ≡ n → is_true (cond (m || n) None (Some (compares op (value_cmp a b)))) ≡ true
        → (is_null a ≡ false) × (is_null b ≡ false) × (compares op (value_cmp a b) ≡ true)
    step true n f g e = absurd (cc)
    step false true f g e = absurd (cc)
    step false false f g e = (f, g, e)

tested_inside : (ss : List BoundSource) (row : Ref → Value) (key : List ℕ)
    → IsKeyOf (key_kind (schema_at ss 0)) key → ReadsKey ss row key → (t : NameTest) → AllByRecursion (KindsAgree ss) (sides t) → AllByRecursion Fitting (sides t)
    → is_true (test_truth row (operand_value row) t) ≡ true → in_interval (test_interval ss t) key ≡ true
tested_inside ss row key is reads (comparison left op (Column r)) kinds fits e = refl
tested_inside ss row key is reads (null_test left is_not) kinds fits e = refl
tested_inside ss row key is reads (comparison left op (Literal v)) kinds fits e = step (is_left_key ss (place_of ss left)) refl
  where
    step : (b : Bool) → is_left_key ss (place_of ss left) ≡ b → in_interval (cond b (keys_that_compare op v) all_keys) key ≡ true
    step true f =
        let r = reads left f in
        let c = compared op (row left) v e in
        let of_kind : is_of_kind (key_kind (schema_at ss 0)) v ≡ true = ap (λ k. is_of_kind k v) (sym r.1) ∙ kinds_are ss left v kinds.0 in
        ap (λ b. in_interval (cond b all_keys (keys_that op (key_of v))) key) c.1
        ∙ key_among op key (key_of v)
        (ap (compares op) (sym (ap (λ x. value_cmp x v) r.0 ∙ keys_in_order (key_kind (schema_at ss 0)) key v is of_kind c.1 fits.0)) ∙ c.2)
    step false f = refl

-- what holds of each test's interval holds of the conjuncts'
module _ {T A : Type 0} (truth_of : T → Truth) (of_test : T → Interval) (has : T → List A) (P Q : A → Type 0) (key : List ℕ)
    (inside : (t : T) → AllByRecursion P (has t) → AllByRecursion Q (has t) → is_true (truth_of t) ≡ true → in_interval (of_test t) key ≡ true) where
  mutual
    formula_inside : (f : Formula T) → AllByRecursion P (of_tests has f) → AllByRecursion Q (of_tests has f)
        → is_true (truth_by truth_of f) ≡ true → in_interval (interval_by of_test f) key ≡ true
    formula_inside (every fs) ps qs e = all_inside fs ps qs e
    formula_inside (some fs) ps qs e = refl
    formula_inside (negated f) ps qs e = refl
    formula_inside (test t) ps qs e = inside t ps qs e

    all_inside : (fs : Formulas T) → AllByRecursion P (of_tests_in has fs) → AllByRecursion Q (of_tests_in has fs)
        → is_true (truth_of_all truth_of fs) ≡ true → in_interval (interval_by_all of_test fs) key ≡ true
    all_inside none ps qs e = refl
    all_inside (more f fs) ps qs e =
        let p = both_parts (truth_by truth_of f) (truth_of_all truth_of fs) e in
        in_intersection (interval_by of_test f) (interval_by_all of_test fs) key
        (formula_inside f (each_left P (of_tests has f) (of_tests_in has fs) ps) (each_left Q (of_tests has f) (of_tests_in has fs) qs) p.0)
        (all_inside fs (each_right P (of_tests has f) (of_tests_in has fs) ps) (each_right Q (of_tests has f) (of_tests_in has fs) qs) p.1)

pub met_inside : (ss : List BoundSource) (row : Ref → Value) (key : List ℕ) (c : Condition)
    → IsKeyOf (key_kind (schema_at ss 0)) key → ReadsKey ss row key
    → AllByRecursion (KindsAgree ss) (comparisons c) → AllByRecursion Fitting (comparisons c)
    → is_true (truth row c) ≡ true → in_interval (interval_of ss c) key ≡ true
met_inside ss row key c is reads =
    formula_inside (test_truth row (operand_value row)) (test_interval ss) sides (KindsAgree ss) Fitting key (tested_inside ss row key is reads) c
