-- Conditions, and when a row meets one.
use Rattle.std.specs.Prelude.{ℕ, Bool, true, false, not, ◌&&◌, ◌||◌, List, [], ◌∷◌, ◌++◌, Option, Some, None, option_map, if◌then◌else◌, unwrap_or}
use Rattle.std.specs.Option.{option_map_or}
use Rattle.std.specs.List.{AllByRecursion}
use Rattle.std.specs.declared.cmp.Ordering.{Ordering}
use Rattle.std.specs.Ordering.{is_eq, is_ne, is_lt, is_le, is_gt, is_ge}
use Rattle.vo_spec.specs.declared.values.Value.{Value}
use Rattle.vo_spec.specs.declared.queries.Ref.{Ref}
use Rattle.vo_spec.specs.declared.queries.Cmp.{Cmp}
use Rattle.vo_spec.specs.declared.queries.Cmp.TheVariants as cmp
use Rattle.vo_spec.specs.declared.queries.Operand.{Operand}
use Rattle.vo_spec.specs.declared.queries.Operand.TheVariants.{Ref as Column, Literal}
use Rattle.vo_spec.specs.declared.queries.Cond.{Cond, fold-Cond}
use Rattle.vo_spec.specs.declared.queries.Cond.TheOpen.{Cond-F}
use Rattle.vo_spec.specs.declared.queries.Items.{Items}
use Rattle.vo_spec.specs.declared.queries.Source.{Source}
use Rattle.vo_spec.specs.declared.queries.Join.{Join}
use Rattle.vo_spec.specs.declared.queries.QueryText.{QueryText}
use Rattle.vo_spec.specs.Values.{is_null, value_cmp, IsInRange}

-- Truth has three values: true, false, and unknown, which is None.

abbrev pub Truth : Type 0
Truth = Option Bool

-- what is kept by WHERE and ON: neither the false nor the unknown
abbrev pub is_true : Truth → Bool
is_true t = unwrap_or t false

-- false where one of them is, else unknown where one of them is
abbrev pub both : Truth → Truth → Truth
both (Some true) b = b
both (Some false) b = Some false
both None (Some false) = Some false
both None b = None

-- true where one of them is, else unknown where one of them is
abbrev pub either : Truth → Truth → Truth
either (Some true) b = Some true
either (Some false) b = b
either None (Some true) = Some true
either None b = None

-- true and false exchanged, unknown kept
abbrev pub opposite : Truth → Truth
opposite = option_map not

-- A formula over tests of any kind: every part holds, some part holds, the part doesn't hold, or a
-- test.
mutual
  pub data Formula (T : Type 0) : Type 0 where
    every : Formulas T → Formula T
    some : Formulas T → Formula T
    negated : Formula T → Formula T
    test : T → Formula T

  pub data Formulas (T : Type 0) : Type 0 where
    none : Formulas T
    more : Formula T → Formulas T → Formulas T

module _ {T : Type 0} where
  -- its truth, by that of a test
  abbrev mutual
    pub truth_by : (T → Truth) → Formula T → Truth
    truth_by of_test (every fs) = truth_of_all of_test fs
    truth_by of_test (some fs) = truth_of_any of_test fs
    truth_by of_test (negated f) = opposite (truth_by of_test f)
    truth_by of_test (test t) = of_test t

    pub truth_of_all : (T → Truth) → Formulas T → Truth
    truth_of_all of_test none = Some true
    truth_of_all of_test (more f fs) = both (truth_by of_test f) (truth_of_all of_test fs)

    pub truth_of_any : (T → Truth) → Formulas T → Truth
    truth_of_any of_test none = Some false
    truth_of_any of_test (more f fs) = either (truth_by of_test f) (truth_of_any of_test fs)

  -- what its tests have, in the order of the text
  abbrev mutual
    pub of_tests : {A : Type 0} → (T → List A) → Formula T → List A
    of_tests has (every fs) = of_tests_in has fs
    of_tests has (some fs) = of_tests_in has fs
    of_tests has (negated f) = of_tests has f
    of_tests has (test t) = has t

    pub of_tests_in : {A : Type 0} → (T → List A) → Formulas T → List A
    of_tests_in has none = []
    of_tests_in has (more f fs) = of_tests has f ++ of_tests_in has fs

  -- the same over other tests, one for one
  abbrev mutual
    pub with_tests : {U : Type 0} → (T → U) → Formula T → Formula U
    with_tests change (every fs) = every (with_tests_in change fs)
    with_tests change (some fs) = some (with_tests_in change fs)
    with_tests change (negated f) = negated (with_tests change f)
    with_tests change (test t) = test (change t)

    pub with_tests_in : {U : Type 0} → (T → U) → Formulas T → Formulas U
    with_tests_in change none = none
    with_tests_in change (more f fs) = more (with_tests change f) (with_tests_in change fs)

-- A test of a row: a column's value compared with another or with a literal, or whether it is NULL;
-- for IS NOT NULL the flag is set. R is how a column is written, O how the right side is.
pub data Test (R O : Type 0) : Type 0 where
  comparison : R → Cmp → O → Test R O
  null_test : R → Bool → Test R O

-- A condition, its columns by their names.

abbrev pub NameTest : Type 0
NameTest = Test Ref Operand

abbrev pub Condition : Type 0
Condition = Formula NameTest

abbrev pub Conditions : Type 0
Conditions = Formulas NameTest

-- Conditions as the program holds them.

abbrev pub conditions : List Condition → Conditions
conditions [] = none
conditions (c ∷ cs) = more c (conditions cs)

-- one level, its parts already seen
abbrev pub condition_layer : Cond-F Condition → Condition
condition_layer (Cond-F.All parts) = every (conditions parts)
condition_layer (Cond-F.Any parts) = some (conditions parts)
condition_layer (Cond-F.Not part) = negated part.value
condition_layer (Cond-F.Test left op right) = test (comparison left op right)
condition_layer (Cond-F.IsNull left is_not) = test (null_test left is_not)

abbrev pub condition_of : Cond → Condition
condition_of = fold-Cond Condition condition_layer

-- a query with its condition seen so
pub record Query : Type 0 where
  pub items : Items
  pub left : Source
  pub join : Option Join
  pub condition : Option Condition
  pub limit : Option ℕ

abbrev pub query_of : QueryText → Query
query_of q = record {
  items = q.items;
  left = q.left;
  join = q.join;
  condition = option_map condition_of q.cond;
  limit = q.limit;
}

-- What a condition names, in the order of its text.

abbrev pub operand_refs : Operand → List Ref
operand_refs (Column r) = r ∷ []
operand_refs (Literal v) = []

abbrev pub test_refs : NameTest → List Ref
test_refs (comparison left op right) = left ∷ operand_refs right
test_refs (null_test left is_not) = left ∷ []

abbrev pub condition_refs : Condition → List Ref
condition_refs = of_tests test_refs

-- the two sides of each comparison
abbrev pub sides : NameTest → List (Ref × Operand)
sides (comparison left op right) = (left, right) ∷ []
sides (null_test left is_not) = []

abbrev pub comparisons : Condition → List (Ref × Operand)
comparisons = of_tests sides

-- Truth.

abbrev pub compares : Cmp → Ordering → Bool
compares cmp.Eq = is_eq
compares cmp.Ne = is_ne
compares cmp.Lt = is_lt
compares cmp.Le = is_le
compares cmp.Gt = is_gt
compares cmp.Ge = is_ge

abbrev pub operand_value : (Ref → Value) → Operand → Value
operand_value row (Column r) = row r
operand_value row (Literal v) = v

-- unknown where one of the values is NULL
abbrev pub comparison_truth : Cmp → Value → Value → Truth
comparison_truth op a b =
    if is_null a || is_null b then None else Some (compares op (value_cmp a b))

-- never unknown
abbrev pub null_truth : Bool → Value → Truth
null_truth is_not v = Some (if is_not then not (is_null v) else is_null v)

-- a row is what it has for each column, and so for the right side of a test
abbrev pub test_truth : {R O : Type 0} → (R → Value) → (O → Value) → Test R O → Truth
test_truth row operand (comparison left op right) =
    comparison_truth op (row left) (operand right)
test_truth row operand (null_test left is_not) = null_truth is_not (row left)

abbrev pub truth : (Ref → Value) → Condition → Truth
truth row = truth_by (test_truth row (operand_value row))

-- whether the row meets the condition, which may be absent
abbrev pub is_met : (Ref → Value) → Option Condition → Bool
is_met row None = true
is_met row (Some c) = is_true (truth row c)

-- The numbers that the query compares with are of 64 bits with a sign.

abbrev pub FitsOperand : Operand → Type 0
FitsOperand (Column r) = Unit {0}
FitsOperand (Literal v) = IsInRange v

abbrev pub FitsQuery : Query → Type 0
FitsQuery q = AllByRecursion (λ (c : Ref × Operand). FitsOperand c.1)
    (option_map_or comparisons q.condition [])
