-- The order of the tests of a reply's trees, by what was found of these, however they came.
use Rattle.std.specs.Prelude.{◌≡◌, ◌⊎◌, ◌==◌, if◌then◌else◌, ℕ, Bool, true, false, List, [], ◌∷◌, Option, Some, None, Result, Ok, Err}
use Rattle.vo_spec.specs.declared.checks.CheckFault.{CheckFault}
use Rattle.vo_spec.specs.declared.checks.CheckFault.TheVariants.{Memory, Missing, Surplus, WrongShape, WrongTrees}
use Rattle.vo_spec.specs.declared.queries.Outcome.{Outcome}
use Rattle.vo_spec.specs.declared.queries.Outcome.TheVariants.{Rows}
use Rattle.vo_spec.specs.declared.values.Value.{Value}
use Rattle.vo_spec.specs.Firsts.{first_some}
use Rattle.held_replies.specs.declared.found_trees.ShownRows.{ShownRows}

-- What the tests find: how many trees are wanted and how many there are, whether all are of their
-- tables' schemas, the first that has not its table's root, whether one misses something of what is
-- needed, and whether one has more.
pub record TreeFindings : Type 0 where
  pub wanted : ℕ
  pub count : ℕ
  pub have_shapes : Bool
  pub root_fault : Option CheckFault
  pub is_missing : Bool
  pub has_surplus : Bool

-- so many trees are wanted, and there are so many
abbrev pub count_fault_of : ℕ → ℕ → Option CheckFault
count_fault_of want got = if got == want then None else Some (WrongTrees want got)

abbrev pub fault_unless : Bool → CheckFault → Option CheckFault
fault_unless b fault = if b then None else Some fault

abbrev pub fault_if : Bool → CheckFault → Option CheckFault
fault_if b fault = if b then Some fault else None

-- the first test of trees against their tables that refuses them
abbrev pub table_faults : TreeFindings → Option CheckFault
table_faults f = first_some
    (count_fault_of f.wanted f.count
    ∷ fault_unless f.have_shapes WrongShape
    ∷ f.root_fault
    ∷ [])

-- the first test of trees that does
abbrev pub found_fault : TreeFindings → Option CheckFault
found_fault f = first_some
    (count_fault_of f.wanted f.count
    ∷ fault_unless f.have_shapes WrongShape
    ∷ f.root_fault
    ∷ fault_if f.is_missing Missing
    ∷ fault_if f.has_surplus Surplus
    ∷ [])

-- the rows that trees show where none misses anything, and whether one has more
abbrev pub ShowsRows : Result ShownRows CheckFault → TreeFindings
    → (List (List Value) → Type 0) → Type 0
ShowsRows (Ok shown) f Shows =
    (f.is_missing ≡ false) × (shown.has_surplus ≡ f.has_surplus) × Shows shown.rows
ShowsRows (Err fault) f Shows =
    (fault ≡ Memory) ⊎ ((fault ≡ Missing) × (f.is_missing ≡ true))

-- the outcome shows such rows under these titles where the tests find nothing
abbrev pub JudgesFound : Result Outcome CheckFault → Option CheckFault → List (List ℕ)
    → (List (List Value) → Type 0) → Type 0
JudgesFound (Ok outcome) found titles Shows =
    (found ≡ None) × (rows : List (List Value)) × (outcome ≡ Rows titles rows) × Shows rows
JudgesFound (Err fault) found titles Shows = (fault ≡ Memory) ⊎ (found ≡ Some fault)
