-- Tests in an order: the first one that holds decides.
use Rattle.std.specs.Prelude.{Bool, if◌then◌else◌, List, [], ◌∷◌, Option, Some, None, Result, Ok, Err}

-- the fault of the first test that holds
abbrev pub first_of : {F : Type 0} → List (Bool × F) → Option F
first_of [] = None
first_of (test ∷ tests) = if test.0 then Some test.1 else first_of tests

-- the first fault that is found
abbrev pub first_some : {F : Type 0} → List (Option F) → Option F
first_some [] = None
first_some (None ∷ found) = first_some found
first_some (Some fault ∷ found) = Some fault

-- the value, unless there is a fault
abbrev pub unless : {F A : Type 0} → Option F → A → Result A F
unless None value = Ok value
unless (Some fault) value = Err fault

-- what the next step makes of the value, or the fault
abbrev pub and_then : {F A B : Type 0} → (A → Result B F) → Result A F → Result B F
and_then next (Ok value) = next value
and_then next (Err fault) = Err fault
