-- What calls answer where something may be missing.
use Rattle.std.specs.Prelude.{◌≡◌, List, ◌++◌, Option, Some, None, Result, Ok, Err, option_map}
use Rattle.vo_spec.specs.declared.trees.ScanFault.{ScanFault}
use Rattle.vo_spec.specs.declared.trees.ScanFault.TheVariants.{Missing, Memory}
use Rattle.vo_spec.specs.declared.values.Value.{Value}
use Rattle.vo_spec.specs.declared.cells.ValueRef.{ValueRef}
use Rattle.vo_spec.specs.Lent.{value_of}

-- what is there, or Missing where it is None; a want of memory may come in any case
abbrev pub FindsOrMissing : {A : Type 0} → Result A ScanFault → Option A → Type 0
FindsOrMissing (Ok value) found = found ≡ Some value
FindsOrMissing (Err Missing) found = found ≡ None
FindsOrMissing (Err Memory) found = Unit {0}

-- a list with another after it
abbrev pub after : {A : Type 0} → List A → Option (List A) → Option (List A)
after xs None = None
after xs (Some ys) = Some (xs ++ ys)

-- what is there comes after what was there
abbrev pub Appends : {A : Type 0} → Result (Unit {0}) ScanFault → List A → List A
    → Option (List A) → Type 0
Appends (Ok done) old new found = after old found ≡ Some new
Appends (Err Missing) old new found = found ≡ None
Appends (Err Memory) old new found = Unit {0}

abbrev pub value_seen : Option ValueRef → Option Value
value_seen = option_map value_of
