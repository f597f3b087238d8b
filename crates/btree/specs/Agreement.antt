-- What a change of a part of a tree answers beside the same change of the tree.
use Rattle.std.specs.Prelude.{◌≡◌, Result, Ok, Err}
use Rattle.vo_spec.specs.declared.trees.UpdateFault.{UpdateFault}
use Rattle.vo_spec.specs.declared.trees.UpdateFault.TheVariants.{Missing}

-- Missing, or the same fault, or what stands in this relation to the other's
abbrev pub AgreesWithTree : {A : Type 0} → (A → A → Type 0) → Result A UpdateFault
    → Result A UpdateFault → Type 0
AgreesWithTree R (Err Missing) right = Unit {0}
AgreesWithTree R (Err fault) (Err other) = fault ≡ other
AgreesWithTree R (Ok x) (Ok y) = R x y
AgreesWithTree R _ _ = ⊥
