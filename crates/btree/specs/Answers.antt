-- What changes of trees answer.
use Rattle.std.specs.Prelude.{◌≡◌, Result, Ok, Err}
use Rattle.vo_spec.specs.declared.trees.UpdateFault.{UpdateFault}
use Rattle.vo_spec.specs.declared.trees.UpdateFault.TheVariants.{DuplicateKey, NoRow, Missing, Memory}

-- what stands in this relation to the value, or its fault; a want of memory may come in any case
abbrev pub Answers : {A B : Type 0} → (A → B → Type 0) → Result A UpdateFault
    → Result B UpdateFault → Type 0
Answers R (Ok a) (Ok b) = R a b
Answers R (Ok a) (Err fault) = ⊥
Answers R (Err DuplicateKey) right = right ≡ Err DuplicateKey
Answers R (Err NoRow) right = right ≡ Err NoRow
Answers R (Err Missing) right = right ≡ Err Missing
Answers R (Err Memory) right = Unit {0}
