-- What a call leaves that takes what comes next, and may have taken anything where it fails.
use Rattle.std.specs.Prelude.{◌≡◌, ℕ, List, Option, Some, None, Result, Ok, Err}
use Rattle.row_bytes.specs.declared.read_fault.ReadFault.{ReadFault}
use Rattle.row_bytes.specs.declared.read_fault.ReadFault.TheVariants.{BadForm, Memory}

-- the call gives what reading gives, and left these bytes; or reading gives nothing
abbrev pub Takes : {X A : Type 0} → (X → A) → Option X → List ℕ → Option (A × List ℕ) → Type 0
Takes view None left read = read ≡ None
Takes view (Some x) left read = read ≡ Some (view x, left)

-- the same of a call that takes memory, unless that ran out
abbrev pub TakesOr : {X A : Type 0} → (X → A) → Result X ReadFault → List ℕ
    → Option (A × List ℕ) → Type 0
TakesOr view (Ok x) left read = read ≡ Some (view x, left)
TakesOr view (Err BadForm) left read = read ≡ None
TakesOr view (Err Memory) left read = Unit {0}
