-- What a call that reads a value gives.
use Rattle.std.specs.Prelude.{◌≡◌, ℕ, List, Result, Ok, Err}
use Rattle.std.specs.Borrow.{Bor}
use Rattle.vo_spec.specs.declared.values.Value.{Value}
use Rattle.vo_spec.specs.declared.cells.ValueRef.{ValueRef}
use Rattle.vo_spec.specs.Lent.{value_of}
use Rattle.row_bytes.specs.declared.fault.FormFault.{FormFault}

-- A call took from the old bytes the value that reading gives, and left the new ones; or it answers
-- the fault, and nothing was taken.
abbrev pub TakenOr : Result ValueRef FormFault → List ℕ → List ℕ → Result (Value × List ℕ) FormFault
    → Type 0
TakenOr (Ok v) old new read = read ≡ Ok (value_of v, new)
TakenOr (Err fault) old new read = (read ≡ Err fault) × (new ≡ old)

-- the same, with the bytes that are left in the answer
abbrev pub Read : Result (ValueRef × Bor (List ℕ)) FormFault → Result (Value × List ℕ) FormFault
    → Type 0
Read (Ok x) read = read ≡ Ok (value_of x.0, x.1.now)
Read (Err fault) read = read ≡ Err fault

-- a call answers the value, lent, or its fault
abbrev pub Lends : Result ValueRef FormFault → Result Value FormFault → Type 0
Lends (Ok v) answer = answer ≡ Ok (value_of v)
Lends (Err fault) answer = answer ≡ Err fault
