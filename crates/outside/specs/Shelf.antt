-- Files by their names.
use Rattle.std.specs.Prelude.{◌≡◌, ℕ, ◌<◌, List, length, Option, Some, None, Result, Ok, Err}
use Rattle.std.specs.Global.{Vec}
use Rattle.outside.specs.declared.faults.TakeFault.{TakeFault}
use Rattle.outside.specs.declared.faults.TakeFault.TheVariants.{Failed, TooLong, Memory}

-- the bytes under each name
abbrev pub Files : Type 0
Files = List ℕ → Option (List ℕ)

-- what a take may answer, by the file that is there: too long only where it is, and an absent one
-- fails
abbrev pub Takes : Option (List ℕ) → ℕ → Result (Vec ℕ) TakeFault → Type 0
Takes (Some bytes) limit (Ok taken) = taken.items ≡ bytes
Takes (Some bytes) limit (Err TooLong) = limit < length bytes
Takes (Some bytes) limit (Err Failed) = Unit {0}
Takes (Some bytes) limit (Err Memory) = Unit {0}
Takes None limit (Err Failed) = Unit {0}
Takes None limit (Err TooLong) = ⊥
Takes None limit (Err Memory) = ⊥
Takes None limit (Ok taken) = ⊥

-- P, unless the file is not there or was not read
abbrev pub UnlessTakeFails : Result (Vec ℕ) TakeFault → Type 0 → Type 0
UnlessTakeFails (Ok taken) P = P
UnlessTakeFails (Err Failed) P = Unit {0}
UnlessTakeFails (Err TooLong) P = P
UnlessTakeFails (Err Memory) P = P
