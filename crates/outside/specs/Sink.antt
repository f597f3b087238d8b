-- Output in order.
use Rattle.std.specs.Prelude.{ℕ, List, ◌++◌, Option, option_map, Result, Ok, Err}
use Rattle.outside.specs.declared.faults.PutFault.{PutFault}
use Rattle.outside.specs.declared.faults.PutFault.TheVariants.{Failed, Memory}

-- what is written once this piece is, where that is known
abbrev pub append_known : Option (List ℕ) → List ℕ → Option (List ℕ)
append_known written piece = option_map (λ bytes. bytes ++ piece) written

-- P, unless the output failed
abbrev pub UnlessPutFails : Result (Unit {0}) PutFault → Type 0 → Type 0
UnlessPutFails (Ok done) P = P
UnlessPutFails (Err Failed) P = Unit {0}
UnlessPutFails (Err Memory) P = P
