-- Calls that are to fail.
use Rattle.std.specs.Prelude.{◌≡◌, ℕ, Option, Some, None, option_map, IsSome, List, find, take, ◌==◌, Result, Ok, Err}
use Rattle.outside.specs.declared.failures.Failure.{Failure}
use Rattle.outside.specs.declared.faults.PutFault.{PutFault}
use Rattle.outside.specs.declared.faults.PutFault.TheVariants.{Failed, Memory}

-- what comes of the call with this number: the first failure that is listed for it
abbrev pub failure_at : ℕ → List Failure → Option ℕ
failure_at call failures =
    option_map (λ (f : Failure). f.after) (find (λ (f : Failure). f.call == call) failures)

-- what a call passes on of a piece: so many bytes of it where it is to fail, else all
abbrev pub front_of : Option ℕ → List ℕ → List ℕ
front_of (Some after) piece = take after piece
front_of None piece = piece

-- what a put answers: it fails exactly where it is to, want of memory aside
abbrev pub AnswersPut : Option ℕ → Result (Unit {0}) PutFault → Type 0
AnswersPut due (Ok done) = due ≡ None
AnswersPut due (Err Failed) = IsSome due
AnswersPut due (Err Memory) = Unit {0}

-- P, unless memory ran out
abbrev pub UnlessWant : Result (Unit {0}) PutFault → Type 0 → Type 0
UnlessWant (Ok done) P = P
UnlessWant (Err Failed) P = P
UnlessWant (Err Memory) P = Unit {0}
