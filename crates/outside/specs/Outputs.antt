-- Exit statuses with what is written last.
use Rattle.std.specs.Prelude.{◌≡◌, ◌⊎◌, ℕ, List, [], ◌∷◌, ◌++◌, take, codes, Option}
use Rattle.outside.specs.Sink.{append_known}

-- an exit status, and what is written last
pub record Output : Type 0 where
  pub status : ℕ
  pub bytes : List ℕ

-- a line of text
abbrev pub line : List ℕ → List ℕ
line text = text ++ 10 ∷ []

-- the outside failed
abbrev pub outside_failure : Output
outside_failure = record { status = 3; bytes = line (codes "fault: outside") }

-- What is written at an end with this output: all of it was put; or the output failed, and a front
-- of it was; or memory ran out, and nothing was.
abbrev pub Writes : Output → Type 0 → ℕ → Option (List ℕ) → Option (List ℕ) → Type 0
Writes output OutRose status before after =
    ((status ≡ output.status) × (after ≡ append_known before output.bytes))
    ⊎ ((status ≡ 3) × OutRose × ((n : ℕ) × (after ≡ append_known before (take n output.bytes))))
    ⊎ ((status ≡ 4) × (after ≡ before))
