-- What comparisons of two strings of one digest find, at one place or at several.
use Rattle.std.specs.Prelude.{◌≡◌, ℕ, ◌<◌, List, Option, Some, None}
use Rattle.vo_spec.specs.Collides.{Collides}

-- nothing is found only where the strings are the same, and what is found is the two of them
abbrev pub Compared : List ℕ → List ℕ → Option (List ℕ × List ℕ) → Type 0
Compared first second None = first ≡ second
Compared first second (Some found) = (found.0 ≡ first) × (found.1 ≡ second)
    × Collides found.0 found.1

-- the same of strings at each place below a number
abbrev pub ComparedBelow : (ℕ → List ℕ) → (ℕ → List ℕ) → ℕ → Option (List ℕ × List ℕ) → Type 0
ComparedBelow first second n None = (k : ℕ) → k < n → first k ≡ second k
ComparedBelow first second n (Some found) = (k : ℕ) × (k < n) × Compared (first k) (second k) (Some found)
