-- What a call that writes leaves of what it writes to, by the bytes that this holds.
use Rattle.std.specs.Prelude.{ℕ, List, ◌++◌}

module _ {W : Type 0} (HoldsBytes : W → List ℕ → Type 0) where
  -- these bytes come after all that were there
  pub record Writes (old new : W) (bytes : List ℕ) : Type 0 where
    pub writes : (before : List ℕ) → HoldsBytes old before → HoldsBytes new (before ++ bytes)

  -- some bytes do, or none: what a call leaves that fails on its way
  pub record WritesSome (old new : W) : Type 0 where
    pub written : List ℕ
    pub writes : (before : List ℕ) → HoldsBytes old before → HoldsBytes new (before ++ written)
