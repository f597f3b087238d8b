-- What a call that puts bytes at the end leaves where memory runs out.
use Rattle.std.specs.Prelude.{◌≡◌, ℕ, List, length, take}

-- the new bytes begin with the old ones: something may stand behind them
abbrev pub StaysInFront : List ℕ → List ℕ → Type 0
StaysInFront old new = take (length old) new ≡ old
