-- Calls for what isn't there.
use Rattle.std.specs.Prelude.{◌≡◌, ℕ, Bool, true, false}
use Rattle.outside.specs.Calls.{next_count}

-- the misses rise by one where what is asked for isn't there, and at nothing else
abbrev pub CountsMiss : Bool → ℕ → ℕ → Type 0
CountsMiss true before after = after ≡ before
CountsMiss false before after = after ≡ next_count before
