-- How many calls were made, kept in 64 bits.
use Rattle.std.specs.Prelude.{ℕ, ◌+◌, ◌-◌, ◌^◌, ◌≤◌, min, Option, Some, None, option_map}

-- one more; at its last value the count stands still
abbrev pub next_count : ℕ → ℕ
next_count count = min (count + 1) (2 ^ 64 - 1)

-- the same, where the count is known
abbrev pub count_call : Option ℕ → Option ℕ
count_call count = option_map next_count count

-- so many calls were made at most; a count that is known stays known
abbrev pub AsksAtMost : ℕ → Option ℕ → Option ℕ → Type 0
AsksAtMost most None None = Unit {0}
AsksAtMost most (Some before) (Some after) = after ≤ before + most
AsksAtMost most None (Some after) = ⊥
AsksAtMost most (Some before) None = ⊥
