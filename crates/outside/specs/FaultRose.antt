-- A count of faults, kept in 64 bits, that went up.
use Rattle.std.specs.Prelude.{ℕ, ◌-◌, ◌^◌, ◌<◌}

-- the count rose, or stands at its last value
abbrev pub FaultRose : ℕ → ℕ → Type 0
FaultRose before after = after < 2 ^ 64 - 1 → before < after
