-- The length of a reply, counted piece by piece.
use Rattle.std.specs.Prelude.{ℕ, ◌-◌, ◌^◌, min, nat_lt, if◌then◌else◌, Option, Some, None}
use Rattle.vo_spec.specs.Replies.{max_reply}

-- a count, up to the highest number of 64 bits
abbrev pub count_up_to_most : ℕ → ℕ
count_up_to_most count = min count (2 ^ 64 - 1)

-- a length over the limit
abbrev pub excess : ℕ → Option ℕ
excess length = if nat_lt max_reply length then Some length else None
