use Rattle.std.proofs.Common.{◌≡◌, ◌+◌, drop}
use Rattle.std.specs.Prelude.{◌==◌}
use Rattle.std.specs.List.{position_or_len}
use Rattle.index_keys.proofs.splitting.place_of_zero.Given as goal

-- no byte so far is a zero
abbrev pub invariant-loop-byte : goal.invariant-loop-byte
invariant-loop-byte l =
    (l.place ≡ l.byte-index)
    × (l.place + position_or_len (λ b. b == 0) (drop l.byte-index l.bytes) ≡ position_or_len (λ b. b == 0) l.bytes)
