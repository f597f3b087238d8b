-- A disk in memory whose calls are done again.
use Rattle.std.specs.Prelude.{ℕ, ◌+◌, List, [], ◌∷◌}
use Rattle.outside.specs.DiskModel.{Down}
use Rattle.outside.specs.declared.mem_disk.replay.Write.{Write}
use Rattle.outside.specs.declared.mem_disk.replay.Replay.{Replay}

abbrev pub range_of : Write → ℕ × ℕ
range_of write = (write.at, write.kept + write.lost)

-- the ranges of writes put before these, the newest first
abbrev pub onto : List (ℕ × ℕ) → List Write → List (ℕ × ℕ)
onto ranges [] = ranges
onto ranges (write ∷ writes) = onto (range_of write ∷ ranges) writes

abbrev pub down_of : Replay → Down
down_of replay = record { contents = replay.contents.items; ranges = onto [] replay.writes.items }
