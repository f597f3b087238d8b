use Rattle.std.proofs.Common.{◌≡◌, ℕ, ◌<◌, get_or, length}
use Rattle.outside.specs.DiskModel.{byte_after}
use Rattle.outside.specs.Replay.{down_of}
use Rattle.outside.proofs.mem_disk.replay.Replay.with_lost.Given as goal

abbrev pub invariant-loop-place : goal.invariant-loop-place
invariant-loop-place l = record {
  long : length l.image.items ≡ l.place;
  bytes : (k : ℕ) → k < l.place → get_or l.image.items k 0 ≡ byte_after (down_of l.self) l.lost k;
}
