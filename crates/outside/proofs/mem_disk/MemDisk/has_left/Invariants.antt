use Rattle.std.proofs.Common.{ℕ, ◌<◌, ◌≤◌, take}
use Rattle.outside.specs.DiskModel.{IsImage}
use Rattle.outside.specs.Replay.{down_of}
use Rattle.outside.proofs.ReplayLaws.{IsReplayed, crash_state}
use Rattle.outside.proofs.mem_disk.MemDisk.has_left.Given as goal

abbrev pub invariant-loop-moment : goal.invariant-loop-moment
invariant-loop-moment g l = record {
  at : IsReplayed l.self.log.items l.self.first.items l.self.done.items l.moment l.replay.seen.items (down_of l.replay);
  none : (m : ℕ) → l.since ≤ m → m < l.moment → IsImage (crash_state l.self.log.items l.self.first.items (take m l.self.done.items)) l.image → ⊥;
}
