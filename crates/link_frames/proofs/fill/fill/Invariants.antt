use Rattle.std.proofs.Common.{length, ◌-◌}
use Rattle.link_frames.proofs.Filling.{IsFilling}
use Rattle.link_frames.proofs.fill.fill.Given as goal

abbrev pub invariant-loop-filled : goal.invariant-loop-filled
invariant-loop-filled g l =
    IsFilling l.filled l.initial.into l.into (g.L.Link.wire l.initial.link) (g.L.Link.wire l.link)
    (g.L.Link.faults l.initial.link) (g.L.Link.faults l.link)
    (g.L.Link.misses l.initial.link) (g.L.Link.misses l.link)

abbrev pub decreases-loop-filled : goal.decreases-loop-filled
decreases-loop-filled g l = length l.initial.into - l.filled
