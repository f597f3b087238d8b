use Rattle.std.proofs.Common.{◌≡◌, ◌-◌}
use Rattle.link_frames.proofs.Filling.{IsHanding}
use Rattle.link_frames.proofs.gathers.gather_bytes.Given as goal

abbrev pub invariant-loop-handed : goal.invariant-loop-handed
invariant-loop-handed g l =
    record {
      handing : IsHanding l.handed l.count (g.G.Gathers.gathered l.initial.into) (g.G.Gathers.gathered l.into)
          (g.L.Link.wire l.initial.link) (g.L.Link.wire l.link)
          (g.L.Link.faults l.initial.link) (g.L.Link.faults l.link)
          (g.L.Link.misses l.initial.link) (g.L.Link.misses l.link);
      kept : g.G.Gathers.kept l.into ≡ g.G.Gathers.kept l.initial.into;
    }

abbrev pub decreases-loop-handed : goal.decreases-loop-handed
decreases-loop-handed g l = l.count - l.handed
