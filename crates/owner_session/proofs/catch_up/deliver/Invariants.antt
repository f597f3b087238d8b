use Rattle.std.proofs.Common.{◌≡◌}
use Rattle.link_frames.specs.Reading.{StaysWhereItStands}
use Rattle.owner_session.proofs.WireLaws.{DeliveredTo}
use Rattle.owner_session.proofs.catch_up.deliver.Given as goal

abbrev pub invariant-loop-index : goal.invariant-loop-index
invariant-loop-index g l = record {
  known : DeliveredTo g.O.SessionOwner.IsJudgement g.O.SessionOwner.forms (g.O.SessionOwner.entries l.owner) l.held l.index (g.L.Link.wire l.initial.link) (g.L.Link.wire l.link);
  counts : g.L.Link.faults l.link ≡ g.L.Link.faults l.initial.link;
  stays : StaysWhereItStands (g.L.Link.wire l.initial.link) (g.L.Link.misses l.initial.link) (g.L.Link.misses l.link);
}
