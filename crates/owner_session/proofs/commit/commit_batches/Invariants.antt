use Rattle.std.proofs.Common.{◌≡◌}
use Rattle.link_frames.specs.Reading.{StaysWhereItStands}
use Rattle.owner_session.proofs.CommitLaws.{CommittedTo}
use Rattle.owner_session.proofs.commit.commit_batches.Given as goal

abbrev pub invariant-loop-batch : goal.invariant-loop-batch
invariant-loop-batch g l = record {
  known : CommittedTo g.O.SessionOwner.IsJudgement g.O.SessionOwner.forms l.batches l.batch-index (g.L.Link.wire l.initial.link) (g.L.Link.wire l.link)
      (g.S.Sink.written l.initial.out) (g.S.Sink.written l.out) (g.O.SessionOwner.state l.initial.owner) (g.O.SessionOwner.state l.owner)
      (g.O.SessionOwner.entries l.initial.owner) (g.O.SessionOwner.entries l.owner);
  works : g.O.SessionOwner.Works l.owner;
  keeps : g.O.SessionOwner.Keeps l.initial.owner → g.O.SessionOwner.Keeps l.owner;
  link_counts : g.L.Link.faults l.link ≡ g.L.Link.faults l.initial.link;
  disk_counts : g.O.SessionOwner.faults l.owner ≡ g.O.SessionOwner.faults l.initial.owner;
  out_counts : g.S.Sink.faults l.out ≡ g.S.Sink.faults l.initial.out;
  stays : StaysWhereItStands (g.L.Link.wire l.initial.link) (g.L.Link.misses l.initial.link) (g.L.Link.misses l.link);
}
