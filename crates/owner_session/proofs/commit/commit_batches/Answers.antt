use Rattle.std.proofs.Common.{refl, ◌∙◌, arith}
use Rattle.link_frames.proofs.Results.{no_err}
use Rattle.owner_session.proofs.CommitLaws.{committed_none, committed_more, commit_stops, committed_all, committed_stays}
use Rattle.owner_session.proofs.commit.commit_batches.Goals as goal

pub loop-batch-init : goal.loop-batch-init
loop-batch-init g c = record {
  known = committed_none g.O.SessionOwner.IsJudgement g.O.SessionOwner.forms c.args.batches.now (g.L.Link.wire c.args.link.now) (g.S.Sink.written c.args.out.now)
      (g.O.SessionOwner.state c.args.owner.now) (g.O.SessionOwner.entries c.args.owner.now);
  works = c.requires.works;
  keeps = λ keeps. keeps;
  link_counts = refl;
  disk_counts = refl;
  out_counts = refl;
  stays = λ w is stands. refl;
}

pub loop-batch-preserved : goal.loop-batch-preserved
loop-batch-preserved g c = record {
  known = committed_more g.O.SessionOwner.IsJudgement (λ (e : g.O.SessionOwner.Entry). g.O.SessionOwner.Keeps c.loop-batch.owner → g.O.SessionOwner.KeepsWith c.commit_batch.new.owner e)
      g.O.SessionOwner.forms c.args.batches.now c.loop-batch.batch-index c.batch-item.result c.in-Ok.field-0
      (g.L.Link.wire c.args.link.now) (g.L.Link.wire c.loop-batch.link) (g.L.Link.wire c.commit_batch.new.link)
      (g.S.Sink.written c.args.out.now) (g.S.Sink.written c.loop-batch.out) (g.S.Sink.written c.commit_batch.new.out)
      (g.O.SessionOwner.state c.args.owner.now) (g.O.SessionOwner.state c.loop-batch.owner) (g.O.SessionOwner.state c.commit_batch.new.owner)
      (g.O.SessionOwner.entries c.args.owner.now) (g.O.SessionOwner.entries c.loop-batch.owner) (g.O.SessionOwner.entries c.commit_batch.new.owner)
      c.loop-batch-test.true c.batch-item.is c.loop-batch.invariant.known c.in-Ok.ensures.known;
  works = c.in-Ok.ensures.works;
  keeps = λ keeps. c.in-Ok.ensures.keeps (c.loop-batch.invariant.keeps keeps);
  link_counts = c.in-Ok.ensures.faults.link_quiet (λ e. no_err _ _ _ refl e) ∙ c.loop-batch.invariant.link_counts;
  disk_counts = c.in-Ok.ensures.faults.disk_quiet (λ e. no_err _ _ _ refl e) ∙ c.loop-batch.invariant.disk_counts;
  out_counts = c.in-Ok.ensures.faults.out_quiet (λ e. no_err _ _ _ refl e) ∙ c.loop-batch.invariant.out_counts;
  stays = committed_stays g.O.SessionOwner.IsJudgement g.O.SessionOwner.forms c.args.batches.now c.loop-batch.batch-index (g.L.Link.wire c.args.link.now)
      (g.L.Link.wire c.loop-batch.link) (g.S.Sink.written c.args.out.now) (g.S.Sink.written c.loop-batch.out) (g.O.SessionOwner.state c.args.owner.now)
      (g.O.SessionOwner.state c.loop-batch.owner) (g.O.SessionOwner.entries c.args.owner.now) (g.O.SessionOwner.entries c.loop-batch.owner)
      (g.L.Link.misses c.args.link.now) (g.L.Link.misses c.loop-batch.link) (g.L.Link.misses c.commit_batch.new.link)
      c.loop-batch.invariant.known c.loop-batch.invariant.stays c.in-Ok.ensures.misses;
}

pub returns-in-Err-clause-known : goal.returns-in-Err-clause-known
returns-in-Err-clause-known g c =
    commit_stops g.O.SessionOwner.IsJudgement (λ (e : g.O.SessionOwner.Entry). g.O.SessionOwner.Keeps c.loop-batch.owner → g.O.SessionOwner.KeepsWith c.commit_batch.new.owner e)
    (λ (e : g.O.SessionOwner.Entry). g.O.SessionOwner.Keeps c.args.owner.now → g.O.SessionOwner.KeepsWith c.commit_batch.new.owner e)
    (λ e with_it keeps. with_it (c.loop-batch.invariant.keeps keeps))
    g.O.SessionOwner.forms c.args.batches.now c.loop-batch.batch-index c.batch-item.result c.in-Err.stop
    (g.L.Link.wire c.args.link.now) (g.L.Link.wire c.loop-batch.link) (g.L.Link.wire c.commit_batch.new.link)
    (g.S.Sink.written c.args.out.now) (g.S.Sink.written c.loop-batch.out) (g.S.Sink.written c.commit_batch.new.out)
    (g.O.SessionOwner.state c.args.owner.now) (g.O.SessionOwner.state c.loop-batch.owner) (g.O.SessionOwner.state c.commit_batch.new.owner)
    (g.O.SessionOwner.entries c.args.owner.now) (g.O.SessionOwner.entries c.loop-batch.owner) (g.O.SessionOwner.entries c.commit_batch.new.owner)
    c.loop-batch-test.true c.batch-item.is c.loop-batch.invariant.known c.in-Err.ensures.known

pub returns-clause-known : goal.returns-clause-known
returns-clause-known g c =
    committed_all g.O.SessionOwner.IsJudgement (λ (e : g.O.SessionOwner.Entry). g.O.SessionOwner.Keeps c.args.owner.now → g.O.SessionOwner.KeepsWith c.loop-batch.owner e)
    g.O.SessionOwner.forms c.args.batches.now c.loop-batch.batch-index tt (g.L.Link.wire c.args.link.now) (g.L.Link.wire c.loop-batch.link)
    (g.S.Sink.written c.args.out.now) (g.S.Sink.written c.loop-batch.out) (g.O.SessionOwner.state c.args.owner.now) (g.O.SessionOwner.state c.loop-batch.owner)
    (g.O.SessionOwner.entries c.args.owner.now) (g.O.SessionOwner.entries c.loop-batch.owner) (omega arith) c.loop-batch.invariant.known

pub returns-in-Err-clause-misses : goal.returns-in-Err-clause-misses
returns-in-Err-clause-misses g c =
    committed_stays g.O.SessionOwner.IsJudgement g.O.SessionOwner.forms c.args.batches.now c.loop-batch.batch-index (g.L.Link.wire c.args.link.now)
    (g.L.Link.wire c.loop-batch.link) (g.S.Sink.written c.args.out.now) (g.S.Sink.written c.loop-batch.out) (g.O.SessionOwner.state c.args.owner.now)
    (g.O.SessionOwner.state c.loop-batch.owner) (g.O.SessionOwner.entries c.args.owner.now) (g.O.SessionOwner.entries c.loop-batch.owner)
    (g.L.Link.misses c.args.link.now) (g.L.Link.misses c.loop-batch.link) (g.L.Link.misses c.commit_batch.new.link)
    c.loop-batch.invariant.known c.loop-batch.invariant.stays c.in-Err.ensures.misses
