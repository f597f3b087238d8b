use Rattle.std.proofs.Common.{◌-◌, List, length, slice_get, Some, ◌≡◌, Err, sym, subst}
use Rattle.owner_session.specs.declared.refusals.NoAppend.{NoAppend}
use Rattle.owner_session.specs.Runs.{KeepsBy}
use Rattle.owner_session.proofs.CommitLaws.{committed, not_appended, not_committed, last_at}
use Rattle.owner_session.proofs.commit.commit_step.Goals as goal

pub returns-in-Ok-clause-known : goal.returns-in-Ok-clause-known
returns-in-Ok-clause-known g c =
    λ before is.
    let entry = g.O.SessionOwner.entry_of c.args.step in
    let old = g.O.SessionOwner.entries c.args.owner.now in
    let more = g.O.SessionOwner.entries c.append.new.self in
    let last : slice_get more (length more - 1) ≡ Some entry =
    subst (λ (es : List g.O.SessionOwner.Entry). slice_get es (length es - 1) ≡ Some entry) (sym c.in-Ok.ensures.entries) (last_at old entry) in
    committed g.O.SessionOwner.IsJudgement (λ (e : g.O.SessionOwner.Entry). g.O.SessionOwner.Keeps c.args.owner.now → g.O.SessionOwner.KeepsWith c.append.new.self e)
    g.O.SessionOwner.forms entry (g.O.SessionOwner.next_of (g.O.SessionOwner.state c.args.owner.now) c.args.step) c.publish.result before (g.L.Link.wire c.publish.new.link)
    (g.S.Sink.written c.args.out.now) (g.S.Sink.written c.publish.new.out) (g.O.SessionOwner.state c.args.owner.now) (g.O.SessionOwner.state c.append.new.self)
    old more c.in-Ok.ensures.state c.in-Ok.ensures.entries (c.publish.ensures.known entry before last is)

pub returns-in-Err-Disk-clause-known : goal.returns-in-Err-Disk-clause-known
returns-in-Err-Disk-clause-known g c =
    λ before is.
    not_appended g.O.SessionOwner.IsJudgement (λ (e : g.O.SessionOwner.Entry). g.O.SessionOwner.Keeps c.args.owner.now → g.O.SessionOwner.KeepsWith c.append.new.self e)
    g.O.SessionOwner.forms (g.O.SessionOwner.entry_of c.args.step) (g.O.SessionOwner.next_of (g.O.SessionOwner.state c.args.owner.now) c.args.step) before (g.L.Link.wire c.args.link.now)
    (g.S.Sink.written c.args.out.now) (g.O.SessionOwner.state c.args.owner.now) (g.O.SessionOwner.state c.append.new.self)
    (g.O.SessionOwner.entries c.args.owner.now) (g.O.SessionOwner.entries c.append.new.self) c.in-Err-Disk.ensures.err_state c.in-Err-Disk.ensures.err_entries
    (λ keeps. subst (λ (f : NoAppend). KeepsBy (Err f) (g.O.SessionOwner.Keeps c.append.new.self) (g.O.SessionOwner.KeepsWith c.append.new.self (g.O.SessionOwner.entry_of c.args.step)))
    c.in-Err-Disk.field-0-is (c.in-Err-Disk.ensures.keeps keeps)) is

pub returns-in-Err-Memory-clause-known : goal.returns-in-Err-Memory-clause-known
returns-in-Err-Memory-clause-known g c =
    λ before is.
    not_committed g.O.SessionOwner.IsJudgement (λ (e : g.O.SessionOwner.Entry). g.O.SessionOwner.Keeps c.args.owner.now → g.O.SessionOwner.KeepsWith c.append.new.self e)
    g.O.SessionOwner.forms (g.O.SessionOwner.entry_of c.args.step) (g.O.SessionOwner.next_of (g.O.SessionOwner.state c.args.owner.now) c.args.step) before (g.L.Link.wire c.args.link.now)
    (g.S.Sink.written c.args.out.now) (g.O.SessionOwner.state c.args.owner.now) (g.O.SessionOwner.state c.append.new.self)
    (g.O.SessionOwner.entries c.args.owner.now) (g.O.SessionOwner.entries c.append.new.self) c.in-Err-Memory.ensures.err_state c.in-Err-Memory.ensures.err_entries is
