use Rattle.std.proofs.Common.{ap, Err}
use Rattle.outside.specs.FaultRose.{FaultRose}
use Rattle.owner_session.specs.declared.stop.SessionStop.{SessionStop}
use Rattle.owner_session.specs.declared.stop.SessionStop.TheVariants as stop
use Rattle.owner_session.specs.Runs.{snapshot_of}
use Rattle.owner_session.proofs.RequestLaws.{session_puts}
use Rattle.owner_session.proofs.SessionLaws.{rose_later, unless_disk, session_finishes, session_refused, session_link_fault, session_disk_fault, session_output_fault, session_wants, session_done_at_0}
use Rattle.owner_session.proofs.session.run_session.Goals as goal

pub returns-in-Ok-clause-known : goal.returns-in-Ok-clause-known
returns-in-Ok-clause-known g c =
    λ before is.
    let r = c.in-Ok.ensures.known before is in (
      r.0,
      r.1,
      session_finishes g.O.SessionOwner.IsJudgement g.O.SessionOwner.forms c.args.batches.now
          (FaultRose (g.L.Link.faults c.args.link.now) (g.L.Link.faults c.do_session.new.link))
          (FaultRose (g.O.SessionOwner.faults c.args.owner.now) (g.O.SessionOwner.faults c.do_session.new.owner))
          (FaultRose (g.S.Sink.faults c.args.out.now) (g.S.Sink.faults c.do_session.new.out))
          (g.O.SessionOwner.Keeps c.args.owner.now → g.O.SessionOwner.Keeps c.do_session.new.owner)
          (λ (e : g.O.SessionOwner.Entry). g.O.SessionOwner.Keeps c.args.owner.now → g.O.SessionOwner.KeepsWith c.do_session.new.owner e)
          (snapshot_of before (g.S.Sink.written c.args.out.now) (g.O.SessionOwner.state c.args.owner.now) (g.O.SessionOwner.entries c.args.owner.now))
          (snapshot_of r.0 (g.S.Sink.written c.do_session.new.out) (g.O.SessionOwner.state c.do_session.new.owner) (g.O.SessionOwner.entries c.do_session.new.owner))
          r.2 c.in-Ok.ensures.keeps,
    )

pub returns-in-Err-Refused-clause-known : goal.returns-in-Err-Refused-clause-known
returns-in-Err-Refused-clause-known g c =
    λ before is.
    let r = c.in-Err-Refused.ensures.known before is in (
      r.0,
      r.1,
      session_refused g.O.SessionOwner.IsJudgement g.O.SessionOwner.forms c.args.batches.now
          (FaultRose (g.L.Link.faults c.args.link.now) (g.L.Link.faults c.do_session.new.link))
          (FaultRose (g.O.SessionOwner.faults c.args.owner.now) (g.O.SessionOwner.faults c.do_session.new.owner))
          (FaultRose (g.S.Sink.faults c.args.out.now) (g.S.Sink.faults c.write_output.new.out))
          (g.O.SessionOwner.Keeps c.args.owner.now → g.O.SessionOwner.Keeps c.do_session.new.owner)
          (λ (e : g.O.SessionOwner.Entry). g.O.SessionOwner.Keeps c.args.owner.now → g.O.SessionOwner.KeepsWith c.do_session.new.owner e)
          (snapshot_of before (g.S.Sink.written c.args.out.now) (g.O.SessionOwner.state c.args.owner.now) (g.O.SessionOwner.entries c.args.owner.now))
          (snapshot_of r.0 (g.S.Sink.written c.do_session.new.out) (g.O.SessionOwner.state c.do_session.new.owner) (g.O.SessionOwner.entries c.do_session.new.owner))
          c.in-Err-Refused.field-0 c.in-Err-Refused.report (FaultRose (g.S.Sink.faults c.do_session.new.out) (g.S.Sink.faults c.write_output.new.out)) c.write_output.result c.code.result c.deref.result.now
          (g.S.Sink.written c.write_output.new.out) c.in-Err-Refused.field-0-is c.code.ensures.value c.deref.ensures.value r.2
          (λ keeps. unless_disk c.in-Err-Refused.field-0 (stop.Refused c.in-Err-Refused.report) (g.O.SessionOwner.Keeps c.do_session.new.owner) c.in-Err-Refused.field-0-is (c.in-Err-Refused.ensures.keeps keeps))
          (rose_later (g.S.Sink.faults c.args.out.now) (g.S.Sink.faults c.do_session.new.out) (g.S.Sink.faults c.write_output.new.out) c.in-Err-Refused.ensures.faults.out_counts) c.write_output.ensures.wrote,
    )

pub returns-in-Err-LinkFault-clause-known : goal.returns-in-Err-LinkFault-clause-known
returns-in-Err-LinkFault-clause-known g c =
    λ before is.
    let r = c.in-Err-LinkFault.ensures.known before is in (
      r.0,
      r.1,
      session_link_fault g.O.SessionOwner.IsJudgement g.O.SessionOwner.forms c.args.batches.now
          (FaultRose (g.L.Link.faults c.args.link.now) (g.L.Link.faults c.do_session.new.link))
          (FaultRose (g.O.SessionOwner.faults c.args.owner.now) (g.O.SessionOwner.faults c.do_session.new.owner))
          (FaultRose (g.S.Sink.faults c.args.out.now) (g.S.Sink.faults c.write_output-in-Err-LinkFault.new.out))
          (g.O.SessionOwner.Keeps c.args.owner.now → g.O.SessionOwner.Keeps c.do_session.new.owner)
          (λ (e : g.O.SessionOwner.Entry). g.O.SessionOwner.Keeps c.args.owner.now → g.O.SessionOwner.KeepsWith c.do_session.new.owner e)
          (snapshot_of before (g.S.Sink.written c.args.out.now) (g.O.SessionOwner.state c.args.owner.now) (g.O.SessionOwner.entries c.args.owner.now))
          (snapshot_of r.0 (g.S.Sink.written c.do_session.new.out) (g.O.SessionOwner.state c.do_session.new.owner) (g.O.SessionOwner.entries c.do_session.new.owner))
          c.in-Err-LinkFault.field-0 (FaultRose (g.S.Sink.faults c.do_session.new.out) (g.S.Sink.faults c.write_output-in-Err-LinkFault.new.out)) c.write_output-in-Err-LinkFault.result (g.S.Sink.written c.write_output-in-Err-LinkFault.new.out) c.in-Err-LinkFault.field-0-is r.2
          (c.in-Err-LinkFault.ensures.faults.link_cause (ap (λ (s : SessionStop). Err s) c.in-Err-LinkFault.field-0-is))
          (λ keeps. unless_disk c.in-Err-LinkFault.field-0 stop.LinkFault (g.O.SessionOwner.Keeps c.do_session.new.owner) c.in-Err-LinkFault.field-0-is (c.in-Err-LinkFault.ensures.keeps keeps))
          (rose_later (g.S.Sink.faults c.args.out.now) (g.S.Sink.faults c.do_session.new.out) (g.S.Sink.faults c.write_output-in-Err-LinkFault.new.out) c.in-Err-LinkFault.ensures.faults.out_counts) c.write_output-in-Err-LinkFault.ensures.wrote,
    )

pub returns-in-Err-DiskFault-clause-known : goal.returns-in-Err-DiskFault-clause-known
returns-in-Err-DiskFault-clause-known g c =
    λ before is.
    let r = c.in-Err-DiskFault.ensures.known before is in (
      r.0,
      r.1,
      session_disk_fault g.O.SessionOwner.IsJudgement g.O.SessionOwner.forms c.args.batches.now
          (FaultRose (g.L.Link.faults c.args.link.now) (g.L.Link.faults c.do_session.new.link))
          (FaultRose (g.O.SessionOwner.faults c.args.owner.now) (g.O.SessionOwner.faults c.do_session.new.owner))
          (FaultRose (g.S.Sink.faults c.args.out.now) (g.S.Sink.faults c.write_output-in-Err-DiskFault.new.out))
          (g.O.SessionOwner.Keeps c.args.owner.now → g.O.SessionOwner.Keeps c.do_session.new.owner)
          (λ (e : g.O.SessionOwner.Entry). g.O.SessionOwner.Keeps c.args.owner.now → g.O.SessionOwner.KeepsWith c.do_session.new.owner e)
          (snapshot_of before (g.S.Sink.written c.args.out.now) (g.O.SessionOwner.state c.args.owner.now) (g.O.SessionOwner.entries c.args.owner.now))
          (snapshot_of r.0 (g.S.Sink.written c.do_session.new.out) (g.O.SessionOwner.state c.do_session.new.owner) (g.O.SessionOwner.entries c.do_session.new.owner))
          c.in-Err-DiskFault.field-0 (FaultRose (g.S.Sink.faults c.do_session.new.out) (g.S.Sink.faults c.write_output-in-Err-DiskFault.new.out)) c.write_output-in-Err-DiskFault.result (g.S.Sink.written c.write_output-in-Err-DiskFault.new.out) c.in-Err-DiskFault.field-0-is r.2
          (c.in-Err-DiskFault.ensures.faults.disk_cause (ap (λ (s : SessionStop). Err s) c.in-Err-DiskFault.field-0-is))
          (rose_later (g.S.Sink.faults c.args.out.now) (g.S.Sink.faults c.do_session.new.out) (g.S.Sink.faults c.write_output-in-Err-DiskFault.new.out) c.in-Err-DiskFault.ensures.faults.out_counts) c.write_output-in-Err-DiskFault.ensures.wrote,
    )

pub returns-in-Err-OutputFault-clause-known : goal.returns-in-Err-OutputFault-clause-known
returns-in-Err-OutputFault-clause-known g c =
    λ before is.
    let r = c.in-Err-OutputFault.ensures.known before is in (
      r.0,
      r.1,
      session_output_fault g.O.SessionOwner.IsJudgement g.O.SessionOwner.forms c.args.batches.now
          (FaultRose (g.L.Link.faults c.args.link.now) (g.L.Link.faults c.do_session.new.link))
          (FaultRose (g.O.SessionOwner.faults c.args.owner.now) (g.O.SessionOwner.faults c.do_session.new.owner))
          (FaultRose (g.S.Sink.faults c.args.out.now) (g.S.Sink.faults c.do_session.new.out))
          (g.O.SessionOwner.Keeps c.args.owner.now → g.O.SessionOwner.Keeps c.do_session.new.owner)
          (λ (e : g.O.SessionOwner.Entry). g.O.SessionOwner.Keeps c.args.owner.now → g.O.SessionOwner.KeepsWith c.do_session.new.owner e)
          (snapshot_of before (g.S.Sink.written c.args.out.now) (g.O.SessionOwner.state c.args.owner.now) (g.O.SessionOwner.entries c.args.owner.now))
          (snapshot_of r.0 (g.S.Sink.written c.do_session.new.out) (g.O.SessionOwner.state c.do_session.new.owner) (g.O.SessionOwner.entries c.do_session.new.owner))
          c.in-Err-OutputFault.field-0 c.in-Err-OutputFault.field-0-is r.2
          (c.in-Err-OutputFault.ensures.faults.out_cause (ap (λ (s : SessionStop). Err s) c.in-Err-OutputFault.field-0-is))
          (λ keeps. unless_disk c.in-Err-OutputFault.field-0 stop.OutputFault (g.O.SessionOwner.Keeps c.do_session.new.owner) c.in-Err-OutputFault.field-0-is (c.in-Err-OutputFault.ensures.keeps keeps)),
    )

pub returns-in-Err-Memory-clause-known : goal.returns-in-Err-Memory-clause-known
returns-in-Err-Memory-clause-known g c =
    λ before is.
    let r = c.in-Err-Memory.ensures.known before is in (
      r.0,
      r.1,
      session_wants g.O.SessionOwner.IsJudgement g.O.SessionOwner.forms c.args.batches.now
          (FaultRose (g.L.Link.faults c.args.link.now) (g.L.Link.faults c.do_session.new.link))
          (FaultRose (g.O.SessionOwner.faults c.args.owner.now) (g.O.SessionOwner.faults c.do_session.new.owner))
          (FaultRose (g.S.Sink.faults c.args.out.now) (g.S.Sink.faults c.do_session.new.out))
          (g.O.SessionOwner.Keeps c.args.owner.now → g.O.SessionOwner.Keeps c.do_session.new.owner)
          (λ (e : g.O.SessionOwner.Entry). g.O.SessionOwner.Keeps c.args.owner.now → g.O.SessionOwner.KeepsWith c.do_session.new.owner e)
          (snapshot_of before (g.S.Sink.written c.args.out.now) (g.O.SessionOwner.state c.args.owner.now) (g.O.SessionOwner.entries c.args.owner.now))
          (snapshot_of r.0 (g.S.Sink.written c.do_session.new.out) (g.O.SessionOwner.state c.do_session.new.owner) (g.O.SessionOwner.entries c.do_session.new.owner))
          c.in-Err-Memory.field-0 c.in-Err-Memory.field-0-is r.2
          (λ keeps. unless_disk c.in-Err-Memory.field-0 stop.Memory (g.O.SessionOwner.Keeps c.do_session.new.owner) c.in-Err-Memory.field-0-is (c.in-Err-Memory.ensures.keeps keeps)),
    )

pub returns-in-Ok-clause-done : goal.returns-in-Ok-clause-done
returns-in-Ok-clause-done g c =
    λ zero before is.
    let known = returns-in-Ok-clause-known g c before is in (
      known.0,
      known.1,
      session_done_at_0 g.O.SessionOwner.IsJudgement g.O.SessionOwner.forms c.args.batches.now
          (FaultRose (g.L.Link.faults c.args.link.now) (g.L.Link.faults c.do_session.new.link))
          (FaultRose (g.O.SessionOwner.faults c.args.owner.now) (g.O.SessionOwner.faults c.do_session.new.owner))
          (FaultRose (g.S.Sink.faults c.args.out.now) (g.S.Sink.faults c.do_session.new.out))
          (g.O.SessionOwner.Keeps c.args.owner.now → g.O.SessionOwner.Keeps c.do_session.new.owner)
          (λ (e : g.O.SessionOwner.Entry). g.O.SessionOwner.Keeps c.args.owner.now → g.O.SessionOwner.KeepsWith c.do_session.new.owner e)
          0 (snapshot_of before (g.S.Sink.written c.args.out.now) (g.O.SessionOwner.state c.args.owner.now) (g.O.SessionOwner.entries c.args.owner.now))
          (snapshot_of known.0 (g.S.Sink.written c.do_session.new.out) (g.O.SessionOwner.state c.do_session.new.owner) (g.O.SessionOwner.entries c.do_session.new.owner))
          zero known.2,
    )

pub returns-in-Err-Refused-clause-done : goal.returns-in-Err-Refused-clause-done
returns-in-Err-Refused-clause-done g c =
    λ zero before is.
    let known = returns-in-Err-Refused-clause-known g c before is in (
      known.0,
      known.1,
      session_done_at_0 g.O.SessionOwner.IsJudgement g.O.SessionOwner.forms c.args.batches.now
          (FaultRose (g.L.Link.faults c.args.link.now) (g.L.Link.faults c.do_session.new.link))
          (FaultRose (g.O.SessionOwner.faults c.args.owner.now) (g.O.SessionOwner.faults c.do_session.new.owner))
          (FaultRose (g.S.Sink.faults c.args.out.now) (g.S.Sink.faults c.write_output.new.out))
          (g.O.SessionOwner.Keeps c.args.owner.now → g.O.SessionOwner.Keeps c.do_session.new.owner)
          (λ (e : g.O.SessionOwner.Entry). g.O.SessionOwner.Keeps c.args.owner.now → g.O.SessionOwner.KeepsWith c.do_session.new.owner e)
          c.write_output.result (snapshot_of before (g.S.Sink.written c.args.out.now) (g.O.SessionOwner.state c.args.owner.now) (g.O.SessionOwner.entries c.args.owner.now))
          (snapshot_of known.0 (g.S.Sink.written c.write_output.new.out) (g.O.SessionOwner.state c.do_session.new.owner) (g.O.SessionOwner.entries c.do_session.new.owner))
          zero known.2,
    )

pub returns-in-Err-LinkFault-clause-done : goal.returns-in-Err-LinkFault-clause-done
returns-in-Err-LinkFault-clause-done g c =
    λ zero before is.
    let known = returns-in-Err-LinkFault-clause-known g c before is in (
      known.0,
      known.1,
      session_done_at_0 g.O.SessionOwner.IsJudgement g.O.SessionOwner.forms c.args.batches.now
          (FaultRose (g.L.Link.faults c.args.link.now) (g.L.Link.faults c.do_session.new.link))
          (FaultRose (g.O.SessionOwner.faults c.args.owner.now) (g.O.SessionOwner.faults c.do_session.new.owner))
          (FaultRose (g.S.Sink.faults c.args.out.now) (g.S.Sink.faults c.write_output-in-Err-LinkFault.new.out))
          (g.O.SessionOwner.Keeps c.args.owner.now → g.O.SessionOwner.Keeps c.do_session.new.owner)
          (λ (e : g.O.SessionOwner.Entry). g.O.SessionOwner.Keeps c.args.owner.now → g.O.SessionOwner.KeepsWith c.do_session.new.owner e)
          c.write_output-in-Err-LinkFault.result (snapshot_of before (g.S.Sink.written c.args.out.now) (g.O.SessionOwner.state c.args.owner.now) (g.O.SessionOwner.entries c.args.owner.now))
          (snapshot_of known.0 (g.S.Sink.written c.write_output-in-Err-LinkFault.new.out) (g.O.SessionOwner.state c.do_session.new.owner) (g.O.SessionOwner.entries c.do_session.new.owner))
          zero known.2,
    )

pub returns-in-Err-DiskFault-clause-done : goal.returns-in-Err-DiskFault-clause-done
returns-in-Err-DiskFault-clause-done g c =
    λ zero before is.
    let known = returns-in-Err-DiskFault-clause-known g c before is in (
      known.0,
      known.1,
      session_done_at_0 g.O.SessionOwner.IsJudgement g.O.SessionOwner.forms c.args.batches.now
          (FaultRose (g.L.Link.faults c.args.link.now) (g.L.Link.faults c.do_session.new.link))
          (FaultRose (g.O.SessionOwner.faults c.args.owner.now) (g.O.SessionOwner.faults c.do_session.new.owner))
          (FaultRose (g.S.Sink.faults c.args.out.now) (g.S.Sink.faults c.write_output-in-Err-DiskFault.new.out))
          (g.O.SessionOwner.Keeps c.args.owner.now → g.O.SessionOwner.Keeps c.do_session.new.owner)
          (λ (e : g.O.SessionOwner.Entry). g.O.SessionOwner.Keeps c.args.owner.now → g.O.SessionOwner.KeepsWith c.do_session.new.owner e)
          c.write_output-in-Err-DiskFault.result (snapshot_of before (g.S.Sink.written c.args.out.now) (g.O.SessionOwner.state c.args.owner.now) (g.O.SessionOwner.entries c.args.owner.now))
          (snapshot_of known.0 (g.S.Sink.written c.write_output-in-Err-DiskFault.new.out) (g.O.SessionOwner.state c.do_session.new.owner) (g.O.SessionOwner.entries c.do_session.new.owner))
          zero known.2,
    )

pub returns-in-Ok-clause-puts_requests : goal.returns-in-Ok-clause-puts_requests
returns-in-Ok-clause-puts_requests g c =
    λ before is.
    let known = returns-in-Ok-clause-known g c before is in
    (known.0, known.1, session_puts known.2)

pub returns-in-Err-Refused-clause-puts_requests : goal.returns-in-Err-Refused-clause-puts_requests
returns-in-Err-Refused-clause-puts_requests g c =
    λ before is.
    let known = returns-in-Err-Refused-clause-known g c before is in
    (known.0, known.1, session_puts known.2)

pub returns-in-Err-LinkFault-clause-puts_requests : goal.returns-in-Err-LinkFault-clause-puts_requests
returns-in-Err-LinkFault-clause-puts_requests g c =
    λ before is.
    let known = returns-in-Err-LinkFault-clause-known g c before is in
    (known.0, known.1, session_puts known.2)

pub returns-in-Err-DiskFault-clause-puts_requests : goal.returns-in-Err-DiskFault-clause-puts_requests
returns-in-Err-DiskFault-clause-puts_requests g c =
    λ before is.
    let known = returns-in-Err-DiskFault-clause-known g c before is in
    (known.0, known.1, session_puts known.2)

pub returns-in-Err-OutputFault-clause-puts_requests : goal.returns-in-Err-OutputFault-clause-puts_requests
returns-in-Err-OutputFault-clause-puts_requests g c =
    λ before is.
    let known = returns-in-Err-OutputFault-clause-known g c before is in
    (known.0, known.1, session_puts known.2)

pub returns-in-Err-Memory-clause-puts_requests : goal.returns-in-Err-Memory-clause-puts_requests
returns-in-Err-Memory-clause-puts_requests g c =
    λ before is.
    let known = returns-in-Err-Memory-clause-known g c before is in
    (known.0, known.1, session_puts known.2)
