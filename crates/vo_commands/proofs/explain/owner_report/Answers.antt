use Rattle.vo_commands.proofs.OwnerAudits.{own_lacked, own_signed, own_told, as_to_anybody}
use Rattle.vo_commands.proofs.explain.owner_report.Goals as goal
use Rattle.vo_commands.proofs.explain.owner_report.Goals.{in-Some+in_ok-forgery_report-in-Some, in-None}

pub forgery_report-requires-clause-valid : goal.forgery_report-requires-clause-valid
forgery_report-requires-clause-valid c =
    (own_signed _ _ _ _ _ _ c.public.ensures.value c.audit-verdict.ensures.verdict _ _ _ c.in-Some.ensures.some).valid

pub forgery_report-requires-clause-leaf : goal.forgery_report-requires-clause-leaf
forgery_report-requires-clause-leaf c =
    (own_signed _ _ _ _ _ _ c.public.ensures.value c.audit-verdict.ensures.verdict _ _ _ c.in-Some.ensures.some).leaf

pub forgery_report-requires-clause-absent : goal.forgery_report-requires-clause-absent
forgery_report-requires-clause-absent c =
    own_lacked _ _ _ _ _ _ c.public.ensures.value c.audit-verdict.ensures.verdict _ _ _ c.in-Some.ensures.some

pub returns-clause-known : goal.returns-clause-known
returns-clause-known c =
    elim c.match-unsigned_in.branch [
      | in-Some+in_ok-forgery_report-in-Some w ↦
          rw w.report-is (own_told _ _ _ _ _ _ c.public.ensures.value c.audit-verdict.ensures.verdict _ _ _ w.in_ok-forgery_report-in-Some.field-0 w.in-Some.ensures.some
          w.in_ok-forgery_report-in-Some.ensures)
      | in-None w ↦
          rw w.report-is (as_to_anybody _ _ _ _ _ _ c.public.ensures.value c.audit-verdict.ensures.verdict _
          (w.in-None.ensures.none c.args.secret.now c.args.journal.now) w.report_of-report.ensures.known)
    ]
