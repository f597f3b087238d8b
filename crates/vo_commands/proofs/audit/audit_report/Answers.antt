use Rattle.std.proofs.Common.{inl, inr}
use Rattle.vo_spec.specs.Conditions.{query_of}
use Rattle.vo_commands.specs.Expected.{Audits}
use Rattle.vo_commands.proofs.OwnerAudits.{no_output}
use Rattle.vo_commands.proofs.audit.audit_report.Goals as goal

pub returns-clause-known : goal.returns-clause-known
returns-clause-known c =
    let audits = Audits c.args.key.now c.args.journal.now (query_of c.args.query.now) c.args.reply.now in
    c.report_of-report.ensures.known audits (λ output is. elim c.audit-verdict.ensures.verdict [
      | inl e ↦ absurd (no_output _ output e is)
      | inr told ↦ (_, told, is)
    ])
