use Rattle.std.proofs.Common.{inl, inr}
use Rattle.vo_commands.specs.Expected.{Checks}
use Rattle.vo_commands.proofs.CommandSteps.{no_answer}
use Rattle.vo_commands.proofs.check.client_report.Goals as goal

pub returns-clause-known : goal.returns-clause-known
returns-clause-known c =
    λ key least q reply told. c.report_of-report.ensures.known (Checks key c.args.at least q reply) (λ output is. elim told [
      | inl e ↦ absurd (no_answer c.args.at _ output e is)
      | inr check ↦ (_, check, is)
    ])
