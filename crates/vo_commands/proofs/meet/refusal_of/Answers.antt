use Rattle.std.proofs.Common.{Err, ap, ◌∙◌}
use Rattle.vo_commands.specs.Lines.{meet_output}
use Rattle.vo_commands.proofs.meet.refusal_of.Goals as goal

pub returns-in-First-clause-known : goal.returns-in-First-clause-known
returns-in-First-clause-known c =
    λ expected allowed. c.reply_refusal.ensures.known expected (λ output e. allowed output (ap (λ why. meet_output (Err why)) c.in-First.is ∙ e))

pub returns-in-Second-clause-known : goal.returns-in-Second-clause-known
returns-in-Second-clause-known c =
    λ expected allowed. c.reply_refusal-in-Second.ensures.known expected (λ output e. allowed output (ap (λ why. meet_output (Err why)) c.in-Second.is ∙ e))
