use Rattle.vo_commands.specs.Expected.{Replies}
use Rattle.vo_commands.proofs.CommandSteps.{of_query}
use Rattle.vo_commands.proofs.answer.answer_query.Goals as goal

pub returns-clause-known : goal.returns-clause-known
returns-clause-known c =
    of_query c.args.query.now _ (λ q. Replies c.args.key c.args.journal.now c.args.at q) _ c.in_ok-query.ensures c.reply_report-report.ensures.known
