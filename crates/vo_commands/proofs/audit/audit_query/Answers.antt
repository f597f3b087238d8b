use Rattle.vo_commands.specs.Expected.{with_file, reply_limit, Audits}
use Rattle.vo_commands.proofs.CommandSteps.{query_known}
use Rattle.vo_commands.proofs.TakingSteps.{lacks_it, takes_first}
use Rattle.vo_commands.proofs.audit.audit_query.Goals as goal

pub returns-clause-known : goal.returns-clause-known
returns-clause-known g c =
    query_known c.args.query.now _ (λ known q. with_file known c.args.reply.now reply_limit (λ bytes. Audits c.args.key.now c.args.journal.now q bytes)) _ _
    c.in_ok-query.ensures c.audit_file-report.ensures.known

pub returns-clause-files : goal.returns-clause-files
returns-clause-files g c =
    takes_first c.args.reply.now _ _ _ _ _ (λ e. e) (λ e. e)
    (λ known none. (_, c.in_ok-query.ensures, lacks_it (known c.args.reply.now) c.args.reply.now reply_limit _ none)) c.audit_file-report.ensures.files
