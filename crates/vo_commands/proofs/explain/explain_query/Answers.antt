use Rattle.cli_args.specs.Shapes.{plain_shape}
use Rattle.vo_commands.specs.Expected.{Explains, with_same_key, reply_limit, with_file, with_seed}
use Rattle.vo_commands.proofs.CommandSteps.{query_known}
use Rattle.vo_commands.proofs.TakingSteps.{takes_query}
use Rattle.vo_commands.proofs.explain.explain_query.Goals as goal

pub returns-clause-known : goal.returns-clause-known
returns-clause-known g c =
    query_known c.args.audit.now.query.now _ (λ known q. with_file known c.args.audit.now.reply.now reply_limit
    (λ bytes. with_seed known c.args.audit.now.seed.now (plain_shape c.args.audit.now.shape) (with_same_key c.args.key.now (λ s. Explains s c.args.journal.now q bytes)))) _ _
    c.in_ok-query.ensures c.explain_files-report.ensures.known

pub returns-clause-files : goal.returns-clause-files
returns-clause-files g c =
    takes_query c.args.audit.now.query.now _ (λ known q. with_file known c.args.audit.now.reply.now reply_limit
    (λ bytes. with_seed known c.args.audit.now.seed.now (plain_shape c.args.audit.now.shape) (with_same_key c.args.key.now (λ s. Explains s c.args.journal.now q bytes)))) _ _ _
    c.in_ok-query.ensures c.explain_files-report.ensures.files
