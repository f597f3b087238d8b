use Rattle.std.proofs.Common.{ℕ, List, None}
use Rattle.outside.specs.Shelf.{Files}
use Rattle.vo_spec.specs.Conditions.{Query}
use Rattle.vo_commands.specs.Expected.{Checks, OfQuery, check_expected, key_limit, reply_limit, with_file, with_key}
use Rattle.vo_commands.proofs.CommandSteps.{key_and_query_known}
use Rattle.vo_commands.proofs.TakingSteps.{lacks_behind, lacks_it, lacks_query, takes_first, takes_more}
use Rattle.vo_commands.proofs.check.check.Goals as goal

pub returns-clause-known : goal.returns-clause-known
returns-clause-known g c =
    key_and_query_known c.args.key.now c.args.query.now _ _ c.in_ok-query.ensures (λ known x q. with_file known c.args.reply.now reply_limit (λ z. Checks x None c.args.least q z)) _ _ _
    c.in_ok-key.ensures.files.leaves.kept c.in_ok-key.ensures.known c.check_file-report.ensures.known

pub returns-clause-files : goal.returns-clause-files
returns-clause-files g c =
    let rest = λ (known : Files) (k : List ℕ) (q : Query). with_file known c.args.reply.now reply_limit (λ z. Checks k None c.args.least q z) in
    takes_more c.args.key.now (check_expected c.args.key.now c.args.query.now c.args.reply.now c.args.least) (λ known. rest known c.in_ok-key.key _) _ _ _ _ _ (λ e. e)
    (λ known none. lacks_it (known c.args.key.now) c.args.key.now key_limit _ none)
    (lacks_query c.args.query.now _ (λ known q. rest known c.in_ok-key.key q) _ _ c.in_ok-query.ensures
    (lacks_behind (λ known. with_key known c.args.key.now) c.in_ok-key.key (λ known k. OfQuery c.args.query.now (λ q. rest known k q)) _ c.in_ok-key.ensures.known))
    c.in_ok-key.ensures.files
    (takes_first c.args.reply.now _ _ _ _ _ (λ e. e) (λ e. e) (λ known none. lacks_it (known c.args.reply.now) c.args.reply.now reply_limit _ none) c.check_file-report.ensures.files)
