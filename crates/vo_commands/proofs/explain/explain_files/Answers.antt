use Rattle.std.proofs.Common.{ℕ, List}
use Rattle.std.proofs.lemmas.Result.{err_from_is_err_and}
use Rattle.outside.specs.Shelf.{Files}
use Rattle.vo_spec.specs.Conditions.{query_of}
use Rattle.cli_args.specs.Shapes.{plain_shape}
use Rattle.vo_commands.specs.Expected.{Explains, with_same_key, reply_limit, seed_limit, with_file, with_seed}
use Rattle.vo_commands.proofs.CommandSteps.{reply_and_seed_known}
use Rattle.vo_commands.proofs.TakingSteps.{lacks_behind, lacks_it, takes_first, takes_more}
use Rattle.vo_commands.proofs.explain.explain_files.Goals as goal

pub returns-clause-known : goal.returns-clause-known
returns-clause-known g c =
    reply_and_seed_known c.args.audit.now.reply.now c.args.audit.now.seed.now (plain_shape c.args.audit.now.shape) _ _
    (λ bytes. with_same_key c.args.key.now (λ s. Explains s c.args.journal.now (query_of c.args.query.now) bytes)) _ _ _
    c.in_ok-reply.ensures.files.leaves.kept c.in_ok-reply.ensures.known c.in_ok-secret.ensures.known
    (rw c.deref.ensures.value at c.explain_reply.ensures.known)

pub returns-clause-files : goal.returns-clause-files
returns-clause-files g c =
    let audit = c.args.audit.now in
    let rest = λ (known : Files) (bytes : List ℕ). with_seed known audit.seed.now (plain_shape audit.shape) (with_same_key c.args.key.now (λ s. Explains s c.args.journal.now (query_of c.args.query.now) bytes)) in
    takes_more audit.reply.now (λ known. with_file known audit.reply.now reply_limit (rest known)) (λ known. rest known c.in_ok-reply.reply.items) _ _ _ _ _ (λ e. e)
    (λ known none. lacks_it (known audit.reply.now) audit.reply.now reply_limit _ none)
    (lacks_behind (λ known. with_file known audit.reply.now reply_limit) c.in_ok-reply.reply.items rest _ c.in_ok-reply.ensures.known)
    c.in_ok-reply.ensures.files
    (takes_first audit.seed.now _ _ _ _ _ (λ e. absurd (c.explain_reply.ensures.inside e)) (λ e. absurd e) (λ known none. lacks_it (known audit.seed.now) audit.seed.now seed_limit _ none)
    c.in_ok-secret.ensures.files)

pub returns-in_err-secret-clause-files : goal.returns-in_err-secret-clause-files
returns-in_err-secret-clause-files g c =
    let audit = c.args.audit.now in
    let rest = λ (known : Files) (bytes : List ℕ). with_seed known audit.seed.now (plain_shape audit.shape) (with_same_key c.args.key.now (λ s. Explains s c.args.journal.now (query_of c.args.query.now) bytes)) in
    let p = err_from_is_err_and c.from_residual-in_err-secret.result c.from_residual-in_err-secret.ensures.1 in
    rw (p.1, p.2) (takes_more audit.reply.now (λ known. with_file known audit.reply.now reply_limit (rest known)) (λ known. rest known c.in_ok-reply.reply.items) _ _ _ _ _ (λ e. e)
    (λ known none. lacks_it (known audit.reply.now) audit.reply.now reply_limit _ none)
    (lacks_behind (λ known. with_file known audit.reply.now reply_limit) c.in_ok-reply.reply.items rest _ c.in_ok-reply.ensures.known)
    c.in_ok-reply.ensures.files
    (takes_first audit.seed.now _ _ _ _ _ (λ e. e) (λ e. e) (λ known none. lacks_it (known audit.seed.now) audit.seed.now seed_limit _ none)
    c.in_err-secret.ensures.files))
