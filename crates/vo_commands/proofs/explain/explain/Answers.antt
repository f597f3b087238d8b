use Rattle.std.proofs.Common.{ℕ, List}
use Rattle.outside.specs.Shelf.{Files}
use Rattle.cli_args.specs.Shapes.{plain_shape}
use Rattle.vo_commands.specs.Expected.{Explains, OfQuery, explain_expected, with_same_key, journal_limit, key_limit, reply_limit, with_file, with_key, with_seed}
use Rattle.vo_commands.proofs.CommandSteps.{key_and_journal_known}
use Rattle.vo_commands.proofs.TakingSteps.{lacks_behind, lacks_it, takes_more}
use Rattle.vo_commands.proofs.explain.explain.Goals as goal

pub returns-clause-known : goal.returns-clause-known
returns-clause-known g c =
    key_and_journal_known c.args.audit.now.key.now c.args.audit.now.journal.now _ _
    (λ known k j. OfQuery c.args.audit.now.query.now (λ q. with_file known c.args.audit.now.reply.now reply_limit
    (λ r. with_seed known c.args.audit.now.seed.now (plain_shape c.args.audit.now.shape) (with_same_key k (λ s. Explains s j q r))))) _ _ _ _
    c.in_ok-key.ensures.files.leaves.kept c.in_ok-journal.ensures.files.leaves.kept c.in_ok-key.ensures.known c.in_ok-journal.ensures.known
    (rw c.deref.ensures.value at c.explain_query.ensures.known)

pub returns-clause-files : goal.returns-clause-files
returns-clause-files g c =
    let audit = c.args.audit.now in
    let rest = λ (known : Files) (k j : List ℕ). OfQuery audit.query.now (λ q. with_file known audit.reply.now reply_limit
    (λ r. with_seed known audit.seed.now (plain_shape audit.shape) (with_same_key k (λ s. Explains s j q r)))) in
    takes_more audit.key.now (explain_expected audit.key.now audit.journal.now audit.query.now audit.reply.now audit.seed.now (plain_shape audit.shape))
    (λ known. with_file known audit.journal.now journal_limit (rest known c.in_ok-key.key)) _ _ _ _ _ (λ e. e)
    (λ known none. lacks_it (known audit.key.now) audit.key.now key_limit _ none)
    (lacks_behind (λ known. with_key known audit.key.now) c.in_ok-key.key (λ known k. with_file known audit.journal.now journal_limit (rest known k)) _ c.in_ok-key.ensures.known)
    c.in_ok-key.ensures.files
    (takes_more audit.journal.now (λ known. with_file known audit.journal.now journal_limit (rest known c.in_ok-key.key)) (λ known. rest known c.in_ok-key.key c.in_ok-journal.journal.items) _ _ _ _ _ (λ e. e)
    (λ known none. lacks_it (known audit.journal.now) audit.journal.now journal_limit _ none)
    (lacks_behind (λ known. with_file known audit.journal.now journal_limit) c.in_ok-journal.journal.items (λ known. rest known c.in_ok-key.key) _ c.in_ok-journal.ensures.known)
    c.in_ok-journal.ensures.files (rw c.deref.ensures.value at c.explain_query.ensures.files))
