use Rattle.std.proofs.Common.{ℕ, List}
use Rattle.outside.specs.Shelf.{Files}
use Rattle.vo_commands.specs.Expected.{Audits, OfQuery, audit_expected, journal_limit, key_limit, reply_limit, with_file, with_key}
use Rattle.vo_commands.proofs.CommandSteps.{key_and_journal_known}
use Rattle.vo_commands.proofs.TakingSteps.{lacks_behind, lacks_it, takes_more}
use Rattle.vo_commands.proofs.audit.audit.Goals as goal

pub returns-clause-known : goal.returns-clause-known
returns-clause-known g c =
    key_and_journal_known c.args.key.now c.args.journal.now _ _
    (λ known k j. OfQuery c.args.query.now (λ q. with_file known c.args.reply.now reply_limit (λ r. Audits k j q r))) _ _ _ _
    c.in_ok-key.ensures.files.leaves.kept c.in_ok-journal.ensures.files.leaves.kept c.in_ok-key.ensures.known c.in_ok-journal.ensures.known
    (rw c.deref.ensures.value at c.audit_query.ensures.known)

pub returns-clause-files : goal.returns-clause-files
returns-clause-files g c =
    let rest = λ (known : Files) (k j : List ℕ). OfQuery c.args.query.now (λ q. with_file known c.args.reply.now reply_limit (λ r. Audits k j q r)) in
    takes_more c.args.key.now (audit_expected c.args.key.now c.args.journal.now c.args.query.now c.args.reply.now)
    (λ known. with_file known c.args.journal.now journal_limit (rest known c.in_ok-key.key)) _ _ _ _ _ (λ e. e)
    (λ known none. lacks_it (known c.args.key.now) c.args.key.now key_limit _ none)
    (lacks_behind (λ known. with_key known c.args.key.now) c.in_ok-key.key (λ known k. with_file known c.args.journal.now journal_limit (rest known k)) _ c.in_ok-key.ensures.known)
    c.in_ok-key.ensures.files
    (takes_more c.args.journal.now (λ known. with_file known c.args.journal.now journal_limit (rest known c.in_ok-key.key)) (λ known. rest known c.in_ok-key.key c.in_ok-journal.journal.items) _ _ _ _ _ (λ e. e)
    (λ known none. lacks_it (known c.args.journal.now) c.args.journal.now journal_limit _ none)
    (lacks_behind (λ known. with_file known c.args.journal.now journal_limit) c.in_ok-journal.journal.items (λ known. rest known c.in_ok-key.key) _ c.in_ok-journal.ensures.known)
    c.in_ok-journal.ensures.files (rw c.deref.ensures.value at c.audit_query.ensures.files))
