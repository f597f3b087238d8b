use Rattle.vo_spec.specs.Conditions.{query_of}
use Rattle.vo_store.proofs.JournalReplies.{entries_fit, entries_magic, entries_some, large_told_at, never_bad_at, reply_told_at}
use Rattle.vo_store.proofs.replying.reply_at.Goals as goal

pub reply_by_kept-requires-clause-fit : goal.reply_by_kept-requires-clause-fit
reply_by_kept-requires-clause-fit c = entries_fit c.args.key c.args.journal.now c.in-Ok.read.entries c.in-Ok.ensures.taken

pub reply_by_kept-requires-clause-magic : goal.reply_by_kept-requires-clause-magic
reply_by_kept-requires-clause-magic c = entries_magic c.args.key c.args.journal.now c.in-Ok.read.entries c.in-Ok.ensures.taken

pub reply_by_kept-requires-clause-some : goal.reply_by_kept-requires-clause-some
reply_by_kept-requires-clause-some c = entries_some c.args.key c.args.journal.now c.in-Ok.read.entries c.in-Ok.ensures.taken

pub returns-in-Ok-clause-replies : goal.returns-in-Ok-clause-replies
returns-in-Ok-clause-replies c =
    reply_told_at c.args.key c.args.journal.now c.in-Ok.read.entries c.in-Ok.ensures.taken (query_of c.args.query.now) c.args.version c.reply_by_kept.result c.reply_by_kept.ensures

pub returns-in-Ok-clause-bad : goal.returns-in-Ok-clause-bad
returns-in-Ok-clause-bad c = λ index e.
    absurd (never_bad_at c.args.key c.args.journal.now c.in-Ok.read.entries c.in-Ok.ensures.taken (query_of c.args.query.now) c.args.version c.reply_by_kept.result c.reply_by_kept.ensures index e)

pub returns-in-Ok-clause-large : goal.returns-in-Ok-clause-large
returns-in-Ok-clause-large c =
    large_told_at c.args.key c.args.journal.now c.in-Ok.read.entries c.in-Ok.ensures.taken (query_of c.args.query.now) c.args.version c.reply_by_kept.result c.reply_by_kept.ensures
