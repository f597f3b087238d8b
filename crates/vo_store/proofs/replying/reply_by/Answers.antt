use Rattle.std.proofs.Common.{arith}
use Rattle.vo_spec.specs.Conditions.{query_of}
use Rattle.vo_store.proofs.JournalReplies.{always_kept, entries_fit, entries_magic, entries_some, large_told, never_bad, reply_told}
use Rattle.vo_store.proofs.replying.reply_by.Goals as goal

pub reply_by_last-requires-clause-fit : goal.reply_by_last-requires-clause-fit
reply_by_last-requires-clause-fit c = entries_fit c.args.key c.args.journal.now c.in-Ok.read.entries c.in-Ok.ensures.taken

pub reply_by_last-requires-clause-magic : goal.reply_by_last-requires-clause-magic
reply_by_last-requires-clause-magic c = entries_magic c.args.key c.args.journal.now c.in-Ok.read.entries c.in-Ok.ensures.taken

pub reply_by_last-requires-clause-some : goal.reply_by_last-requires-clause-some
reply_by_last-requires-clause-some c = entries_some c.args.key c.args.journal.now c.in-Ok.read.entries c.in-Ok.ensures.taken

pub reply_by_last-requires-clause-there : goal.reply_by_last-requires-clause-there
reply_by_last-requires-clause-there c = c.in-Ok.ensures.there (omega (arith, entries_some c.args.key c.args.journal.now c.in-Ok.read.entries c.in-Ok.ensures.taken))

pub returns-in-Ok-clause-replies : goal.returns-in-Ok-clause-replies
returns-in-Ok-clause-replies c =
    reply_told c.args.key c.args.journal.now c.in-Ok.read.entries c.in-Ok.ensures.taken (query_of c.args.query.now) c.reply_by_last.result c.reply_by_last.ensures

pub returns-in-Ok-clause-bad : goal.returns-in-Ok-clause-bad
returns-in-Ok-clause-bad c = λ index e.
    absurd (never_bad c.args.key c.args.journal.now c.in-Ok.read.entries c.in-Ok.ensures.taken (query_of c.args.query.now) c.reply_by_last.result c.reply_by_last.ensures index e)

pub returns-in-Ok-clause-large : goal.returns-in-Ok-clause-large
returns-in-Ok-clause-large c =
    large_told c.args.key c.args.journal.now c.in-Ok.read.entries c.in-Ok.ensures.taken (query_of c.args.query.now) c.reply_by_last.result c.reply_by_last.ensures

pub returns-in-Ok-clause-kept : goal.returns-in-Ok-clause-kept
returns-in-Ok-clause-kept c =
    always_kept c.args.key c.args.journal.now c.in-Ok.read.entries c.in-Ok.ensures.taken (query_of c.args.query.now) c.reply_by_last.result c.reply_by_last.ensures
