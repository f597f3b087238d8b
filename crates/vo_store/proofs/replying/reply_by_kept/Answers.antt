use Rattle.std.proofs.Common.{arith}
use Rattle.vo_spec.specs.Conditions.{query_of}
use Rattle.vo_store.proofs.JournalReplies.{at_version}
use Rattle.vo_store.proofs.replying.reply_by_kept.Goals as goal

pub returns : goal.returns
returns c =
    at_version (query_of c.args.query.now) c.args.read.now.entries c.args.version c.reply_by_entry.result c.requires.some (
      omega (arith, c.len.ensures, c.oldest_version-oldest.ensures, c.if-version-oldest.false),
      omega (arith, c.len.ensures, c.if-newest-version.false),
    )
    c.reply_by_entry.ensures
