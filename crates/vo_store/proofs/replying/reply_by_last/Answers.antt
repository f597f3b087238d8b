use Rattle.std.proofs.Common.{◌≡◌, ℕ, ◌+◌, ◌-◌, Some, subst, take}
use Rattle.vo_spec.specs.Conditions.{query_of}
use Rattle.vo_spec.specs.Replies.{Reply, reply_bytes}
use Rattle.vo_spec.specs.Honest.{reply_of}
use Rattle.vo_store.specs.Calls.{within_limit}
use Rattle.vo_store.specs.Replying.{Replies}
use Rattle.vo_store.proofs.JournalReplies.{all_of}
use Rattle.vo_store.proofs.replying.reply_by_last.Goals as goal

pub returns : goal.returns
returns c =
    let q = query_of c.args.query.now in
    let es = c.args.read.now.entries in
    all_of q es c.reply_by_entry.result c.requires.some
    (subst (λ (n : ℕ). (r : Reply) → reply_of q (take (n - 1 + 1) es) ≡ Some r → Replies c.reply_by_entry.result (within_limit (reply_bytes r))) c.len.ensures c.reply_by_entry.ensures)
