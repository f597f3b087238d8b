-- What reading a reply gives, part by part: its head, and its trees for what is made of the head.
use Rattle.std.specs.Prelude.{ℕ, List, Option, Some}
use Rattle.vo_spec.specs.Replies.{Reply}
use Rattle.row_bytes.specs.Fields.{◌>>=◌, whole}
use Rattle.tree_stream.specs.declared.target.Target.{Target}
use Rattle.reply_stream.specs.ReplyHeads.{ReplyHead}
use Rattle.reply_stream.specs.declared.trees_summary.TreesSummary.{TreesSummary}
use Rattle.reply_stream.specs.Heads.{head, head_at}
use Rattle.reply_stream.specs.ReplyTrees.{trees_summary, trees_at}

abbrev pub Parts : Type 0
Parts = ReplyHead × TreesSummary

-- the first tree is read for the target that is planned by the head
unfoldable pub reply_parts : (ReplyHead → Target) → List ℕ → Option Parts
reply_parts plan bytes = head_at bytes >>= λ head.
    whole (trees_at (plan head.0) head.1) >>= λ trees. Some (head.0, trees)

abbrev pub head_in : Reply → ReplyHead
head_in r = head r.rec r.signature r.catalog

abbrev pub parts_of : (ReplyHead → Target) → Reply → Parts
parts_of plan r = (head_in r, trees_summary (plan (head_in r)) r.trees)
