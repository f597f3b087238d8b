-- What reading a reply within its limit answers.
use Rattle.std.specs.Prelude.{◌≡◌, ◌≤◌, ◌⊎◌, ℕ, List, length, Result, Ok, Err}
use Rattle.vo_spec.specs.declared.checks.CheckFault.{CheckFault}
use Rattle.vo_spec.specs.declared.checks.CheckFault.TheVariants.{Memory}
use Rattle.vo_spec.specs.Conditions.{Query}
use Rattle.vo_spec.specs.Replies.{IsReply, max_reply}
use Rattle.vo_spec.specs.Checks.{CheckOf}
use Rattle.vo_format.specs.declared.reply.Reply.{Reply}
use Rattle.vo_format.specs.View.{reply_of}

-- the bytes are this reply, within the limit; or any client refuses them so, unless memory ran out
abbrev pub ReadsReply : List ℕ → Result Reply CheckFault → Type 0
ReadsReply bytes (Ok reply) = (length bytes ≤ max_reply) × IsReply bytes (reply_of reply)
ReadsReply bytes (Err fault) = (fault ≡ Memory)
    ⊎ ((key : List ℕ) (least : ℕ) (q : Query) → CheckOf key least q bytes (Err fault))
