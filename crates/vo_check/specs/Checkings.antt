-- The check of a reply whose bytes come in pieces: how far it is, and what it stands for.
use Rattle.std.specs.Prelude.{◌≡◌, ℕ, ◌+◌, ◌≤◌, ◌<◌, Bool, true, false, List, [], ◌++◌, length, Some, None}
use Rattle.row_bytes.specs.Fields.{whole}
use Rattle.vo_spec.specs.declared.queries.QueryText.{QueryText}
use Rattle.vo_spec.specs.Conditions.{Query}
use Rattle.vo_spec.specs.Replies.{max_reply}
use Rattle.reply_stream.specs.declared.trees_stream.TreesStream.{TreesStream}
use Rattle.reply_stream.specs.Heads.{head_at}
use Rattle.reply_stream.specs.HeadStreams.{head_of, IsBehind}
use Rattle.reply_stream.specs.ReplyHeads.{ReplyHead, head_size}
use Rattle.reply_stream.specs.ReplyTrees.{trees_at, HasNeededByte, HasNeededEntries}
use Rattle.reply_stream.specs.TreesStreams.{trees_summary_of, IsBehind as IsBehindHead}
use Rattle.tree_stream.specs.Tokens.{max_token}
use Rattle.vo_check.specs.declared.progress.Progress.{Progress}
use Rattle.vo_check.specs.declared.progress.Progress.TheVariants.{Head, Trees, Buffered, TooLong, OutOfMemory}
use Rattle.vo_check.specs.Streaming.{IsStreamed, IsBuffered}
use Rattle.vo_check.specs.Streamed.{plan_for}

-- a query, the bytes of its reply that came, and whether one of the pieces found no memory
pub record CheckingModel : Type 0 where
  pub query : QueryText
  pub bytes : List ℕ
  pub is_out_of_memory : Bool

abbrev pub no_bytes_of : QueryText → CheckingModel
no_bytes_of q = record { query = q; bytes = []; is_out_of_memory = false }

abbrev pub with_piece : CheckingModel → List ℕ → CheckingModel
with_piece c piece = record {
  query = c.query;
  bytes = c.bytes ++ piece;
  is_out_of_memory = c.is_out_of_memory;
}

-- the same where the piece found no memory
abbrev pub without_memory : CheckingModel → List ℕ → CheckingModel
without_memory c piece =
    record { query = c.query; bytes = c.bytes ++ piece; is_out_of_memory = true }

abbrev pub is_out_of_memory : Progress → Bool
is_out_of_memory OutOfMemory = true
is_out_of_memory _ = false

-- what comes before the trees isn't whole
abbrev pub is_of_head : Progress → Bool
is_of_head (Head stream) = true
is_of_head _ = false

-- The bytes are a head and what came behind it, and the trees so far are that; the first of them is
-- read for what the query needs.
pub record ReadsTrees (q : Query) (head : ReplyHead) (trees : TreesStream) (bytes : List ℕ)
    : Type 0 where
  pub behind : List ℕ
  pub head_is : (more : List ℕ) → head_at (bytes ++ more) ≡ Some (head, behind ++ more)
  pub trees_are : (more : List ℕ)
      → trees_summary_of trees more ≡ whole (trees_at (plan_for q head) (behind ++ more))
  pub trees_behind : IsBehindHead (plan_for q head) trees behind

-- the check of a reply to this query is so far behind these bytes
abbrev pub StandsBehind : Query → Progress → List ℕ → Type 0
StandsBehind q (Head stream) bytes = IsStreamed q × (head_of stream [] ≡ None)
    × ((more : List ℕ) → head_of stream more ≡ head_at (bytes ++ more)) × IsBehind stream bytes
StandsBehind q (Trees reply) bytes =
    IsStreamed q × ReadsTrees q reply.head reply.trees bytes
StandsBehind q (Buffered held) bytes = IsBuffered q × (held.items ≡ bytes)
StandsBehind q TooLong bytes = max_reply < length bytes
StandsBehind q OutOfMemory bytes = Unit {0}

-- of a reply over the limit nothing is held
abbrev pub StaysWithin : Progress → List ℕ → Type 0
StaysWithin TooLong bytes = Unit {0}
StaysWithin OutOfMemory bytes = Unit {0}
StaysWithin _ bytes = length bytes ≤ max_reply

-- the trees are read as they come only where the query is streamed
abbrev pub SuitsQuery : Query → Progress → Type 0
SuitsQuery q (Trees reply) = IsStreamed q
SuitsQuery q _ = Unit {0}

-- What a call may want memory for that begins behind the catalog's last byte.

abbrev pub HasHead : List ℕ → Type 0
HasHead bytes = (head : ReplyHead) × (behind : List ℕ) × (head_at bytes ≡ Some (head, behind))

-- The bytes have a head in front; so many bytes, and no more, are the head's, those of entries of
-- the first tree whose keys are in the interval that the query needs, as far as they came, and those
-- of a token.
pub record HoldsNeeded (q : Query) (bytes : List ℕ) (count : ℕ) : Type 0 where
  pub head : ReplyHead
  pub behind : List ℕ
  pub needed : ℕ
  pub head_is : head_at bytes ≡ Some (head, behind)
  pub has_needed : HasNeededEntries (plan_for q head).interval behind needed
  pub within : count ≤ head_size head + needed + max_token

-- some byte of the piece is of a row of the first tree whose key is in the interval that the query
-- needs
pub record WantsRow (q : Query) (bytes piece : List ℕ) : Type 0 where
  pub head : ReplyHead
  pub behind : List ℕ
  pub head_is : head_at bytes ≡ Some (head, behind)
  pub needed : HasNeededByte (plan_for q head).interval behind piece
