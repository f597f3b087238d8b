-- What comes of a stream of a head and of the bytes to come: those of a field that isn't whole are
-- not taken yet.
use Rattle.std.specs.Prelude.{◌≡◌, ◌⊎◌, ℕ, ◌+◌, List, length, ◌++◌, Some, None}
use Rattle.batch_format.specs.BatchReading.{Reader}
use Rattle.reply_stream.specs.ReplyHeads.{ReplyHead}
use Rattle.reply_stream.specs.declared.head_stream.HeadStream.{HeadStream}
use Rattle.reply_stream.specs.Heads.{rest_of_head}
use Rattle.reply_stream.specs.HeadFields.{taken_count}
use Rattle.reply_stream.specs.HeadFronts.{IsBehindBytes}

unfoldable pub head_of : HeadStream → Reader ReplyHead
head_of stream bytes = rest_of_head stream.state (stream.held.items ++ bytes)

-- how many bytes are held: of fields that were taken, and of one that isn't whole
abbrev pub held_in : HeadStream → ℕ
held_in stream = taken_count stream.state + length stream.held.items

-- the stream took these bytes
abbrev pub IsBehind : HeadStream → List ℕ → Type 0
IsBehind stream bytes = IsBehindBytes stream.state stream.held.items bytes

-- it takes no more bytes: they come behind the head, or the bytes before them are no head
abbrev pub IsSettled : HeadStream → Type 0
IsSettled stream =
    ((more : List ℕ) → head_of stream more ≡ None)
    ⊎ ((found : ReplyHead) × ((more : List ℕ) → head_of stream more ≡ Some (found, more)))
