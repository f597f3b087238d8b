-- Frames: their kinds and bytes, and which frame comes first on a connection.
use Rattle.std.specs.Prelude.{ℕ, ◌+◌, ◌-◌, ◌==◌, Bool, true, false, ◌&&◌, ◌||◌, nat_lt, nat_le, if◌then◌else◌, List, ◌∷◌, ◌++◌, length, take, drop, slice_index, Option, Some, None}
use Rattle.vo_spec.specs.Bytes.{u32_bytes, u32_of}
use Rattle.vo_spec.specs.Batches.{max_batch_bytes}
use Rattle.vo_spec.specs.Journals.{max_proofs, max_signature}
use Rattle.vo_spec.specs.Replies.{max_reply}
use Rattle.link_frames.specs.declared.frame_kind.FrameKind.{FrameKind}
use Rattle.link_frames.specs.declared.frame_kind.FrameKind.TheVariants as kind
use Rattle.link_frames.specs.declared.awaits.Awaits.{Awaits}
use Rattle.link_frames.specs.declared.awaits.Awaits.TheVariants as awaits

-- Kinds.

-- how many bytes the text of a query has at most
abbrev pub max_query : ℕ
max_query = 65536

-- the byte that says the kind
abbrev pub code_of : FrameKind → ℕ
code_of kind.Query = 1
code_of kind.Status = 2
code_of kind.Propose = 3
code_of kind.Install = 4
code_of kind.QueryAt = 5
code_of kind.Reply = 129
code_of kind.Standing = 130
code_of kind.Proofs = 131
code_of kind.Installed = 132
code_of kind.Refusal = 143

-- the kind that a byte says
abbrev pub kind_of : ℕ → Option FrameKind
kind_of code =
    if code == 1 then Some kind.Query
    else if code == 2 then Some kind.Status
    else if code == 3 then Some kind.Propose
    else if code == 4 then Some kind.Install
    else if code == 5 then Some kind.QueryAt
    else if code == 129 then Some kind.Reply
    else if code == 130 then Some kind.Standing
    else if code == 131 then Some kind.Proofs
    else if code == 132 then Some kind.Installed
    else if code == 143 then Some kind.Refusal
    else None

-- whether a body of this kind may have so many bytes: a record has 60, a signature's length 4, a
-- version 8
abbrev pub is_length : FrameKind → ℕ → Bool
is_length kind.Query n = nat_le 1 n && nat_le n max_query
is_length kind.Status n = n == 0
is_length kind.Propose n = nat_le 2 n && nat_le n max_batch_bytes
is_length kind.Install n = nat_le 64 n && nat_le n (64 + max_signature)
is_length kind.QueryAt n = nat_le 9 n && nat_le n (8 + max_query)
is_length kind.Reply n = nat_le n max_reply
is_length kind.Standing n = n == 1 || n == 61
is_length kind.Proofs n = nat_le n max_proofs
is_length kind.Installed n = n == 8
is_length kind.Refusal n = n == 1

-- whether a frame of this kind may come where this is awaited: an answer, or mostly a refusal
abbrev pub may_come : Awaits → FrameKind → Bool
may_come awaits.Request kind.Query = true
may_come awaits.Request kind.Status = true
may_come awaits.Request kind.Propose = true
may_come awaits.Request kind.Install = true
may_come awaits.Request kind.QueryAt = true
may_come awaits.Reply kind.Reply = true
may_come awaits.Reply kind.Refusal = true
may_come awaits.Standing kind.Standing = true
may_come awaits.Proofs kind.Proofs = true
may_come awaits.Proofs kind.Refusal = true
may_come awaits.Installed kind.Installed = true
may_come awaits.Installed kind.Refusal = true
may_come _ _ = false

-- Frames.

-- a frame's bytes: a length, which counts the kind and the body, the kind, and the body
abbrev pub frame_bytes : FrameKind → List ℕ → List ℕ
frame_bytes kind body = u32_bytes (length body + 1) ++ code_of kind ∷ body

-- What comes first on a connection: a whole frame; nothing, since it ends; the beginning of a
-- frame, of so many bytes; or what can't be the beginning of one that is awaited, and after how
-- many bytes that shows.
pub data Coming : Type 0 where
  Whole : (kind : FrameKind) (body : List ℕ) → Coming
  Ended : Coming
  Cut : (got : ℕ) → Coming
  Bad : (length taken : ℕ) → Coming

-- what begins with a kind whose body has n bytes, and goes on with these
abbrev pub with_body : FrameKind → ℕ → List ℕ → Coming
with_body kind n bytes =
    if nat_lt (length bytes) n then Cut (5 + length bytes) else Whole kind (take n bytes)

abbrev pub with_kind : Awaits → Option FrameKind → ℕ → List ℕ → Coming
with_kind awaits None n bytes = Bad (n + 1) 5
with_kind awaits (Some kind) n bytes =
    if may_come awaits kind && is_length kind n then with_body kind n bytes else Bad (n + 1) 5

-- what begins with this length
unfoldable pub behind_length : Awaits → ℕ → List ℕ → Coming
behind_length awaits n bytes =
    if n == 0 then Bad 0 4
    else if length bytes == 0 then Cut 4
    else with_kind awaits (kind_of (slice_index bytes 0)) (n - 1) (drop 1 bytes)

-- what comes first of these bytes
unfoldable pub first_frame : Awaits → List ℕ → Coming
first_frame awaits bytes =
    if length bytes == 0 then Ended
    else if nat_lt (length bytes) 4 then Cut (length bytes)
    else behind_length awaits (u32_of (take 4 bytes)) (drop 4 bytes)

-- how many bytes it has
abbrev pub span : Coming → ℕ
span (Whole kind body) = 5 + length body
span Ended = 0
span (Cut got) = got
span (Bad length taken) = taken
