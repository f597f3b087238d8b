-- Replies by a journal.
use Rattle.std.specs.Prelude.{◌≡◌, ◌⊎◌, ℕ, ◌+◌, ◌<◌, ◌≤◌, List, length, take, Some, Result, Ok, Err, slice_get}
use Rattle.std.specs.Global.{Vec}
use Rattle.vo_spec.specs.declared.records.Entry.{Entry}
use Rattle.vo_spec.specs.Conditions.{Query}
use Rattle.vo_spec.specs.Journals.{last_version}
use Rattle.vo_spec.specs.Records.{magic_of}
use Rattle.vo_spec.specs.Replies.{Reply, reply_bytes, max_reply}
use Rattle.vo_spec.specs.Honest.{catalog_of, reply_of}
use Rattle.vo_spec.specs.Owners.{IsLoadable}
use Rattle.owner_state.specs.Departing.{trees_at}
use Rattle.vo_store.specs.StoreState.{oldest_of}
use Rattle.vo_store.specs.Calls.{within_limit}
use Rattle.vo_store.specs.declared.fault.StoreFault.{StoreFault}
use Rattle.vo_store.specs.declared.fault.StoreFault.TheVariants as store
use Rattle.vo_store.specs.declared.fault.ReplyFault.{ReplyFault}
use Rattle.vo_store.specs.declared.fault.ReplyFault.TheVariants as reply

-- each record begins as the catalog of its version says
abbrev pub HaveMagic : List Entry → Type 0
HaveMagic es = (version : ℕ) (e : Entry) → slice_get es version ≡ Some e
    → e.rec.magic ≡ magic_of (catalog_of (trees_at version es))

-- A store of the key loads the journal, these are its entries, and this is its reply to the query.
abbrev pub HasReply : List ℕ → List ℕ → Query → List ℕ → Type 0
HasReply key journal q bytes = (es : List Entry) × (r : Reply) × IsLoadable key journal es
    × (reply_of q es ≡ Some r) × (bytes ≡ reply_bytes r)

-- and it is not over the limit
abbrev pub IsReplyBy : List ℕ → List ℕ → Query → List ℕ → Type 0
IsReplyBy key journal q bytes = HasReply key journal q bytes × (length bytes ≤ max_reply)

-- or it has so many bytes, and that is over the limit
abbrev pub IsTooLarge : List ℕ → List ℕ → Query → ℕ → Type 0
IsTooLarge key journal q size = (bytes : List ℕ) × HasReply key journal q bytes
    × (size ≡ length bytes) × (max_reply < size)

-- The same of a version. The versions that are kept are those from the oldest to the last.
abbrev pub IsKeptIn : List Entry → ℕ → Type 0
IsKeptIn es version = (oldest_of (last_version es) ≤ version) × (version ≤ last_version es)

abbrev pub HasReplyAt : List ℕ → List ℕ → ℕ → Query → List ℕ → Type 0
HasReplyAt key journal version q bytes = (es : List Entry) × (r : Reply) × IsLoadable key journal es
    × IsKeptIn es version × (reply_of q (take (version + 1) es) ≡ Some r)
    × (bytes ≡ reply_bytes r)

abbrev pub IsReplyAt : List ℕ → List ℕ → ℕ → Query → List ℕ → Type 0
IsReplyAt key journal version q bytes =
    HasReplyAt key journal version q bytes × (length bytes ≤ max_reply)

abbrev pub IsTooLargeAt : List ℕ → List ℕ → ℕ → Query → ℕ → Type 0
IsTooLargeAt key journal version q size = (bytes : List ℕ)
    × HasReplyAt key journal version q bytes × (size ≡ length bytes) × (max_reply < size)

-- A store of the key loads the journal, and keeps from the oldest of these versions to the newest;
-- this one is older or newer.
abbrev pub IsNoVersion : List ℕ → List ℕ → ℕ → ℕ → ℕ → Type 0
IsNoVersion key journal version oldest newest = (es : List Entry) × IsLoadable key journal es
    × (newest ≡ last_version es) × (oldest ≡ oldest_of newest)
    × ((version < oldest) ⊎ (newest < version))

-- what a call by a journal gave is the answer of a store, unless memory ran out
abbrev pub Replies : Result (Vec ℕ) ReplyFault → Result (List ℕ) StoreFault → Type 0
Replies (Ok bytes) answer = answer ≡ Ok bytes.items
Replies (Err (reply.BadJournal index)) answer = ⊥
Replies (Err (reply.TooLarge size)) answer = answer ≡ Err (store.TooLarge size)
Replies (Err (reply.NoVersion version oldest newest)) answer = ⊥
Replies (Err reply.Memory) answer = Unit {0}

-- and of a call for a version: the reply by its entry, or that it isn't kept
abbrev pub RepliesAt : ℕ → Query → List Entry → Result (Vec ℕ) ReplyFault → Type 0
RepliesAt version q es (Err (reply.NoVersion wanted oldest newest)) =
    (wanted ≡ version) × (newest ≡ last_version es) × (oldest ≡ oldest_of newest)
    × ((version < oldest) ⊎ (newest < version))
RepliesAt version q es result = IsKeptIn es version
    × ((r : Reply) → reply_of q (take (version + 1) es) ≡ Some r
    → Replies result (within_limit (reply_bytes r)))
