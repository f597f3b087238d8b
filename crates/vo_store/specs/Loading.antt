-- A store that takes entries by its own calls, and what it stands at then.
use Rattle.std.specs.Prelude.{◌≡◌, ℕ, Bool, true, false, ◌+◌, ◌-◌, ◌==◌, if◌then◌else◌, List, [], ◌∷◌, ◌++◌, length, take, drop, Option, Some, None, option_map, slice_get, Result, Ok, Err}
use Rattle.vo_spec.specs.declared.records.Entry.{Entry}
use Rattle.vo_spec.specs.Firsts.{and_then}
use Rattle.vo_spec.specs.Journals.{batches_of}
use Rattle.vo_spec.specs.Owners.{AreLoadable}
use Rattle.vo_spec.specs.Honest.{Stored, honest_trees}
use Rattle.vo_store.specs.declared.fault.StoreFault.{StoreFault}
use Rattle.vo_store.specs.declared.signed_record.SignedRecord.{SignedRecord}
use Rattle.vo_store.specs.declared.kept_version.KeptVersion.{KeptVersion}
use Rattle.vo_store.specs.StoreState.{StoreState, latest, new_store}
use Rattle.vo_store.specs.Calls.{proposal_of, install_of}

-- the store behind an entry of a version after 0: its batch is proposed, and then its record
-- installed
abbrev pub taken_later : StoreState → Entry → Result StoreState StoreFault
taken_later s e = and_then
    (λ (proposal : StoreState × List ℕ). install_of proposal.0 e.rec e.signature)
    (proposal_of s e.batch.commands)

-- of entry 0 no batch is proposed
abbrev pub taken_as : ℕ → StoreState → Entry → Result StoreState StoreFault
taken_as index s e = if index == 0 then install_of s e.rec e.signature else taken_later s e

-- the number of a refused entry
abbrev pub refused_at : ℕ → Result StoreState StoreFault → Result StoreState ℕ
refused_at index (Ok after) = Ok after
refused_at index (Err why) = Err index

-- the store behind the entries, the first of them of this number; or the number of the first that
-- is refused
abbrev pub taken_from : ℕ → List Entry → StoreState → Result StoreState ℕ
taken_from index [] s = Ok s
taken_from index (e ∷ es) s =
    and_then (taken_from (index + 1) es) (refused_at index (taken_as index s e))

unfoldable pub load_entries : List ℕ → List Entry → Result StoreState ℕ
load_entries key es = taken_from 0 es (new_store key)

-- Where a store of the key stands once it has loaded these entries.

abbrev pub signed_of : Entry → SignedRecord
signed_of e = record { rec = e.rec; signature = e.signature }

abbrev pub last_signed : List Entry → Option SignedRecord
last_signed es = option_map signed_of (slice_get es (length es - 1))

-- what is kept of the versions of entries, these being those before the first of them
abbrev pub kept_each : List Entry → List Entry → List KeptVersion
kept_each front [] = []
kept_each front (e ∷ es) =
    record { signed = signed_of e; tables = honest_trees (batches_of (drop 1 (front ++ e ∷ []))) }
    ∷ kept_each (front ++ e ∷ []) es

-- and of those before the last entry
abbrev pub kept_behind : List Entry → List KeptVersion
kept_behind es = latest (kept_each [] (take (length es - 1) es))

abbrev pub pending_behind : List Entry → Option (List Stored)
pending_behind [] = Some []
pending_behind (e ∷ es) = None

unfoldable pub store_behind : List ℕ → List Entry → StoreState
store_behind key es = record {
  key = key;
  earlier = kept_behind es;
  installed = last_signed es;
  tables = honest_trees (batches_of (drop 1 es));
  pending = pending_behind es;
}

-- One entry more behind those that a store of the key has loaded: it stands behind that too, or the
-- entry isn't one that a store takes there.
abbrev pub TakesEntry : List ℕ → List Entry → Entry → StoreState → Bool → Type 0
TakesEntry key front e after true =
    AreLoadable key (front ++ e ∷ []) × (after ≡ store_behind key (front ++ e ∷ []))
TakesEntry key front e after false = AreLoadable key (front ++ e ∷ []) → ⊥
