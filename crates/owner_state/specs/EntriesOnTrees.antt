-- What entries and batches are on trees, whichever batches made these.
use Rattle.std.specs.Prelude.{◌≡◌, ℕ, List, IsOk}
use Rattle.vo_spec.specs.declared.tables.Command.{Command}
use Rattle.vo_spec.specs.declared.records.Entry.{Entry}
use Rattle.vo_spec.specs.Secret.{Secret}
use Rattle.vo_spec.specs.Owners.{IsSigned}
use Rattle.vo_spec.specs.Replies.{proofs_bytes}
use Rattle.vo_spec.specs.Honest.{Stored, work_all, after_work, honest_proofs, honest_record}
use Rattle.owner_roots.specs.Owners.{honest_roots}
use Rattle.owner_state.specs.Stepping.{signed_entry}

-- the entry's record is that of these trees as this version, signed
pub record IsRecorded (key : List ℕ) (version : ℕ) (stored : List Stored) (e : Entry) : Type 0 where
  pub record_is : e.rec ≡ honest_record key version stored
  pub signed : IsSigned key e.rec e.signature

-- a store takes the entry as this version, behind these trees
pub record IsLoadableOn (key : List ℕ) (version : ℕ) (stored : List Stored)
    (e : Entry) : Type 0 where
  pub accepted : IsOk (work_all e.batch.commands stored)
  pub recorded : IsRecorded key version (after_work stored e.batch.commands) e

-- the entry that an owner writes of the batch as this version, behind these trees
unfoldable pub entry_on : Secret → ℕ → List Stored → List Command → Entry
entry_on secret version stored batch =
    signed_entry secret (honest_roots version (after_work stored batch)) batch
    (proofs_bytes (honest_proofs batch stored))
