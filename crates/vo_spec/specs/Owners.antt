-- Which journals a store takes: each entry signed by the leaf of its version, and its record that
-- of the honest trees. And where bytes fail to be the journal of a sort of entries, this one or
-- another.
use Rattle.std.specs.Prelude.{◌≡◌, ℕ, ◌<◌, List, [], ◌∷◌, ◌++◌, length, Some, IsOk, IsTrue}
use Rattle.vo_spec.specs.declared.tables.Command.{Command}
use Rattle.vo_spec.specs.declared.records.Record.{Record}
use Rattle.vo_spec.specs.declared.records.Entry.{Entry}
use Rattle.vo_spec.specs.Tables.{apply_batch, tables_after}
use Rattle.vo_spec.specs.Keys.{leaf_of, lms_valid}
use Rattle.vo_spec.specs.Records.{record_bytes}
use Rattle.vo_spec.specs.Journals.{Begins, IsJournal}
use Rattle.vo_spec.specs.Honest.{honest_trees, honest_record}

-- the record is signed under the key by the leaf of its version
pub record IsSigned (key : List ℕ) (rec : Record) (signature : List ℕ) : Type 0 where
  pub leaf : leaf_of key signature ≡ Some rec.version
  pub valid : IsTrue (lms_valid key (record_bytes rec) signature)

-- the entry after these batches, which are as many as its version, its proofs aside
pub record IsLoadableEntry (key : List ℕ) (earlier : List (List Command)) (e : Entry) : Type 0 where
  pub accepted : IsOk (apply_batch e.batch.commands (tables_after earlier))
  pub record_is : e.rec ≡ honest_record key (length earlier)
      (honest_trees (earlier ++ e.batch.commands ∷ []))
  pub signed : IsSigned key e.rec e.signature

abbrev pub AreLoadableAfter : List ℕ → List (List Command) → List Entry → Type 0
AreLoadableAfter key earlier [] = Unit {0}
AreLoadableAfter key earlier (e ∷ es) = IsLoadableEntry key earlier e
    × AreLoadableAfter key (earlier ++ e.batch.commands ∷ []) es

-- Entries from version 0 on that a store takes: it looks at no proofs, and of version 0 at the
-- record and the signature alone.
unfoldable pub AreLoadable : List ℕ → List Entry → Type 0
AreLoadable key [] = Unit {0}
AreLoadable key (e ∷ es) =
    (e.rec ≡ honest_record key 0 (honest_trees [])) × IsSigned key e.rec e.signature
    × AreLoadableAfter key ([] ∷ []) es

-- The bytes are the journal of these entries, at least one, and they are of this sort.
abbrev pub IsJournalOf : (List Entry → Type 0) → List ℕ → List Entry → Type 0
IsJournalOf Are bytes es = IsJournal bytes es × Are es × (0 < length es)

-- The first entry that can't be read, isn't of this sort, or is wanted and isn't there, has this
-- number.
abbrev pub FailsAt : (List Entry → Type 0) → List ℕ → ℕ → Type 0
FailsAt Are bytes index = (es : List Entry) × Begins bytes es × Are es × (length es ≡ index)
    × (IsJournalOf Are bytes es → ⊥)
    × ((e : Entry) → Begins bytes (es ++ e ∷ []) → Are (es ++ e ∷ []) → ⊥)

-- a journal that a store of this key takes, and where bytes fail to be one
unfoldable pub IsLoadable : List ℕ → List ℕ → List Entry → Type 0
IsLoadable key = IsJournalOf (AreLoadable key)

unfoldable pub IsUnloadableAt : List ℕ → List ℕ → ℕ → Type 0
IsUnloadableAt key = FailsAt (AreLoadable key)
