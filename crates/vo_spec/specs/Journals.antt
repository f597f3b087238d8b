-- Journals as bytes: the owner's entries in a row, each behind an open gate.
use Rattle.std.specs.Prelude.{◌≡◌, ◌≢◌, ◌⊎◌, ℕ, ◌-◌, ◌<◌, ◌≤◌, List, [], ◌∷◌, ◌++◌, map, length, take, drop, flat_map, codes, Some, option_map, slice_get}
use Rattle.std.specs.List.{AllByRecursion}
use Rattle.vo_spec.specs.declared.tables.Command.{Command}
use Rattle.vo_spec.specs.declared.tables.Table.{Table}
use Rattle.vo_spec.specs.declared.records.Record.{Record}
use Rattle.vo_spec.specs.declared.records.Entry.{Entry}
use Rattle.vo_spec.specs.Bytes.{block}
use Rattle.vo_spec.specs.Tables.{tables_after}
use Rattle.vo_spec.specs.Batches.{FitsBatch, batch_bytes}
use Rattle.vo_spec.specs.Records.{FitsRecord, record_bytes}

-- how many bytes the proofs of a batch and a signature may have
abbrev pub max_proofs : ℕ
max_proofs = 134217728

abbrev pub max_signature : ℕ
max_signature = 65536

unfoldable pub entry_bytes : Entry → List ℕ
entry_bytes e = codes "VOE1" ++ block (batch_bytes e.batch.commands) ++ block e.proofs
    ++ record_bytes e.rec ++ block e.signature

-- The proofs in an entry are any bytes: whether they prove anything is another question.
pub record FitsEntry (e : Entry) : Type 0 where
  pub batch : FitsBatch e.batch.commands
  pub proofs : length e.proofs ≤ max_proofs
  pub rec : FitsRecord e.rec
  pub signature : length e.signature ≤ max_signature

-- a slot: an open gate, and an entry behind its length
abbrev pub slot : Entry → List ℕ
slot e = 1 ∷ block (entry_bytes e)

-- a first gate that isn't open
abbrev pub IsClosed : List ℕ → Type 0
IsClosed [] = ⊥
IsClosed (gate ∷ rest) = gate ≢ 1

-- The bytes begin with slots of these entries.
abbrev pub Begins : List ℕ → List Entry → Type 0
Begins bytes es = AllByRecursion FitsEntry es × (rest : List ℕ) × (bytes ≡ flat_map slot es ++ rest)

-- The bytes are a journal of these entries: slots of them, and a closed gate, behind which anything
-- may stand. One byte, or none, is a journal of no entries.
abbrev pub IsJournal : List ℕ → List Entry → Type 0
IsJournal bytes [] = (length bytes < 2) ⊎ IsClosed bytes
IsJournal bytes (e ∷ es) = AllByRecursion FitsEntry (e ∷ es) × (rest : List ℕ) × IsClosed rest
    × (bytes ≡ flat_map slot (e ∷ es) ++ rest)

-- Bytes that are damaged: behind slots of these entries stands no gate, or an open one that no
-- entry follows whole.
abbrev pub IsDamaged : List ℕ → List Entry → Type 0
IsDamaged bytes es = Begins bytes es × ((more : List Entry) → IsJournal bytes more → ⊥)
    × ((e : Entry) → Begins bytes (es ++ e ∷ []) → ⊥)

-- what a journal of these entries is as bytes, where nothing stands behind its closed gate
unfoldable pub journal_bytes : List Entry → List ℕ
journal_bytes es = flat_map slot es ++ 0 ∷ []

-- The journal holds the record: it has that record at the record's version.
unfoldable pub Holds : List Entry → Record → Type 0
Holds es r = option_map (λ (e : Entry). e.rec) (slice_get es r.version) ≡ Some r

-- the batches of the entries
abbrev pub batches_of : List Entry → List (List Command)
batches_of es = map (λ (e : Entry). e.batch.commands) es

-- The tables of a version: those after the batches of entries 1 to this one.
unfoldable pub tables_at : ℕ → List Entry → List Table
tables_at version es = tables_after (batches_of (take version (drop 1 es)))

-- the version of the last entry
abbrev pub last_version : List Entry → ℕ
last_version es = length es - 1
