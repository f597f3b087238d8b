-- What reading gives of entries and slots, from the front of bytes.
use Rattle.std.specs.Prelude.{◌≡◌, ℕ, ◌==◌, nat_le, List, [], ◌∷◌, length, if◌then◌else◌, Option, Some, None, Result, Ok, Err, codes}
use Rattle.vo_spec.specs.declared.tables.Command.{Command}
use Rattle.vo_spec.specs.declared.records.Record.{Record}
use Rattle.vo_spec.specs.declared.records.Entry.{Entry}
use Rattle.vo_spec.specs.Journals.{max_proofs, max_signature}
use Rattle.row_bytes.specs.declared.read_fault.ReadFault.{ReadFault}
use Rattle.row_bytes.specs.declared.read_fault.ReadFault.TheVariants.{BadForm, Memory}
use Rattle.row_bytes.specs.Fields.{◌>>=◌, where_true, word_at, block_at, whole}
use Rattle.batch_format.specs.BatchReading.{Reader, four, batch_of}
use Rattle.version_record.specs.Reading.{record_at}

-- what the bytes of a block are, all of them
abbrev pub within : {A : Type 0} → (List ℕ → Option A) → Reader A
within read bytes = block_at bytes >>= λ found. read found.0 >>= λ x. Some (x, found.1)

-- bytes behind their length, at most so many
unfoldable pub limited_at : ℕ → Reader (List ℕ)
limited_at most bytes = block_at bytes >>= λ found. where_true (nat_le (length found.0) most) found

-- a batch behind its length
unfoldable pub batch_at : Reader (List Command)
batch_at bytes = within batch_of bytes

abbrev pub entry_with : List Command → List ℕ → Record → List ℕ → Entry
entry_with commands proofs rec signature =
    record {
      batch = record { commands = commands };
      proofs = proofs;
      rec = rec;
      signature = signature;
    }

unfoldable pub entry_at : Reader Entry
entry_at bytes = word_at (codes "VOE1") bytes >>= λ magic.
    four entry_with batch_at (limited_at max_proofs) record_at (limited_at max_signature) magic.1

-- the entry that all the bytes are
unfoldable pub entry_of : List ℕ → Option Entry
entry_of bytes = whole (entry_at bytes)

-- the entry behind an open gate and its length
unfoldable pub slot_at : Reader Entry
slot_at [] = None
slot_at (gate ∷ bytes) = if gate == 1 then within entry_of bytes else None

-- a call gives what is read, or says that nothing is, unless memory ran out
abbrev pub EntryRead : Result Entry ReadFault → Option Entry → Type 0
EntryRead (Ok entry) read = read ≡ Some entry
EntryRead (Err BadForm) read = read ≡ None
EntryRead (Err Memory) read = Unit {0}
