-- What a disk holds of a journal, between calls and while they work.
use Rattle.std.specs.Prelude.{◌≡◌, ◌⊎◌, ℕ, List, [], ◌∷◌, ◌++◌, length, flat_map, Result, Ok, Err}
use Rattle.std.specs.List.{AllByRecursion}
use Rattle.vo_spec.specs.declared.records.Entry.{Entry}
use Rattle.vo_spec.specs.Bytes.{block}
use Rattle.vo_spec.specs.Journals.{FitsEntry, entry_bytes, slot, IsClosed, IsJournal, IsDamaged}
use Rattle.outside.specs.DiskModel.{DiskModel, MayLeave}
use Rattle.outside.specs.Moments.{IsDown}
use Rattle.owner_journal.specs.declared.fault.JournalFault.{JournalFault}
use Rattle.owner_journal.specs.declared.fault.JournalFault.TheVariants.{Disk, Damaged, Memory}

-- The disk has slots of these entries and a closed gate behind them, and what reads give is down.
pub record IsAtRest (es : List Entry) (drive : DiskModel) : Type 0 where
  pub down : IsDown drive
  pub fits : AllByRecursion FitsEntry es
  pub end : (rest : List ℕ) × IsClosed rest × (drive.seen ≡ flat_map slot es ++ rest)

-- the bytes are a journal of these entries, or of these and one more
abbrev pub HoldsWith : List Entry → Entry → List ℕ → Type 0
HoldsWith es e bytes = IsJournal bytes es ⊎ IsJournal bytes (es ++ e ∷ [])

-- the bytes may have been left before, or are a journal of the same entries as some that may
abbrev pub HoldsAsBefore : DiskModel → List ℕ → Type 0
HoldsAsBefore before bytes = MayLeave before bytes
    ⊎ ((was : List ℕ) × MayLeave before was
    × (es : List Entry) × IsJournal was es × IsJournal bytes es)

-- what stands behind the gate of an entry's slot, and the closed gate after it
abbrev pub behind_gate : Entry → List ℕ
behind_gate e = block (entry_bytes e) ++ 0 ∷ []

-- the place behind the slots of these entries
abbrev pub end_of : List Entry → ℕ
end_of es = length (flat_map slot es)

-- the fault says where the bytes are damaged, if it says that they are
abbrev pub IsFaultOf : List ℕ → JournalFault → Type 0
IsFaultOf bytes (Damaged index at) = (es : List Entry) × IsDamaged bytes es
    × (index ≡ length es) × (at ≡ end_of es)
IsFaultOf bytes Disk = Unit {0}
IsFaultOf bytes Memory = Unit {0}

-- the disk failed, or memory ran out
abbrev pub IsNoDamage : JournalFault → Type 0
IsNoDamage (Damaged index at) = ⊥
IsNoDamage Disk = Unit {0}
IsNoDamage Memory = Unit {0}

-- P, unless the disk failed
abbrev pub UnlessDisk : {T : Type 0} → Result T JournalFault → Type 0 → Type 0
UnlessDisk (Ok done) P = P
UnlessDisk (Err Disk) P = Unit {0}
UnlessDisk (Err (Damaged index at)) P = P
UnlessDisk (Err Memory) P = P
