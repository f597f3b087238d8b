-- Bytes that are slots of entries and nothing else, and how long the slots are.
use Rattle.std.specs.Prelude.{◌≡◌, ℕ, List, map, length, flat_map}
use Rattle.std.specs.List.{AllByRecursion}
use Rattle.vo_spec.specs.declared.records.Entry.{Entry}
use Rattle.vo_spec.specs.Journals.{FitsEntry, IsJournal, slot}

-- the bytes are the slots of these entries
abbrev pub AreSlotsOf : List ℕ → List Entry → Type 0
AreSlotsOf bytes es = AllByRecursion FitsEntry es × (bytes ≡ flat_map slot es)

-- how many bytes the slot of each entry has
abbrev pub slot_counts : List Entry → List ℕ
slot_counts es = map (λ e. length (slot e)) es

-- The bytes are a journal, the slots of whose entries are so long, and behind which the closed gate
-- stands at this place.
pub record IsMeasured (bytes counts : List ℕ) (gate : ℕ) : Type 0 where
  pub entries : List Entry
  pub journal : IsJournal bytes entries
  pub fit : AllByRecursion FitsEntry entries
  pub counts_are : counts ≡ slot_counts entries
  pub gate_is : gate ≡ length (flat_map slot entries)
