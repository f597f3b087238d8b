-- How a journal ends behind the entries that can be read from its front.
use Rattle.std.specs.Prelude.{◌≡◌, ◌⊎◌, ℕ, ◌-◌, ◌<◌, List, ◌++◌, length, flat_map, None, Result, Ok, Err}
use Rattle.std.specs.List.{AllByRecursion}
use Rattle.vo_spec.specs.declared.records.Entry.{Entry}
use Rattle.vo_spec.specs.Journals.{FitsEntry, slot, IsClosed, IsJournal, IsDamaged}
use Rattle.owner_state.specs.declared.slot_reading.Ending.{Ending}
use Rattle.owner_state.specs.declared.slot_reading.Ending.TheVariants.{Closed, Damaged}
use Rattle.owner_state.specs.declared.journal_reading.EntriesFault.{EntriesFault}
use Rattle.owner_state.specs.declared.journal_reading.EntriesFault.TheVariants as fault
use Rattle.owner_state.specs.Reading.{slot_at}

-- Slots of these entries, and then these bytes, which begin with no slot.
abbrev pub StopsAt : List ℕ → List Entry → List ℕ → Type 0
StopsAt bytes es rest = AllByRecursion FitsEntry es × (bytes ≡ flat_map slot es ++ rest)
    × (slot_at rest ≡ None)

-- a journal is too short for a slot, or its next gate is closed
abbrev pub EndsClosed : List ℕ → List ℕ → Type 0
EndsClosed bytes rest = (length bytes < 2) ⊎ IsClosed rest

-- the place behind the slots of these entries
abbrev pub behind : List Entry → ℕ
behind es = length (flat_map slot es)

-- what such bytes tell of the end
abbrev pub EndsAt : List ℕ → List ℕ → Ending → Type 0
EndsAt bytes rest (Closed at) = EndsClosed bytes rest × (at ≡ length bytes - length rest)
EndsAt bytes rest (Damaged at) = (EndsClosed bytes rest → ⊥) × (at ≡ length bytes - length rest)

-- The bytes are a journal of these entries whose closed gate stands at this place, or damaged
-- there.
abbrev pub EndsSo : List ℕ → List Entry → Ending → Type 0
EndsSo bytes es (Closed at) = IsJournal bytes es × (at ≡ behind es)
EndsSo bytes es (Damaged at) = IsDamaged bytes es × (at ≡ behind es)

-- The fault says where the bytes are damaged: behind how many entries, and at which place.
abbrev pub IsFaultOf : List ℕ → EntriesFault → Type 0
IsFaultOf bytes (fault.Damaged index at) = (es : List Entry) × IsDamaged bytes es
    × (index ≡ length es) × (at ≡ behind es)
IsFaultOf bytes fault.Memory = Unit {0}

-- a call answers these entries, unless memory ran out
abbrev pub Answers : Result (List Entry) EntriesFault → List Entry → Type 0
Answers (Ok entries) es = entries ≡ es
Answers (Err (fault.Damaged index at)) es = ⊥
Answers (Err fault.Memory) es = Unit {0}

-- a call answers the damage behind these entries, unless memory ran out
abbrev pub AnswersDamage : Result (List Entry) EntriesFault → List Entry → Type 0
AnswersDamage (Ok entries) es = ⊥
AnswersDamage (Err (fault.Damaged index at)) es = (index ≡ length es) × (at ≡ behind es)
AnswersDamage (Err fault.Memory) es = Unit {0}
