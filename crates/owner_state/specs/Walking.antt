-- What a walk over entries finds.
use Rattle.std.specs.Prelude.{◌≡◌, ℕ, ◌+◌, ◌<◌, List, length, take, Option, Some, None}
use Rattle.vo_spec.specs.Journals.{last_version}
use Rattle.vo_spec.specs.declared.records.Entry.{Entry}
use Rattle.vo_spec.specs.Honest.{Stored}
use Rattle.owner_state.specs.declared.slot_reading.Ending.{Ending}
use Rattle.owner_state.specs.declared.slot_reading.Ending.TheVariants.{Closed, Damaged}

-- the trees come out where this holds, and else nothing does
abbrev pub GivesTreesIf : Type 0 → List Stored → Option (List Stored) → Type 0
GivesTreesIf Holds stored None = Holds → ⊥
GivesTreesIf Holds stored (Some found) = Holds × (found ≡ stored)

-- the entries are of this sort up to this one, which isn't
pub record StopsAt (Are : List Entry → Type 0) (es : List Entry) (index : ℕ) : Type 0 where
  pub within : index < length es
  pub so_far : Are (take index es)
  pub not_on : Are (take (index + 1) es) → ⊥

-- entries, and a closed gate behind them
abbrev pub IsWhole : List Entry → Ending → Type 0
IsWhole es (Closed at) = 0 < length es
IsWhole es (Damaged at) = ⊥

-- the version that is asked for, or that of the last entry
abbrev pub version_in : Option ℕ → List Entry → ℕ
version_in None es = last_version es
version_in (Some version) es = version
