-- How nodes are met, as the program says it; and what calls on parts of totals trees answer.
use Rattle.std.specs.Prelude.{◌≡◌, ℕ, Bool, true, false, List, Option, Result, Ok, Err}
use Rattle.vo_spec.specs.declared.trees.ScanFault.{ScanFault}
use Rattle.vo_spec.specs.declared.trees.ScanFault.TheVariants.{Missing, Memory}
use Rattle.totals_laws.specs.TotalsProofs.{Reach, passed, taken, visited}
use Rattle.mb_sum.specs.declared.meetings.Meeting.{Meeting}
use Rattle.mb_sum.specs.declared.meetings.Meeting.TheVariants as meeting

-- of a node between these separators
abbrev pub reach_of : Option (List ℕ) → Option (List ℕ) → Meeting → Reach
reach_of lower upper meeting.Passed = passed
reach_of lower upper meeting.Taken = taken
reach_of lower upper meeting.Visited = visited lower upper

-- Missing exactly where something is, else what is as said; no memory is wanted
abbrev pub FindsOrMissing : {A : Type 0} → Result A ScanFault → Bool → (A → Type 0) → Type 0
FindsOrMissing (Ok value) missing Is = (missing ≡ false) × Is value
FindsOrMissing (Err Missing) missing Is = missing ≡ true
FindsOrMissing (Err Memory) missing Is = ⊥
