-- Where a table stands among others.
use Rattle.std.specs.Prelude.{◌≡◌, ℕ, ◌+◌, Bool, true, false, List, [], ◌∷◌, ◌++◌, take, drop, Option, Some, None, bytes_eq}
use Rattle.std.specs.List.{AllByRecursion}
use Rattle.vo_spec.specs.Honest.{Stored}
use Rattle.stored_tables.specs.declared.positions.Position.{Position}
use Rattle.stored_tables.specs.View.{lent_stored}

abbrev pub is_named : List ℕ → Stored → Bool
is_named name s = bytes_eq s.name name

abbrev pub IsUnlike : List ℕ → Stored → Type 0
IsUnlike name s = is_named name s ≡ false

-- this table stands at this place
pub record IsThere (stored : List Stored) (at : ℕ) (s : Stored) : Type 0 where
  pub onward : drop at stored ≡ s ∷ drop (at + 1) stored
  pub so_far : take (at + 1) stored ≡ take at stored ++ s ∷ []

-- and is the first of its name
pub record IsAt (name : List ℕ) (stored : List Stored) (at : ℕ) (s : Stored) : Type 0 where
  pub there : IsThere stored at s
  pub before : AllByRecursion (IsUnlike name) (take at stored)
  pub named : is_named name s ≡ true

abbrev pub IsFound : List ℕ → List Stored → Option Position → Type 0
IsFound name stored None = AllByRecursion (IsUnlike name) stored
IsFound name stored (Some place) = IsAt name stored place.at (lent_stored place.table)
