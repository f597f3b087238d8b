-- One entry more of an owner's journal.
use Rattle.std.specs.Prelude.{◌≡◌, ℕ, List, [], Option, Some, None}
use Rattle.vo_spec.specs.declared.records.Entry.{Entry}
use Rattle.vo_spec.specs.Records.{FitsCatalog}
use Rattle.owner_roots.specs.declared.roots.Roots.{Roots}
use Rattle.owner_roots.specs.Owners.{AreOwnedTo, IsFirstEntry, IsNextEntry, first_roots}

-- the roots behind these entries; behind no entries there are none
abbrev pub IsBehind : List ℕ → List Entry → Option Roots → Type 0
IsBehind key es None = es ≡ []
IsBehind key es (Some roots) = AreOwnedTo key es roots

-- the entry leads on from there to these roots
abbrev pub LeadsTo : List ℕ → Option Roots → Entry → Roots → Type 0
LeadsTo key None e after = IsFirstEntry key e × (first_roots ≡ after)
LeadsTo key (Some before) e after = IsNextEntry key before e after

-- their catalog is within its limits
abbrev pub FitBehind : Option Roots → Type 0
FitBehind None = Unit {0}
FitBehind (Some roots) = FitsCatalog roots.catalog

-- where the entry leads to, or nothing, where it leads nowhere
abbrev pub Leads : List ℕ → Option Roots → Entry → Option Roots → Type 0
Leads key before e None = (after : Roots) → LeadsTo key before e after → ⊥
Leads key before e (Some after) = LeadsTo key before e after × FitsCatalog after.catalog
