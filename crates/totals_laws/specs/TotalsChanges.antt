-- Changes of totals trees, whole or in part. Of a child that is changed its parent holds the totals
-- anew, of what the child holds then; a node that gives way to another isn't looked into for them.
use Rattle.std.specs.Prelude.{◌≡◌, ℕ, ℤ, true, false, List, Result, Ok, Err}
use Rattle.vo_spec.specs.declared.trees.UpdateFault.{UpdateFault}
use Rattle.vo_spec.specs.declared.trees.UpdateFault.TheVariants.{DuplicateKey, NoRow}
use Rattle.vo_spec.specs.Inserts.{has_key, put_entry, inserted_by}
use Rattle.vo_spec.specs.Removes.{edited_by, edit_entry, without_entry, removed_by}
use Rattle.totals_laws.specs.TotalsTrees.{TotalsPart, totals_family, StandsFor}
use Rattle.totals_laws.specs.declared.totals.TotalEntry.{TotalEntry}

abbrev pub entry_with : List ℕ → ℤ → TotalEntry
entry_with key value = record { key = key; value = value }

abbrev pub tree_with : List ℕ → ℤ → TotalsPart → Result TotalsPart UpdateFault
tree_with key value = inserted_by totals_family (entry_with key value)

abbrev pub set_value : ℤ → TotalEntry → Result TotalEntry UpdateFault
set_value value e = Ok (entry_with e.key value)

abbrev pub tree_with_value : List ℕ → ℤ → TotalsPart → Result TotalsPart UpdateFault
tree_with_value key value = edited_by totals_family (set_value value) key

abbrev pub tree_without : List ℕ → TotalsPart → Result TotalsPart UpdateFault
tree_without key = removed_by totals_family key

-- What becomes of a tree that stands for these entries: it stands for what becomes of them, or it
-- isn't changed since the key is there, or isn't.

abbrev pub HasKey : List ℕ → List TotalEntry → Type 0
HasKey key es = has_key totals_family key es ≡ true

abbrev pub LacksKey : List ℕ → List TotalEntry → Type 0
LacksKey key es = has_key totals_family key es ≡ false

abbrev pub PutsEntry : TotalEntry → List TotalEntry → Result TotalsPart UpdateFault → Type 0
PutsEntry e es (Ok u) = LacksKey e.key es × StandsFor u (put_entry totals_family e es)
PutsEntry e es (Err DuplicateKey) = HasKey e.key es
PutsEntry e es (Err fault) = ⊥

abbrev pub RemovesEntry : List ℕ → List TotalEntry → Result TotalsPart UpdateFault → Type 0
RemovesEntry key es (Ok u) = HasKey key es × StandsFor u (without_entry totals_family key es)
RemovesEntry key es (Err NoRow) = LacksKey key es
RemovesEntry key es (Err fault) = ⊥

-- the entries with this value in the one of the key, which there must be
abbrev pub entries_with_value : List ℕ → ℤ → List TotalEntry → Result (List TotalEntry) UpdateFault
entries_with_value key value = edit_entry totals_family (set_value value) key

abbrev pub SetsValue : List ℕ → ℤ → List TotalEntry → Result TotalsPart UpdateFault → Type 0
SetsValue key value es (Ok u) =
    (fs : List TotalEntry) × (entries_with_value key value es ≡ Ok fs) × StandsFor u fs
SetsValue key value es (Err fault) = entries_with_value key value es ≡ Err fault
