-- What the proof of a change has open, by the steps of the change.
use Rattle.std.specs.Prelude.{ℕ, ◌+◌, ◌-◌, Bool, true, false, ◌||◌, if◌then◌else◌, List, [], map, slice_set, slice_index_or}
use Rattle.std.specs.List.{list_any}
use Rattle.vo_spec.specs.declared.cells.PartEntry.{PartEntry}
use Rattle.vo_spec.specs.Parts.{Part, Family, stub}
use Rattle.vo_spec.specs.Trees.{RowTree}
use Rattle.vo_spec.specs.Inserts.{closed_entry, insert_is_missing, insert_has_surplus, insert_proof}
use Rattle.vo_spec.specs.Removes.{opened_row, opened_sibling, replace_proof, remove_proof}
use Rattle.btree.specs.Steps.{sibling_of, opens_sibling_by}
use Rattle.mb_update.specs.declared.ops.Op.{Op}
use Rattle.mb_update.specs.declared.ops.Op.TheVariants.{Insert, Replace, Remove, Put, Set}
use Rattle.update_proof.specs.declared.change.Change.{Change}
use Rattle.update_proof.specs.declared.change.Change.TheVariants.{Insertion, Replacement, Removal}
use Rattle.update_proof.specs.OpenParts.{closed_tree, is_open_outside, shows_cells}
use Rattle.update_proof.specs.Proving.{opened_sibling_surplus, replace_is_missing, remove_is_missing, rows_surplus, replace_has_surplus, remove_has_surplus}

abbrev pub change_in : Op → Change
change_in (Insert row) = Insertion
change_in (Replace key sets) = Replacement
change_in (Remove key) = Removal
change_in (Put key part) = Insertion
change_in (Set key part) = Insertion

abbrev pub key_in : Op → List ℕ
key_in (Insert row) = row.key
key_in (Replace key sets) = key
key_in (Remove key) = key
key_in (Put key part) = key
key_in (Set key part) = key

-- the change leaves the child of a node underfull, so that its sibling is opened
abbrev pub opens_sibling_in : {E M : Type 0} → Family E M → Change → List ℕ → Part E M → Bool
opens_sibling_in family Insertion key t = false
opens_sibling_in family Replacement key t = false
opens_sibling_in family Removal key t = opens_sibling_by family key t

-- what stands past the end of a list, where nobody looks
abbrev pub child_at : ℕ → List RowTree → RowTree
child_at i ts = slice_index_or ts i (stub [])

-- The proof.

abbrev pub rows_in_proof : Change → List ℕ → List PartEntry → List PartEntry
rows_in_proof Insertion key es = map closed_entry es
rows_in_proof Replacement key es = opened_row key es
rows_in_proof Removal key es = map closed_entry es

abbrev pub change_proof : Change → List ℕ → RowTree → RowTree
change_proof Insertion = insert_proof
change_proof Replacement = replace_proof
change_proof Removal = remove_proof

-- these in the places of the children, but for the node of the sibling of the child of this number,
-- if that is opened
abbrev pub with_sibling : ℕ → Bool → List RowTree → List RowTree → List RowTree
with_sibling i opens ts ps =
    if opens then slice_set ps (sibling_of i) (opened_sibling (child_at (sibling_of i) ts)) else ps

-- the children closed, but for the one of this number, in whose place this stands, and for the node
-- of its sibling if that is opened
abbrev pub opened_along : ℕ → Bool → RowTree → List RowTree → List RowTree
opened_along i opens p ts = with_sibling i opens ts (slice_set (map closed_tree ts) i p)

-- What a part lacks.

abbrev pub change_is_missing : Change → List ℕ → RowTree → Bool
change_is_missing Insertion = insert_is_missing
change_is_missing Replacement = replace_is_missing
change_is_missing Removal = remove_is_missing

-- the path to a key, or also the key's row
abbrev pub path_is_missing : Bool → List ℕ → RowTree → Bool
path_is_missing true = replace_is_missing
path_is_missing false = insert_is_missing

-- What a part has that the change doesn't look at.

abbrev pub any_row_surplus : Change → List ℕ → List PartEntry → Bool
any_row_surplus Insertion key es = list_any shows_cells es
any_row_surplus Replacement key es = rows_surplus key es
any_row_surplus Removal key es = list_any shows_cells es

abbrev pub change_has_surplus : Change → List ℕ → RowTree → Bool
change_has_surplus Insertion = insert_has_surplus
change_has_surplus Replacement = replace_has_surplus
change_has_surplus Removal = remove_has_surplus

-- beside the child of this number, and below its sibling's node if that is opened
abbrev pub surplus_along : ℕ → Bool → List RowTree → Bool
surplus_along i opens ts =
    if opens then opened_sibling_surplus (child_at (sibling_of i) ts)
    || is_open_outside (i - 1) (i - 1 + 2) ts
    else is_open_outside i (i + 1) ts
