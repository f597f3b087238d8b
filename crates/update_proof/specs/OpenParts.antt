-- What of trees is open.
use Rattle.std.specs.Prelude.{ℕ, ◌+◌, Bool, ◌||◌, List, take, drop}
use Rattle.std.specs.List.{list_any}
use Rattle.vo_spec.specs.declared.cells.PartEntry.{PartEntry}
use Rattle.vo_spec.specs.Parts.{stub}
use Rattle.vo_spec.specs.Trees.{RowTree, digest}
use Rattle.vo_spec.specs.Removes.{hidden_row}
pub use Rattle.vo_laws.specs.UpdateProofs.{is_open, any_open, shows_cells, is_shown, shows_any}

-- a tree of which nothing is open
abbrev pub closed_tree : RowTree → RowTree
closed_tree t = stub (digest t)

-- a tree before the first of these numbers, or from the second on
abbrev pub is_open_outside : ℕ → ℕ → List RowTree → Bool
is_open_outside i j ts = list_any is_open (take i ts) || list_any is_open (drop j ts)

-- a tree beside that of this number
abbrev pub opens_other : ℕ → List RowTree → Bool
opens_other i = is_open_outside i (i + 1)

-- with every cell of the row hidden
abbrev pub opened_entry : PartEntry → PartEntry
opened_entry e = record { key = e.key; row = hidden_row e.row }
