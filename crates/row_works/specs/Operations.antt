-- The work that a command on rows does on the tree of its table.
use Rattle.std.specs.Prelude.{ℕ, ◌+◌, ◌-◌, Bool, true, false, map, Option, Some, None, Result}
use Rattle.vo_spec.specs.declared.tables.Schema.{Schema}
use Rattle.vo_spec.specs.declared.tables.Command.{Command}
use Rattle.vo_spec.specs.declared.tables.Command.TheVariants.{Create, Drop, Insert, Update, Delete}
use Rattle.vo_spec.specs.declared.trees.UpdateFault.{UpdateFault}
use Rattle.vo_spec.specs.Values.{key_of}
use Rattle.vo_spec.specs.Cells.{whole_entry}
use Rattle.vo_spec.specs.Tables.{CellChange, cell_changes, row_of}
use Rattle.vo_spec.specs.Trees.{RowTree}
use Rattle.vo_spec.specs.Inserts.{tree_with_entry}
use Rattle.vo_spec.specs.Removes.{tree_without_key, tree_with_cells}
use Rattle.mb_update.specs.declared.ops.Op.{Op}
use Rattle.mb_update.specs.declared.ops.Op.TheVariants.{Insert as PutRow, Replace, Remove, Put, Set}
use Rattle.mb_update.specs.RowParts.{entry_of, tree_with_part}
use Rattle.mb_update.specs.declared.ops.SetCell.{SetCell}
use Rattle.mb_update.specs.Sets.{change_of}

-- whether a command is one on rows
abbrev pub changes_rows : Command → Bool
changes_rows (Create name columns key) = false
changes_rows (Drop name) = false
changes_rows (Insert name values) = true
changes_rows (Update name sets column value) = true
changes_rows (Delete name column value) = true

abbrev pub set_cell : CellChange → SetCell
set_cell change = record { column = change.column; value = change.value }

-- the work of a command; CREATE and DROP have none
abbrev pub operation : Schema → Command → Option Op
operation schema (Create name columns key) = None
operation schema (Drop name) = None
operation schema (Insert name values) = Some (PutRow (row_of schema values))
operation schema (Update name sets column value) =
    Some (Replace (key_of value) (map set_cell (cell_changes schema sets)))
operation schema (Delete name column value) = Some (Remove (key_of value))

-- the tree after a work, or why there is none
abbrev pub changed_tree : Op → RowTree → Result RowTree UpdateFault
changed_tree (PutRow row) = tree_with_entry (whole_entry row)
changed_tree (Replace key sets) = tree_with_cells key (map change_of sets)
changed_tree (Remove key) = tree_without_key key
changed_tree (Put key part) = tree_with_entry (entry_of key part)
changed_tree (Set key part) = tree_with_part key part

-- how many rows a table has after a work that was not refused
abbrev pub changed_count : Op → ℕ → ℕ
changed_count (PutRow row) count = count + 1
changed_count (Replace key sets) count = count
changed_count (Remove key) count = count - 1
changed_count (Put key part) count = count + 1
changed_count (Set key part) count = count
