-- What reading gives of a part tree, and of its parts, from the front of bytes.
use Rattle.std.specs.Prelude.{ℕ, zero, suc, ◌-◌, ◌==◌, ◌&&◌, nat_le, List, [], ◌∷◌, length, if◌then◌else◌, None}
use Rattle.vo_spec.specs.declared.cells.Cell.{Cell}
use Rattle.vo_spec.specs.declared.cells.Cell.TheVariants.{Shown, Hidden}
use Rattle.vo_spec.specs.declared.cells.RowPart.{RowPart}
use Rattle.vo_spec.specs.declared.cells.RowPart.TheVariants.{Digest as Closed, Cells}
use Rattle.vo_spec.specs.declared.cells.PartEntry.{PartEntry}
use Rattle.vo_spec.specs.Tables.{max_key}
use Rattle.vo_spec.specs.Parts.{stub, leaf, inner}
use Rattle.vo_spec.specs.Trees.{RowTree, open_parts}
use Rattle.vo_spec.specs.Fits.{max_cells, max_fill}
use Rattle.row_bytes.specs.Reading.{byte_at, bytes_at}
use Rattle.row_bytes.specs.Fields.{◌>>=◌, where_true, string_at, times}
use Rattle.batch_format.specs.BatchReading.{Reader, one, two, any_value_at}

-- Entries.
unfoldable pub cell_at : Reader Cell
cell_at [] = None
cell_at (byte ∷ bytes) =
    if byte == 0 then one Hidden (bytes_at 32) bytes
    else if byte == 1 then one Shown any_value_at bytes
    else None

-- how many things come next, at most so many
abbrev pub count_within : ℕ → ℕ → Reader ℕ
count_within least most bytes =
    byte_at bytes >>= λ count. where_true (nat_le least count.0 && nat_le count.0 most) count

unfoldable pub cells_at : Reader (List Cell)
cells_at bytes = count_within 0 max_cells bytes >>= λ count. times cell_at count.0 count.1

unfoldable pub row_at : Reader RowPart
row_at [] = None
row_at (byte ∷ bytes) =
    if byte == 0 then one Closed (bytes_at 32) bytes
    else if byte == 1 then one Cells cells_at bytes
    else None

unfoldable pub key_at : Reader (List ℕ)
key_at bytes = string_at bytes >>= λ key. where_true (nat_le (length key.0) max_key) key

abbrev pub part_entry : List ℕ → RowPart → PartEntry
part_entry key row = record { key = key; row = row }

unfoldable pub entry_at : Reader PartEntry
entry_at bytes = two part_entry key_at row_at bytes

-- Trees.

unfoldable pub leaf_at : Reader RowTree
leaf_at bytes = count_within 0 max_fill bytes >>= λ count. one leaf (times entry_at count.0) count.1

abbrev pub inner_node : List (List ℕ) → List RowTree → RowTree
inner_node separators children = inner separators (open_parts children)

-- a separator fewer than there are children
unfoldable pub inner_at : Reader RowTree → Reader RowTree
inner_at child bytes = count_within 2 max_fill bytes >>= λ count.
    two inner_node (times key_at (count.0 - 1)) (times child count.0) count.1

-- a node whose children are read so
unfoldable pub node_at : Reader RowTree → Reader RowTree
node_at child [] = None
node_at child (byte ∷ bytes) =
    if byte == 0 then one stub (bytes_at 32) bytes
    else if byte == 1 then leaf_at bytes
    else if byte == 2 then inner_at child bytes
    else None

-- a tree of at most so many levels
unfoldable pub tree_at : ℕ → Reader RowTree
tree_at zero bytes = None
tree_at (suc levels) bytes = node_at (tree_at levels) bytes
