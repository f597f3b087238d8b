-- When a work can be made of a command, and done.
use Rattle.std.specs.Prelude.{ℕ, ◌<◌, ◌≤◌, length}
use Rattle.std.specs.List.{AllByRecursion}
use Rattle.vo_spec.specs.declared.tables.Schema.{Schema}
use Rattle.vo_spec.specs.declared.tables.Command.{Command}
use Rattle.vo_spec.specs.declared.tables.Command.TheVariants.{Insert, Update}
use Rattle.vo_spec.specs.Fits.{FitsKey, FitsRow, FitsRowPart}
use Rattle.vo_spec.specs.Tables.{row_of, max_rows}
use Rattle.vo_spec.specs.Batches.{FitsSet, max_columns}
use Rattle.mb_update.specs.declared.ops.Op.{Op}
use Rattle.mb_update.specs.declared.ops.Op.TheVariants.{Insert as PutRow, Replace, Remove, Put, Set}
use Rattle.mb_update.specs.RowParts.{IsWholeRow}
use Rattle.mb_update.specs.Sets.{FitsSets}

-- the row of an INSERT fits; the values of an UPDATE fit, and its columns have numbers of a byte
abbrev pub FitsWork : Schema → Command → Type 0
FitsWork schema (Insert name values) = FitsRow (row_of schema values)
FitsWork schema (Update name sets column value) = AllByRecursion FitsSet sets
    × (length schema.columns ≤ max_columns)
FitsWork schema _ = Unit {0}

-- what a work puts into a tree fits
abbrev pub FitsOp : Op → Type 0
FitsOp (PutRow row) = FitsRow row
FitsOp (Replace key sets) = FitsSets sets
FitsOp (Remove key) = Unit {0}
FitsOp (Put key part) = FitsKey key × FitsRowPart part
FitsOp (Set key part) = FitsRowPart part

-- a row that is put as it is given has every cell shown, as rows of whole trees have
abbrev pub ShowsRow : Op → Type 0
ShowsRow (PutRow row) = Unit {0}
ShowsRow (Replace key sets) = Unit {0}
ShowsRow (Remove key) = Unit {0}
ShowsRow (Put key part) = IsWholeRow part
ShowsRow (Set key part) = IsWholeRow part

-- a table of this many rows has room for what the work puts there
abbrev pub HasRoom : Op → ℕ → Type 0
HasRoom (PutRow row) rows = rows < max_rows
HasRoom (Replace key sets) rows = Unit {0}
HasRoom (Remove key) rows = Unit {0}
HasRoom (Put key part) rows = rows < max_rows
HasRoom (Set key part) rows = Unit {0}
