-- What a machine keeps of the bytes of a tree that it took: rows of its target.
use Rattle.std.specs.Prelude.{◌≡◌, ◌⊎◌, ℕ, suc, ◌+◌, ◌≤◌, Bool, IsTrue, List, [], ◌∷◌, ◌++◌, All, length, flat_map}
use Rattle.vo_spec.specs.declared.cells.Cell.{Cell}
use Rattle.vo_spec.specs.declared.keys.Interval.{Interval}
use Rattle.vo_spec.specs.declared.needs.SeenRow.{SeenRow}
use Rattle.vo_spec.specs.declared.values.Value.{Value}
use Rattle.vo_spec.specs.Bytes.{string}
use Rattle.vo_spec.specs.Fits.{FitsCell, FitsKey, max_cells}
use Rattle.vo_spec.specs.Scans.{in_interval}
use Rattle.vo_spec.specs.TreeBytes.{cell_form}
use Rattle.vo_spec.specs.Values.{value_bytes}
use Rattle.tree_stream.specs.declared.context.Context.{Context}
use Rattle.tree_stream.specs.declared.state.State.{State}
use Rattle.tree_stream.specs.declared.state.State.TheVariants.{Row, Cell as CellState}
use Rattle.tree_stream.specs.Places.{HasNeededEntries, IsEntryPlace}

abbrev pub values_bytes : List Value → List ℕ
values_bytes values = flat_map value_bytes values

-- the bytes of a row that is kept: its key's, and those of its values
abbrev pub kept_bytes : SeenRow → List ℕ
kept_bytes row = row.key ++ values_bytes row.values

abbrev pub rows_bytes : List SeenRow → List ℕ
rows_bytes rows = flat_map kept_bytes rows

-- the values that are kept of the row that is read
abbrev pub open_values : State → List Value
open_values (CellState row) = row.findings.values
open_values _ = []

-- values of the cells of a row, which is needed or not, are more by as many bytes at most
pub record ValuesGrow (is_needed : Bool) (old new : List Value) (count : ℕ) : Type 0 where
  pub within : length (values_bytes new) ≤ length (values_bytes old) + count
  pub needed : (new ≡ old) ⊎ IsTrue is_needed

-- the rows that were kept are of needed entries among these bytes
abbrev pub KeepsRows : Context → List ℕ → Type 0
KeepsRows context bytes = HasNeededEntries context.target.interval bytes
    (length (rows_bytes context.findings.rows))

-- Rows that were kept are of needed entries before the entry whose key the bytes end with.
pub record AreKeptBehindKey (interval : Interval) (kept : List SeenRow) (key bytes : List ℕ)
    : Type 0 where
  pub before : List ℕ
  pub rows : HasNeededEntries interval before (length (rows_bytes kept))
  pub place : IsEntryPlace before
  pub fits : FitsKey key
  pub parts : bytes ≡ before ++ string key

abbrev pub KeepsBehindKey : Context → List ℕ → Type 0
KeepsBehindKey context bytes = AreKeptBehindKey context.target.interval context.findings.rows
    context.last_key.items bytes

-- So they are before the row that the bytes end in, behind so many of its cells; the values that
-- are kept of it are of these.
pub record AreKeptInCells (interval : Interval) (kept : List SeenRow) (key : List ℕ)
    (column left : ℕ) (values : List Value) (bytes : List ℕ) : Type 0 where
  pub before : List ℕ
  pub cells : List Cell
  pub entry : AreKeptBehindKey interval kept key before
  pub bytes_are : bytes ≡ before ++ 1 ∷ (column + left) ∷ flat_map cell_form cells
  pub are_so_many : length cells ≡ column
  pub most : column + left ≤ max_cells
  pub fit : All FitsCell cells
  pub grown : ValuesGrow (in_interval interval key) [] values (length (flat_map cell_form cells))

abbrev pub KeepsInCells : Context → ℕ → ℕ → List Value → List ℕ → Type 0
KeepsInCells context column left values bytes = AreKeptInCells context.target.interval
    context.findings.rows context.last_key.items column left values bytes

-- what the state keeps is of needed entries among these bytes of a tree
abbrev pub KeepsAt : Context → State → List ℕ → Type 0
KeepsAt context (Row leaf) bytes = KeepsBehindKey context bytes
KeepsAt context (CellState row) bytes =
    KeepsInCells context row.column (suc row.left) row.findings.values bytes
KeepsAt context _ bytes = KeepsRows context bytes

-- how many bytes it keeps: those of the rows, and of the values of the row that is read
abbrev pub kept_count : Context → State → ℕ
kept_count context state =
    length (rows_bytes context.findings.rows) + length (values_bytes (open_values state))
