-- The limits that part trees keep: those of their bytes.
use Rattle.std.specs.Prelude.{◌≡◌, ℕ, ◌+◌, ◌≤◌, List, All, length}
use Rattle.vo_spec.specs.declared.values.Value.{Value}
use Rattle.vo_spec.specs.declared.values.Row.{Row}
use Rattle.vo_spec.specs.declared.cells.Cell.{Cell}
use Rattle.vo_spec.specs.declared.cells.Cell.TheVariants.{Shown, Hidden}
use Rattle.vo_spec.specs.declared.cells.RowPart.{RowPart}
use Rattle.vo_spec.specs.declared.cells.RowPart.TheVariants.{Digest as Closed, Cells}
use Rattle.vo_spec.specs.declared.cells.PartEntry.{PartEntry}
use Rattle.vo_spec.specs.Values.{FitsValue}
use Rattle.vo_spec.specs.Tables.{max_key}
use Rattle.vo_spec.specs.Parts.{Part, Parts, stub, leaf, inner, none, more, count, levels}
use Rattle.vo_spec.specs.Trees.{RowTree}

-- how many cells a row has at most, entries or children a node has, and levels a tree that is read
-- has
abbrev pub max_cells : ℕ
max_cells = 31

abbrev pub max_fill : ℕ
max_fill = 16

abbrev pub max_levels : ℕ
max_levels = 11

abbrev pub FitsDigest : List ℕ → Type 0
FitsDigest digest = length digest ≡ 32

abbrev pub FitsKey : List ℕ → Type 0
FitsKey key = length key ≤ max_key

abbrev pub FitsCell : Cell → Type 0
FitsCell (Shown value) = FitsValue value
FitsCell (Hidden digest) = FitsDigest digest

abbrev pub FitsRowPart : RowPart → Type 0
FitsRowPart (Closed digest) = FitsDigest digest
FitsRowPart (Cells cells) = (length cells ≤ max_cells) × All FitsCell cells

pub record FitsEntry (e : PartEntry) : Type 0 where
  pub key : FitsKey e.key
  pub row : FitsRowPart e.row

-- the values of a row without its key, and a row of a table
pub record FitsCells (values : List Value) : Type 0 where
  pub count : length values ≤ max_cells
  pub each : All FitsValue values

pub record FitsRow (row : Row) : Type 0 where
  pub key : FitsKey row.key
  pub cells : FitsCells row.cells

module _ {E M : Type 0} (FitsE : E → Type 0) where
  abbrev mutual
    pub FitsBy : Part E M → Type 0
    FitsBy (stub d) = FitsDigest d
    FitsBy (leaf es) = (length es ≤ max_fill) × All FitsE es
    FitsBy (inner ss ps) =
        (2 ≤ count ps) × (count ps ≤ max_fill) × (length ss + 1 ≡ count ps) × All FitsKey ss
        × FitsEach ps

    pub FitsEach : Parts E M → Type 0
    FitsEach none = Unit {0}
    FitsEach (more m p ps) = FitsBy p × FitsEach ps

-- each node is within its limits
abbrev pub FitsPart : RowTree → Type 0
FitsPart = FitsBy FitsEntry

-- and there are no more levels than a reader gives
pub record FitsTree (p : RowTree) : Type 0 where
  pub nodes : FitsPart p
  pub depth : levels p ≤ max_levels
