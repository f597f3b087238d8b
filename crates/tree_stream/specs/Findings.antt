-- What is found in a tree that is read for a target: whether a node or a cell that it reads is
-- hidden, whether one that it doesn't read is shown, whether the rows are those of its table, and
-- the rows that it reads. What is found in a tree is the sum of what is found in its parts.
use Rattle.std.specs.Prelude.{ℕ, ◌+◌, ◌≤◌, Bool, true, false, not, ◌&&◌, ◌||◌, ◌==◌, nat_le, if◌then◌else◌, List, [], ◌∷◌, ◌++◌, length, map, remove, slice_get, Option, Some, None}
use Rattle.std.specs.List.{list_any}
use Rattle.std.specs.Option.{option_map_or}
use Rattle.vo_spec.specs.declared.values.Kind.TheVariants as kind
use Rattle.vo_spec.specs.declared.tables.Column.{Column}
use Rattle.vo_spec.specs.declared.tables.Schema.{Schema}
use Rattle.vo_spec.specs.declared.keys.Bound.TheVariants.{Exclusive}
use Rattle.vo_spec.specs.declared.needs.Need.{Need}
use Rattle.vo_spec.specs.declared.cells.Cell.{Cell}
use Rattle.vo_spec.specs.declared.cells.Cell.TheVariants.{Shown, Hidden}
use Rattle.vo_spec.specs.declared.cells.RowPart.{RowPart}
use Rattle.vo_spec.specs.declared.cells.RowPart.TheVariants.{Digest as Closed, Cells}
use Rattle.vo_spec.specs.declared.cells.PartEntry.{PartEntry}
use Rattle.vo_spec.specs.Parts.{stub, leaf, inner, none, more}
use Rattle.vo_spec.specs.Trees.{RowTree, RowTrees}
use Rattle.vo_spec.specs.Scans.{in_interval, is_empty_interval, visits}
use Rattle.vo_spec.specs.Checks.{is_key_of, key_kind}
use Rattle.vo_spec.specs.Pruning.{is_any, has_column}
use Rattle.vo_spec.specs.Values.{is_null, is_of_kind}
use Rattle.tree_stream.specs.declared.target.CellKind.{CellKind}
use Rattle.tree_stream.specs.declared.target.Target.{Target}
use Rattle.tree_stream.specs.declared.findings.Findings.{Findings}
use Rattle.tree_stream.specs.declared.findings.CellFindings.{CellFindings}

-- Targets.

abbrev pub cell_kind_of : Column → CellKind
cell_kind_of c = record { kind = c.kind; nullable = c.nullable }

-- the rows of a need, in a tree of the table of this schema
abbrev pub target_of : Need → Schema → Target
target_of need schema = record {
  interval = need.interval;
  columns = need.columns;
  key_kind = key_kind schema;
  cell_kinds = map cell_kind_of (remove schema.columns schema.key);
}

-- no rows, in a tree of any table
abbrev pub no_target : Target
no_target = record {
  interval = record { low = Exclusive []; high = Exclusive [] };
  columns = [];
  key_kind = kind.Int;
  cell_kinds = [];
}

-- Sums.

abbrev pub no_findings : Findings
no_findings = record { is_missing = false; has_surplus = false; has_shape = true; rows = [] }

abbrev pub combine : Findings → Findings → Findings
combine f g = record {
  is_missing = f.is_missing || g.is_missing;
  has_surplus = f.has_surplus || g.has_surplus;
  has_shape = f.has_shape && g.has_shape;
  rows = f.rows ++ g.rows;
}

abbrev pub no_cell_findings : CellFindings
no_cell_findings =
    record { is_missing = false; has_surplus = false; has_shape = true; values = [] }

abbrev pub combine_cells : CellFindings → CellFindings → CellFindings
combine_cells f g = record {
  is_missing = f.is_missing || g.is_missing;
  has_surplus = f.has_surplus || g.has_surplus;
  has_shape = f.has_shape && g.has_shape;
  values = f.values ++ g.values;
}

-- Rows.

-- the columns that are named of the row with this key
abbrev pub columns_at : Target → List ℕ → List ℕ
columns_at target key = if in_interval target.interval key then target.columns else []

-- the cell shows no value, or one of the kind, and NULL only where it may
abbrev pub shows_kind : CellKind → Cell → Bool
shows_kind k (Shown value) = is_of_kind k.kind value && (k.nullable || not (is_null value))
shows_kind k (Hidden digest) = true

-- the cell of this column shows what the column may hold, if there is such a column
abbrev pub fits_kind : List CellKind → ℕ → Cell → Bool
fits_kind kinds column cell = option_map_or (λ k. shows_kind k cell) (slice_get kinds column) true

-- a cell, where its column is named or isn't, and its kind is the column's or isn't
abbrev pub cell_findings : Bool → Bool → Cell → CellFindings
cell_findings is_named fits (Hidden d) =
    record { is_missing = is_named; has_surplus = false; has_shape = fits; values = [] }
cell_findings is_named fits (Shown v) =
    record {
      is_missing = false;
      has_surplus = not is_named;
      has_shape = fits;
      values = if is_named then v ∷ [] else [];
    }

-- cells, the first of them that of this column
abbrev pub cells_findings : List CellKind → List ℕ → ℕ → List Cell → CellFindings
cells_findings kinds named column [] = no_cell_findings
cells_findings kinds named column (cell ∷ cells) =
    combine_cells (cell_findings (has_column named column) (fits_kind kinds column cell) cell)
    (cells_findings kinds named (column + 1) cells)

-- a row that stands as so many cells: a named column may be none of them, or none may be named at
-- all
abbrev pub row_head_findings : List CellKind → List ℕ → ℕ → CellFindings
row_head_findings kinds named count = record {
  is_missing = list_any (λ column. nat_le count column) named;
  has_surplus = not (is_any named);
  has_shape = count == length kinds;
  values = [];
}

-- a row that stands as a digest
abbrev pub closed_row_findings : List ℕ → CellFindings
closed_row_findings named =
    record { is_missing = is_any named; has_surplus = false; has_shape = true; values = [] }

-- what is found in an entry by what is found in its cells
abbrev pub entry_findings_by : Target → List ℕ → CellFindings → Findings
entry_findings_by target key f = record {
  is_missing = f.is_missing;
  has_surplus = f.has_surplus;
  has_shape = is_key_of target.key_kind key && f.has_shape;
  rows = if in_interval target.interval key
      then record { key = key; values = f.values } ∷ []
      else [];
}

abbrev pub row_findings : List CellKind → List ℕ → RowPart → CellFindings
row_findings kinds named (Closed d) = closed_row_findings named
row_findings kinds named (Cells cells) =
    combine_cells (row_head_findings kinds named (length cells))
    (cells_findings kinds named 0 cells)

abbrev pub entry_findings : Target → PartEntry → Findings
entry_findings target e =
    entry_findings_by target e.key
    (row_findings target.cell_kinds (columns_at target e.key) e.row)

abbrev pub entries_findings : Target → List PartEntry → Findings
entries_findings target [] = no_findings
entries_findings target (e ∷ es) = combine (entry_findings target e) (entries_findings target es)

-- Nodes.

abbrev pub stub_findings : Bool → Findings
stub_findings visited =
    record { is_missing = visited; has_surplus = false; has_shape = true; rows = [] }

abbrev pub open_node_findings : Bool → Findings
open_node_findings visited =
    record { is_missing = false; has_surplus = not visited; has_shape = true; rows = [] }

-- whether the scan visits the child between these separators
abbrev pub visits_child : Target → Bool → Option (List ℕ) → Option (List ℕ) → Bool
visits_child target visited lower upper = visited && visits target.interval lower upper

-- the same of each child, from the one on whose lower separator is given
abbrev pub child_visits : Target → Bool → Option (List ℕ) → List (List ℕ) → List Bool
child_visits target visited lower [] = visits_child target visited lower None ∷ []
child_visits target visited lower (s ∷ ss) =
    visits_child target visited lower (Some s) ∷ child_visits target visited (Some s) ss

-- a tree whose root the scan visits or doesn't, and each of some trees
abbrev mutual
  pub tree_findings : Target → Bool → RowTree → Findings
  tree_findings target visited (stub d) = stub_findings visited
  tree_findings target visited (leaf es) =
      combine (open_node_findings visited) (entries_findings target es)
  tree_findings target visited (inner ss ps) =
      combine (open_node_findings visited)
      (children_findings target (child_visits target visited None ss) ps)

  pub children_findings : Target → List Bool → RowTrees → Findings
  children_findings target vs none = no_findings
  children_findings target [] (more m p ps) = no_findings
  children_findings target (v ∷ vs) (more m p ps) =
      combine (tree_findings target v p) (children_findings target vs ps)

-- in a tree whose root is visited unless the interval is empty
abbrev pub findings_in : Target → RowTree → Findings
findings_in target p = tree_findings target (not (is_empty_interval target.interval)) p

-- each of the numbers is above those before it, and the first is no lower than this
abbrev pub Rises : ℕ → List ℕ → Type 0
Rises least [] = Unit {0}
Rises least (n ∷ numbers) = (least ≤ n) × Rises (n + 1) numbers
