-- What reading the bytes to come gives of a node that is read in part: its digest, and what is
-- found in the rest of it.
use Rattle.std.specs.Prelude.{ℕ, suc, ◌-◌, Bool, if◌then◌else◌, List, ◌++◌, length, flat_map, Option, Some, None}
use Rattle.sha2.specs.Sha256.{sha256}
use Rattle.tree_stream.specs.declared.target.Target.{Target}
use Rattle.vo_spec.specs.declared.cells.PartEntry.{PartEntry}
use Rattle.vo_spec.specs.Bytes.{string}
use Rattle.vo_spec.specs.Cells.{cell_digests, row_digest, entry_bytes}
use Rattle.vo_spec.specs.Trees.{RowTree, digest, open_parts}
use Rattle.row_bytes.specs.Fields.{◌>>=◌, times}
use Rattle.batch_format.specs.BatchReading.{Reader, one}
use Rattle.batch_format.specs.TreeReading.{cell_at, row_at, key_at, entry_at, tree_at}
use Rattle.tree_stream.specs.declared.findings.Findings.{Findings}
use Rattle.tree_stream.specs.declared.findings.CellFindings.{CellFindings}
use Rattle.tree_stream.specs.declared.findings.Summary.{Summary}
use Rattle.tree_stream.specs.declared.state.State.{State}
use Rattle.tree_stream.specs.declared.state.State.TheVariants.{Node, Separator, Key, Row, Cell, Complete, Invalid}
use Rattle.tree_stream.specs.Findings.{no_findings, combine, combine_cells, columns_at, cells_findings, entry_findings_by, row_findings, entries_findings, child_visits, tree_findings, children_findings}

abbrev pub summary : List ℕ → Findings → Summary
summary d f = record { digest = d; findings = f }

-- findings before those of what is read
unfoldable pub with_findings : Findings → Reader Summary → Reader Summary
with_findings f read bytes =
    read bytes >>= λ end. Some (summary end.0.digest (combine f end.0.findings), end.1)

-- nothing is left to read
abbrev pub nothing_more : List ℕ → Reader Summary
nothing_more d bytes = Some (summary d no_findings, bytes)

abbrev pub tree_summary : Target → Bool → RowTree → Summary
tree_summary target visited p = summary (digest p) (tree_findings target visited p)

-- a tree of at most so many levels
unfoldable pub summary_at : Target → ℕ → Bool → Reader Summary
summary_at target levels visited bytes = one (tree_summary target visited) (tree_at levels) bytes

-- so many more entries of a leaf, behind what was hashed of it
abbrev pub leaf_summary : Target → List ℕ → List PartEntry → Summary
leaf_summary target hashed es =
    summary (sha256 (hashed ++ flat_map entry_bytes es)) (entries_findings target es)

unfoldable pub rest_of_leaf : Target → List ℕ → ℕ → Reader Summary
rest_of_leaf target hashed left bytes = one (leaf_summary target hashed) (times entry_at left) bytes

-- the children whose visits are given, each of at most so many levels
abbrev pub children_summary : Target → List ℕ → List Bool → List RowTree → Summary
children_summary target hashed visits ps = summary (sha256 (hashed ++ flat_map digest ps))
    (children_findings target visits (open_parts ps))

unfoldable pub rest_of_children : Target → ℕ → List ℕ → List Bool → Reader Summary
rest_of_children target levels hashed visits bytes =
    one (children_summary target hashed visits) (times (tree_at levels) (length visits)) bytes

-- so many more separators of an inner node, and then its children
unfoldable pub rest_of_inner : Target → ℕ → Bool → List ℕ → List Bool → Option (List ℕ) → ℕ
    → Reader Summary
rest_of_inner target levels visited hashed visits lower left bytes =
    times key_at left bytes >>= λ ss. rest_of_children target levels
    (hashed ++ flat_map string ss.0) (visits ++ child_visits target visited lower ss.0) ss.1

-- the row behind a key, and then so many more entries
unfoldable pub rest_of_row : Target → List ℕ → List ℕ → ℕ → Reader Summary
rest_of_row target hashed key left bytes =
    row_at bytes >>= λ row. with_findings
    (entry_findings_by target key
    (row_findings target.cell_kinds (columns_at target key) row.0))
    (rest_of_leaf target (hashed ++ row_digest row.0) left) row.1

-- so many more cells of a row, the first of them that of this column, behind what was hashed and
-- found of the row; and then so many more entries of the leaf
unfoldable pub rest_of_cells : Target → List ℕ → List ℕ → ℕ → List ℕ → ℕ → CellFindings → ℕ
    → Reader Summary
rest_of_cells target hashed key left row_hashed column found cells_left bytes =
    times cell_at cells_left bytes >>= λ cells. with_findings
    (entry_findings_by target key
    (combine_cells found
    (cells_findings target.cell_kinds (columns_at target key) column cells.0)))
    (rest_of_leaf target (hashed ++ sha256 (row_hashed ++ cell_digests column cells.0)) left)
    cells.1

-- the separator before the child whose upper separator comes next
abbrev pub lower_separator : Bool → List ℕ → Option (List ℕ)
lower_separator has_lower last_key = if has_lower then Some last_key else None

-- The rest of the node that a state is in, which has at most so many levels. The state counts what
-- is to come behind the next thing.
unfoldable pub rest_of_node : Target → ℕ → List ℕ → State → Reader Summary
rest_of_node target levels last_key (Node visited) bytes = summary_at target levels visited bytes
rest_of_node target levels last_key (Separator head) bytes =
    rest_of_inner target (levels - 1) head.visited head.hasher head.child_visits.items
    (lower_separator head.has_lower last_key) (suc head.left) bytes
rest_of_node target levels last_key (Key leaf) bytes =
    rest_of_leaf target leaf.hasher (suc leaf.left) bytes
rest_of_node target levels last_key (Row leaf) bytes =
    rest_of_row target leaf.hasher last_key leaf.left bytes
rest_of_node target levels last_key (Cell row) bytes =
    rest_of_cells target row.leaf.hasher last_key row.leaf.left row.hasher row.column row.findings
    (suc row.left) bytes
rest_of_node target levels last_key (Complete digest) bytes = nothing_more digest bytes
rest_of_node target levels last_key Invalid bytes = None
