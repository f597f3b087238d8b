-- The entries of a leaf, one token after another: keys, rows and cells.
use Rattle.std.proofs.Common.{◌≡◌, ℕ, suc, ◌+◌, ◌≤◌, List, [], ◌∷◌, ◌++◌, length, flat_map, Option, Some, None, sym, ap, ◌∙◌, append_assoc, append-nil, arith}
use Rattle.sha2.specs.Sha256.{sha256}
use Rattle.tree_stream.specs.declared.target.Target.{Target}
use Rattle.vo_spec.specs.declared.cells.Cell.{Cell}
use Rattle.vo_spec.specs.declared.cells.RowPart.{RowPart}
use Rattle.vo_spec.specs.declared.cells.RowPart.TheVariants.{Digest as Closed, Cells}
use Rattle.vo_spec.specs.declared.cells.PartEntry.{PartEntry}
use Rattle.vo_spec.specs.Bytes.{string}
use Rattle.vo_spec.specs.Cells.{cell_digest, cell_digests, row_digest, entry_bytes}
use Rattle.vo_spec.specs.Fits.{max_cells, FitsCell}
use Rattle.vo_spec.specs.Tables.{max_key}
use Rattle.vo_spec.specs.TreeBytes.{cell_form}
use Rattle.vo_spec.specs.Pruning.{has_column}
use Rattle.row_bytes.specs.Fields.{◌>>=◌, times}
use Rattle.batch_format.specs.BatchReading.{one}
use Rattle.batch_format.specs.TreeReading.{cell_at, cells_at, row_at, key_at, part_entry, entry_at}
use Rattle.batch_format.proofs.KeyLaws.{bytes_read, counts_read, keys_read}
use Rattle.batch_format.proofs.EntryLaws.{cell_again}
use Rattle.tree_stream.specs.declared.findings.Findings.{Findings}
use Rattle.tree_stream.specs.declared.findings.CellFindings.{CellFindings}
use Rattle.tree_stream.specs.declared.findings.Summary.{Summary}
use Rattle.tree_stream.specs.Findings.{combine, combine_cells, columns_at, fits_kind, cell_findings, cells_findings, row_head_findings, closed_row_findings, entry_findings_by, row_findings, entries_findings}
use Rattle.tree_stream.specs.Remaining.{summary, with_findings, nothing_more, leaf_summary, rest_of_leaf, rest_of_row, rest_of_cells}
use Rattle.tree_stream.proofs.Sums.{combine_cells_none, combine_cells_assoc}
use Rattle.tree_stream.proofs.Binds.{bind_assoc, bind_same, bind_at, bind_is, times_length}

abbrev End : Type 0
End = Summary × List ℕ

abbrev Entries : Type 0
Entries = List PartEntry × List ℕ

abbrev Row : Type 0
Row = RowPart × List ℕ

abbrev AllCells : Type 0
AllCells = List Cell × List ℕ

-- Entries.

pub leaf_end : (target : Target) (hashed rest : List ℕ) → rest_of_leaf target hashed 0 rest ≡ nothing_more (sha256 hashed) rest
unfolding rest_of_leaf
leaf_end target hashed rest = ap (λ (bytes : List ℕ). nothing_more (sha256 bytes) rest) (append-nil hashed)

entry_keyed : (key rest : List ℕ) → length key ≤ max_key → entry_at (string key ++ rest) ≡ one (part_entry key) row_at rest
unfolding entry_at
entry_keyed key rest short = bind_is _ (key, rest) (λ k. one (part_entry k.0) row_at k.1) (keys_read.again key rest short)

regroup : (a b c d : List ℕ) → a ++ ((b ++ c) ++ d) ≡ ((a ++ b) ++ c) ++ d
regroup a b c d = sym (append_assoc a (b ++ c) d) ∙ ap (λ (t : List ℕ). t ++ d) (sym (append_assoc a b c))

pub key_taken : (target : Target) (hashed : List ℕ) (left : ℕ) (key rest : List ℕ) → length key ≤ max_key
    → rest_of_leaf target hashed (suc left) (string key ++ rest) ≡ rest_of_row target (hashed ++ string key) key left rest
unfolding rest_of_leaf rest_of_row with_findings
key_taken target hashed left key rest short =
    let others : PartEntry × List ℕ → Option Entries = λ e. times entry_at left e.1 >>= λ es. Some (e.0 ∷ es.0, es.1) in
    let one_more : PartEntry → Entries → Option Entries = λ e es. Some (e ∷ es.0, es.1) in
    let sum_all : Entries → Option End = λ es. Some (leaf_summary target hashed es.0, es.1) in
    let as_entry : Row → Option (PartEntry × List ℕ) = λ r. Some (part_entry key r.0, r.1) in
    let found : RowPart → Findings = λ r. entry_findings_by target key (row_findings target.cell_kinds (columns_at target key) r) in
    let sum_others : RowPart → Entries → Option End = λ r es. Some (leaf_summary target ((hashed ++ string key) ++ row_digest r) es.0, es.1) in
    let before : RowPart → End → Option End = λ r end. Some (summary end.0.digest (combine (found r) end.0.findings), end.1) in
    ap (λ (o : Option (PartEntry × List ℕ)). (o >>= others) >>= sum_all) (entry_keyed key rest short)
    ∙ ap (λ (o : Option Entries). o >>= sum_all) (bind_assoc (row_at rest) as_entry others)
    ∙ bind_assoc (row_at rest) (λ r. as_entry r >>= others) sum_all
    ∙ bind_same (row_at rest) (λ r. (as_entry r >>= others) >>= sum_all) (λ r. (times entry_at left r.1 >>= sum_others r.0) >>= before r.0)
    (λ r. bind_assoc (times entry_at left r.1) (one_more (part_entry key r.0)) sum_all
    ∙ bind_same (times entry_at left r.1) (λ es. one_more (part_entry key r.0) es >>= sum_all) (λ es. sum_others r.0 es >>= before r.0)
    (λ es. ap (λ (bytes : List ℕ). Some (summary (sha256 bytes) (combine (found r.0) (entries_findings target es.0)), es.1))
    (regroup hashed (string key) (row_digest r.0) (flat_map entry_bytes es.0)))
    ∙ sym (bind_assoc (times entry_at left r.1) (sum_others r.0) (before r.0)))

pub no_key : (target : Target) (hashed : List ℕ) (left : ℕ) (bytes : List ℕ) → key_at bytes ≡ None → rest_of_leaf target hashed (suc left) bytes ≡ None
unfolding rest_of_leaf entry_at
no_key target hashed left bytes none =
    let others : PartEntry × List ℕ → Option Entries = λ e. times entry_at left e.1 >>= λ es. Some (e.0 ∷ es.0, es.1) in
    let sum_all : Entries → Option End = λ es. Some (leaf_summary target hashed es.0, es.1) in
    ap (λ (o : Option (List ℕ × List ℕ)). ((o >>= λ k. one (part_entry k.0) row_at k.1) >>= others) >>= sum_all) none

-- Rows.

module _ (target : Target) (hashed key : List ℕ) (left : ℕ) where
  abbrev named : List ℕ
  named = columns_at target key

  abbrev behind_row : Row → Option End
  behind_row row = with_findings (entry_findings_by target key (row_findings target.cell_kinds named row.0)) (rest_of_leaf target (hashed ++ row_digest row.0) left) row.1

  pub closed_row_taken : (d rest : List ℕ) → length d ≡ 32
      → rest_of_row target hashed key left (0 ∷ d ++ rest) ≡ with_findings (entry_findings_by target key (closed_row_findings named)) (rest_of_leaf target (hashed ++ d) left) rest
  unfolding rest_of_row row_at
  closed_row_taken d rest len =
      let closed : List ℕ × List ℕ → Option Row = λ x. Some (Closed x.0, x.1) in
      ap (λ (o : Option (List ℕ × List ℕ)). (o >>= closed) >>= behind_row) ((bytes_read 32).again d rest len)

  abbrev behind_cells : List ℕ → ℕ → CellFindings → AllCells → Option End
  behind_cells row_hashed column found cells =
      with_findings (entry_findings_by target key (combine_cells found (cells_findings target.cell_kinds named column cells.0)))
      (rest_of_leaf target (hashed ++ sha256 (row_hashed ++ cell_digests column cells.0)) left) cells.1

  cells_counted : (n : ℕ) (rest : List ℕ) → n ≤ max_cells → cells_at (n ∷ rest) ≡ times cell_at n rest
  unfolding cells_at
  cells_counted n rest few = bind_is _ (n, rest) (λ count. times cell_at count.0 count.1) ((counts_read 0 max_cells).again n rest (omega arith, few))

  pub open_row_taken : (n : ℕ) (rest : List ℕ) → n ≤ max_cells
      → rest_of_row target hashed key left (1 ∷ n ∷ rest) ≡ rest_of_cells target hashed key left (2 ∷ n ∷ []) 0 (row_head_findings target.cell_kinds named n) n rest
  unfolding rest_of_row row_at rest_of_cells
  open_row_taken n rest few =
      let opened : AllCells → Option Row = λ cells. Some (Cells cells.0, cells.1) in
      ap (λ (o : Option AllCells). (o >>= opened) >>= behind_row) (cells_counted n rest few)
      ∙ bind_assoc (times cell_at n rest) opened behind_row
      ∙ bind_at (times cell_at n rest) (λ cells. opened cells >>= behind_row) (behind_cells (2 ∷ n ∷ []) 0 (row_head_findings target.cell_kinds named n))
      (λ cells e. ap (λ (k : ℕ). behind_cells (2 ∷ k ∷ []) 0 (row_head_findings target.cell_kinds named k) cells) (times_length cell_at n rest cells.0 cells.1 e))

  pub no_row : (bytes : List ℕ) → row_at bytes ≡ None → rest_of_row target hashed key left bytes ≡ None
  unfolding rest_of_row
  no_row bytes none = ap (λ (o : Option Row). o >>= behind_row) none

  -- Cells.

  pub cells_end : (row_hashed : List ℕ) (column : ℕ) (found : CellFindings) (rest : List ℕ)
      → rest_of_cells target hashed key left row_hashed column found 0 rest ≡ with_findings (entry_findings_by target key found) (rest_of_leaf target (hashed ++ sha256 row_hashed) left) rest
  unfolding rest_of_cells
  cells_end row_hashed column found rest =
      ap (λ (f : CellFindings). with_findings (entry_findings_by target key f) (rest_of_leaf target (hashed ++ sha256 (row_hashed ++ [])) left) rest) (combine_cells_none found)
      ∙ ap (λ (h : List ℕ). with_findings (entry_findings_by target key found) (rest_of_leaf target (hashed ++ sha256 h) left) rest) (append-nil row_hashed)

  pub cell_taken : (row_hashed : List ℕ) (column : ℕ) (found : CellFindings) (cells_left : ℕ) (cell : Cell) (rest : List ℕ) → FitsCell cell
      → rest_of_cells target hashed key left row_hashed column found (suc cells_left) (cell_form cell ++ rest)
      ≡ rest_of_cells target hashed key left (row_hashed ++ cell_digest column cell) (column + 1) (combine_cells found (cell_findings (has_column named column) (fits_kind target.cell_kinds column cell) cell)) cells_left rest
  unfolding rest_of_cells
  cell_taken row_hashed column found cells_left cell rest fits =
      let one_more : Cell → AllCells → Option AllCells = λ c cs. Some (c ∷ cs.0, cs.1) in
      let this : CellFindings = cell_findings (has_column named column) (fits_kind target.cell_kinds column cell) cell in
      ap (λ (o : Option (Cell × List ℕ)). (o >>= λ c. times cell_at cells_left c.1 >>= one_more c.0) >>= behind_cells row_hashed column found) (cell_again cell rest fits)
      ∙ bind_assoc (times cell_at cells_left rest) (one_more cell) (behind_cells row_hashed column found)
      ∙ bind_same (times cell_at cells_left rest) (λ cs. one_more cell cs >>= behind_cells row_hashed column found)
      (behind_cells (row_hashed ++ cell_digest column cell) (column + 1) (combine_cells found this))
      (λ cs. ap (λ (f : CellFindings). with_findings (entry_findings_by target key f)
      (rest_of_leaf target (hashed ++ sha256 (row_hashed ++ (cell_digest column cell ++ cell_digests (column + 1) cs.0))) left) cs.1)
      (sym (combine_cells_assoc found this (cells_findings target.cell_kinds named (column + 1) cs.0)))
      ∙ ap (λ (h : List ℕ). with_findings (entry_findings_by target key (combine_cells (combine_cells found this) (cells_findings target.cell_kinds named (column + 1) cs.0)))
      (rest_of_leaf target (hashed ++ sha256 h) left) cs.1)
      (sym (append_assoc row_hashed (cell_digest column cell) (cell_digests (column + 1) cs.0))))

  pub no_cell : (row_hashed : List ℕ) (column : ℕ) (found : CellFindings) (cells_left : ℕ) (bytes : List ℕ) → cell_at bytes ≡ None
      → rest_of_cells target hashed key left row_hashed column found (suc cells_left) bytes ≡ None
  unfolding rest_of_cells
  no_cell row_hashed column found cells_left bytes none =
      let one_more : Cell → AllCells → Option AllCells = λ c cs. Some (c ∷ cs.0, cs.1) in
      ap (λ (o : Option (Cell × List ℕ)). (o >>= λ c. times cell_at cells_left c.1 >>= one_more c.0) >>= behind_cells row_hashed column found) none
