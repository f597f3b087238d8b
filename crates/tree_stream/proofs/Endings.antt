-- From each place of a tree there is a way on: some bytes make a whole tree of it.
use Rattle.std.proofs.Common.{◌≡◌, ℕ, zero, suc, ◌+◌, ◌≤◌, Bool, List, [], ◌∷◌, ◌++◌, length, Option, Some, refl, ap, ◌∙◌, append_assoc, arith, inl, inr}
use Rattle.std.specs.Prelude.{reverse}
use Rattle.std.proofs.lemmas.List.{length-reverse}
use Rattle.sha2.specs.Sha256.{sha256}
use Rattle.tree_stream.specs.declared.target.Target.{Target}
use Rattle.vo_spec.specs.declared.cells.Cell.{Cell}
use Rattle.vo_spec.specs.declared.cells.Cell.TheVariants.{Hidden}
use Rattle.vo_spec.specs.declared.cells.RowPart.TheVariants.{Digest as Closed}
use Rattle.vo_spec.specs.declared.cells.PartEntry.{PartEntry}
use Rattle.vo_spec.specs.Bytes.{IsBytes, u16_bytes}
use Rattle.vo_spec.specs.Cells.{cell_digest, cell_digests}
use Rattle.vo_spec.specs.Pruning.{has_column}
use Rattle.vo_spec.specs.Parts.{stub}
use Rattle.vo_spec.specs.TreeBytes.{cell_form, entry_form}
use Rattle.row_bytes.specs.Fields.{◌>>=◌, times}
use Rattle.batch_format.specs.BatchReading.{Reader, one}
use Rattle.batch_format.specs.TreeReading.{cell_at, entry_at, tree_at}
use Rattle.batch_format.proofs.EntryLaws.{cell_again, entries_read}
use Rattle.batch_format.proofs.TreeLaws.{levels_read}
use Rattle.tree_stream.specs.declared.findings.Findings.{Findings}
use Rattle.tree_stream.specs.declared.findings.CellFindings.{CellFindings}
use Rattle.tree_stream.specs.declared.findings.Summary.{Summary}
use Rattle.tree_stream.specs.declared.state.InnerNode.{InnerNode}
use Rattle.tree_stream.specs.Findings.{combine, combine_cells, columns_at, fits_kind, cell_findings, cells_findings, closed_row_findings, row_head_findings, entry_findings_by}
use Rattle.tree_stream.specs.Parsing.{BeginsCell, BeginsRow}
use Rattle.tree_stream.specs.Remaining.{summary, with_findings, leaf_summary, rest_of_leaf, children_summary, rest_of_children, rest_of_row, rest_of_cells}
use Rattle.tree_stream.specs.Summaries.{levels_below, summary_after, summary_with, CanEnd}
use Rattle.tree_stream.proofs.AllBytes.{IsBytes-nil, IsBytes-append, IsBytes-tested}
use Rattle.tree_stream.proofs.LeafLaws.{closed_row_taken, open_row_taken, cell_taken}
use Rattle.tree_stream.proofs.Remainders.{summary_behind}

abbrev zeros : List ℕ
zeros = 0 ∷ 0 ∷ 0 ∷ 0 ∷ 0 ∷ 0 ∷ 0 ∷ 0 ∷ 0 ∷ 0 ∷ 0 ∷ 0 ∷ 0 ∷ 0 ∷ 0 ∷ 0 ∷ 0 ∷ 0 ∷ 0 ∷ 0 ∷ 0 ∷ 0 ∷ 0 ∷ 0 ∷ 0 ∷ 0 ∷ 0 ∷ 0 ∷ 0 ∷ 0 ∷ 0 ∷ 0 ∷ []

-- some bytes are read, whatever comes behind them
pub record CanRead {A : Type 0} (read : Reader A) : Type 0 where
  pub bytes : List ℕ
  pub are_bytes : IsBytes bytes
  pub found : A
  pub each : (rest : List ℕ) → read (bytes ++ rest) ≡ Some (found, rest)

pub repeated : {A : Type 0} (read : Reader A) (n : ℕ) → CanRead read → CanRead (times read n)
repeated {A} read zero can = record { bytes = []; are_bytes = IsBytes-nil; found = []; each = λ rest. refl }
repeated {A} read (suc n) can =
    let others = repeated read n can in
    let rest_of : A × List ℕ → Option (List A × List ℕ) = λ first. times read n first.1 >>= λ xs. Some (first.0 ∷ xs.0, xs.1) in
    record {
      bytes = can.bytes ++ others.bytes;
      are_bytes = IsBytes-append can.bytes others.bytes can.are_bytes others.are_bytes;
      found = can.found ∷ others.found;
      each = λ rest.
          ap (times read (suc n)) (append_assoc can.bytes others.bytes rest)
          ∙ ap (λ (o : Option (A × List ℕ)). o >>= rest_of) (can.each (others.bytes ++ rest))
          ∙ ap (λ (o : Option (List A × List ℕ)). o >>= λ xs. Some (can.found ∷ xs.0, xs.1)) (others.each rest);
    }

mapped : {A B : Type 0} (make : A → B) (read : Reader A) → CanRead read → CanRead (one make read)
mapped {A} {B} make read can = record {
  bytes = can.bytes;
  are_bytes = can.are_bytes;
  found = make can.found;
  each = λ rest. ap (λ (o : Option (A × List ℕ)). o >>= λ x. Some (make x.0, x.1)) (can.each rest);
}

-- and then others, by what was read
then_read : {A B : Type 0} (read : Reader A) (next : A → Reader B) → CanRead read → ((x : A) → CanRead (next x)) → CanRead (λ bytes. read bytes >>= λ x. next x.0 x.1)
then_read {A} {B} read next can others =
    let behind = others can.found in
    record {
      bytes = can.bytes ++ behind.bytes;
      are_bytes = IsBytes-append can.bytes behind.bytes can.are_bytes behind.are_bytes;
      found = behind.found;
      each = λ rest.
          ap (λ (bytes : List ℕ). read bytes >>= λ x. next x.0 x.1) (append_assoc can.bytes behind.bytes rest)
          ∙ ap (λ (o : Option (A × List ℕ)). o >>= λ x. next x.0 x.1) (can.each (behind.bytes ++ rest))
          ∙ behind.each rest;
    }

-- Nodes.

pub a_stub : (levels : ℕ) → 1 ≤ levels → CanRead (tree_at levels)
a_stub levels some = record {
  bytes = 0 ∷ zeros;
  are_bytes = IsBytes-tested (0 ∷ zeros) refl;
  found = stub zeros;
  each = λ rest. (levels_read levels).again (stub zeros) rest (refl, some);
}

an_entry : CanRead entry_at
unfolding u16_bytes
an_entry =
    let entry : PartEntry = record { key = []; row = Closed zeros } in
    record {
      bytes = entry_form entry;
      are_bytes = IsBytes-tested (entry_form entry) refl;
      found = entry;
      each = λ rest. entries_read.again entry rest (record { key = omega arith; row = refl });
    }

a_cell : CanRead cell_at
a_cell = record {
  bytes = cell_form (Hidden zeros);
  are_bytes = IsBytes-tested (cell_form (Hidden zeros)) refl;
  found = Hidden zeros;
  each = λ rest. cell_again (Hidden zeros) rest refl;
}

children_can : (target : Target) (levels : ℕ) (hashed : List ℕ) (visits : List Bool) → 1 ≤ levels → CanRead (rest_of_children target levels hashed visits)
unfolding rest_of_children
children_can target levels hashed visits some = mapped (children_summary target hashed visits) (times (tree_at levels) (length visits)) (repeated (tree_at levels) (length visits) (a_stub levels some))

leaf_can : (target : Target) (hashed : List ℕ) (left : ℕ) → CanRead (rest_of_leaf target hashed left)
unfolding rest_of_leaf
leaf_can target hashed left = mapped (leaf_summary target hashed) (times entry_at left) (repeated entry_at left an_entry)

found_can : (f : Findings) (read : Reader Summary) → CanRead read → CanRead (with_findings f read)
unfolding with_findings
found_can f read can = record {
  bytes = can.bytes;
  are_bytes = can.are_bytes;
  found = summary can.found.digest (combine f can.found.findings);
  each = λ rest. ap (λ (o : Option (Summary × List ℕ)). o >>= λ end. Some (summary end.0.digest (combine f end.0.findings), end.1)) (can.each rest);
}

cells_can : (target : Target) (hashed key : List ℕ) (left : ℕ) (row_hashed : List ℕ) (column : ℕ) (found : CellFindings) (n : ℕ) → CanRead (rest_of_cells target hashed key left row_hashed column found n)
unfolding rest_of_cells
cells_can target hashed key left row_hashed column found n =
    let f : List Cell → Findings = λ cells. entry_findings_by target key (combine_cells found (cells_findings target.cell_kinds (columns_at target key) column cells)) in
    let read : List Cell → Reader Summary = λ cells. rest_of_leaf target (hashed ++ sha256 (row_hashed ++ cell_digests column cells)) left in
    then_read (times cell_at n) (λ cells. with_findings (f cells) (read cells)) (repeated cell_at n a_cell)
    (λ cells. found_can (f cells) (read cells) (leaf_can target (hashed ++ sha256 (row_hashed ++ cell_digests column cells)) left))

-- Trees.

-- what goes on behind another reader
behind_can : {A : Type 0} (read : Reader A) (behind : A × List ℕ → Option (Summary × List ℕ)) (whole : Reader Summary) → ((bytes : List ℕ) → whole bytes ≡ (read bytes >>= behind)) → (can : CanRead read)
    → CanEnd (λ rest. behind (can.found, rest)) → CanEnd whole
behind_can {A} read behind whole same can above = record {
  bytes = can.bytes ++ above.bytes;
  are_bytes = IsBytes-append can.bytes above.bytes can.are_bytes above.are_bytes;
  found = above.found;
  each = λ rest.
      ap whole (append_assoc can.bytes above.bytes rest)
      ∙ same (can.bytes ++ (above.bytes ++ rest))
      ∙ ap (λ (o : Option (A × List ℕ)). o >>= behind) (can.each (above.bytes ++ rest))
      ∙ above.each rest;
}

after_can : (target : Target) (ancestors : List InnerNode) (d : List ℕ) (found : Findings) → length ancestors ≤ 10 → CanEnd (summary_after target ancestors d found)
unfolding summary_after
after_can target [] d found few = record { bytes = []; are_bytes = IsBytes-nil; found = summary d found; each = λ rest. refl }
after_can target (node ∷ ancestors) d found few =
    let read : Reader Summary = rest_of_children target (levels_below (node ∷ ancestors)) (node.hasher ++ d) node.child_visits.items in
    let can : CanRead read = children_can target (levels_below (node ∷ ancestors)) (node.hasher ++ d) node.child_visits.items (omega (arith, few)) in
    behind_can read (λ end. summary_after target ancestors end.0.digest (combine found end.0.findings) end.1) (summary_after target (node ∷ ancestors) d found) (λ bytes. refl) can
    (after_can target ancestors can.found.digest (combine found can.found.findings) (omega (arith, few)))

with_can : (target : Target) (ancestors : List InnerNode) (found : Findings) (read : Reader Summary) → length ancestors ≤ 10 → CanRead read → CanEnd (summary_with target ancestors found read)
unfolding summary_with
with_can target ancestors found read few can =
    behind_can read (summary_behind target ancestors found) (summary_with target ancestors found read) (λ bytes. refl) can
    (after_can target (reverse ancestors) can.found.digest (combine found can.found.findings) (omega (arith, few, length-reverse ancestors)))

pub can_same : (f g : Reader Summary) → ((rest : List ℕ) → f rest ≡ g rest) → CanEnd g → CanEnd f
can_same f g same can = record { bytes = can.bytes; are_bytes = can.are_bytes; found = can.found; each = λ rest. same (can.bytes ++ rest) ∙ can.each rest }

module _ (target : Target) (ancestors : List InnerNode) (found : Findings) (few : length ancestors ≤ 10) (hashed key : List ℕ) (left : ℕ) where
  abbrev by_row : Reader Summary
  by_row = summary_with target ancestors found (rest_of_row target hashed key left)

  pub row_can : (token : List ℕ) → BeginsRow token → CanEnd (λ rest. by_row (token ++ rest))
  unfolding summary_with
  row_can token (inl digest) =
      let f : Findings = entry_findings_by target key (closed_row_findings (columns_at target key)) in
      let read : Reader Summary = with_findings f (rest_of_leaf target (hashed ++ digest.0) left) in
      can_same (λ rest. by_row (token ++ rest)) (summary_with target ancestors found read)
      (λ rest. ap (λ (t : List ℕ). by_row (t ++ rest)) digest.1
      ∙ ap (λ (o : Option (Summary × List ℕ)). o >>= summary_behind target ancestors found) (closed_row_taken target hashed key left digest.0 rest digest.2))
      (with_can target ancestors found read few (found_can f (rest_of_leaf target (hashed ++ digest.0) left) (leaf_can target (hashed ++ digest.0) left)))
  row_can token (inr count) =
      let f : CellFindings = row_head_findings target.cell_kinds (columns_at target key) count.0 in
      let read : Reader Summary = rest_of_cells target hashed key left (2 ∷ count.0 ∷ []) 0 f count.0 in
      can_same (λ rest. by_row (token ++ rest)) (summary_with target ancestors found read)
      (λ rest. ap (λ (t : List ℕ). by_row (t ++ rest)) count.1
      ∙ ap (λ (o : Option (Summary × List ℕ)). o >>= summary_behind target ancestors found) (open_row_taken target hashed key left count.0 rest count.2))
      (with_can target ancestors found read few (cells_can target hashed key left (2 ∷ count.0 ∷ []) 0 f count.0))

  pub cell_can : (row_hashed : List ℕ) (column : ℕ) (f : CellFindings) (cells_left : ℕ) (token : List ℕ) → BeginsCell token
      → CanEnd (λ rest. summary_with target ancestors found (rest_of_cells target hashed key left row_hashed column f (suc cells_left)) (token ++ rest))
  unfolding summary_with
  cell_can row_hashed column f cells_left token cell =
      let by_cells : Reader Summary = summary_with target ancestors found (rest_of_cells target hashed key left row_hashed column f (suc cells_left)) in
      let hashed_next : List ℕ = row_hashed ++ cell_digest column cell.0 in
      let f_next : CellFindings = combine_cells f (cell_findings (has_column (columns_at target key) column) (fits_kind target.cell_kinds column cell.0) cell.0) in
      let read : Reader Summary = rest_of_cells target hashed key left hashed_next (column + 1) f_next cells_left in
      can_same (λ rest. by_cells (token ++ rest)) (summary_with target ancestors found read)
      (λ rest. ap (λ (t : List ℕ). by_cells (t ++ rest)) cell.1
      ∙ ap (λ (o : Option (Summary × List ℕ)). o >>= summary_behind target ancestors found) (cell_taken target hashed key left row_hashed column f cells_left cell.0 rest cell.2))
      (with_can target ancestors found read few (cells_can target hashed key left hashed_next (column + 1) f_next cells_left))
