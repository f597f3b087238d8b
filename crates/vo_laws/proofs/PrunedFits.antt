-- The proofs that a tree has are within the limits that the tree is within.
use Rattle.std.proofs.Common.{◌≡◌, ℕ, suc, ◌+◌, ◌≤◌, Bool, true, false, cond, List, [], ◌∷◌, Option, None, length, map, refl, sym, ap, ◌∙◌, arith}
use Rattle.std.specs.Prelude.{slice_get, drop}
use Rattle.std.specs.List.{AllByRecursion}
use Rattle.std.proofs.lemmas.List.{length-map}
use Rattle.std.proofs.lemmas.List.Elements.{All-from_recursion, recursion_from_All}
use Rattle.sha2.proofs.Facts256.{length-sha256}
use Rattle.vo_spec.specs.declared.needs.Need.{Need}
use Rattle.vo_spec.specs.declared.cells.Cell.{Cell}
use Rattle.vo_spec.specs.declared.cells.Cell.TheVariants.{Shown, Hidden}
use Rattle.vo_spec.specs.declared.cells.RowPart.{RowPart}
use Rattle.vo_spec.specs.declared.cells.RowPart.TheVariants.{Digest as Closed, Cells}
use Rattle.vo_spec.specs.declared.cells.PartEntry.{PartEntry}
use Rattle.vo_spec.specs.Cells.{attribute_bytes, cell_digest, row_bytes, row_digest}
use Rattle.vo_spec.specs.Parts.{stub, leaf, inner, none, more, count, levels, levels_in, leaf_bytes, inner_bytes}
use Rattle.vo_spec.specs.Trees.{RowTree, RowTrees, row_family, digest}
use Rattle.vo_spec.specs.Fits.{FitsCell, FitsRowPart, FitsEntry, FitsEach, FitsPart, FitsTree}
use Rattle.vo_spec.specs.Pruning.{Walk, pruned_by, pruned_in, is_any, needed_columns, has_column, shown_cells, shown_row, walk_for, at_root, prune_tree}
use Rattle.vo_spec.specs.Inserts.{walk_to, insert_proof}

-- A walk that keeps entries within their limits.
module _ {S : Type 0} (walk : Walk PartEntry S) where
  kept_each : ((e : PartEntry) → FitsEntry e → FitsEntry (walk.shown e)) → (es : List PartEntry) → AllByRecursion FitsEntry es → AllByRecursion FitsEntry (map walk.shown es)
  kept_each f [] all = tt
  kept_each f (e ∷ es) all = (f e all.0, kept_each f es all.1)

  same_count : (s : S) (lower : Option (List ℕ)) (ss : List (List ℕ)) (ps : RowTrees) → count (pruned_in walk row_family s lower ss ps) ≡ count ps
  same_count s lower ss none = refl
  same_count s lower ss (more m p ps) = ap (λ n. n + 1) (same_count (walk.past s lower (slice_get ss 0)) (slice_get ss 0) (drop 1 ss) ps)

  leaf_kept : (b : Bool) (es : List PartEntry) → FitsPart (leaf (map walk.shown es)) → FitsPart (cond {A = RowTree} b (leaf (map walk.shown es)) (stub (digest (leaf es))))
  leaf_kept true es f = f
  leaf_kept false es f = length-sha256 (leaf_bytes row_family es)

  inner_kept : (b : Bool) (ss : List (List ℕ)) (qs ps : RowTrees) → FitsPart (inner ss qs) → FitsPart (cond {A = RowTree} b (inner ss qs) (stub (digest (inner ss ps))))
  inner_kept true ss qs ps f = f
  inner_kept false ss qs ps f = length-sha256 (inner_bytes row_family ss ps)

  mutual
    walk_fits : ((e : PartEntry) → FitsEntry e → FitsEntry (walk.shown e)) → (s : S) (t : RowTree) → FitsPart t → FitsPart (pruned_by walk row_family s t)
    walk_fits f s (stub d) fits = fits
    walk_fits f s (leaf es) fits =
        leaf_kept (walk.opens s) es (
          omega (arith, length-map es walk.shown, fits.0),
          All-from_recursion FitsEntry (map walk.shown es) (kept_each f es (recursion_from_All FitsEntry es fits.1)),
        )
    walk_fits f s (inner ss ps) fits =
        let same : count (pruned_in walk row_family s None ss ps) ≡ count ps = same_count s None ss ps in
        inner_kept (walk.opens s) ss (pruned_in walk row_family s None ss ps) ps
        (omega (arith, fits.0), omega (arith, fits.1), fits.2 ∙ sym same, fits.3, each_fits f s None ss ps fits.4)

    each_fits : ((e : PartEntry) → FitsEntry e → FitsEntry (walk.shown e)) → (s : S) (lower : Option (List ℕ)) (ss : List (List ℕ)) (ps : RowTrees) → FitsEach FitsEntry ps
        → FitsEach FitsEntry (pruned_in walk row_family s lower ss ps)
    each_fits f s lower ss none fits = tt
    each_fits f s lower ss (more m p ps) fits =
        (walk_fits f (walk.onward s lower (slice_get ss 0)) p fits.0, each_fits f (walk.past s lower (slice_get ss 0)) (slice_get ss 0) (drop 1 ss) ps fits.1)

  leaf_low : (b : Bool) (es : List PartEntry) → levels (cond {A = RowTree} b (leaf (map walk.shown es)) (stub (digest (leaf es)))) ≤ 1
  leaf_low true es = omega arith
  leaf_low false es = omega arith

  inner_low : (b : Bool) (ss : List (List ℕ)) (qs ps : RowTrees) → levels_in qs ≤ levels_in ps → levels (cond {A = RowTree} b (inner ss qs) (stub (digest (inner ss ps)))) ≤ levels_in ps + 1
  inner_low true ss qs ps le = omega arith
  inner_low false ss qs ps le = omega arith

  mutual
    walk_low : (s : S) (t : RowTree) → levels (pruned_by walk row_family s t) ≤ levels t
    walk_low s (stub d) = omega arith
    walk_low s (leaf es) = leaf_low (walk.opens s) es
    walk_low s (inner ss ps) = inner_low (walk.opens s) ss (pruned_in walk row_family s None ss ps) ps (each_low s None ss ps)

    each_low : (s : S) (lower : Option (List ℕ)) (ss : List (List ℕ)) (ps : RowTrees) → levels_in (pruned_in walk row_family s lower ss ps) ≤ levels_in ps
    each_low s lower ss none = omega arith
    each_low s lower ss (more m p ps) =
        let here : levels (pruned_by walk row_family (walk.onward s lower (slice_get ss 0)) p) ≤ levels p = walk_low (walk.onward s lower (slice_get ss 0)) p in
        let rest : levels_in (pruned_in walk row_family (walk.past s lower (slice_get ss 0)) (slice_get ss 0) (drop 1 ss) ps) ≤ levels_in ps =
        each_low (walk.past s lower (slice_get ss 0)) (slice_get ss 0) (drop 1 ss) ps in
        omega arith

-- Rows with some of their cells hidden.

cells_kept : (columns : List ℕ) (column : ℕ) (cells : List Cell) → AllByRecursion FitsCell cells → AllByRecursion FitsCell (shown_cells columns column cells)
cells_kept columns column [] all = tt
cells_kept columns column (Hidden d ∷ cells) all = (all.0, cells_kept columns (column + 1) cells all.1)
cells_kept columns column (Shown v ∷ cells) all = (step (has_column columns column), cells_kept columns (column + 1) cells all.1)
  where
    step : (b : Bool) → FitsCell (cond b (Shown v) (Hidden (cell_digest column (Shown v))))
    step true = all.0
    step false = length-sha256 (attribute_bytes column v)

cells_count : (columns : List ℕ) (column : ℕ) (cells : List Cell) → length (shown_cells columns column cells) ≡ length cells
cells_count columns column [] = refl
cells_count columns column (cell ∷ cells) = ap suc (cells_count columns (column + 1) cells)

row_kept : (columns : List ℕ) (row : RowPart) → FitsRowPart row → FitsRowPart (shown_row columns row)
row_kept columns (Closed d) fits = fits
row_kept columns (Cells cells) fits = step (is_any columns)
  where
    step : (b : Bool) → FitsRowPart (cond b (Cells (shown_cells columns 0 cells)) (Closed (row_digest (Cells cells))))
    step true = (
      omega (arith, cells_count columns 0 cells, fits.0),
      All-from_recursion FitsCell (shown_cells columns 0 cells) (cells_kept columns 0 cells (recursion_from_All FitsCell cells fits.1)),
    )
    step false = length-sha256 (row_bytes cells)

pub row_closed : (row : RowPart) → FitsRowPart row → FitsRowPart (Closed (row_digest row))
row_closed (Closed d) fits = fits
row_closed (Cells cells) fits = length-sha256 (row_bytes cells)

-- The proof for needs, and that of an insertion, fit where the tree does.

pub pruned_fits : (needs : List Need) (t : RowTree) → FitsTree t → FitsTree (prune_tree needs t)
pruned_fits needs t fits =
    let low : levels (prune_tree needs t) ≤ levels t = walk_low (walk_for needs) (at_root needs) t in
    record {
      nodes = walk_fits (walk_for needs) (λ e f. record { key = f.key; row = row_kept (needed_columns needs e.key) e.row f.row }) (at_root needs) t fits.nodes;
      depth = omega (arith, fits.depth);
    }

pub insert_proof_fits : (key : List ℕ) (t : RowTree) → FitsTree t → FitsTree (insert_proof key t)
insert_proof_fits key t fits =
    let low : levels (insert_proof key t) ≤ levels t = walk_low (walk_to key) true t in
    record {
      nodes = walk_fits (walk_to key) (λ e f. record { key = f.key; row = row_closed e.row f.row }) true t fits.nodes;
      depth = omega (arith, fits.depth);
    }
