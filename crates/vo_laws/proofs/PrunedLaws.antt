-- The proof that a tree has for some needs: it prunes the tree, misses nothing, and shows nothing
-- more.
use Rattle.std.proofs.Common.{◌≡◌, ℕ, suc, ◌+◌, Bool, true, false, cond, List, [], ◌∷◌, Option, None, length, refl, ap}
use Rattle.std.specs.Prelude.{not}
use Rattle.std.specs.List.{AllByRecursion}
use Rattle.std.proofs.lemmas.Bool.{or_from, not_from_true}
use Rattle.vo_spec.specs.declared.needs.Need.{Need}
use Rattle.vo_spec.specs.declared.cells.Cell.{Cell}
use Rattle.vo_spec.specs.declared.cells.Cell.TheVariants.{Shown, Hidden}
use Rattle.vo_spec.specs.declared.cells.RowPart.{RowPart}
use Rattle.vo_spec.specs.declared.cells.RowPart.TheVariants.{Digest as Closed, Cells}
use Rattle.vo_spec.specs.declared.cells.PartEntry.{PartEntry}
use Rattle.vo_spec.specs.Cells.{cell_digest, cell_digests, row_digest, entry_bytes, CellPrunes, CellsPrune, RowPrunes, EntryPrunes}
use Rattle.vo_spec.specs.Parts.{entries}
use Rattle.vo_spec.specs.Trees.{RowTree, row_family, digest, Prunes}
use Rattle.vo_spec.specs.Pruning.{Walk, is_missing_by, has_surplus_by, pruned_by, at_root, is_any, needed_columns, has_column, shows_surplus, row_has_surplus, shown_cells, shown_row, walk_for, has_surplus, prune_tree}
use Rattle.vo_spec.specs.Inserts.{walk_to, insert_proof, insert_is_missing, insert_has_surplus}
use Rattle.vo_spec.specs.Representation.{IsNode, IsTree, fewest_in_root}
use Rattle.vo_laws.proofs.WalkLaws as walks
use Rattle.vo_laws.proofs.WalkLaws.{digest_kept}

-- What prunes a tree has its digest.

cells_digest_same : (column : ℕ) (cs ds : List Cell) → CellsPrune column cs ds → cell_digests column cs ≡ cell_digests column ds
cells_digest_same column [] [] p = refl
cells_digest_same column [] (d ∷ ds) p = absurd p
cells_digest_same column (c ∷ cs) [] p = absurd p
cells_digest_same column (Hidden h ∷ cs) (d ∷ ds) p = rw (p.0, cells_digest_same (column + 1) cs ds p.1) refl
cells_digest_same column (Shown v ∷ cs) (Shown w ∷ ds) p = rw (p.0, cells_digest_same (column + 1) cs ds p.1) refl
cells_digest_same column (Shown v ∷ cs) (Hidden h ∷ ds) p = absurd p.0

cells_length_same : (column : ℕ) (cs ds : List Cell) → CellsPrune column cs ds → length cs ≡ length ds
cells_length_same column [] [] p = refl
cells_length_same column [] (d ∷ ds) p = absurd p
cells_length_same column (c ∷ cs) [] p = absurd p
cells_length_same column (c ∷ cs) (d ∷ ds) p = ap suc (cells_length_same (column + 1) cs ds p.1)

pub row_digest_same : (r s : RowPart) → RowPrunes r s → row_digest r ≡ row_digest s
row_digest_same (Closed d) s p = p
row_digest_same (Cells cs) (Closed d) p = absurd p
row_digest_same (Cells cs) (Cells ds) p = rw (cells_length_same 0 cs ds p, cells_digest_same 0 cs ds p) refl

pub entry_bytes_same : (e f : PartEntry) → EntryPrunes e f → entry_bytes e ≡ entry_bytes f
entry_bytes_same e f z = rw (z.key, row_digest_same e.row f.row z.row) refl

pub digest_same : (p t : RowTree) → Prunes p t → digest p ≡ digest t
digest_same = digest_kept row_family EntryPrunes entry_bytes_same

-- A walk through trees of rows.
module _ {S : Type 0} (walk : Walk PartEntry S) where
  pub walk_prunes : ((e : PartEntry) → EntryPrunes (walk.shown e) e) → (s : S) (t : RowTree) → Prunes (pruned_by walk row_family s t) t
  walk_prunes = walks.walk_prunes walk row_family EntryPrunes

  pub walk_each : (P : PartEntry → Type 0) (s : S) (t : RowTree) → AllByRecursion (λ (e : PartEntry). P (walk.shown e)) (entries t)
      → AllByRecursion P (entries (pruned_by walk row_family s t))
  walk_each = walks.walk_each walk row_family

  pub walk_complete : (s : S) (fewest height : ℕ) (lower upper : Option (List ℕ)) (t : RowTree) → IsNode row_family fewest height lower upper t
      → AllByRecursion (λ (e : PartEntry). walk.lacks (walk.shown e) ≡ false) (entries t) → is_missing_by walk s (pruned_by walk row_family s t) ≡ false
  walk_complete = walks.walk_complete walk row_family

  pub walk_bare : ((e : PartEntry) → walk.exceeds (walk.shown e) ≡ false) → (s : S) (t : RowTree) → has_surplus_by walk s (pruned_by walk row_family s t) ≡ false
  walk_bare = walks.walk_bare walk row_family

-- The walk for needs.

cells_shown_prune : (columns : List ℕ) (column : ℕ) (cells : List Cell) → CellsPrune column (shown_cells columns column cells) cells
cells_shown_prune columns column [] = tt
cells_shown_prune columns column (Hidden d ∷ cells) = (refl, cells_shown_prune columns (column + 1) cells)
cells_shown_prune columns column (Shown v ∷ cells) = (step (has_column columns column), cells_shown_prune columns (column + 1) cells)
  where
    step : (b : Bool) → CellPrunes column (cond b (Shown v) (Hidden (cell_digest column (Shown v)))) (Shown v)
    step true = refl
    step false = refl

pub row_shown_prune : (columns : List ℕ) (row : RowPart) → RowPrunes (shown_row columns row) row
row_shown_prune columns (Closed d) = refl
row_shown_prune columns (Cells cells) = step (is_any columns)
  where
    step : (b : Bool) → RowPrunes (cond b (Cells (shown_cells columns 0 cells)) (Closed (row_digest (Cells cells)))) (Cells cells)
    step true = cells_shown_prune columns 0 cells
    step false = refl

pub pruned_prunes : (needs : List Need) (t : RowTree) → Prunes (prune_tree needs t) t
pruned_prunes needs t = walk_prunes (walk_for needs) (λ e. record { key = refl; row = row_shown_prune (needed_columns needs e.key) e.row }) (at_root needs) t

cells_bare : (columns : List ℕ) (column : ℕ) (cells : List Cell) → shows_surplus columns column (shown_cells columns column cells) ≡ false
cells_bare columns column [] = refl
cells_bare columns column (Hidden d ∷ cells) = cells_bare columns (column + 1) cells
cells_bare columns column (Shown v ∷ cells) = step (has_column columns column) refl (cells_bare columns (column + 1) cells)
  where
    step : (b : Bool) → has_column columns column ≡ b → shows_surplus columns (column + 1) (shown_cells columns (column + 1) cells) ≡ false
        → shows_surplus columns column (cond b (Shown v) (Hidden (cell_digest column (Shown v))) ∷ shown_cells columns (column + 1) cells) ≡ false
    step true e rest = or_from (not (has_column columns column)) (shows_surplus columns (column + 1) (shown_cells columns (column + 1) cells)) (not_from_true (has_column columns column) e) rest
    step false e rest = rest

row_bare : (columns : List ℕ) (row : RowPart) → row_has_surplus columns (shown_row columns row) ≡ false
row_bare columns (Closed d) = refl
row_bare columns (Cells cells) = step (is_any columns) refl
  where
    step : (b : Bool) → is_any columns ≡ b → row_has_surplus columns (cond b (Cells (shown_cells columns 0 cells)) (Closed (row_digest (Cells cells)))) ≡ false
    step true e = or_from (not (is_any columns)) (shows_surplus columns 0 (shown_cells columns 0 cells)) (not_from_true (is_any columns) e) (cells_bare columns 0 cells)
    step false e = refl

pub pruned_bare : (needs : List Need) (t : RowTree) → has_surplus needs (prune_tree needs t) ≡ false
pruned_bare needs t = walk_bare (walk_for needs) (λ e. row_bare (needed_columns needs e.key) e.row) (at_root needs) t

-- The proof of an insertion.

pub insert_prunes : (key : List ℕ) (t : RowTree) → Prunes (insert_proof key t) t
insert_prunes key t = walk_prunes (walk_to key) (λ e. record { key = refl; row = refl }) true t

pub insert_bare : (key : List ℕ) (t : RowTree) → insert_has_surplus key (insert_proof key t) ≡ false
insert_bare key t = walk_bare (walk_to key) (λ e. refl) true t

nothing_lacks : (es : List PartEntry) → AllByRecursion (λ (e : PartEntry). false ≡ false) es
nothing_lacks [] = tt
nothing_lacks (e ∷ es) = (refl, nothing_lacks es)

pub insert_complete : (key : List ℕ) (t : RowTree) → IsTree row_family t → insert_is_missing key (insert_proof key t) ≡ false
insert_complete key t tree =
    walk_complete (walk_to key) true (fewest_in_root row_family t) tree.height None None t tree.shape (nothing_lacks (entries t))
