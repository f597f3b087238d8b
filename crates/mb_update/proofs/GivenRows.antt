-- Works that put a row as it is given: on their proofs they lack nothing, on what prunes a tree they
-- agree with those on the tree, and they leave so many rows.
use Rattle.std.proofs.Common.{◌≡◌, ℕ, ◌+◌, Bool, true, false, cond, List, [], ◌∷◌, Option, None, Result, Ok, Err, length, map, refl, sym, ap, ◌∙◌, arith}
use Rattle.std.specs.Prelude.{not, slice_get, drop, bytes_eq}
use Rattle.vo_spec.specs.declared.cells.Cell.{Cell}
use Rattle.vo_spec.specs.declared.cells.Cell.TheVariants.{Shown, Hidden}
use Rattle.vo_spec.specs.declared.cells.RowPart.{RowPart}
use Rattle.vo_spec.specs.declared.cells.RowPart.TheVariants.{Digest as Closed, Cells}
use Rattle.vo_spec.specs.declared.cells.PartEntry.{PartEntry}
use Rattle.vo_spec.specs.declared.trees.UpdateFault.{UpdateFault}
use Rattle.vo_spec.specs.declared.trees.UpdateFault.TheVariants.{DuplicateKey, NoRow, Missing, Memory}
use Rattle.vo_spec.specs.Cells.{CellsPrune, RowPrunes}
use Rattle.vo_spec.specs.Parts.{stub, leaf, inner, none, more, entries}
use Rattle.vo_spec.specs.Trees.{RowTree, RowTrees, row_family, key_in, Prunes}
use Rattle.vo_spec.specs.Pruning.{pruned_by, pruned_in}
use Rattle.vo_spec.specs.Inserts.{result_map, goes_here, tree_with_entry, closed_entry, walk_to, insert_proof}
use Rattle.vo_spec.specs.Removes.{edit_entry, edited_by, edited_in}
use Rattle.vo_spec.specs.Representation.{IsTree}
use Rattle.vo_laws.specs.UpdateProofs.{lacks}
use Rattle.vo_laws.proofs.Insertion.{TreeGrows, tree_grows}
use Rattle.vo_laws.proofs.PathProofs.{lacks_map, lacks_same, insertion_lacks}
use Rattle.vo_laws.proofs.Replacement.{TreeEdits, tree_edits}
use Rattle.btree.proofs.InsertedEntries.{puts_count, inserted_puts}
use Rattle.btree.proofs.ReplacedEntries.{edits_count, edited_edits}
use Rattle.mb_update.specs.ChangeResults.{GoesOnPruning}
use Rattle.mb_update.specs.RowParts.{entry_of, with_part, tree_with_part}
use Rattle.mb_update.proofs.RowPruning.{inserted_agrees}
use Rattle.mb_update.proofs.RowExchanges.{exchange_keeps_key, exchanged_agrees}

-- A row prunes itself, so works on parts agree with those on the tree.

cells_itself : (column : ℕ) (cells : List Cell) → CellsPrune column cells cells
cells_itself column [] = tt
cells_itself column (Shown v ∷ cells) = (refl, cells_itself (column + 1) cells)
cells_itself column (Hidden d ∷ cells) = (refl, cells_itself (column + 1) cells)

row_itself : (part : RowPart) → RowPrunes part part
row_itself (Closed d) = refl
row_itself (Cells cells) = cells_itself 0 cells

module _ (key : List ℕ) (part : RowPart) where
  pub put_agrees : (p t : RowTree) → Prunes p t → GoesOnPruning (tree_with_entry (entry_of key part) p) (tree_with_entry (entry_of key part) t)
  put_agrees p t prunes =
      inserted_agrees (entry_of key part) (entry_of key part) p t (record { key = refl; row = row_itself part }) prunes

  pub set_agrees : (p t : RowTree) → Prunes p t → GoesOnPruning (tree_with_part key part p) (tree_with_part key part t)
  set_agrees p t prunes = exchanged_agrees key part part p t (row_itself part) prunes

  -- How many rows there are then.

  pub put_counted : (t u : RowTree) → tree_with_entry (entry_of key part) t ≡ Ok u → length (entries u) ≡ length (entries t) + 1
  put_counted t u is =
      let puts = inserted_puts row_family (entry_of key part) t u is in
      omega (arith, puts_count (entry_of key part) (entries t) (entries u) puts)

  pub set_counted : (t u : RowTree) → tree_with_part key part t ≡ Ok u → length (entries u) ≡ length (entries t)
  set_counted t u is =
      let edits = edited_edits row_family (with_part part) key t u is in
      edits_count key_in (with_part part) key (entries t) (entries u) edits

  -- Nothing is missing on a proof.

  put_there : (es : List PartEntry) (r : Result RowTree UpdateFault) → TreeGrows row_family (entry_of key part) es r → lacks r ≡ false
  put_there es (Ok u) g = refl
  put_there es (Err DuplicateKey) g = refl
  put_there es (Err NoRow) g = refl
  put_there es (Err Missing) g = absurd g
  put_there es (Err Memory) g = refl

  pub put_works : (t : RowTree) → IsTree row_family t → lacks (tree_with_entry (entry_of key part) (insert_proof key t)) ≡ false
  put_works t tree =
      insertion_lacks (entry_of key part) t ∙ put_there (entries t) (tree_with_entry (entry_of key part) t) (tree_grows row_family (entry_of key part) t tree)

  abbrev set_in : List PartEntry → Result (List PartEntry) UpdateFault
  set_in = edit_entry row_family (with_part part) key

  abbrev set_below : List (List ℕ) → RowTrees → Result RowTrees UpdateFault
  set_below = edited_in row_family (with_part part) key

  abbrev path : Bool → RowTree → RowTree
  path = pruned_by (walk_to key) row_family

  abbrev path_in : Bool → Option (List ℕ) → List (List ℕ) → RowTrees → RowTrees
  path_in = pruned_in (walk_to key) row_family

  leaf_lacks : (es : List PartEntry) → lacks (set_in es) ≡ false
  leaf_lacks [] = refl
  leaf_lacks (e ∷ es) = step (bytes_eq e.key key) (leaf_lacks es)
    where
      step : (b : Bool) → lacks (set_in es) ≡ false
          → lacks (cond b (Ok (entry_of e.key part ∷ es)) (result_map (λ fs. e ∷ fs) (set_in es))) ≡ false
      step true rest = refl
      step false rest = lacks_map (λ fs. e ∷ fs) (set_in es) ∙ rest

  node_lacks : (es : List PartEntry) → lacks (tree_with_part key part (leaf es)) ≡ false
  node_lacks es = lacks_map leaf (set_in es) ∙ leaf_lacks es

  child_step : (ss : List (List ℕ)) (m : Unit {0}) (p : RowTree) (ps : RowTrees) (b : Bool)
      → lacks (tree_with_part key part (path true p)) ≡ lacks (tree_with_part key part p)
      → lacks (set_below (drop 1 ss) (path_in true (slice_get ss 0) (drop 1 ss) ps)) ≡ lacks (set_below (drop 1 ss) ps)
      → lacks (cond b (result_map (λ q. more tt q (path_in (not b) (slice_get ss 0) (drop 1 ss) ps)) (tree_with_part key part (path b p)))
      (result_map (more m (path b p)) (set_below (drop 1 ss) (path_in (not b) (slice_get ss 0) (drop 1 ss) ps))))
      ≡ lacks (cond b (result_map (λ q. more tt q ps) (tree_with_part key part p)) (result_map (more m p) (set_below (drop 1 ss) ps)))
  child_step ss m p ps true here behind =
      lacks_same (λ q. more tt q (path_in false (slice_get ss 0) (drop 1 ss) ps)) (λ q. more tt q ps) (tree_with_part key part (path true p)) (tree_with_part key part p) here
  child_step ss m p ps false here behind =
      lacks_same (more m (path false p)) (more m p) (set_below (drop 1 ss) (path_in true (slice_get ss 0) (drop 1 ss) ps)) (set_below (drop 1 ss) ps) behind

  mutual
    path_lacks : (t : RowTree) → lacks (tree_with_part key part (path true t)) ≡ lacks (tree_with_part key part t)
    path_lacks (stub d) = refl
    path_lacks (leaf es) = node_lacks (map closed_entry es) ∙ sym (node_lacks es)
    path_lacks (inner ss ps) = lacks_same (inner ss) (inner ss) (set_below ss (path_in true None ss ps)) (set_below ss ps) (below_lacks None ss ps)

    below_lacks : (lower : Option (List ℕ)) (ss : List (List ℕ)) (ps : RowTrees) → lacks (set_below ss (path_in true lower ss ps)) ≡ lacks (set_below ss ps)
    below_lacks lower ss none = refl
    below_lacks lower ss (more m p ps) =
        child_step ss m p ps (goes_here key (slice_get ss 0)) (path_lacks p) (below_lacks (slice_get ss 0) (drop 1 ss) ps)

  set_there : (es : List PartEntry) (r : Result RowTree UpdateFault) → TreeEdits row_family (with_part part) key es r → lacks r ≡ false
  set_there es (Ok u) g = refl
  set_there es (Err fault) g =
      let as_tree : List PartEntry → RowTree = λ fs. leaf fs in
      sym (ap (λ r. lacks (result_map as_tree r)) g) ∙ node_lacks es

  pub set_works : (t : RowTree) → IsTree row_family t → lacks (tree_with_part key part (insert_proof key t)) ≡ false
  set_works t tree =
      path_lacks t ∙ set_there (entries t) (tree_with_part key part t) (tree_edits row_family (with_part part) (exchange_keeps_key key part) key t tree)
