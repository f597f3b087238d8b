-- The proofs of insertions and replacements, along the path to a key's leaf: the work on them lacks
-- nothing that it doesn't lack on the tree, and nothing is open beyond.
use Rattle.std.proofs.Common.{◌≡◌, ℕ, ◌+◌, Bool, true, false, cond, List, [], ◌∷◌, Option, None, Result, Ok, Err, map, refl, sym, ◌∙◌}
use Rattle.std.specs.Prelude.{not, slice_get, drop, bytes_eq}
use Rattle.std.specs.List.{list_any, AllZip}
use Rattle.std.proofs.lemmas.Bool.{or_from}
use Rattle.vo_spec.specs.declared.cells.Cell.{Cell}
use Rattle.vo_spec.specs.declared.cells.RowPart.{RowPart}
use Rattle.vo_spec.specs.declared.cells.RowPart.TheVariants.{Digest as Closed, Cells}
use Rattle.vo_spec.specs.declared.cells.PartEntry.{PartEntry}
use Rattle.vo_spec.specs.declared.trees.UpdateFault.{UpdateFault}
use Rattle.vo_spec.specs.declared.trees.UpdateFault.TheVariants.{DuplicateKey, NoRow, Missing, Memory}
use Rattle.vo_spec.specs.Tables.{CellChange}
use Rattle.vo_spec.specs.Cells.{CellsPrune, RowPrunes, EntryPrunes}
use Rattle.vo_spec.specs.Parts.{stub, leaf, inner, none, more, PrunesEach}
use Rattle.vo_spec.specs.Trees.{RowTree, RowTrees, row_family, digest, Prunes}
use Rattle.vo_spec.specs.Pruning.{pruned_by, pruned_in}
use Rattle.vo_spec.specs.Inserts.{result_map, goes_here, has_key, put_entry, split_leaf, split_inner, put_insertion, after_child, grow, grow_in, root_of, tree_with_entry, closed_entry, walk_to, insert_proof}
use Rattle.vo_spec.specs.Removes.{hidden_cells, hidden_row, opened_row, closed_parts, path_to, path_in, edit_entry, edited_by, edited_in, set_row, tree_with_cells, replace_proof}
use Rattle.vo_laws.specs.UpdateProofs.{lacks, any_open, shows_cells, is_shown, shows_any, rows_surplus, replace_has_surplus, replace_has_surplus_in}

pub lacks_map : {A B : Type 0} (f : A → B) (r : Result A UpdateFault) → lacks (result_map f r) ≡ lacks r
lacks_map f (Ok x) = refl
lacks_map f (Err DuplicateKey) = refl
lacks_map f (Err NoRow) = refl
lacks_map f (Err Missing) = refl
lacks_map f (Err Memory) = refl

-- where two results lack alike, so do what is made of them
pub lacks_same : {A B C D : Type 0} (f : A → C) (g : B → D) (r : Result A UpdateFault) (s : Result B UpdateFault) → lacks r ≡ lacks s → lacks (result_map f r) ≡ lacks (result_map g s)
lacks_same f g r s same = lacks_map f r ∙ same ∙ sym (lacks_map g s)

-- Insertions.

module _ (e : PartEntry) where
  leaf_lacks : (es : List PartEntry) → lacks (grow row_family e (leaf es)) ≡ false
  leaf_lacks es = step (has_key row_family e.key es)
    where
      step : (b : Bool) → lacks (cond b (Err DuplicateKey) (Ok (split_leaf row_family (put_entry row_family e es)))) ≡ false
      step true = refl
      step false = refl

  grow_step : (ss : List (List ℕ)) (m : Unit {0}) (p : RowTree) (ps : RowTrees) (b : Bool)
      → lacks (grow row_family e (pruned_by (walk_to e.key) row_family true p)) ≡ lacks (grow row_family e p)
      → lacks (grow_in row_family e (drop 1 ss) (pruned_in (walk_to e.key) row_family true (slice_get ss 0) (drop 1 ss) ps)) ≡ lacks (grow_in row_family e (drop 1 ss) ps)
      → lacks (cond b (result_map (put_insertion row_family ss (pruned_in (walk_to e.key) row_family (not b) (slice_get ss 0) (drop 1 ss) ps)) (grow row_family e (pruned_by (walk_to e.key) row_family b p)))
      (result_map (after_child m (pruned_by (walk_to e.key) row_family b p) ss) (grow_in row_family e (drop 1 ss) (pruned_in (walk_to e.key) row_family (not b) (slice_get ss 0) (drop 1 ss) ps))))
      ≡ lacks (cond b (result_map (put_insertion row_family ss ps) (grow row_family e p)) (result_map (after_child m p ss) (grow_in row_family e (drop 1 ss) ps)))
  grow_step ss m p ps true here behind =
      lacks_same (put_insertion row_family ss (pruned_in (walk_to e.key) row_family false (slice_get ss 0) (drop 1 ss) ps)) (put_insertion row_family ss ps)
      (grow row_family e (pruned_by (walk_to e.key) row_family true p)) (grow row_family e p) here
  grow_step ss m p ps false here behind =
      lacks_same (after_child m (pruned_by (walk_to e.key) row_family false p) ss) (after_child m p ss)
      (grow_in row_family e (drop 1 ss) (pruned_in (walk_to e.key) row_family true (slice_get ss 0) (drop 1 ss) ps)) (grow_in row_family e (drop 1 ss) ps) behind

  mutual
    grow_lacks : (t : RowTree) → lacks (grow row_family e (pruned_by (walk_to e.key) row_family true t)) ≡ lacks (grow row_family e t)
    grow_lacks (stub d) = refl
    grow_lacks (leaf es) = leaf_lacks (map closed_entry es) ∙ sym (leaf_lacks es)
    grow_lacks (inner ss ps) =
        lacks_same (split_inner row_family) (split_inner row_family) (grow_in row_family e ss (pruned_in (walk_to e.key) row_family true None ss ps)) (grow_in row_family e ss ps)
        (grow_in_lacks None ss ps)

    grow_in_lacks : (lower : Option (List ℕ)) (ss : List (List ℕ)) (ps : RowTrees)
        → lacks (grow_in row_family e ss (pruned_in (walk_to e.key) row_family true lower ss ps)) ≡ lacks (grow_in row_family e ss ps)
    grow_in_lacks lower ss none = refl
    grow_in_lacks lower ss (more m p ps) =
        grow_step ss m p ps (goes_here e.key (slice_get ss 0)) (grow_lacks p) (grow_in_lacks (slice_get ss 0) (drop 1 ss) ps)

  pub insertion_lacks : (t : RowTree) → lacks (tree_with_entry e (insert_proof e.key t)) ≡ lacks (tree_with_entry e t)
  insertion_lacks t = lacks_same (root_of row_family) (root_of row_family) (grow row_family e (insert_proof e.key t)) (grow row_family e t) (grow_lacks t)

-- Rows that are digests, and subtrees.

pub closed_zip : (es : List PartEntry) → AllZip EntryPrunes (map closed_entry es) es
closed_zip [] = tt
closed_zip (e ∷ es) = (record { key = refl; row = refl }, closed_zip es)

pub closed_cells : (es : List PartEntry) → list_any shows_cells (map closed_entry es) ≡ false
closed_cells [] = refl
closed_cells (e ∷ es) = closed_cells es

pub closed_prune : (ps : RowTrees) → PrunesEach row_family EntryPrunes (closed_parts ps) ps
closed_prune none = tt
closed_prune (more m p ps) = (refl, refl, closed_prune ps)

pub closed_shut : (ps : RowTrees) → any_open (closed_parts ps) ≡ false
closed_shut none = refl
closed_shut (more m p ps) = closed_shut ps

-- A row with its cells hidden.

hidden_prune : (column : ℕ) (cells : List Cell) → CellsPrune column (hidden_cells column cells) cells
hidden_prune column [] = tt
hidden_prune column (c ∷ cells) = (refl, hidden_prune (column + 1) cells)

row_hidden : (row : RowPart) → RowPrunes (hidden_row row) row
row_hidden (Closed d) = refl
row_hidden (Cells cells) = hidden_prune 0 cells

none_shown : (column : ℕ) (cells : List Cell) → list_any is_shown (hidden_cells column cells) ≡ false
none_shown column [] = refl
none_shown column (c ∷ cells) = none_shown (column + 1) cells

shows_none : (row : RowPart) → shows_any (hidden_row row) ≡ false
shows_none (Closed d) = refl
shows_none (Cells cells) = none_shown 0 cells

-- Replacements.

module _ (key : List ℕ) where
  opened_zip : (es : List PartEntry) → AllZip EntryPrunes (opened_row key es) es
  opened_zip [] = tt
  opened_zip (e ∷ es) = step (bytes_eq e.key key) (opened_zip es)
    where
      step : (b : Bool) → AllZip EntryPrunes (opened_row key es) es
          → AllZip EntryPrunes (cond b (record { key = e.key; row = hidden_row e.row } ∷ map closed_entry es) (closed_entry e ∷ opened_row key es)) (e ∷ es)
      step true rest = (record { key = refl; row = row_hidden e.row }, closed_zip es)
      step false rest = (record { key = refl; row = refl }, rest)

  opened_bare : (es : List PartEntry) → rows_surplus key (opened_row key es) ≡ false
  opened_bare [] = refl
  opened_bare (e ∷ es) = step (bytes_eq e.key key) refl (opened_bare es)
    where
      step : (b : Bool) → bytes_eq e.key key ≡ b → rows_surplus key (opened_row key es) ≡ false
          → rows_surplus key (cond b (record { key = e.key; row = hidden_row e.row } ∷ map closed_entry es) (closed_entry e ∷ opened_row key es)) ≡ false
      step true same rest = rw same (or_from (shows_any (hidden_row e.row)) (list_any shows_cells (map closed_entry es)) (shows_none e.row) (closed_cells es))
      step false other rest = rw other rest

  -- the path to the key's leaf

  path_step_prunes : (b : Bool) (m : Unit {0}) (ss : List (List ℕ)) (p : RowTree) (ps : RowTrees) → Prunes (path_to (opened_row key) key p) p
      → PrunesEach row_family EntryPrunes (path_in (opened_row key) key (drop 1 ss) ps) ps
      → PrunesEach row_family EntryPrunes (cond b (more m (path_to (opened_row key) key p) (closed_parts ps)) (more m (stub (digest p)) (path_in (opened_row key) key (drop 1 ss) ps))) (more m p ps)
  path_step_prunes true m ss p ps here behind = (refl, here, closed_prune ps)
  path_step_prunes false m ss p ps here behind = (refl, refl, behind)

  mutual
    pub replace_prunes : (t : RowTree) → Prunes (replace_proof key t) t
    replace_prunes (stub d) = refl
    replace_prunes (leaf es) = opened_zip es
    replace_prunes (inner ss ps) = (refl, path_prunes ss ps)

    path_prunes : (ss : List (List ℕ)) (ps : RowTrees) → PrunesEach row_family EntryPrunes (path_in (opened_row key) key ss ps) ps
    path_prunes ss none = tt
    path_prunes ss (more m p ps) = path_step_prunes (goes_here key (slice_get ss 0)) m ss p ps (replace_prunes p) (path_prunes (drop 1 ss) ps)

  path_step_bare : (b : Bool) (m : Unit {0}) (ss : List (List ℕ)) (p : RowTree) (ps : RowTrees) → goes_here key (slice_get ss 0) ≡ b
      → replace_has_surplus key (path_to (opened_row key) key p) ≡ false → replace_has_surplus_in key (drop 1 ss) (path_in (opened_row key) key (drop 1 ss) ps) ≡ false
      → replace_has_surplus_in key ss (cond b (more m (path_to (opened_row key) key p) (closed_parts ps)) (more m (stub (digest p)) (path_in (opened_row key) key (drop 1 ss) ps))) ≡ false
  path_step_bare true m ss p ps goes here behind = rw goes (or_from (replace_has_surplus key (path_to (opened_row key) key p)) (any_open (closed_parts ps)) here (closed_shut ps))
  path_step_bare false m ss p ps passes here behind = rw passes behind

  mutual
    pub replace_bare : (t : RowTree) → replace_has_surplus key (replace_proof key t) ≡ false
    replace_bare (stub d) = refl
    replace_bare (leaf es) = opened_bare es
    replace_bare (inner ss ps) = path_bare ss ps

    path_bare : (ss : List (List ℕ)) (ps : RowTrees) → replace_has_surplus_in key ss (path_in (opened_row key) key ss ps) ≡ false
    path_bare ss none = refl
    path_bare ss (more m p ps) = path_step_bare (goes_here key (slice_get ss 0)) m ss p ps refl (replace_bare p) (path_bare (drop 1 ss) ps)

  module _ (changes : List CellChange) where
    set_lacks : (k : List ℕ) (row : RowPart) → lacks (set_row changes (record { key = k; row = hidden_row row })) ≡ lacks (set_row changes (record { key = k; row = row }))
    set_lacks k (Closed d) = refl
    set_lacks k (Cells cells) = refl

    edit_lacks : (es : List PartEntry) → lacks (edit_entry row_family (set_row changes) key (opened_row key es)) ≡ lacks (edit_entry row_family (set_row changes) key es)
    edit_lacks [] = refl
    edit_lacks (e ∷ es) = step (bytes_eq e.key key) refl (edit_lacks es)
      where
        opened : PartEntry
        opened = record { key = e.key; row = hidden_row e.row }

        step : (b : Bool) → bytes_eq e.key key ≡ b
            → lacks (edit_entry row_family (set_row changes) key (opened_row key es)) ≡ lacks (edit_entry row_family (set_row changes) key es)
            → lacks (edit_entry row_family (set_row changes) key (cond b (record { key = e.key; row = hidden_row e.row } ∷ map closed_entry es) (closed_entry e ∷ opened_row key es)))
            ≡ lacks (cond b (result_map (λ f. f ∷ es) (set_row changes e)) (result_map (λ fs. e ∷ fs) (edit_entry row_family (set_row changes) key es)))
        step true same rest = rw same (lacks_same (λ f. f ∷ map closed_entry es) (λ f. f ∷ es) (set_row changes opened) (set_row changes e) (set_lacks e.key e.row))
        step false other rest =
            rw other (lacks_same (λ fs. closed_entry e ∷ fs) (λ fs. e ∷ fs)
            (edit_entry row_family (set_row changes) key (opened_row key es)) (edit_entry row_family (set_row changes) key es) rest)

    path_step_lacks : (b : Bool) (m : Unit {0}) (ss : List (List ℕ)) (p : RowTree) (ps : RowTrees) → goes_here key (slice_get ss 0) ≡ b
        → lacks (edited_by row_family (set_row changes) key (path_to (opened_row key) key p)) ≡ lacks (edited_by row_family (set_row changes) key p)
        → lacks (edited_in row_family (set_row changes) key (drop 1 ss) (path_in (opened_row key) key (drop 1 ss) ps)) ≡ lacks (edited_in row_family (set_row changes) key (drop 1 ss) ps)
        → lacks (edited_in row_family (set_row changes) key ss (cond b (more m (path_to (opened_row key) key p) (closed_parts ps)) (more m (stub (digest p)) (path_in (opened_row key) key (drop 1 ss) ps))))
        ≡ lacks (cond b (result_map (λ q. more tt q ps) (edited_by row_family (set_row changes) key p)) (result_map (more m p) (edited_in row_family (set_row changes) key (drop 1 ss) ps)))
    path_step_lacks true m ss p ps goes here behind =
        rw goes (lacks_same (λ q. more tt q (closed_parts ps)) (λ q. more tt q ps)
        (edited_by row_family (set_row changes) key (path_to (opened_row key) key p)) (edited_by row_family (set_row changes) key p) here)
    path_step_lacks false m ss p ps passes here behind =
        rw passes (lacks_same (more m (stub (digest p))) (more m p)
        (edited_in row_family (set_row changes) key (drop 1 ss) (path_in (opened_row key) key (drop 1 ss) ps)) (edited_in row_family (set_row changes) key (drop 1 ss) ps) behind)

    mutual
      pub replacement_lacks : (t : RowTree) → lacks (tree_with_cells key changes (replace_proof key t)) ≡ lacks (tree_with_cells key changes t)
      replacement_lacks (stub d) = refl
      replacement_lacks (leaf es) =
          lacks_same leaf leaf (edit_entry row_family (set_row changes) key (opened_row key es)) (edit_entry row_family (set_row changes) key es) (edit_lacks es)
      replacement_lacks (inner ss ps) =
          lacks_same (inner ss) (inner ss) (edited_in row_family (set_row changes) key ss (path_in (opened_row key) key ss ps)) (edited_in row_family (set_row changes) key ss ps) (path_lacks ss ps)

      path_lacks : (ss : List (List ℕ)) (ps : RowTrees)
          → lacks (edited_in row_family (set_row changes) key ss (path_in (opened_row key) key ss ps)) ≡ lacks (edited_in row_family (set_row changes) key ss ps)
      path_lacks ss none = refl
      path_lacks ss (more m p ps) = path_step_lacks (goes_here key (slice_get ss 0)) m ss p ps refl (replacement_lacks p) (path_lacks (drop 1 ss) ps)
