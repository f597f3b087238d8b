-- Separators that fit, in what removal and replacement make of a tree that has such.
use Rattle.std.proofs.Common.{ℕ, ◌-◌, Bool, true, false, cond, List, [], ◌∷◌, ◌++◌, Result, Ok, Err, length, take, drop}
use Rattle.std.specs.Prelude.{nat_lt, slice_get, slice_index_or}
use Rattle.std.specs.List.{AllByRecursion}
use Rattle.vo_spec.specs.declared.cells.PartEntry.{PartEntry}
use Rattle.vo_spec.specs.declared.trees.UpdateFault.{UpdateFault}
use Rattle.vo_spec.specs.declared.trees.UpdateFault.TheVariants.{NoRow}
use Rattle.vo_spec.specs.Firsts.{and_then}
use Rattle.vo_spec.specs.Tables.{CellChange}
use Rattle.vo_spec.specs.Parts.{stub, leaf, inner, none, more, count, entries, entries_in}
use Rattle.vo_spec.specs.Trees.{RowTree, RowTrees, row_family}
use Rattle.vo_spec.specs.Fits.{FitsKey}
use Rattle.vo_spec.specs.Inserts.{result_map, goes_here, one, two, Children, take_parts, drop_parts, after_child, has_key, first_key, put_insertion}
use Rattle.vo_spec.specs.Removes.{joined_parts, is_underfull, settled_root, without_entry, with_left, with_right, settle_first, settle_next, shrink, shrink_in, shrink_after, tree_without_key, edit_entry, edited_by, edited_in, set_row, tree_with_cells}
use Rattle.vo_laws.proofs.ListLaws.{each_left, each_right, each_both}
use Rattle.vo_laws.proofs.TreeFits.{SeparatedInsertion, SeparatedChildren, SeparatedTree, KeyFits, each_loadable, each_dropped, key_there, parts_taken, parts_dropped, first_fits, put_separated, after_separated, either_separated}
use Rattle.vo_laws.specs.Separators.{Separated, AreSeparated}

-- Two siblings.

parts_joined : (ps qs : RowTrees) → AreSeparated ps → AreSeparated qs → AreSeparated (joined_parts ps qs)
parts_joined none qs all others = others
parts_joined (more m p ps) qs all others = (all.0, parts_joined ps qs all.1 others)

inners_separated : (ls : List (List ℕ)) (s : List ℕ) (rs : List (List ℕ)) (ps qs : RowTrees) → Separated (inner ls ps) → FitsKey s → Separated (inner rs qs)
    → Separated (inner (ls ++ s ∷ rs) (joined_parts ps qs))
inners_separated ls s rs ps qs left key right = (each_both FitsKey ls (s ∷ rs) left.0 (key, right.0), parts_joined ps qs left.1 right.1)

left_separated : (l : RowTree) (s : List ℕ) (r : RowTree) → AllByRecursion KeyFits (entries l) → Separated l → FitsKey s → Separated r → SeparatedInsertion (with_left row_family l s r)
left_separated (leaf ls) s (leaf rs) fits left key right = step (nat_lt 8 (length ls))
  where
    step : (b : Bool) → SeparatedInsertion (Ok (cond b (two (leaf (take (length ls - 1) ls)) (first_key row_family (drop (length ls - 1) ls)) (leaf (drop (length ls - 1) ls ++ rs))) (one (leaf (ls ++ rs)))))
    step true = (tt, first_fits (drop (length ls - 1) ls) (each_dropped KeyFits (length ls - 1) ls fits), tt)
    step false = tt
left_separated (inner ls ps) s (inner rs qs) fits left key right = step (nat_lt 8 (count ps))
  where
    step : (b : Bool) → SeparatedInsertion (Ok (cond b
        (two (inner (take (length ls - 1) ls) (take_parts (count ps - 1) ps)) (slice_index_or ls (length ls - 1) []) (inner (s ∷ rs) (joined_parts (drop_parts (count ps - 1) ps) qs)))
        (one (inner (ls ++ s ∷ rs) (joined_parts ps qs)))))
    step true = (
      (each_loadable FitsKey (length ls - 1) ls left.0, parts_taken (count ps - 1) ps left.1),
      key_there ls (length ls - 1) left.0,
      ((key, right.0), parts_joined (drop_parts (count ps - 1) ps) qs (parts_dropped (count ps - 1) ps left.1) right.1),
    )
    step false = inners_separated ls s rs ps qs left key right
left_separated l s r fits left key right = tt

right_separated : (l : RowTree) (s : List ℕ) (r : RowTree) → AllByRecursion KeyFits (entries r) → Separated l → FitsKey s → Separated r → SeparatedInsertion (with_right row_family l s r)
right_separated (leaf ls) s (leaf rs) fits left key right = step (nat_lt 8 (length rs))
  where
    step : (b : Bool) → SeparatedInsertion (Ok (cond b (two (leaf (ls ++ take 1 rs)) (first_key row_family (drop 1 rs)) (leaf (drop 1 rs))) (one (leaf (ls ++ rs)))))
    step true = (tt, first_fits (drop 1 rs) (each_dropped KeyFits 1 rs fits), tt)
    step false = tt
right_separated (inner ls ps) s (inner rs qs) fits left key right = step (nat_lt 8 (count qs))
  where
    step : (b : Bool) → SeparatedInsertion (Ok (cond b
        (two (inner (ls ++ s ∷ []) (joined_parts ps (take_parts 1 qs))) (slice_index_or rs 0 []) (inner (drop 1 rs) (drop_parts 1 qs)))
        (one (inner (ls ++ s ∷ rs) (joined_parts ps qs)))))
    step true = (
      (each_both FitsKey ls (s ∷ []) left.0 (key, tt), parts_joined ps (take_parts 1 qs) left.1 (parts_taken 1 qs right.1)),
      key_there rs 0 right.0,
      (each_dropped FitsKey 1 rs right.0, parts_dropped 1 qs right.1),
    )
    step false = inners_separated ls s rs ps qs left key right
right_separated l s r fits left key right = tt

-- Children of which one has lost an entry.

first_separated : (ss : List (List ℕ)) (ps : RowTrees) (p : RowTree) → AllByRecursion KeyFits (entries_in ps) → AllByRecursion FitsKey ss → AreSeparated ps → Separated p
    → SeparatedChildren (settle_first row_family ss ps p)
first_separated ss none p fits keys others here = (keys, (here, tt))
first_separated ss (more m q qs) p fits keys others here =
    either_separated (is_underfull p) (result_map (put_insertion row_family (drop 1 ss) qs) (with_right row_family p (slice_index_or ss 0 []) q)) (Ok (put_insertion row_family ss (more m q qs) (one p)))
    (put_separated (drop 1 ss) qs (with_right row_family p (slice_index_or ss 0 []) q) (each_dropped FitsKey 1 ss keys) others.1
    (right_separated p (slice_index_or ss 0 []) q (each_left KeyFits (entries q) (entries_in qs) fits) here (key_there ss 0 keys) others.0))
    (keys, (here, others))

next_separated : (m : Unit {0}) (left : RowTree) (ss : List (List ℕ)) (ps : RowTrees) (p : RowTree) → AllByRecursion KeyFits (entries left) → AllByRecursion FitsKey ss
    → Separated left → AreSeparated ps → Separated p → SeparatedChildren (settle_next row_family m left ss ps p)
next_separated m left ss ps p fits keys before others here =
    either_separated (is_underfull p) (result_map (put_insertion row_family (drop 1 ss) ps) (with_left row_family left (slice_index_or ss 0 []) p)) (Ok (after_child m left ss (put_insertion row_family (drop 1 ss) ps (one p))))
    (put_separated (drop 1 ss) ps (with_left row_family left (slice_index_or ss 0 []) p) (each_dropped FitsKey 1 ss keys) others
    (left_separated left (slice_index_or ss 0 []) p fits before (key_there ss 0 keys) here))
    (each_both FitsKey (take 1 ss) (drop 1 ss) (each_loadable FitsKey 1 ss keys) (each_dropped FitsKey 1 ss keys), (before, (here, others)))

settled_separated : (settle : RowTree → Result (Children PartEntry (Unit {0})) UpdateFault) (r : Result RowTree UpdateFault)
    → ((p : RowTree) → Separated p → SeparatedChildren (settle p)) → SeparatedTree r → SeparatedChildren (and_then settle r)
settled_separated settle (Ok p) f s = f p s
settled_separated settle (Err fault) f s = tt

-- A removal.

leaf_shrunk_separated : (key : List ℕ) (es : List PartEntry) → SeparatedTree (shrink row_family key (leaf es))
leaf_shrunk_separated key es = step (has_key row_family key es)
  where
    step : (b : Bool) → SeparatedTree (cond b (Ok (leaf (without_entry row_family key es))) (Err NoRow))
    step true = tt
    step false = tt

inner_shrunk_separated : (r : Result (Children PartEntry (Unit {0})) UpdateFault) → SeparatedChildren r
    → SeparatedTree (result_map (λ (c : Children PartEntry (Unit {0})). inner c.separators c.parts) r)
inner_shrunk_separated (Ok c) s = s
inner_shrunk_separated (Err fault) s = tt

mutual
  node_shrunk_separated : (key : List ℕ) (t : RowTree) → AllByRecursion KeyFits (entries t) → Separated t → SeparatedTree (shrink row_family key t)
  node_shrunk_separated key (stub d) fits s = tt
  node_shrunk_separated key (leaf es) fits s = leaf_shrunk_separated key es
  node_shrunk_separated key (inner ss ps) fits s = inner_shrunk_separated (shrink_in row_family key ss ps) (nodes_shrunk_separated key ss ps fits s.0 s.1)

  nodes_shrunk_separated : (key : List ℕ) (ss : List (List ℕ)) (ps : RowTrees) → AllByRecursion KeyFits (entries_in ps) → AllByRecursion FitsKey ss → AreSeparated ps
      → SeparatedChildren (shrink_in row_family key ss ps)
  nodes_shrunk_separated key ss none fits keys s = tt
  nodes_shrunk_separated key ss (more m p ps) fits keys s =
      either_separated (goes_here key (slice_get ss 0)) (and_then (settle_first row_family ss ps) (shrink row_family key p)) (shrink_after row_family key m p ss ps)
      (settled_separated (settle_first row_family ss ps) (shrink row_family key p)
      (λ q here. first_separated ss ps q (each_right KeyFits (entries p) (entries_in ps) fits) keys s.1 here)
      (node_shrunk_separated key p (each_left KeyFits (entries p) (entries_in ps) fits) s.0))
      (later_shrunk_separated key m p ss ps (each_left KeyFits (entries p) (entries_in ps) fits) (each_right KeyFits (entries p) (entries_in ps) fits) keys s.0 s.1)

  later_shrunk_separated : (key : List ℕ) (m : Unit {0}) (left : RowTree) (ss : List (List ℕ)) (ps : RowTrees) → AllByRecursion KeyFits (entries left) → AllByRecursion KeyFits (entries_in ps)
      → AllByRecursion FitsKey ss → Separated left → AreSeparated ps → SeparatedChildren (shrink_after row_family key m left ss ps)
  later_shrunk_separated key m left ss none before fits keys here s = tt
  later_shrunk_separated key m left ss (more n p ps) before fits keys here s =
      either_separated (goes_here key (slice_get ss 1)) (and_then (settle_next row_family m left ss ps) (shrink row_family key p)) (result_map (after_child m left ss) (shrink_after row_family key n p (drop 1 ss) ps))
      (settled_separated (settle_next row_family m left ss ps) (shrink row_family key p)
      (λ q new. next_separated m left ss ps q before keys here s.1 new)
      (node_shrunk_separated key p (each_left KeyFits (entries p) (entries_in ps) fits) s.0))
      (after_separated m left ss (shrink_after row_family key n p (drop 1 ss) ps) keys here
      (later_shrunk_separated key n p (drop 1 ss) ps (each_left KeyFits (entries p) (entries_in ps) fits) (each_right KeyFits (entries p) (entries_in ps) fits)
      (each_dropped FitsKey 1 ss keys) s.0 s.1))

root_separated : (t : RowTree) → Separated t → Separated (settled_root t)
root_separated (stub d) s = s
root_separated (leaf es) s = s
root_separated (inner ss none) s = s
root_separated (inner ss (more m p none)) s = s.1.0
root_separated (inner ss (more m p (more n q ps))) s = s

pub removed_separated : (key : List ℕ) (t : RowTree) → AllByRecursion KeyFits (entries t) → Separated t → SeparatedTree (tree_without_key key t)
removed_separated key t fits s = step (shrink row_family key t) (node_shrunk_separated key t fits s)
  where
    step : (r : Result RowTree UpdateFault) → SeparatedTree r → SeparatedTree (result_map settled_root r)
    step (Ok u) here = root_separated u here
    step (Err fault) here = tt

-- A replacement: the separators stay.

module _ (edit : PartEntry → Result PartEntry UpdateFault) where
  abbrev SeparatedTrees : Result RowTrees UpdateFault → Type 0
  SeparatedTrees (Ok ps) = AreSeparated ps
  SeparatedTrees (Err fault) = Unit {0}

  edited_leaf : (r : Result (List PartEntry) UpdateFault) → SeparatedTree (result_map leaf r)
  edited_leaf (Ok es) = tt
  edited_leaf (Err fault) = tt

  edited_inner : (ss : List (List ℕ)) (r : Result RowTrees UpdateFault) → AllByRecursion FitsKey ss → SeparatedTrees r → SeparatedTree (result_map (inner ss) r)
  edited_inner ss (Ok ps) keys s = (keys, s)
  edited_inner ss (Err fault) keys s = tt

  edited_either : (b : Bool) (m : Unit {0}) (p : RowTree) (ps : RowTrees) (r : Result RowTree UpdateFault) (others : Result RowTrees UpdateFault)
      → Separated p → AreSeparated ps → SeparatedTree r → SeparatedTrees others → SeparatedTrees (cond b (result_map (λ q. more tt q ps) r) (result_map (more m p) others))
  edited_either true m p ps (Ok q) others here s new rest = (new, s)
  edited_either true m p ps (Err fault) others here s new rest = tt
  edited_either false m p ps r (Ok qs) here s new rest = (here, rest)
  edited_either false m p ps r (Err fault) here s new rest = tt

  mutual
    edited_separated : (key : List ℕ) (t : RowTree) → Separated t → SeparatedTree (edited_by row_family edit key t)
    edited_separated key (stub d) s = tt
    edited_separated key (leaf es) s = edited_leaf (edit_entry row_family edit key es)
    edited_separated key (inner ss ps) s = edited_inner ss (edited_in row_family edit key ss ps) s.0 (each_edited_separated key ss ps s.1)

    each_edited_separated : (key : List ℕ) (ss : List (List ℕ)) (ps : RowTrees) → AreSeparated ps → SeparatedTrees (edited_in row_family edit key ss ps)
    each_edited_separated key ss none s = tt
    each_edited_separated key ss (more m p ps) s =
        edited_either (goes_here key (slice_get ss 0)) m p ps (edited_by row_family edit key p) (edited_in row_family edit key (drop 1 ss) ps) s.0 s.1
        (edited_separated key p s.0) (each_edited_separated key (drop 1 ss) ps s.1)

pub replaced_separated : (key : List ℕ) (changes : List CellChange) (t : RowTree) → Separated t → SeparatedTree (tree_with_cells key changes t)
replaced_separated key changes t s = edited_separated (set_row changes) key t s
