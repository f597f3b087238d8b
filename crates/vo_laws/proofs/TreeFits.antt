-- Trees within the limits of their bytes: a tree that insertion makes keeps them, and so do its
-- proofs.
use Rattle.std.proofs.Common.{◌≡◌, ℕ, zero, suc, ◌+◌, ◌-◌, ◌≤◌, Bool, true, false, cond, List, [], ◌∷◌, Option, Some, Result, Ok, Err, length, take, drop, arith}
use Rattle.std.specs.Prelude.{nat_le, slice_get, slice_index_or}
use Rattle.std.specs.List.{AllByRecursion}
use Rattle.std.proofs.lemmas.List.Elements.{All-from_recursion}
use Rattle.vo_spec.specs.declared.cells.PartEntry.{PartEntry}
use Rattle.vo_spec.specs.declared.trees.UpdateFault.{UpdateFault}
use Rattle.vo_spec.specs.declared.trees.UpdateFault.TheVariants.{DuplicateKey}
use Rattle.vo_spec.specs.Parts.{stub, leaf, inner, none, more, count, entries, entries_in}
use Rattle.vo_spec.specs.Trees.{RowTree, RowTrees, row_family}
use Rattle.vo_spec.specs.Fits.{FitsKey, FitsEntry, FitsEach, FitsPart}
use Rattle.vo_spec.specs.Inserts.{min_fill, result_map, goes_here, Insertion, one, two, Children, take_parts, drop_parts, after_child, has_key, put_entry, first_key, split_leaf, split_inner, put_insertion, grow, grow_in, root_of, tree_with_entry}
use Rattle.vo_spec.specs.Representation.{IsNode, AreNodes, fewest_in_root}
use Rattle.vo_laws.specs.Separators.{Separated, AreSeparated}
use Rattle.vo_laws.proofs.ListLaws.{each_left, each_right, each_both}
use Rattle.vo_laws.proofs.NodeBounds as bounds
use Rattle.vo_laws.proofs.InsertionNodes.{put_each}
use Rattle.vo_laws.proofs.Insertion.{root_few}

-- Separators that fit.

abbrev pub SeparatedInsertion : Result (Insertion PartEntry (Unit {0})) UpdateFault → Type 0
SeparatedInsertion (Ok (one p)) = Separated p
SeparatedInsertion (Ok (two left key right)) = Separated left × FitsKey key × Separated right
SeparatedInsertion (Err fault) = Unit {0}

abbrev pub SeparatedChildren : Result (Children PartEntry (Unit {0})) UpdateFault → Type 0
SeparatedChildren (Ok c) = AllByRecursion FitsKey c.separators × AreSeparated c.parts
SeparatedChildren (Err fault) = Unit {0}

abbrev pub KeyFits : PartEntry → Type 0
KeyFits e = FitsKey e.key

pub each_loadable : {A : Type 0} (P : A → Type 0) (n : ℕ) (xs : List A) → AllByRecursion P xs → AllByRecursion P (take n xs)
each_loadable P zero xs all = tt
each_loadable P (suc n) [] all = tt
each_loadable P (suc n) (x ∷ xs) all = (all.0, each_loadable P n xs all.1)

pub each_dropped : {A : Type 0} (P : A → Type 0) (n : ℕ) (xs : List A) → AllByRecursion P xs → AllByRecursion P (drop n xs)
each_dropped P zero xs all = all
each_dropped P (suc n) [] all = tt
each_dropped P (suc n) (x ∷ xs) all = each_dropped P n xs all.1

pub key_there : (ss : List (List ℕ)) (i : ℕ) → AllByRecursion FitsKey ss → FitsKey (slice_index_or ss i [])
key_there [] i all = omega arith
key_there (s ∷ ss) zero all = all.0
key_there (s ∷ ss) (suc i) all = key_there ss i all.1

pub parts_taken : (n : ℕ) (ps : RowTrees) → AreSeparated ps → AreSeparated (take_parts n ps)
parts_taken n none all = tt
parts_taken zero (more m p ps) all = tt
parts_taken (suc n) (more m p ps) all = (all.0, parts_taken n ps all.1)

pub parts_dropped : (n : ℕ) (ps : RowTrees) → AreSeparated ps → AreSeparated (drop_parts n ps)
parts_dropped n none all = tt
parts_dropped zero (more m p ps) all = all
parts_dropped (suc n) (more m p ps) all = parts_dropped n ps all.1

pub first_fits : (es : List PartEntry) → AllByRecursion KeyFits es → FitsKey (first_key row_family es)
first_fits [] all = omega arith
first_fits (e ∷ es) all = all.0

leaf_separated : (es : List PartEntry) → AllByRecursion KeyFits es → SeparatedInsertion (Ok (split_leaf row_family es))
leaf_separated es all = step (nat_le (length es) 16)
  where
    step : (b : Bool) → SeparatedInsertion (Ok (cond b (one (leaf es)) (two (leaf (take 8 es)) (first_key row_family (drop 8 es)) (leaf (drop 8 es)))))
    step true = tt
    step false = (tt, first_fits (drop 8 es) (each_dropped KeyFits 8 es all), tt)

inner_separated : (r : Result (Children PartEntry (Unit {0})) UpdateFault) → SeparatedChildren r → SeparatedInsertion (result_map (split_inner row_family) r)
inner_separated (Err fault) s = tt
inner_separated (Ok c) s = step (nat_le (count c.parts) 16)
  where
    step : (b : Bool) → SeparatedInsertion (Ok (cond b (one (inner c.separators c.parts)) (two (inner (take 7 c.separators) (take_parts 8 c.parts)) (slice_index_or c.separators 7 []) (inner (drop 8 c.separators) (drop_parts 8 c.parts)))))
    step true = s
    step false = (
      (each_loadable FitsKey 7 c.separators s.0, parts_taken 8 c.parts s.1),
      key_there c.separators 7 s.0,
      (each_dropped FitsKey 8 c.separators s.0, parts_dropped 8 c.parts s.1),
    )

pub put_separated : (ss : List (List ℕ)) (ps : RowTrees) (r : Result (Insertion PartEntry (Unit {0})) UpdateFault) → AllByRecursion FitsKey ss → AreSeparated ps
    → SeparatedInsertion r → SeparatedChildren (result_map (put_insertion row_family ss ps) r)
put_separated ss ps (Ok (one p)) all others s = (all, (s, others))
put_separated ss ps (Ok (two left key right)) all others s = ((s.1, all), (s.0, (s.2, others)))
put_separated ss ps (Err fault) all others s = tt

pub after_separated : (m : Unit {0}) (p : RowTree) (ss : List (List ℕ)) (r : Result (Children PartEntry (Unit {0})) UpdateFault) → AllByRecursion FitsKey ss → Separated p
    → SeparatedChildren r → SeparatedChildren (result_map (after_child m p ss) r)
after_separated m p ss (Ok c) all here s = (each_both FitsKey (take 1 ss) c.separators (each_loadable FitsKey 1 ss all) s.0, (here, s.1))
after_separated m p ss (Err fault) all here s = tt

pub either_separated : (b : Bool) (r s : Result (Children PartEntry (Unit {0})) UpdateFault) → SeparatedChildren r → SeparatedChildren s → SeparatedChildren (cond b r s)
either_separated true r s f g = f
either_separated false r s f g = g

leaf_insertion_separated : (e : PartEntry) (es : List PartEntry) → KeyFits e → AllByRecursion KeyFits es → SeparatedInsertion (grow row_family e (leaf es))
leaf_insertion_separated e es fits all = step (has_key row_family e.key es)
  where
    step : (b : Bool) → SeparatedInsertion (cond b (Err DuplicateKey) (Ok (split_leaf row_family (put_entry row_family e es))))
    step true = tt
    step false = leaf_separated (put_entry row_family e es) (put_each row_family KeyFits e es fits all)

mutual
  node_separated : (e : PartEntry) (t : RowTree) → KeyFits e → AllByRecursion KeyFits (entries t) → Separated t → SeparatedInsertion (grow row_family e t)
  node_separated e (stub d) fits all s = tt
  node_separated e (leaf es) fits all s = leaf_insertion_separated e es fits all
  node_separated e (inner ss ps) fits all s = inner_separated (grow_in row_family e ss ps) (nodes_separated e ss ps fits all s.0 s.1)

  nodes_separated : (e : PartEntry) (ss : List (List ℕ)) (ps : RowTrees) → KeyFits e → AllByRecursion KeyFits (entries_in ps) → AllByRecursion FitsKey ss → AreSeparated ps
      → SeparatedChildren (grow_in row_family e ss ps)
  nodes_separated e ss none fits all keys s = tt
  nodes_separated e ss (more m p ps) fits all keys s =
      either_separated (goes_here e.key (slice_get ss 0)) (result_map (put_insertion row_family ss ps) (grow row_family e p)) (result_map (after_child m p ss) (grow_in row_family e (drop 1 ss) ps))
      (put_separated ss ps (grow row_family e p) keys s.1 (node_separated e p fits (each_left KeyFits (entries p) (entries_in ps) all) s.0))
      (after_separated m p ss (grow_in row_family e (drop 1 ss) ps) keys s.0
      (nodes_separated e (drop 1 ss) ps fits (each_right KeyFits (entries p) (entries_in ps) all) (each_dropped FitsKey 1 ss keys) s.1))

-- the tree that insertion makes
abbrev pub SeparatedTree : Result RowTree UpdateFault → Type 0
SeparatedTree (Ok t) = Separated t
SeparatedTree (Err fault) = Unit {0}

root_separated : (r : Result (Insertion PartEntry (Unit {0})) UpdateFault) → SeparatedInsertion r → SeparatedTree (result_map (root_of row_family) r)
root_separated (Ok (one p)) s = s
root_separated (Ok (two left key right)) s = ((s.1, tt), (s.0, (s.2, tt)))
root_separated (Err fault) s = tt

pub tree_separated : (e : PartEntry) (t : RowTree) → FitsKey e.key → AllByRecursion KeyFits (entries t) → Separated t → SeparatedTree (tree_with_entry e t)
tree_separated e t fits all s = root_separated (grow row_family e t) (node_separated e t fits all s)

-- A whole tree with such separators and entries that fit is within the limits.

pub separators_counted : (height : ℕ) (lower upper : Option (List ℕ)) (ss : List (List ℕ)) (ps : RowTrees) → AreNodes row_family height lower upper ss ps → length ss + 1 ≡ count ps
separators_counted = bounds.separators_counted row_family

mutual
  pub node_fits : (fewest height : ℕ) (lower upper : Option (List ℕ)) (t : RowTree) → fewest_in_root row_family t ≤ fewest → IsNode row_family fewest height lower upper t
      → Separated t → AllByRecursion FitsEntry (entries t) → FitsPart t
  node_fits fewest height lower upper (stub d) few n s all = absurd n
  node_fits fewest height lower upper (leaf es) few n s all = (n.2, All-from_recursion FitsEntry es all)
  node_fits fewest height lower upper (inner ss ps) few n s all = (
    omega (arith, n.1),
    n.2,
    separators_counted (height - 1) lower upper ss ps n.3,
    All-from_recursion FitsKey ss s.0,
    nodes_fit (height - 1) lower upper ss ps n.3 s.1 all,
  )

  pub nodes_fit : (height : ℕ) (lower upper : Option (List ℕ)) (ss : List (List ℕ)) (ps : RowTrees) → AreNodes row_family height lower upper ss ps
      → AreSeparated ps → AllByRecursion FitsEntry (entries_in ps) → FitsEach FitsEntry ps
  nodes_fit height lower upper ss none n s all = tt
  nodes_fit height lower upper [] (more m p none) n s all = (node_fits min_fill height lower upper p (root_few row_family p) n.1 s.0 (each_left FitsEntry (entries p) [] all), tt)
  nodes_fit height lower upper [] (more m p (more o q ps)) n s all = absurd n
  nodes_fit height lower upper (x ∷ ss) (more m p ps) n s all = (
    node_fits min_fill height lower (Some x) p (root_few row_family p) n.2 s.0 (each_left FitsEntry (entries p) (entries_in ps) all),
    nodes_fit height (Some x) upper ss ps n.3 s.1 (each_right FitsEntry (entries p) (entries_in ps) all),
  )
