-- Removal from a tree and changes of its rows, whole trees or parts.
use Rattle.std.specs.Prelude.{ℕ, ◌+◌, ◌-◌, Bool, true, false, nat_lt, if◌then◌else◌, List, [], ◌∷◌, ◌++◌, map, fold, length, take, drop, slice_get, slice_set, slice_index_or, Result, Ok, Err, bytes_eq}
use Rattle.vo_spec.specs.declared.cells.Cell.{Cell}
use Rattle.vo_spec.specs.declared.cells.Cell.TheVariants.{Shown, Hidden}
use Rattle.vo_spec.specs.declared.cells.RowPart.{RowPart}
use Rattle.vo_spec.specs.declared.cells.RowPart.TheVariants.{Digest as Closed, Cells}
use Rattle.vo_spec.specs.declared.cells.PartEntry.{PartEntry}
use Rattle.vo_spec.specs.declared.trees.UpdateFault.{UpdateFault}
use Rattle.vo_spec.specs.declared.trees.UpdateFault.TheVariants.{NoRow, Missing}
use Rattle.vo_spec.specs.Firsts.{and_then}
use Rattle.vo_spec.specs.Tables.{CellChange}
use Rattle.vo_spec.specs.Cells.{cell_digest}
use Rattle.vo_spec.specs.Parts.{Part, Parts, stub, leaf, inner, none, more, Family, count}
use Rattle.vo_spec.specs.Trees.{RowTree, RowTrees, row_family, digest}
use Rattle.vo_spec.specs.Inserts.{min_fill, result_map, goes_here, has_key, first_key, Insertion, one, two, Children, take_parts, drop_parts, after_child, put_insertion, closed_entry}

module _ {E M : Type 0} where
  -- children one after another
  abbrev pub joined_parts : Parts E M → Parts E M → Parts E M
  joined_parts none qs = qs
  joined_parts (more m p ps) qs = more m p (joined_parts ps qs)

  -- a node with fewer entries or children than it is to have; of a stub nothing is known
  abbrev pub is_underfull : Part E M → Bool
  is_underfull (stub d) = false
  is_underfull (leaf es) = nat_lt (length es) min_fill
  is_underfull (inner ss ps) = nat_lt (count ps) min_fill

  -- a root of one child gives way to it
  abbrev pub settled_root : Part E M → Part E M
  settled_root (inner ss (more m p none)) = p
  settled_root p = p

module _ {E M : Type 0} (family : Family E M) where
  -- without the first entry of this key
  abbrev pub without_entry : List ℕ → List E → List E
  without_entry key [] = []
  without_entry key (e ∷ es) = if bytes_eq (family.key e) key then es else e ∷ without_entry key es

  -- A small node and its left sibling. A sibling with more than it needs gives its last entry, or
  -- its last child: then the separator between the two comes down beside that child, and the one
  -- before it goes up. Else the two become one, inner nodes with the separator between their
  -- children.
  abbrev pub with_left : Part E M → List ℕ → Part E M → Result (Insertion E M) UpdateFault
  with_left (leaf ls) s (leaf rs) = Ok (
      if nat_lt min_fill (length ls)
      then two (leaf (take (length ls - 1) ls)) (first_key family (drop (length ls - 1) ls))
      (leaf (drop (length ls - 1) ls ++ rs))
      else one (leaf (ls ++ rs)))
  with_left (inner ls ps) s (inner rs qs) = Ok (
      if nat_lt min_fill (count ps)
      then two (inner (take (length ls - 1) ls) (take_parts (count ps - 1) ps))
      (slice_index_or ls (length ls - 1) [])
      (inner (s ∷ rs) (joined_parts (drop_parts (count ps - 1) ps) qs))
      else one (inner (ls ++ s ∷ rs) (joined_parts ps qs)))
  with_left _ s _ = Err Missing

  -- A small node that is the first child, and its right sibling, which gives its first entry or
  -- child.
  abbrev pub with_right : Part E M → List ℕ → Part E M → Result (Insertion E M) UpdateFault
  with_right (leaf ls) s (leaf rs) = Ok (
      if nat_lt min_fill (length rs)
      then two (leaf (ls ++ take 1 rs)) (first_key family (drop 1 rs)) (leaf (drop 1 rs))
      else one (leaf (ls ++ rs)))
  with_right (inner ls ps) s (inner rs qs) = Ok (
      if nat_lt min_fill (count qs)
      then two (inner (ls ++ s ∷ []) (joined_parts ps (take_parts 1 qs))) (slice_index_or rs 0 [])
      (inner (drop 1 rs) (drop_parts 1 qs))
      else one (inner (ls ++ s ∷ rs) (joined_parts ps qs)))
  with_right _ s _ = Err Missing

  -- a first child that may have become small, before the other children
  abbrev pub settle_first : List (List ℕ) → Parts E M → Part E M → Result (Children E M) UpdateFault
  settle_first ss none p = Ok (put_insertion family ss none (one p))
  settle_first ss (more m q qs) p =
      if is_underfull p then result_map (put_insertion family (drop 1 ss) qs)
      (with_right p (slice_index_or ss 0 []) q)
      else Ok (put_insertion family ss (more m q qs) (one p))

  -- a later child that may have become small, with the child before it
  abbrev pub settle_next : M → Part E M → List (List ℕ) → Parts E M → Part E M
      → Result (Children E M) UpdateFault
  settle_next m left ss ps p =
      if is_underfull p then result_map (put_insertion family (drop 1 ss) ps)
      (with_left left (slice_index_or ss 0 []) p)
      else Ok (after_child m left ss (put_insertion family (drop 1 ss) ps (one p)))

  -- a node without the entry of this key; each small node below it has looked at its sibling
  abbrev mutual
    pub shrink : List ℕ → Part E M → Result (Part E M) UpdateFault
    shrink key (stub d) = Err Missing
    shrink key (leaf es) = if has_key family key es then Ok (leaf (without_entry key es))
        else Err NoRow
    shrink key (inner ss ps) = result_map (λ (c : Children E M). inner c.separators c.parts)
        (shrink_in key ss ps)

    -- the first of these children and the ones after it
    pub shrink_in : List ℕ → List (List ℕ) → Parts E M → Result (Children E M) UpdateFault
    shrink_in key ss none = Err Missing
    shrink_in key ss (more m p ps) =
        if goes_here key (slice_get ss 0) then and_then (settle_first ss ps) (shrink key p)
        else shrink_after key m p ss ps

    -- the children after this one, which is the left sibling of the next
    pub shrink_after : List ℕ → M → Part E M → List (List ℕ) → Parts E M
        → Result (Children E M) UpdateFault
    shrink_after key m left ss none = Err Missing
    shrink_after key m left ss (more n p ps) =
        if goes_here key (slice_get ss 1) then and_then (settle_next m left ss ps) (shrink key p)
        else result_map (after_child m left ss) (shrink_after key n p (drop 1 ss) ps)

  abbrev pub removed_by : List ℕ → Part E M → Result (Part E M) UpdateFault
  removed_by key t = result_map settled_root (shrink key t)

  -- with another entry in the place of the one of this key
  module _ (edit : E → Result E UpdateFault) where
    abbrev pub edit_entry : List ℕ → List E → Result (List E) UpdateFault
    edit_entry key [] = Err NoRow
    edit_entry key (e ∷ es) =
        if bytes_eq (family.key e) key then result_map (λ f. f ∷ es) (edit e)
        else result_map (λ fs. e ∷ fs) (edit_entry key es)

    abbrev mutual
      pub edited_by : List ℕ → Part E M → Result (Part E M) UpdateFault
      edited_by key (stub d) = Err Missing
      edited_by key (leaf es) = result_map leaf (edit_entry key es)
      edited_by key (inner ss ps) = result_map (inner ss) (edited_in key ss ps)

      pub edited_in : List ℕ → List (List ℕ) → Parts E M → Result (Parts E M) UpdateFault
      edited_in key ss none = Err Missing
      edited_in key ss (more m p ps) =
          if goes_here key (slice_get ss 0)
          then result_map (λ q. more (family.annotation q) q ps) (edited_by key p)
          else result_map (more m p) (edited_in key (drop 1 ss) ps)

-- The tree without the row of this key, or why it isn't removed: there is no such row, or the work
-- looks at a stub, or at a sibling of the other kind.
abbrev pub tree_without_key : List ℕ → RowTree → Result RowTree UpdateFault
tree_without_key = removed_by row_family

-- The tree with other values in some cells of the row of this key. A row that is a digest has no
-- cells.

abbrev pub set_cells : List CellChange → List Cell → List Cell
set_cells changes cells = fold
    (λ (cs : List Cell) (c : CellChange). slice_set cs c.column (Shown c.value)) cells changes

abbrev pub set_row : List CellChange → PartEntry → Result PartEntry UpdateFault
set_row changes e = set_row_part changes e.key e.row
  where
    set_row_part : List CellChange → List ℕ → RowPart → Result PartEntry UpdateFault
    set_row_part changes key (Closed d) = Err Missing
    set_row_part changes key (Cells cells) =
        Ok (record { key = key; row = Cells (set_cells changes cells) })

abbrev pub tree_with_cells : List ℕ → List CellChange → RowTree → Result RowTree UpdateFault
tree_with_cells key changes = edited_by row_family (set_row changes) key

-- The proofs of these commands: the tree with open exactly the nodes that the work looks at.

-- every cell hidden
abbrev pub hidden_cells : ℕ → List Cell → List Cell
hidden_cells column [] = []
hidden_cells column (cell ∷ cells) =
    Hidden (cell_digest column cell) ∷ hidden_cells (column + 1) cells

abbrev pub hidden_row : RowPart → RowPart
hidden_row (Closed d) = Closed d
hidden_row (Cells cells) = Cells (hidden_cells 0 cells)

-- rows as digests, but for the first of this key, which stands with its cells hidden
abbrev pub opened_row : List ℕ → List PartEntry → List PartEntry
opened_row key [] = []
opened_row key (e ∷ es) =
    if bytes_eq e.key key then record { key = e.key; row = hidden_row e.row } ∷ map closed_entry es
    else closed_entry e ∷ opened_row key es

abbrev pub closed_parts : RowTrees → RowTrees
closed_parts none = none
closed_parts (more m p ps) = more m (stub (digest p)) (closed_parts ps)

-- a node that is looked at, and nothing below it
abbrev pub opened_sibling : RowTree → RowTree
opened_sibling (stub d) = stub d
opened_sibling (leaf es) = leaf (map closed_entry es)
opened_sibling (inner ss ps) = inner ss (closed_parts ps)

-- the path to a key's leaf, with that leaf made so
abbrev mutual
  pub path_to : (List PartEntry → List PartEntry) → List ℕ → RowTree → RowTree
  path_to rows key (stub d) = stub d
  path_to rows key (leaf es) = leaf (rows es)
  path_to rows key (inner ss ps) = inner ss (path_in rows key ss ps)

  pub path_in : (List PartEntry → List PartEntry) → List ℕ → List (List ℕ) → RowTrees → RowTrees
  path_in rows key ss none = none
  path_in rows key ss (more m p ps) =
      if goes_here key (slice_get ss 0) then more m (path_to rows key p) (closed_parts ps)
      else more m (stub (digest p)) (path_in rows key (drop 1 ss) ps)

abbrev pub replace_proof : List ℕ → RowTree → RowTree
replace_proof key = path_to (opened_row key) key

-- whether a node that loses the key's entry looks at its sibling
abbrev pub becomes_underfull : List ℕ → RowTree → Bool
becomes_underfull key p = is_underfull_ok (shrink row_family key p)
  where
    is_underfull_ok : Result RowTree UpdateFault → Bool
    is_underfull_ok (Ok q) = is_underfull q
    is_underfull_ok (Err fault) = false

abbrev pub opened_sibling_if : Bool → RowTree → RowTree
opened_sibling_if true p = opened_sibling p
opened_sibling_if false p = stub (digest p)

-- the first of these children looked at, where it is a sibling, and the others closed
abbrev pub sibling_first : Bool → RowTrees → RowTrees
sibling_first looks none = none
sibling_first looks (more m p ps) = more m (opened_sibling_if looks p) (closed_parts ps)

abbrev mutual
  pub remove_proof : List ℕ → RowTree → RowTree
  remove_proof key (stub d) = stub d
  remove_proof key (leaf es) = leaf (map closed_entry es)
  remove_proof key (inner ss ps) = inner ss (remove_proof_in key ss ps)

  pub remove_proof_in : List ℕ → List (List ℕ) → RowTrees → RowTrees
  remove_proof_in key ss none = none
  remove_proof_in key ss (more m p ps) =
      if goes_here key (slice_get ss 0)
      then more m (remove_proof key p) (sibling_first (becomes_underfull key p) ps)
      else remove_proof_after key m p ss ps

  pub remove_proof_after : List ℕ → Unit {0} → RowTree → List (List ℕ) → RowTrees → RowTrees
  remove_proof_after key m left ss none = more m (stub (digest left)) none
  remove_proof_after key m left ss (more n p ps) =
      if goes_here key (slice_get ss 1)
      then more m (opened_sibling_if (becomes_underfull key p) left)
      (more n (remove_proof key p) (closed_parts ps))
      else more m (stub (digest left)) (remove_proof_after key n p (drop 1 ss) ps)
