-- The rows that nodes of whole trees have.
use Rattle.std.proofs.Common.{◌≡◌, ℕ, zero, suc, ◌<◌, ◌≤◌, List, [], ◌∷◌, ◌++◌, length, get_or, map, flat_map, refl, sym, ap, ◌∙◌, arith}
use Rattle.std.specs.declared.vec.Vec.{Vec}
use Rattle.std.specs.declared.alloc.Global.{Global}
use Rattle.std.proofs.lemmas.List.{map-append}
use Rattle.vo_spec.specs.declared.values.Value.{Value}
use Rattle.vo_spec.specs.declared.values.Row.{Row}
use Rattle.vo_spec.specs.Cells.{whole_cells, whole_entry}
use Rattle.vo_spec.specs.Parts.{leaf, inner, entries, entries_in, levels, levels_in}
use Rattle.vo_spec.specs.Trees.{RowTree, open_parts}
use Rattle.mb_tree.specs.declared.subtrees.Node.{Node}
use Rattle.mb_tree.specs.declared.subtrees.Node.TheVariants.{Inner}
use Rattle.mb_tree.specs.RowCounts.{IsWhole}
use Rattle.mb_tree.specs.Whole.{whole_of}
use Rattle.vo_spec.specs.Representation.{Represents, shown_values, row_in, rows_in}

shown_whole : (vs : List Value) → shown_values (whole_cells vs) ≡ vs
shown_whole [] = refl
shown_whole (v ∷ vs) = ap (λ rest. v ∷ rest) (shown_whole vs)

row_in_whole : (row : Row) → row_in (whole_entry row) ≡ row
row_in_whole row = ap (λ vs. record { key = row.key; cells = vs }) (shown_whole row.cells)

pub rows_in_leaf : (rows : List Row) → rows_in (leaf (map whole_entry rows)) ≡ rows
rows_in_leaf [] = refl
rows_in_leaf (row ∷ rows) =
    ap (λ r. r ∷ map row_in (map whole_entry rows)) (row_in_whole row) ∙ ap (λ rest. row ∷ rest) (rows_in_leaf rows)

pub rows_in_inner : (ss : List (List ℕ)) (ts : List RowTree) → rows_in (inner ss (open_parts ts)) ≡ flat_map rows_in ts
rows_in_inner ss [] = refl
rows_in_inner ss (t ∷ ts) =
    map-append row_in (entries t) (entries_in (open_parts ts)) ∙ ap (λ rest. rows_in t ++ rest) (rows_in_inner ss ts)

pub node_rows : (n : Node) (t : RowTree) (ss : Vec (List ℕ) Global) (ts : Vec RowTree Global) → whole_of n ≡ t → n ≡ Inner ss ts → rows_in t ≡ flat_map rows_in ts.items
node_rows n t ss ts whole is =
    ap rows_in (sym whole) ∙ ap (λ m. rows_in (whole_of m)) is ∙ rows_in_inner ss.items ts.items

-- a child has fewer levels than its parent
pub subtree_falls : (ts : List RowTree) (i : ℕ) (t : RowTree) → i < length ts → t ≡ get_or ts i t → levels t ≤ levels_in (open_parts ts)
subtree_falls [] i t lt is = absurd (omega arith)
subtree_falls (u ∷ us) zero t lt is = let e = ap (λ r. levels r) is in omega arith
subtree_falls (u ∷ us) (suc i) t lt is =
    let h : levels t ≤ levels_in (open_parts us) = subtree_falls us i t (omega arith) is in omega arith

-- a leaf without entries is the tree of no rows
pub nothing_stands : Represents (leaf []) []
nothing_stands = record { tree = record { height = 0; shape = (refl, omega arith, omega arith, tt); rising = tt }; rows_are = refl }

pub nothing_whole : IsWhole (leaf []) 0
nothing_whole = record { tree = nothing_stands.tree; fits = (omega arith, λ k d h. absurd (omega arith)); shown = refl; counted = refl }
