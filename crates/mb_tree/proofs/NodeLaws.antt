-- What nodes of whole trees keep to.
use Rattle.std.proofs.Common.{◌≡◌, ℕ, ◌≤◌, List, length, map, All, sym, ap, ◌∙◌, subst, arith}
use Rattle.std.specs.declared.vec.Vec.{Vec}
use Rattle.std.specs.declared.alloc.Global.{Global}
use Rattle.vo_spec.specs.declared.values.Row.{Row}
use Rattle.vo_spec.specs.Cells.{whole_entry}
use Rattle.vo_spec.specs.Parts.{leaf, inner, count}
use Rattle.vo_spec.specs.Trees.{RowTree, open_parts}
use Rattle.vo_spec.specs.Fits.{FitsKey, FitsPart, FitsRow, max_fill}
use Rattle.btree.specs.Shapes.{IsWithin}
use Rattle.mb_tree.specs.declared.subtrees.Node.{Node}
use Rattle.mb_tree.specs.declared.subtrees.Node.TheVariants.{Leaf, Inner}
use Rattle.mb_tree.specs.Whole.{whole_of}
use Rattle.mb_tree.proofs.SubtreeLaws.{count_open_parts, rows_fit, subtrees_fit}

pub node_most : (n : Node) (t : RowTree) (ss : Vec (List ℕ) Global) (ts : Vec RowTree Global) (xs : List RowTree)
    → whole_of n ≡ t → n ≡ Inner ss ts → xs ≡ ts.items → IsWithin 2 t → length xs ≤ max_fill
node_most n t ss ts xs whole is children within =
    let e : t ≡ inner ss.items (open_parts xs) =
    sym whole ∙ ap whole_of is ∙ ap (λ l. inner ss.items (open_parts l)) (sym children) in
    let P : RowTree → Type 0 = λ u. IsWithin 2 u in
    let most : count (open_parts xs) ≤ max_fill = (subst P e within).most in
    omega (arith, count_open_parts xs)

pub node_inner : (n : Node) (t : RowTree) (ss : Vec (List ℕ) Global) (ts : Vec RowTree Global) (keys : List (List ℕ)) (xs : List RowTree)
    → whole_of n ≡ t → n ≡ Inner ss ts → keys ≡ ss.items → xs ≡ ts.items → t ≡ inner keys (open_parts xs)
node_inner n t ss ts keys xs whole is separators children =
    sym whole ∙ ap whole_of is ∙ ap (λ l. inner ss.items (open_parts l)) (sym children) ∙ ap (λ k. inner k (open_parts xs)) (sym separators)

-- A node fits where it is within the limits and what it has fits.

pub leaf_fits : (n : Node) (t : RowTree) (rows : Vec Row Global) (xs : List Row)
    → whole_of n ≡ t → n ≡ Leaf rows → xs ≡ rows.items → IsWithin 2 t → All FitsRow xs → FitsPart t
leaf_fits n t rows xs whole is items within fit =
    let e : t ≡ leaf (map whole_entry xs) =
    sym whole ∙ ap whole_of is ∙ ap (λ l. leaf (map whole_entry l)) (sym items) in
    let P : RowTree → Type 0 = λ u. IsWithin 2 u in
    let Q : RowTree → Type 0 = λ u. FitsPart u in
    subst Q (sym e) ((subst P e within).most, rows_fit xs fit)

pub inner_fits : (n : Node) (t : RowTree) (ss : Vec (List ℕ) Global) (ts : Vec RowTree Global) (keys : List (List ℕ)) (xs : List RowTree)
    → whole_of n ≡ t → n ≡ Inner ss ts → keys ≡ ss.items → xs ≡ ts.items → IsWithin 2 t
    → All FitsKey keys → All FitsPart xs → FitsPart t
inner_fits n t ss ts keys xs whole is separators children within keys_fit fit =
    let e = node_inner n t ss ts keys xs whole is separators children in
    let P : RowTree → Type 0 = λ u. IsWithin 2 u in
    let Q : RowTree → Type 0 = λ u. FitsPart u in
    let w = subst P e within in
    subst Q (sym e) (w.linked.0, w.most, w.linked.1, keys_fit, subtrees_fit xs fit)
