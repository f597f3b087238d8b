-- Inner nodes of whole trees, opened.
use Rattle.std.proofs.Common.{◌≡◌, ◌+◌, ◌≤◌, ℕ, List, length, map, refl, sym, ap, ◌∙◌, subst, arith}
use Rattle.std.specs.declared.vec.Vec.{Vec}
use Rattle.std.specs.declared.alloc.Global.{Global}
use Rattle.vo_spec.specs.Parts.{inner, count, levels, levels_in}
use Rattle.vo_spec.specs.Trees.{RowTree, open_parts}
use Rattle.btree.specs.Shapes.{IsWithin}
use Rattle.vo_spec.specs.Removes.{opened_sibling}
use Rattle.mb_tree.specs.declared.subtrees.Node.{Node}
use Rattle.mb_tree.specs.declared.subtrees.Node.TheVariants.{Inner}
use Rattle.mb_tree.specs.Whole.{whole_of}
use Rattle.mb_tree.proofs.SubtreeLaws.{count_open_parts}
use Rattle.update_proof.specs.OpenParts.{closed_tree}
use Rattle.update_proof.proofs.OpenedChildren.{all_closed}

pub record Limits (t : RowTree) (ss : List (List ℕ)) (ts : List RowTree) : Type 0 where
  pub least : 2 ≤ length ts
  pub between : length ss + 1 ≡ length ts
  pub falls : levels t ≡ levels_in (open_parts ts) + 1
  pub same : t ≡ inner ss (open_parts ts)

limits : (ss : List (List ℕ)) (ts : List RowTree) → IsWithin 2 (inner ss (open_parts ts)) → Limits (inner ss (open_parts ts)) ss ts
limits ss ts within =
    let counted = count_open_parts ts in
    let a : 2 ≤ count (open_parts ts) = within.linked.0 in
    let c : length ss + 1 ≡ count (open_parts ts) = within.linked.1 in
    record { least = omega arith; between = omega arith; falls = refl; same = refl }

node_is : (n : Node) (t : RowTree) (ss : Vec (List ℕ) Global) (ts : Vec RowTree Global) (ks : List (List ℕ)) (xs : List RowTree)
    → whole_of n ≡ t → n ≡ Inner ss ts → ks ≡ ss.items → xs ≡ ts.items → t ≡ inner ks (open_parts xs)
node_is n t ss ts ks xs whole is keys children =
    sym whole ∙ ap whole_of is ∙ ap (λ l. inner l (open_parts ts.items)) (sym keys) ∙ ap (λ l. inner ks (open_parts l)) (sym children)

pub node_limits : (n : Node) (t : RowTree) (ss : Vec (List ℕ) Global) (ts : Vec RowTree Global) (ks : List (List ℕ)) (xs : List RowTree)
    → whole_of n ≡ t → n ≡ Inner ss ts → ks ≡ ss.items → xs ≡ ts.items → IsWithin 2 t → Limits t ks xs
node_limits n t ss ts ks xs whole is keys children within =
    let e = node_is n t ss ts ks xs whole is keys children in
    let P : RowTree → Type 0 = λ u. IsWithin 2 u in
    let Q : RowTree → Type 0 = λ u. Limits u ks xs in
    subst Q (sym e) (limits ks xs (subst P e within))

-- a node alone
pub node_alone : (n : Node) (t : RowTree) (ss : Vec (List ℕ) Global) (ts : Vec RowTree Global) (ks : List (List ℕ)) (xs : List RowTree)
    → whole_of n ≡ t → n ≡ Inner ss ts → ks ≡ ss.items → xs ≡ ts.items → inner ks (open_parts (map closed_tree xs)) ≡ opened_sibling t
node_alone n t ss ts ks xs whole is keys children =
    ap (inner ks) (sym (all_closed xs)) ∙ ap opened_sibling (sym (node_is n t ss ts ks xs whole is keys children))
