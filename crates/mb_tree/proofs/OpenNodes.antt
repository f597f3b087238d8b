-- Nodes as the work on trees sees them.
use Rattle.std.proofs.Common.{◌≡◌, ℕ, List, [], ◌∷◌, map, refl, sym, ap, ◌∙◌}
use Rattle.std.specs.declared.vec.Vec.{Vec}
use Rattle.std.specs.declared.alloc.Global.{Global}
use Rattle.vo_spec.specs.declared.values.Row.{Row}
use Rattle.vo_spec.specs.declared.cells.PartEntry.{PartEntry}
use Rattle.vo_spec.specs.Parts.{inner, more}
use Rattle.vo_spec.specs.Trees.{RowTree, RowTrees, row_family, open_parts}
use Rattle.btree.specs.declared.node.Contents.{Contents}
use Rattle.btree.specs.declared.node.Contents.TheVariants.{Inner as InnerContents}
use Rattle.btree.specs.Nodes.{Kid, parts_from, new_kid}
use Rattle.mb_tree.specs.declared.subtrees.Node.{Node}
use Rattle.mb_tree.specs.declared.subtrees.Node.TheVariants.{Inner}
use Rattle.mb_tree.specs.declared.parts.PartTree.{PartTree}
use Rattle.mb_tree.specs.declared.parts.PartTree.TheVariants.{Inner as InnerPart}
use Rattle.mb_tree.specs.Whole.{whole_of, whole_kid, whole_contents}
use Rattle.mb_tree.specs.View.{part_of, parts_of, part_kid, part_contents}

same_list : (key : List ℕ → List ℕ) → ((k : List ℕ) → key k ≡ k) → (ks : List (List ℕ)) → map key ks ≡ ks
same_list key same [] = refl
same_list key same (k ∷ ks) = ap (λ x. x ∷ map key ks) (same k) ∙ ap (λ l. k ∷ l) (same_list key same ks)

pub listed_whole : (ts : List RowTree) → parts_from (map whole_kid ts) ≡ open_parts ts
listed_whole [] = refl
listed_whole (t ∷ ts) = ap (λ ps. more tt t ps) (listed_whole ts)

pub listed_parts : (ps : List PartTree) → parts_from (map part_kid ps) ≡ parts_of ps
listed_parts [] = refl
listed_parts (p ∷ ps) = ap (λ qs. more tt (part_of p) qs) (listed_parts ps)

module _ (key : List ℕ → List ℕ) (same : (k : List ℕ) → key k ≡ k) where
  pub node_opened : (n : Node) (t : RowTree) (ss : Vec (List ℕ) Global) (ts : Vec RowTree Global) (ks : List (List ℕ)) (xs : List RowTree) → whole_of n ≡ t → n ≡ Inner ss ts → ks ≡ ss.items → xs ≡ ts.items
      → inner (map key ks) (parts_from (map whole_kid xs)) ≡ t
  node_opened n t ss ts ks xs whole is keys children =
      ap (λ l. inner l (parts_from (map whole_kid xs))) (same_list key same ks ∙ keys)
      ∙ ap (inner ss.items) (listed_whole xs ∙ ap open_parts children)
      ∙ sym (ap whole_of is)
      ∙ whole

  pub part_opened : (t : PartTree) (ss : List (List ℕ)) (ps : RowTrees) (ks : List (List ℕ)) (xs : List PartTree) → t ≡ InnerPart ss ps → ks ≡ ss → parts_of xs ≡ ps → inner (map key ks) (parts_from (map part_kid xs)) ≡ part_of t
  part_opened t ss ps ks xs is keys children =
      ap (λ l. inner l (parts_from (map part_kid xs))) (same_list key same ks ∙ keys)
      ∙ ap (inner ss) (listed_parts xs ∙ children)
      ∙ sym (ap part_of is)

-- and what a node is to have

pub whole_closed : (c : Contents (List ℕ) Row RowTree) (ss : Vec (List ℕ) Global) (ts : Vec RowTree Global) → c ≡ InnerContents ss ts → inner ss.items (open_parts ts.items) ≡ whole_contents c
whole_closed c ss ts is =
    ap (inner ss.items) (sym (listed_whole ts.items)) ∙ ap (λ l. inner l (parts_from (map whole_kid ts.items))) (sym (same_list (λ k. k) (λ k. refl) ss.items)) ∙ sym (ap whole_contents is)

pub part_closed : (c : Contents (List ℕ) PartEntry PartTree) (ss : Vec (List ℕ) Global) (ps : Vec PartTree Global) (t : PartTree) (ks : List (List ℕ)) (qs : RowTrees) → c ≡ InnerContents ss ps → t ≡ InnerPart ks qs → ks ≡ ss.items → qs ≡ parts_of ps.items
    → part_kid t ≡ new_kid row_family (part_contents c)
part_closed c ss ps t ks qs is_c is_t keys children =
    ap part_kid is_t
    ∙ ap with_keys (keys ∙ sym (same_list (λ k. k) (λ k. refl) ss.items))
    ∙ ap with_children (children ∙ sym (listed_parts ps.items))
    ∙ sym (ap (λ x. new_kid row_family (part_contents x)) is_c)
  where
    with_keys : List (List ℕ) → Kid PartEntry (Unit {0})
    with_keys l = (tt, inner l qs)

    with_children : RowTrees → Kid PartEntry (Unit {0})
    with_children l = (tt, inner (map (λ k. k) ss.items) l)
