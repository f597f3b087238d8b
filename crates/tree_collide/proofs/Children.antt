-- One child further.
use Rattle.std.proofs.Common.{◌≡◌, ℕ, ◌+◌, ◌<◌, List, [], ◌∷◌, length, map, Option, Some, None, is_some, true, false, suc, get_or, drop, refl, sym, ap, ◌∙◌, subst, inl, inr}
use Rattle.std.proofs.lemmas.List.{drop_more}
use Rattle.vo_spec.specs.Parts.{more, PrunesEach}
use Rattle.vo_spec.specs.Trees.{RowTree, RowTrees, digest, row_family, open_parts, Prunes}
use Rattle.mb_tree.specs.declared.parts.PartTree.{PartTree}
use Rattle.mb_tree.specs.View.{part_of, parts_of}
use Rattle.vo_spec.specs.declared.values.Row.{Row}
use Rattle.vo_spec.specs.declared.cells.PartEntry.{PartEntry}
use Rattle.vo_spec.specs.Cells.{whole_entry, EntryPrunes}
use Rattle.mb_tree.specs.declared.subtrees.Node.{Node}
use Rattle.mb_tree.specs.declared.subtrees.Node.TheVariants as node
use Rattle.mb_tree.specs.Whole.{whole_of}
use Rattle.tree_collide.specs.Agreements.{HoldsOrCollides, SameEntries, SameNodes, is_open}
use Rattle.tree_collide.specs.Preimages.{OfStrings, ArePreimages, NodesIn}

pub entry_count : (es : List PartEntry) (rows : List Row) → SameEntries es (map whole_entry rows) → length es ≡ length rows
entry_count [] [] same = refl
entry_count [] (r ∷ rows) same = absurd same
entry_count (e ∷ es) [] same = absurd same
entry_count (e ∷ es) (r ∷ rows) same = ap suc (entry_count es rows same.2)

pub child_count : (ps : List PartTree) (ts : List RowTree) → SameNodes (parts_of ps) (open_parts ts) → length ps ≡ length ts
child_count [] [] same = refl
child_count [] (t ∷ ts) same = absurd same
child_count (p ∷ ps) [] same = absurd same
child_count (p ∷ ps) (t ∷ ts) same = ap suc (child_count ps ts same.1)

pub node_open : (n : Node) → is_open (whole_of n) ≡ true
node_open (node.Leaf entries) = refl
node_open (node.Inner separators children) = refl

-- what is left to compare, for the fact about all
pub record NodesLeft (ps qs : RowTrees) (all : Type 0) (Are : OfStrings) : Type 0 where
  pub same : SameNodes ps qs
  pub gives : PrunesEach row_family EntryPrunes ps qs → all
  pub needs : all → PrunesEach row_family EntryPrunes ps qs
  pub strings : (x y : List ℕ) → NodesIn ps qs x y → Are x y

module _ (i : ℕ) (ps : List PartTree) (ts : List RowTree) (p : PartTree) (t : RowTree) (all : Type 0) (Are : OfStrings) where
  opened : i < length ps → p ≡ get_or ps i p → i < length ts → t ≡ get_or ts i t → NodesLeft (parts_of (drop i ps)) (open_parts (drop i ts)) all Are
      → NodesLeft (more tt (part_of p) (parts_of (drop (i + 1) ps))) (more tt t (open_parts (drop (i + 1) ts))) all Are
  opened lp p_is lt t_is l =
      let f : drop i ps ≡ p ∷ drop (i + 1) ps = drop_more ps i p lp ∙ ap (λ x. x ∷ drop (i + 1) ps) (sym p_is) in
      let g : drop i ts ≡ t ∷ drop (i + 1) ts = drop_more ts i t lt ∙ ap (λ x. x ∷ drop (i + 1) ts) (sym t_is) in
      let P : List PartTree → Type 0 = λ xs. NodesLeft (parts_of xs) (open_parts (drop i ts)) all Are in
      let Q : List RowTree → Type 0 = λ xs. NodesLeft (more tt (part_of p) (parts_of (drop (i + 1) ps))) (open_parts xs) all Are in
      subst Q g (subst P f l)

  pub child_here : i < length ps → p ≡ get_or ps i p → i < length ts → t ≡ get_or ts i t → NodesLeft (parts_of (drop i ps)) (open_parts (drop i ts)) all Are → digest (part_of p) ≡ digest t
  child_here lp p_is lt t_is l = (opened lp p_is lt t_is l).same.0

  pub child_agrees : i < length ps → p ≡ get_or ps i p → i < length ts → t ≡ get_or ts i t → NodesLeft (parts_of (drop i ps)) (open_parts (drop i ts)) all Are → Prunes (part_of p) t
      → NodesLeft (parts_of (drop (i + 1) ps)) (open_parts (drop (i + 1) ts)) all Are
  child_agrees lp p_is lt t_is l h =
      let o = opened lp p_is lt t_is l in
      record { same = o.same.1; gives = λ r. o.gives (refl, h, r); needs = λ a. (o.needs a).2; strings = λ x y h. o.strings x y (inr h) }

  pub child_differs : i < length ps → p ≡ get_or ps i p → i < length ts → t ≡ get_or ts i t → NodesLeft (parts_of (drop i ps)) (open_parts (drop i ts)) all Are → (Prunes (part_of p) t → ⊥) → all → ⊥
  child_differs lp p_is lt t_is l not a = not (((opened lp p_is lt t_is l).needs a).1)

  pub child_strings : i < length ps → p ≡ get_or ps i p → i < length ts → t ≡ get_or ts i t → NodesLeft (parts_of (drop i ps)) (open_parts (drop i ts)) all Are → (x y : List ℕ)
      → ArePreimages (part_of p) t x y → Are x y
  child_strings lp p_is lt t_is l x y h = (opened lp p_is lt t_is l).strings x y (inl h)

  -- what is found of a child is found of all
  pub child_found : i < length ps → p ≡ get_or ps i p → i < length ts → t ≡ get_or ts i t → NodesLeft (parts_of (drop i ps)) (open_parts (drop i ts)) all Are → (found : Option (List ℕ × List ℕ))
      → is_some found ≡ true → HoldsOrCollides found (Prunes (part_of p) t) (ArePreimages (part_of p) t) → HoldsOrCollides found all Are
  child_found lp p_is lt t_is l None some h = absurd (cc)
  child_found lp p_is lt t_is l (Some x) some h = (child_differs lp p_is lt t_is l h.0, h.1, child_strings lp p_is lt t_is l x.0 x.1 h.2)

  pub child_passed : i < length ps → p ≡ get_or ps i p → i < length ts → t ≡ get_or ts i t → NodesLeft (parts_of (drop i ps)) (open_parts (drop i ts)) all Are → (found : Option (List ℕ × List ℕ))
      → is_some found ≡ false → HoldsOrCollides found (Prunes (part_of p) t) (ArePreimages (part_of p) t) → NodesLeft (parts_of (drop (i + 1) ps)) (open_parts (drop (i + 1) ts)) all Are
  child_passed lp p_is lt t_is l None none h = child_agrees lp p_is lt t_is l h
  child_passed lp p_is lt t_is l (Some x) none h = absurd (cc)
