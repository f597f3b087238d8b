-- One tree further: what is left decides for all.
use Rattle.std.proofs.Common.{◌≡◌, ◌≢◌, ℕ, zero, suc, inl, inr, ◌+◌, ◌<◌, ◌≤◌, List, [], ◌∷◌, length, map, get_or, drop, sym, ap, ◌∙◌, subst, arith}
use Rattle.std.specs.List.{AllZip}
use Rattle.std.proofs.lemmas.List.{drop_all}
use Rattle.vo_spec.specs.declared.needs.Need.{Need}
use Rattle.vo_spec.specs.Trees.{RowTree}
use Rattle.vo_spec.specs.Pruning.{IsCanonical}
use Rattle.mb_tree.specs.declared.parts.PartTree.{PartTree}
use Rattle.mb_tree.specs.View.{part_of}
use Rattle.tree_collide.proofs.PruningLaws.{here}
use Rattle.tree_collide.specs.Preimages.{ArePreimages, AreOfTrees}
use Rattle.reply_meeting.specs.Comparing.{AreTwins}

pub record ProofsLeft (needs : List (List Need)) (ps qs : List RowTree) (all : Type 0) : Type 0 where
  pub twins : AllZip AreTwins ps qs
  pub canonical : AllZip IsCanonical needs ps
  pub second_canonical : AllZip IsCanonical needs qs
  pub gives : ps ≡ qs → all
  pub asks : all → ps ≡ qs

module _ (i : ℕ) (needs : List (List Need)) (ps qs : List PartTree) (ns : List Need) (p q : PartTree) (all : Type 0)
    (ln : i < length needs) (n_is : ns ≡ get_or needs i ns) (lp : i < length ps) (p_is : p ≡ get_or ps i p) (lq : i < length qs) (q_is : q ≡ get_or qs i q)
    (l : ProofsLeft (drop i needs) (map part_of (drop i ps)) (map part_of (drop i qs)) all) where
  opened : ProofsLeft (ns ∷ drop (i + 1) needs) (part_of p ∷ map part_of (drop (i + 1) ps)) (part_of q ∷ map part_of (drop (i + 1) qs)) all
  opened =
      let P : List (List Need) → Type 0 = λ xs. ProofsLeft xs (map part_of (drop i ps)) (map part_of (drop i qs)) all in
      let Q : List PartTree → Type 0 = λ xs. ProofsLeft (ns ∷ drop (i + 1) needs) (map part_of xs) (map part_of (drop i qs)) all in
      let R : List PartTree → Type 0 = λ xs. ProofsLeft (ns ∷ drop (i + 1) needs) (part_of p ∷ map part_of (drop (i + 1) ps)) (map part_of xs) all in
      subst R (here qs i q lq q_is) (subst Q (here ps i p lp p_is) (subst P (here needs i ns ln n_is) l))

  pub twins_here : AreTwins (part_of p) (part_of q)
  twins_here = opened.twins.0

  pub canonical_here : IsCanonical ns (part_of p)
  canonical_here = opened.canonical.0

  pub second_canonical_here : IsCanonical ns (part_of q)
  second_canonical_here = opened.second_canonical.0

  pub tree_differs : part_of p ≢ part_of q → all → ⊥
  tree_differs differ a = let whole = opened.asks a in differ (heads _ _ _ _ whole)
    where
      heads : (x y : RowTree) (xs ys : List RowTree) → (x ∷ xs) ≡ (y ∷ ys) → x ≡ y
      heads x y xs ys e = cc

  pub tree_passed : part_of p ≡ part_of q → ProofsLeft (drop (i + 1) needs) (map part_of (drop (i + 1) ps)) (map part_of (drop (i + 1) qs)) all
  tree_passed same = record {
    twins = opened.twins.1;
    canonical = opened.canonical.1;
    second_canonical = opened.second_canonical.1;
    gives = λ rest. opened.gives (both _ _ _ _ same rest);
    asks = λ a. tails _ _ _ _ (opened.asks a);
  }
    where
      both : (x y : RowTree) (xs ys : List RowTree) → x ≡ y → xs ≡ ys → (x ∷ xs) ≡ (y ∷ ys)
      both x y xs ys e f = cc

      tails : (x y : RowTree) (xs ys : List RowTree) → (x ∷ xs) ≡ (y ∷ ys) → xs ≡ ys
      tails x y xs ys e = cc

-- strings of two trees at one place are of the trees
pub of_trees_at : (ps qs : List PartTree) (i : ℕ) (p q : PartTree) → i < length ps → p ≡ get_or ps i p → i < length qs → q ≡ get_or qs i q → (x y : List ℕ)
    → ArePreimages (part_of p) (part_of q) x y → AreOfTrees (map part_of ps) (map part_of qs) x y
of_trees_at [] qs i p q lp p_is lq q_is x y are = absurd (omega arith)
of_trees_at (r ∷ ps) [] i p q lp p_is lq q_is x y are = absurd (omega arith)
of_trees_at (r ∷ ps) (t ∷ qs) zero p q lp p_is lq q_is x y are =
    inl (subst (λ (u : PartTree). ArePreimages (part_of u) (part_of t) x y) p_is (subst (λ (u : PartTree). ArePreimages (part_of p) (part_of u) x y) q_is are))
of_trees_at (r ∷ ps) (t ∷ qs) (suc i) p q lp p_is lq q_is x y are =
    inr (of_trees_at ps qs i p q (omega arith) p_is (omega arith) q_is x y are)

pub proofs_done : (i : ℕ) (needs : List (List Need)) (ps qs : List PartTree) (all : Type 0) → length ps ≤ i → length ps ≡ length qs
    → ProofsLeft needs (map part_of (drop i ps)) (map part_of (drop i qs)) all → all
proofs_done i needs ps qs all past same l =
    let e : drop i ps ≡ [] = drop_all i ps past in
    let f : drop i qs ≡ [] = drop_all i qs (omega arith) in
    l.gives (ap (map part_of) e ∙ sym (ap (map part_of) f))
