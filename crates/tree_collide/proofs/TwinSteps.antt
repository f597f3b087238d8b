-- One cell, entry or child further in two parts: what is left decides for all.
use Rattle.std.proofs.Common.{◌≡◌, ℕ, ◌+◌, ◌<◌, List, [], ◌∷◌, length, Option, Some, None, is_some, Result, Ok, Err, IfOk, true, false, suc, get_or, drop, refl, ap, subst, inl, inr}
use Rattle.std.specs.Prelude.{◌⊎◌}
use Rattle.std.specs.List.{AllZip}
use Rattle.vo_spec.specs.declared.cells.Cell.{Cell}
use Rattle.vo_spec.specs.declared.cells.PartEntry.{PartEntry}
use Rattle.vo_spec.specs.Trees.{digest}
use Rattle.mb_tree.specs.declared.parts.PartTree.{PartTree}
use Rattle.mb_tree.specs.View.{part_of, parts_of}
use Rattle.vo_spec.specs.declared.trees.Twins.{Twins}
use Rattle.vo_spec.specs.declared.trees.Twins.TheVariants as twins
use Rattle.tree_collide.specs.Agreements.{HoldsOrCollides, SameOrFound, SameCells, SameEntries, SameNodes}
use Rattle.tree_collide.specs.Alike.{CellsAlike, EntryAlike, AreAlike, EachAlike}
use Rattle.tree_collide.specs.Preimages.{OfStrings, AttributesIn, RowsIn, ArePreimages, NodesIn}
use Rattle.tree_collide.proofs.PruningLaws.{here}

-- what is left to compare, for the fact about all
pub record Left (Digests Facts : Type 0) (In : OfStrings) (all : Type 0) (Are : OfStrings) : Type 0 where
  pub same : Digests
  pub gives : Facts → all
  pub needs : all → Facts
  pub strings : (x y : List ℕ) → In x y → Are x y

found_first : (S R A B all : Type 0) (I J Are : OfStrings) → Left (S × R) (A × B) (λ x y. I x y ⊎ J x y) all Are
    → (found : Option (List ℕ × List ℕ)) → is_some found ≡ true → HoldsOrCollides found A I → HoldsOrCollides found all Are
found_first S R A B all I J Are l None some h = absurd (cc)
found_first S R A B all I J Are l (Some x) some h = (λ a. h.0 ((l.needs a).0), h.1, l.strings x.0 x.1 (inl h.2))

passed_first : (S R A B all : Type 0) (I J Are : OfStrings) → Left (S × R) (A × B) (λ x y. I x y ⊎ J x y) all Are
    → (found : Option (List ℕ × List ℕ)) → is_some found ≡ false → HoldsOrCollides found A I → Left R B J all Are
passed_first S R A B all I J Are l None none h =
    record { same = l.same.1; gives = λ b. l.gives (h, b); needs = λ a. (l.needs a).1; strings = λ x y j. l.strings x y (inr j) }
passed_first S R A B all I J Are l (Some x) none h = absurd (cc)

-- the places of two lists
module _ {A B : Type 0} (P : List A → List B → Type 0) (i : ℕ) (xs : List A) (ys : List B) (x : A) (y : B) where
  pub at_place : i < length xs → x ≡ get_or xs i x → i < length ys → y ≡ get_or ys i y → P (drop i xs) (drop i ys) → P (x ∷ drop (i + 1) xs) (y ∷ drop (i + 1) ys)
  at_place lx x_is ly y_is h = subst (λ zs. P (x ∷ drop (i + 1) xs) zs) (here ys i y ly y_is) (subst (λ zs. P zs (drop i ys)) (here xs i x lx x_is) h)

abbrev pub CellsLeft : ℕ → List Cell → List Cell → Type 0 → OfStrings → Type 0
CellsLeft n cs ds all Are = Left (SameCells n cs ds) (CellsAlike n cs ds) (AttributesIn n cs ds) all Are

abbrev pub EntriesLeft : List PartEntry → List PartEntry → Type 0 → OfStrings → Type 0
EntriesLeft es fs all Are = Left (SameEntries es fs) (AllZip EntryAlike es fs) (RowsIn es fs) all Are

abbrev pub ChildrenLeft : List PartTree → List PartTree → Type 0 → OfStrings → Type 0
ChildrenLeft ps qs all Are = Left (SameNodes (parts_of ps) (parts_of qs)) (EachAlike (parts_of ps) (parts_of qs)) (NodesIn (parts_of ps) (parts_of qs)) all Are

module _ (i : ℕ) (ps qs : List PartTree) (p q : PartTree) (all : Type 0) (Are : OfStrings) (lp : i < length ps) (p_is : p ≡ get_or ps i p) (lq : i < length qs) (q_is : q ≡ get_or qs i q)
    (l : ChildrenLeft (drop i ps) (drop i qs) all Are) where
  children_at : ChildrenLeft (p ∷ drop (i + 1) ps) (q ∷ drop (i + 1) qs) all Are
  children_at = at_place (λ xs ys. ChildrenLeft xs ys all Are) i ps qs p q lp p_is lq q_is l

  pub child_here : digest (part_of p) ≡ digest (part_of q)
  child_here = children_at.same.0

  pub child_found : (found : Option (List ℕ × List ℕ)) → is_some found ≡ true → HoldsOrCollides found (AreAlike (part_of p) (part_of q)) (ArePreimages (part_of p) (part_of q))
      → HoldsOrCollides found all Are
  child_found = found_first _ _ _ _ all (ArePreimages (part_of p) (part_of q)) (NodesIn (parts_of (drop (i + 1) ps)) (parts_of (drop (i + 1) qs))) Are children_at

  pub child_passed : (found : Option (List ℕ × List ℕ)) → is_some found ≡ false → HoldsOrCollides found (AreAlike (part_of p) (part_of q)) (ArePreimages (part_of p) (part_of q))
      → ChildrenLeft (drop (i + 1) ps) (drop (i + 1) qs) all Are
  child_passed = passed_first _ _ _ _ all (ArePreimages (part_of p) (part_of q)) (NodesIn (parts_of (drop (i + 1) ps)) (parts_of (drop (i + 1) qs))) Are children_at

pub twin_entry_count : (es fs : List PartEntry) → SameEntries es fs → length es ≡ length fs
twin_entry_count [] [] same = refl
twin_entry_count [] (f ∷ fs) same = absurd same
twin_entry_count (e ∷ es) [] same = absurd same
twin_entry_count (e ∷ es) (f ∷ fs) same = ap suc (twin_entry_count es fs same.2)

pub twin_child_count : (ps qs : List PartTree) → SameNodes (parts_of ps) (parts_of qs) → length ps ≡ length qs
twin_child_count [] [] same = refl
twin_child_count [] (q ∷ qs) same = absurd same
twin_child_count (p ∷ ps) [] same = absurd same
twin_child_count (p ∷ ps) (q ∷ qs) same = ap suc (twin_child_count ps qs same.1)

pub told_as : {E : Type 0} (r : Result Twins E) (fact other new more : Type 0) → (fact → new) → (other → more) → IfOk r (λ twins. SameOrFound twins fact other) → IfOk r (λ twins. SameOrFound twins new more)
told_as (Ok twins.Same) fact other new more f g h = f h
told_as (Ok (twins.Collides found)) fact other new more f g h = (g h.0, h.1)
told_as (Err e) fact other new more f g h = tt
