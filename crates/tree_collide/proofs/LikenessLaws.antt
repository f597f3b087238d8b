-- One entry or child further: what is left decides for all.
use Rattle.std.proofs.Common.{◌≡◌, ℕ, ◌+◌, ◌<◌, List, ◌∷◌, length, get_or, drop}
use Rattle.vo_spec.specs.declared.cells.PartEntry.{PartEntry}
use Rattle.vo_spec.specs.Cells.{row_digest}
use Rattle.vo_spec.specs.Trees.{digest}
use Rattle.mb_tree.specs.declared.parts.PartTree.{PartTree}
use Rattle.mb_tree.specs.View.{part_of, parts_of}
use Rattle.tree_collide.specs.Agreements.{SameEntries, SameNodes}
use Rattle.tree_collide.proofs.TwinSteps.{at_place}

pub record Decides (rest all : Type 0) : Type 0 where
  pub gives : rest → all
  pub needs : all → rest

abbrev pub EntriesDecide : List PartEntry → List PartEntry → Type 0 → Type 0
EntriesDecide es fs all = Decides (SameEntries es fs) all

abbrev pub ChildrenDecide : List PartTree → List PartTree → Type 0 → Type 0
ChildrenDecide ps qs all = Decides (SameNodes (parts_of ps) (parts_of qs)) all

module _ (i : ℕ) (es fs : List PartEntry) (e f : PartEntry) (all : Type 0)
    (le : i < length es) (e_is : e ≡ get_or es i e) (lf : i < length fs) (f_is : f ≡ get_or fs i f)
    (d : EntriesDecide (drop i es) (drop i fs) all) where
  entries_at : EntriesDecide (e ∷ drop (i + 1) es) (f ∷ drop (i + 1) fs) all
  entries_at = at_place (λ xs ys. EntriesDecide xs ys all) i es fs e f le e_is lf f_is d

  pub entry_like : (e.key ≡ f.key) × (row_digest e.row ≡ row_digest f.row)
      → EntriesDecide (drop (i + 1) es) (drop (i + 1) fs) all
  entry_like same = record {
    gives = λ rest. entries_at.gives (same.0, same.1, rest);
    needs = λ a. (entries_at.needs a).2;
  }

  pub entry_unlike : ((e.key ≡ f.key) × (row_digest e.row ≡ row_digest f.row) → ⊥) → all → ⊥
  entry_unlike differ a = let same = entries_at.needs a in differ (same.0, same.1)

module _ (i : ℕ) (ps qs : List PartTree) (p q : PartTree) (all : Type 0)
    (lp : i < length ps) (p_is : p ≡ get_or ps i p) (lq : i < length qs) (q_is : q ≡ get_or qs i q)
    (d : ChildrenDecide (drop i ps) (drop i qs) all) where
  children_at : ChildrenDecide (p ∷ drop (i + 1) ps) (q ∷ drop (i + 1) qs) all
  children_at = at_place (λ xs ys. ChildrenDecide xs ys all) i ps qs p q lp p_is lq q_is d

  pub child_like : digest (part_of p) ≡ digest (part_of q)
      → ChildrenDecide (drop (i + 1) ps) (drop (i + 1) qs) all
  child_like same = record {
    gives = λ rest. children_at.gives (same, rest);
    needs = λ a. (children_at.needs a).1;
  }

  pub child_unlike : (digest (part_of p) ≡ digest (part_of q) → ⊥) → all → ⊥
  child_unlike differ a = differ (children_at.needs a).0
