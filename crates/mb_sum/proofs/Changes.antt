-- What the work on trees answers, as changes of totals trees.
use Rattle.std.proofs.Common.{◌≡◌, ℕ, ◌≤◌, ◌-◌, List, [], ◌∷◌, Option, Some, None, IfOk, Result, Ok, Err, refl, sym, ap, subst, ◌∙◌, arith}
use Rattle.std.specs.Prelude.{ℤ, FitsSigned}
use Rattle.std.specs.Int.{w64}
use Rattle.vo_spec.specs.declared.trees.UpdateFault.{UpdateFault}
use Rattle.vo_spec.specs.declared.trees.UpdateFault.TheVariants.{DuplicateKey, NoRow, Missing, Memory}
use Rattle.vo_spec.specs.Parts.{Part, Parts, Family, stub, leaf, inner, none, more, entries}
use Rattle.vo_spec.specs.Fits.{FitsKey, FitsEach}
use Rattle.vo_spec.specs.Inserts.{min_fill}
use Rattle.vo_spec.specs.Removes.{edited_by}
use Rattle.vo_spec.specs.Representation.{IsNode, AreNodes, IsTree, fewest_in_root}
use Rattle.vo_laws.proofs.NodeBounds.{separators_counted}
use Rattle.btree.specs.Answers.{Answers}
use Rattle.btree.specs.Nodes.{Kid, IsNewKid}
use Rattle.btree.specs.Shapes.{IsShaped, AreShaped}
use Rattle.totals_laws.specs.declared.totals.TotalEntry.{TotalEntry}
use Rattle.totals_laws.specs.declared.totals.Totals.{Totals}
use Rattle.totals_laws.specs.TotalsTrees.{TotalsPart, TotalsParts, totals_family, StandsFor, FitsTotalEntry, FitsTotals}
use Rattle.totals_laws.specs.TotalsChanges.{entry_with, tree_with, tree_with_value, tree_without, PutsEntry, SetsValue, RemovesEntry}
use Rattle.mb_update.specs.ChangeResults.{ChangesTo}
use Rattle.totals_laws.proofs.TotalsChangeLaws.{put_stands, set_stands, remove_stands, put_fits, set_fits, remove_fits, in_tree}
use Rattle.mb_sum.specs.declared.parts.PartTotals.{PartTotals}
use Rattle.mb_sum.specs.declared.parts.TotalChild.{TotalChild}
use Rattle.mb_sum.specs.Views.{part_of, part_kid}
use Rattle.mb_sum.specs.Whole.{whole_kid}

-- Whole trees have the shape that the work asks for.
module _ {E M : Type 0} (family : Family E M) where
  mutual
    node_shaped : (fewest height : ℕ) (lower upper : Option (List ℕ)) (t : Part E M) → fewest_in_root family t ≤ fewest → IsNode family fewest height lower upper t → IsShaped t
    node_shaped fewest height lower upper (stub d) least n = absurd n
    node_shaped fewest height lower upper (leaf es) least n = n.2
    node_shaped fewest height lower upper (inner ss ps) least n =
        (omega (arith, n.1, least), n.2, separators_counted family (height - 1) lower upper ss ps n.3, nodes_shaped (height - 1) lower upper ss ps n.3)

    nodes_shaped : (height : ℕ) (lower upper : Option (List ℕ)) (ss : List (List ℕ)) (ps : Parts E M) → AreNodes family height lower upper ss ps → AreShaped ps
    nodes_shaped height lower upper ss none n = absurd n
    nodes_shaped height lower upper [] (more m p none) n = (node_shaped min_fill height lower upper p (few p) n.1, tt)
    nodes_shaped height lower upper [] (more m p (more k q ps)) n = absurd n
    nodes_shaped height lower upper (s ∷ ss) (more m p ps) n = (node_shaped min_fill height lower (Some s) p (few p) n.2, nodes_shaped height (Some s) upper ss ps n.3)

    few : (p : Part E M) → fewest_in_root family p ≤ min_fill
    few (stub d) = omega arith
    few (leaf es) = omega arith
    few (inner ss ps) = omega arith

pub tree_shaped : (t : TotalsPart) → IsTree totals_family t → IsShaped t
tree_shaped t tree = node_shaped totals_family (fewest_in_root totals_family t) tree.height None None t (omega arith) tree.shape

mutual
  pub fits_shaped : (t : TotalsPart) → FitsTotals t → IsShaped t
  fits_shaped (stub d) f = tt
  fits_shaped (leaf es) f = f.0
  fits_shaped (inner ss ps) f = (f.0, f.1, f.2, fit_shaped ps f.4)

  fit_shaped : (ps : TotalsParts) → FitsEach FitsTotalEntry ps → AreShaped ps
  fit_shaped none f = tt
  fit_shaped (more m p ps) f = (fits_shaped p f.0, fit_shaped ps f.1)

-- what becomes of a whole tree is one

pub whole_change : (root : TotalsPart) (r : Result TotalsPart UpdateFault) → Answers (λ node t. (whole_kid node).1 ≡ t) (Ok root) r → r ≡ Ok root
whole_change root (Ok t) h = ap Ok (sym h)
whole_change root (Err fault) h = absurd h

pub whole_made : (root : TotalsPart) (r : Result TotalsPart UpdateFault) → Answers (IsNewKid totals_family whole_kid) (Ok root) r → r ≡ Ok root
whole_made root (Ok t) h = ap Ok (sym (ap (λ (k : Kid TotalEntry Totals). k.1) h))
whole_made root (Err fault) h = absurd h

itself : (t : TotalsPart) → IsTree totals_family t → StandsFor t (entries t)
itself t tree = record { tree = tree; entries_are = refl }

pub put_whole : (e : TotalEntry) (t u : TotalsPart) → IsTree totals_family t → tree_with e.key e.value t ≡ Ok u → IsTree totals_family u
put_whole e t u tree is = let s : PutsEntry e (entries t) (Ok u) = subst (PutsEntry e (entries t)) is (put_stands e t (entries t) (itself t tree)) in s.1.tree

pub remove_whole : (key : List ℕ) (t u : TotalsPart) → IsTree totals_family t → tree_without key t ≡ Ok u → IsTree totals_family u
remove_whole key t u tree is = let s : RemovesEntry key (entries t) (Ok u) = subst (RemovesEntry key (entries t)) is (remove_stands key t (entries t) (itself t tree)) in s.1.tree

pub set_whole : (key : List ℕ) (value : ℤ) (t u : TotalsPart) → IsTree totals_family t → tree_with_value key value t ≡ Ok u → IsTree totals_family u
set_whole key value t u tree is = let s : SetsValue key value (entries t) (Ok u) = subst (SetsValue key value (entries t)) is (set_stands key value t (entries t) (itself t tree)) in s.2.tree

-- To exchange an entry for one of its key is to set the value.
pub exchange_sets : (key : List ℕ) (e : TotalEntry) (t : TotalsPart) → e.key ≡ key → edited_by totals_family (λ _. Ok e) key t ≡ tree_with_value key e.value t
exchange_sets key e t same = ap (λ k. edited_by totals_family (λ _. Ok (entry_with k e.value)) key t) same ∙ in_tree key e.value t

-- a fault that is handed on
pub fault_over : {A B C D : Type 0} (R : A → B → Type 0) (shown : C → D) (fault : UpdateFault) (r : Result B UpdateFault) (s : Result D UpdateFault)
    → Answers R (Err fault) r → ((f : UpdateFault) → r ≡ Err f → s ≡ Err f) → ChangesTo shown (Err fault) s
fault_over R shown DuplicateKey r s h on = on DuplicateKey h
fault_over R shown NoRow r s h on = on NoRow h
fault_over R shown Missing r s h on = on Missing h
fault_over R shown Memory r s h on = tt

-- Parts.

pub part_change : (node : TotalChild) (r : Result TotalsPart UpdateFault) → Answers (λ node t. (part_kid node).1 ≡ t) (Ok node) r → r ≡ Ok (part_of node.tree)
part_change node (Ok t) h = ap Ok (sym h)
part_change node (Err fault) h = absurd h

pub part_made : (node : TotalChild) (r : Result TotalsPart UpdateFault) → Answers (IsNewKid totals_family part_kid) (Ok node) r → r ≡ Ok (part_of node.tree)
part_made node (Ok t) h = ap Ok (sym (ap (λ (k : Kid TotalEntry Totals). k.1) h))
part_made node (Err fault) h = absurd h

pub put_keeps : (key : List ℕ) (value : ℤ) (p : TotalsPart) (result : Result PartTotals UpdateFault) → FitsKey key → FitsSigned w64 value → FitsTotals p → ChangesTo part_of result (tree_with key value p) → IfOk result (λ part. FitsTotals (part_of part))
put_keeps key value p (Ok part) k v fits h = put_fits key value p (part_of part) (record { key = k; value = v }) fits h
put_keeps key value p (Err fault) k v fits h = tt

pub set_keeps : (key : List ℕ) (value : ℤ) (p : TotalsPart) (result : Result PartTotals UpdateFault) → FitsSigned w64 value → FitsTotals p → ChangesTo part_of result (tree_with_value key value p) → IfOk result (λ part. FitsTotals (part_of part))
set_keeps key value p (Ok part) v fits h = set_fits key value p (part_of part) v fits h
set_keeps key value p (Err fault) v fits h = tt

pub remove_keeps : (key : List ℕ) (p : TotalsPart) (result : Result PartTotals UpdateFault) → FitsTotals p → ChangesTo part_of result (tree_without key p) → IfOk result (λ part. FitsTotals (part_of part))
remove_keeps key p (Ok part) fits h = remove_fits key p (part_of part) fits h
remove_keeps key p (Err fault) fits h = tt
