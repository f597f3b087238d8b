-- What is open that a change doesn't look at, by its steps.
use Rattle.std.proofs.Common.{◌≡◌, ℕ, zero, suc, ◌+◌, ◌<◌, ◌≤◌, Bool, true, false, ◌||◌, List, [], ◌∷◌, length, map, get_or, None, refl, sym, ap, ◌∙◌, arith}
use Rattle.std.proofs.lemmas.List.{length-map, get_or-map}
use Rattle.std.specs.List.{list_any, position_or_len}
use Rattle.vo_spec.specs.Values.{key_lt}
use Rattle.vo_spec.specs.Parts.{inner}
use Rattle.vo_spec.specs.Trees.{RowTree, row_family, open_parts}
use Rattle.vo_spec.specs.Removes.{becomes_underfull}
use Rattle.mb_tree.specs.declared.parts.PartTree.{PartTree}
use Rattle.mb_tree.specs.View.{part_of, parts_of}
use Rattle.update_proof.specs.declared.change.Change.{Change}
use Rattle.update_proof.specs.declared.change.Change.TheVariants.{Insertion, Replacement, Removal}
use Rattle.update_proof.specs.Changes.{opens_sibling_in, change_has_surplus, path_is_missing, surplus_along}
use Rattle.update_proof.specs.OpenParts.{is_open, opens_other}
use Rattle.update_proof.specs.Proving.{remove_has_surplus}
use Rattle.update_proof.proofs.InsertionPaths.{path_surplus, pathless_surplus, path_is_missing as insertion_missing, pathless_missing}
use Rattle.update_proof.proofs.ReplacementPaths.{surplus_at, past_beyond, path_is_missing as replacement_missing, path_lost}
use Rattle.update_proof.proofs.RemovalPaths.{around, surplus_at as removal_surplus, past_beyond as removal_past, quiet_beside, only_beside, underfull_with_sibling}
use Rattle.update_proof.proofs.OpenedChildren.{same_underfull}

-- around a child, with its sibling's node open or not

only_along : (i : ℕ) (ts : List RowTree) → length ts ≡ 1 → i < length ts → opens_other i ts ≡ surplus_along i true ts
only_along i [] single lt = absurd (omega arith)
only_along zero (t ∷ []) single lt = refl
only_along (suc i) (t ∷ []) single lt = absurd (omega arith)
only_along i (t ∷ u ∷ us) single lt = absurd (omega arith)

around_step : (i : ℕ) (ts : List RowTree) → i < length ts → around true i ts ≡ surplus_along i true ts
around_step i [] lt = absurd (omega arith)
around_step i (t ∷ []) lt = only_beside true (t ∷ []) i refl lt ∙ only_along i (t ∷ []) refl lt
around_step i (t ∷ u ∷ us) lt = underfull_with_sibling i (t ∷ u ∷ us) (omega arith) lt

around_is : (b : Bool) (i : ℕ) (ts : List RowTree) → i < length ts → around b i ts ≡ surplus_along i b ts
around_is true i ts lt = around_step i ts lt
around_is false i ts lt = quiet_beside i ts lt

module _ (key : List ℕ) (ss : List (List ℕ)) (ps : List PartTree) (place : ℕ) (at : place ≡ position_or_len (key_lt key) ss) where
  pub past_surplus : (change : Change) → length ps ≤ place → list_any is_open (map part_of ps) ≡ change_has_surplus change key (inner ss (parts_of ps))
  past_surplus change past = by change
    where
      all : length (map part_of ps) ≤ position_or_len (key_lt key) ss
      all = let counted = length-map ps part_of in omega arith

      by : (change : Change) → list_any is_open (map part_of ps) ≡ change_has_surplus change key (inner ss (parts_of ps))
      by Insertion = sym (pathless_surplus key None ss (map part_of ps) all)
      by Replacement = sym (past_beyond key ss (map part_of ps) all)
      by Removal = sym (removal_past key ss (map part_of ps) all)

  pub past_missing : (with_row : Bool) → length ps ≤ place → with_row ≡ path_is_missing with_row key (inner ss (parts_of ps))
  past_missing true past = let counted = length-map ps part_of in path_lost key ss (map part_of ps) (omega arith)
  past_missing false past = let counted = length-map ps part_of in sym (pathless_missing key None ss (map part_of ps) (omega arith))

  module _ (p : PartTree) (lt : place < length ps) (is : p ≡ get_or ps place p) where
    counted : length (map part_of ps) ≡ length ps
    counted = length-map ps part_of

    within : position_or_len (key_lt key) ss < length (map part_of ps)
    within = omega (arith, counted)

    here : part_of p ≡ get_or (map part_of ps) (position_or_len (key_lt key) ss) (part_of p)
    here = ap part_of is ∙ sym (get_or-map part_of ps place p (part_of p) lt) ∙ ap (λ n. get_or (map part_of ps) n (part_of p)) at

    pub path_missing : (with_row : Bool) → path_is_missing with_row key (part_of p) ≡ path_is_missing with_row key (inner ss (parts_of ps))
    path_missing true = sym (replacement_missing key ss (map part_of ps) (part_of p) within here)
    path_missing false = sym (insertion_missing key None ss (map part_of ps) (part_of p) within here)

    pub child_surplus : (change : Change) → change_has_surplus change key (part_of p) || surplus_along place (opens_sibling_in row_family change key (part_of p)) (map part_of ps) ≡ change_has_surplus change key (inner ss (parts_of ps))
    child_surplus Insertion =
        ap (λ n. change_has_surplus Insertion key (part_of p) || opens_other n (map part_of ps)) at ∙ sym (path_surplus key None ss (map part_of ps) (part_of p) within here)
    child_surplus Replacement =
        ap (λ n. change_has_surplus Replacement key (part_of p) || opens_other n (map part_of ps)) at ∙ sym (surplus_at key ss (map part_of ps) (part_of p) within here)
    child_surplus Removal =
        ap (λ b. remove_has_surplus key (part_of p) || surplus_along place b (map part_of ps)) (sym (same_underfull key (part_of p)))
        ∙ ap (λ n. remove_has_surplus key (part_of p) || surplus_along n (becomes_underfull key (part_of p)) (map part_of ps)) at
        ∙ ap (λ b. remove_has_surplus key (part_of p) || b) (sym (around_is (becomes_underfull key (part_of p)) (position_or_len (key_lt key) ss) (map part_of ps) within))
        ∙ sym (removal_surplus key ss (map part_of ps) (part_of p) within here)
