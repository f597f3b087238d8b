-- The proof of an insertion is the only part of its tree in which nothing is missing and nothing
-- open beyond.
use Rattle.std.proofs.Common.{◌≡◌, ℕ, Bool, true, false, List, drop, Option, None, refl, sym, ap, ◌∙◌, slice_get}
use Rattle.vo_spec.specs.Parts.{stub, leaf, inner, none, more}
use Rattle.vo_spec.specs.Trees.{RowTree, RowTrees, row_family, Prunes}
use Rattle.vo_spec.specs.Pruning.{is_missing_by, is_missing_in, has_surplus_by, has_surplus_in, pruned_by, pruned_in}
use Rattle.vo_spec.specs.Inserts.{walk_to, insert_is_missing, insert_has_surplus, insert_proof}
use Rattle.update_proof.proofs.OpenedChildren.{closed_off_path}
use Rattle.update_proof.proofs.ClosedParts.{Each, neither, entries_closed}

module _ (key : List ℕ) where
  mutual
    part_is : (here : Bool) (p t : RowTree) → is_missing_by (walk_to key) here p ≡ false → has_surplus_by (walk_to key) here p ≡ false → Prunes p t → p ≡ pruned_by (walk_to key) row_family here t
    part_is true (stub d) t m b z = absurd (cc)
    part_is false (stub d) t m b z = ap stub z ∙ sym (closed_off_path key t)
    part_is false (leaf es) t m b z = absurd (cc)
    part_is true (leaf es) (stub d) m b z = absurd z
    part_is true (leaf es) (leaf fs) m b z = ap leaf (entries_closed es fs z b)
    part_is true (leaf es) (inner ss ps) m b z = absurd z
    part_is false (inner ss ps) t m b z = absurd (cc)
    part_is true (inner ss ps) (stub d) m b z = absurd z
    part_is true (inner ss ps) (leaf es) m b z = absurd z
    part_is true (inner ss ps) (inner ts qs) m b z =
        ap (inner ss) (parts_are true None ss ps qs m b z.1) ∙ ap (λ us. inner us (pruned_in (walk_to key) row_family true None us qs)) z.0

    parts_are : (here : Bool) (lower : Option (List ℕ)) (ss : List (List ℕ)) (ps qs : RowTrees) → is_missing_in (walk_to key) here lower ss ps ≡ false → has_surplus_in (walk_to key) here lower ss ps ≡ false → Each ps qs
        → ps ≡ pruned_in (walk_to key) row_family here lower ss qs
    parts_are here lower ss none none m b z = refl
    parts_are here lower ss none (more k q qs) m b z = absurd z
    parts_are here lower ss (more k p ps) none m b z = absurd z
    parts_are here lower ss (more k p ps) (more j q qs) m b z =
        let ms = neither _ _ m in
        let bs = neither _ _ b in
        rw (z.0, part_is _ p q ms.first bs.first z.1, parts_are _ (slice_get ss 0) (drop 1 ss) ps qs ms.second bs.second z.2) refl

pub only_insert_proof : (key : List ℕ) (p t : RowTree) → insert_is_missing key p ≡ false → insert_has_surplus key p ≡ false → Prunes p t → p ≡ insert_proof key t
only_insert_proof key p t m b z = part_is key true p t m b z
