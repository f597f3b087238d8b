-- A table's root by the first of the trees.
use Rattle.std.proofs.Common.{◌≡◌, ℕ, List, [], ◌∷◌, Some, None, Ok, Err, map, refl, sym, ap, ◌∙◌, subst}
use Rattle.std.specs.Prelude.{slice_get}
use Rattle.std.specs.Result.{result_map_both}
use Rattle.std.specs.List.{AllByRecursion}
use Rattle.vo_spec.specs.declared.records.CatalogTable.{CatalogTable}
use Rattle.vo_spec.specs.declared.trees.UpdateFault.{UpdateFault}
use Rattle.vo_spec.specs.Firsts.{and_then, unless}
use Rattle.vo_spec.specs.Honest.{row_refusal}
use Rattle.vo_spec.specs.Trees.{RowTree, digest}
use Rattle.vo_spec.specs.Fits.{FitsTree}
use Rattle.mb_tree.specs.declared.parts.PartTree.{PartTree}
use Rattle.mb_tree.specs.View.{part_of}
use Rattle.mb_update.specs.declared.ops.Op.{Op}
use Rattle.owner_roots.specs.declared.owner_fault.OwnerFault.{OwnerFault}
use Rattle.owner_roots.specs.declared.owner_fault.OwnerFault.TheVariants as fault
use Rattle.owner_roots.specs.declared.root_changes.RootAfter.{RootAfter}
use Rattle.row_works.specs.Operations.{changed_tree, changed_count}
use Rattle.owner_roots.specs.Next.{proof_fault, with_root, table_by_change, table_after}
use Rattle.owner_roots.specs.Seen.{table_with}
use Rattle.owner_roots.specs.Working.{Gives}

pub changed_gives : (index : ℕ) (t : CatalogTable) (op : Op) (p q : RowTree) (after : RootAfter) → changed_tree op p ≡ Ok q
    → after.rows ≡ changed_count op t.rows → after.root ≡ digest q → table_by_change index t op p ≡ Ok (table_with t after)
changed_gives index t op p q after e rows root =
    ap (result_map_both (with_root t op) (λ why. fault.Command index (row_refusal why))) e
    ∙ ap (λ n. Ok (record { name = t.name; schema = t.schema; rows = n; root = digest q })) (sym rows)
    ∙ ap (λ d. Ok (record { name = t.name; schema = t.schema; rows = after.rows; root = d })) (sym root)

pub change_refused : (index : ℕ) (t : CatalogTable) (op : Op) (p : RowTree) (why : UpdateFault) → changed_tree op p ≡ Err why
    → table_by_change index t op p ≡ Err (fault.Command index (row_refusal why))
change_refused index t op p why e = ap (result_map_both (with_root t op) (λ why. fault.Command index (row_refusal why))) e

pub first_fits : (ts : List PartTree) (p : PartTree) → slice_get ts 0 ≡ Some p → AllByRecursion FitsTree (map part_of ts) → FitsTree (part_of p)
first_fits [] p e all = absurd (cc)
first_fits (q ∷ ts) p e all = let same : q ≡ p = cc in subst (λ (z : PartTree). FitsTree (part_of z)) same all.0

pub by_none : (index : ℕ) (t : CatalogTable) (op : Op) (ts : List PartTree) → slice_get ts 0 ≡ None → table_after index t op (map part_of ts) ≡ Err (fault.ProofMissing index)
by_none index t op [] e = refl
by_none index t op (q ∷ ts) e = absurd (cc)

by_first : (index : ℕ) (t : CatalogTable) (op : Op) (ts : List PartTree) (p : PartTree) → slice_get ts 0 ≡ Some p
    → table_after index t op (map part_of ts) ≡ and_then (table_by_change index t op) (unless (proof_fault index t op (part_of p)) (part_of p))
by_first index t op [] p e = absurd (cc)
by_first index t op (q ∷ ts) p e =
    let same : q ≡ p = cc in
    ap (λ (z : PartTree). and_then (table_by_change index t op) (unless (proof_fault index t op (part_of z)) (part_of z))) same

pub by_good_proof : (index : ℕ) (t : CatalogTable) (op : Op) (ts : List PartTree) (p : PartTree) → slice_get ts 0 ≡ Some p
    → proof_fault index t op (part_of p) ≡ None → table_after index t op (map part_of ts) ≡ table_by_change index t op (part_of p)
by_good_proof index t op ts p e none =
    by_first index t op ts p e ∙ ap (λ o. and_then (table_by_change index t op) (unless o (part_of p))) none

itself : {X Y : Type 0} (view : X → Y) (why : OwnerFault) → Gives view (Err why) (Err why)
itself view fault.Memory = tt
itself view (fault.Command i why) = refl
itself view (fault.ProofForm i) = refl
itself view (fault.ProofRoot i want got) = refl
itself view (fault.ProofMissing i) = refl
itself view (fault.ProofSurplus i) = refl
itself view fault.KeySpent = refl

pub by_bad_proof : {X : Type 0} (view : X → CatalogTable) (index : ℕ) (t : CatalogTable) (op : Op) (ts : List PartTree) (p : PartTree) (why : OwnerFault)
    → slice_get ts 0 ≡ Some p → proof_fault index t op (part_of p) ≡ Some why → Gives view (Err why) (table_after index t op (map part_of ts))
by_bad_proof view index t op ts p why e some =
    subst (Gives view (Err why))
    (sym (by_first index t op ts p e ∙ ap (λ o. and_then (table_by_change index t op) (unless o (part_of p))) some)) (itself view why)
