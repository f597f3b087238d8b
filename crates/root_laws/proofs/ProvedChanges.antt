-- A table's root by a part of its tree: as the change of the tree makes it, or the part is refused
-- as a proof.
use Rattle.std.proofs.Common.{◌≡◌, ℕ, Bool, true, false, cond, not, List, ◌∷◌, Option, Some, None, Result, Ok, Err, map, length, inl, inr, refl, sym, ap, ◌∙◌, subst, arith}
use Rattle.std.specs.Prelude.{bytes_eq}
use Rattle.std.specs.Result.{result_map_both}
use Rattle.std.proofs.lemmas.List.{length-map}
use Rattle.std.proofs.lemmas.Slice.Eq.{bytes_eq-Decides}
use Rattle.vo_spec.specs.declared.values.Row.{Row}
use Rattle.vo_spec.specs.declared.tables.Table.{Table}
use Rattle.vo_spec.specs.declared.trees.UpdateFault.{UpdateFault}
use Rattle.vo_spec.specs.declared.trees.UpdateFault.TheVariants.{DuplicateKey, NoRow, Missing, Memory}
use Rattle.vo_spec.specs.Firsts.{and_then, unless}
use Rattle.vo_spec.specs.Tables.{changed_row, put_row}
use Rattle.vo_spec.specs.Cells.{whole_entry}
use Rattle.vo_spec.specs.Parts.{entries}
use Rattle.vo_spec.specs.Trees.{RowTree, row_family, digest, Prunes}
use Rattle.vo_spec.specs.Representation.{Represents}
use Rattle.vo_spec.specs.Honest.{Stored, RepresentsTable, row_refusal}
use Rattle.vo_laws.specs.Changing.{Changes, Inserts}
use Rattle.vo_laws.specs.UpdateProofs.{IsUpdateProof, lacks}
use Rattle.vo_laws.proofs.CommandLaws.{put_row_length}
use Rattle.vo_laws.specs.FittingTables.{FitsTable}
use Rattle.vo_laws.proofs.PrunedLaws.{digest_same}
use Rattle.vo_laws.proofs.Removal.{TreeShrinks, tree_shrinks}
use Rattle.vo_laws.proofs.RepresentingTrees.{inserted_stands, replaced_stands}
use Rattle.vo_laws.proofs.UpdateProofLaws.{insertion_proved, replacement_proved, removal_proved, insertion_works, replacement_works, removal_works}
use Rattle.vo_laws.proofs.WithoutEntry.{without_length}
use Rattle.mb_update.specs.declared.ops.Op.{Op}
use Rattle.mb_update.specs.declared.ops.Op.TheVariants.{Insert as PutRow, Replace, Remove, Put, Set}
use Rattle.mb_update.specs.ChangeResults.{GoesOnPruning}
use Rattle.mb_update.specs.Sets.{change_of}
use Rattle.mb_update.proofs.RowPruning.{row_agrees, replaced_agrees, removed_agrees}
use Rattle.update_proof.specs.Proving.{update_proof, update_is_missing, update_has_surplus}
use Rattle.update_proof.proofs.OnlyInsertProofs.{only_insert_proof}
use Rattle.update_proof.proofs.OnlyReplaceProofs.{only_replace_proof}
use Rattle.update_proof.proofs.OnlyRemoveProofs.{only_remove_proof}
use Rattle.stored_tables.specs.Plain.{catalog_table}
use Rattle.owner_roots.specs.declared.owner_fault.OwnerFault.{OwnerFault}
use Rattle.owner_roots.specs.declared.owner_fault.OwnerFault.TheVariants as fault
use Rattle.row_works.specs.Operations.{changed_tree, changed_count}
use Rattle.owner_roots.specs.Forms.{has_schema_form}
use Rattle.owner_roots.specs.Next.{with_root, proof_fault, table_by_change, table_after}
use Rattle.root_laws.specs.Following.{IsOrRefusesProof}
use Rattle.mb_update.proofs.GivenRows.{put_works, set_works, put_agrees, set_agrees, put_counted, set_counted}
use Rattle.root_laws.proofs.TableForms.{part_has_form}
use Rattle.root_laws.proofs.TableSteps.{table_by_tree}

-- The proof of a change.

proved : (op : Op) (t : RowTree) (rows : List Row) → Represents t rows → IsUpdateProof (update_is_missing op) (update_has_surplus op) t (update_proof op t)
proved (PutRow row) t rows stands = insertion_proved row.key t rows stands
proved (Replace key sets) t rows stands = replacement_proved key t rows stands
proved (Remove key) t rows stands = removal_proved key t rows stands
proved (Put key part) t rows stands = insertion_proved key t rows stands
proved (Set key part) t rows stands = insertion_proved key t rows stands

works : (op : Op) (t : RowTree) (rows : List Row) → Represents t rows → lacks (changed_tree op (update_proof op t)) ≡ false
works (PutRow row) t rows stands = insertion_works row t rows stands
works (Replace key sets) t rows stands = replacement_works key (map change_of sets) t rows stands
works (Remove key) t rows stands = removal_works key t rows stands
works (Put key part) t rows stands = put_works key part t stands.tree
works (Set key part) t rows stands = set_works key part t stands.tree

agrees : (op : Op) (p t : RowTree) → Prunes p t → GoesOnPruning (changed_tree op p) (changed_tree op t)
agrees (PutRow row) p t prunes = row_agrees row p t prunes
agrees (Replace key sets) p t prunes = replaced_agrees (map change_of sets) key p t prunes
agrees (Remove key) p t prunes = removed_agrees key p t prunes
agrees (Put key part) p t prunes = put_agrees key part p t prunes
agrees (Set key part) p t prunes = set_agrees key part p t prunes

only_proof : (op : Op) (p t : RowTree) → update_is_missing op p ≡ false → update_has_surplus op p ≡ false → Prunes p t → p ≡ update_proof op t
only_proof (PutRow row) p t complete minimal prunes = only_insert_proof row.key p t complete minimal prunes
only_proof (Replace key sets) p t complete minimal prunes = only_replace_proof key p t complete minimal prunes
only_proof (Remove key) p t complete minimal prunes = only_remove_proof key p t complete minimal prunes
only_proof (Put key part) p t complete minimal prunes = only_insert_proof key p t complete minimal prunes
only_proof (Set key part) p t complete minimal prunes = only_insert_proof key p t complete minimal prunes

-- How many rows there are after a change.

row_count : (t : RowTree) (rows : List Row) → Represents t rows → length (entries t) ≡ length rows
row_count t rows stands = ap length stands.rows_are ∙ length-map rows whole_entry

counted : (op : Op) (t u : RowTree) (rows : List Row) → Represents t rows → changed_tree op t ≡ Ok u → length (entries u) ≡ changed_count op (length (entries t))
counted (PutRow row) t u rows stands e =
    let done : Inserts row rows (Ok u) = subst (Inserts row rows) e (inserted_stands row t rows stands) in
    omega (arith, row_count u (put_row row rows) done.1, put_row_length row rows, row_count t rows stands)
counted (Replace key sets) t u rows stands e =
    let after : List Row = map (changed_row key (map change_of sets)) rows in
    let done : Changes key rows after (Ok u) = subst (Changes key rows after) e (replaced_stands key (map change_of sets) t rows stands) in
    row_count u after done.1 ∙ length-map rows (changed_row key (map change_of sets)) ∙ sym (row_count t rows stands)
counted (Remove key) t u rows stands e =
    let done : TreeShrinks row_family key (entries t) (Ok u) = subst (TreeShrinks row_family key (entries t)) e (tree_shrinks row_family key t stands.tree) in
    omega (arith, ap length done.2, without_length row_family key (entries t) done.0)
counted (Put key part) t u rows stands e = put_counted key part t u e
counted (Set key part) t u rows stands e = set_counted key part t u e

-- The change by that proof.

module _ (index : ℕ) (s : Stored) (op : Op) where
  changed_same : (r w : Result RowTree UpdateFault) → GoesOnPruning r w → lacks r ≡ false
      → ((u : RowTree) → w ≡ Ok u → length (entries u) ≡ changed_count op (length (entries s.tree)))
      → result_map_both (with_root (catalog_table s) op) (λ why. fault.Command index (row_refusal why)) r ≡ table_by_tree index s w
  changed_same (Ok q) (Ok u) prunes there count =
      ap (λ n. Ok (record { name = s.name; schema = s.schema; rows = n; root = digest q })) (sym (count u refl))
      ∙ ap (λ d. Ok (record { name = s.name; schema = s.schema; rows = length (entries u); root = d })) (digest_same q u prunes)
  changed_same (Ok q) (Err why) prunes there count = absurd prunes
  changed_same (Err Missing) w same there count = absurd (cc)
  changed_same (Err DuplicateKey) (Ok u) same there count = absurd same
  changed_same (Err DuplicateKey) (Err why) same there count = ap (λ f. Err (fault.Command index (row_refusal f))) same
  changed_same (Err NoRow) (Ok u) same there count = absurd same
  changed_same (Err NoRow) (Err why) same there count = ap (λ f. Err (fault.Command index (row_refusal f))) same
  changed_same (Err Memory) (Ok u) same there count = absurd same
  changed_same (Err Memory) (Err why) same there count = ap (λ f. Err (fault.Command index (row_refusal f))) same

  by_proof : (rows : List Row) → Represents s.tree rows
      → table_by_change index (catalog_table s) op (update_proof op s.tree) ≡ table_by_tree index s (changed_tree op s.tree)
  by_proof rows stands =
      changed_same (changed_tree op (update_proof op s.tree)) (changed_tree op s.tree) (agrees op (update_proof op s.tree) s.tree (proved op s.tree rows stands).prunes)
      (works op s.tree rows stands) (λ u e. counted op s.tree u rows stands e)

  root_same : (p : RowTree) → Prunes p s.tree → bytes_eq (digest s.tree) (digest p) ≡ true
  root_same p prunes = (bytes_eq-Decides (digest s.tree) (digest p)).1 (sym (digest_same p s.tree prunes))

  no_fault : (t : Table) → RepresentsTable s t → FitsTable t → proof_fault index (catalog_table s) op (update_proof op s.tree) ≡ None
  no_fault t z fits =
      let is = proved op s.tree t.rows z.stands in
      rw (part_has_form s t (update_proof op s.tree) z fits is.prunes, root_same (update_proof op s.tree) is.prunes, is.complete, is.minimal) refl

  -- by the proof itself
  pub table_proved : (t : Table) (others : List RowTree) → RepresentsTable s t → FitsTable t
      → table_after index (catalog_table s) op (update_proof op s.tree ∷ others) ≡ table_by_tree index s (changed_tree op s.tree)
  table_proved t others z fits =
      ap (λ f. and_then (table_by_change index (catalog_table s) op) (unless f (update_proof op s.tree))) (no_fault t z fits) ∙ by_proof t.rows z.stands

  -- and by any part of the tree
  pub table_followed : (rows : List Row) (p : RowTree) (others : List RowTree) → Represents s.tree rows → Prunes p s.tree
      → IsOrRefusesProof (table_after index (catalog_table s) op (p ∷ others)) (table_by_tree index s (changed_tree op s.tree))
  table_followed rows p others stands prunes =
      step (not (has_schema_form s.schema p)) (not (bytes_eq (digest s.tree) (digest p))) (update_is_missing op p) (update_has_surplus op p)
      (ap not (root_same p prunes)) refl refl
    where
      found : Bool → Bool → Bool → Bool → Option OwnerFault
      found form root missing surplus =
          cond form (Some (fault.ProofForm index))
          (cond root (Some (fault.ProofRoot index (digest s.tree) (digest p)))
          (cond missing (Some (fault.ProofMissing index)) (cond surplus (Some (fault.ProofSurplus index)) None)))

      step : (form root missing surplus : Bool) → root ≡ false → update_is_missing op p ≡ missing → update_has_surplus op p ≡ surplus
          → IsOrRefusesProof (and_then (table_by_change index (catalog_table s) op) (unless (found form root missing surplus) p))
          (table_by_tree index s (changed_tree op s.tree))
      step true root missing surplus e f g = inr tt
      step false true missing surplus e f g = absurd (cc)
      step false false true surplus e f g = inr tt
      step false false false true e f g = inr tt
      step false false false false e f g = inl (ap (table_by_change index (catalog_table s) op) (only_proof op p s.tree f g prunes) ∙ by_proof rows stands)
