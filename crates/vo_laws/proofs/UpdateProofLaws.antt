-- Each change of a tree that stands for rows has a proof, on which the change can be worked.
use Rattle.std.proofs.Common.{◌≡◌, ℕ, false, List, [], Result, Ok, Err, map, refl, sym, ◌∙◌}
use Rattle.vo_spec.specs.declared.values.Row.{Row}
use Rattle.vo_spec.specs.declared.trees.UpdateFault.{UpdateFault}
use Rattle.vo_spec.specs.declared.trees.UpdateFault.TheVariants.{DuplicateKey, NoRow, Missing, Memory}
use Rattle.vo_spec.specs.Tables.{CellChange, without_row, changed_row}
use Rattle.vo_spec.specs.Cells.{whole_entry}
use Rattle.vo_spec.specs.Trees.{RowTree, row_family}
use Rattle.vo_spec.specs.Inserts.{tree_with_entry, insert_is_missing, insert_has_surplus, insert_proof}
use Rattle.vo_spec.specs.Removes.{settled_root, shrink, tree_without_key, tree_with_cells, remove_proof, replace_proof}
use Rattle.vo_spec.specs.Representation.{Represents}
use Rattle.vo_laws.specs.Changing.{Changes, Inserts}
use Rattle.vo_laws.specs.UpdateProofs.{lacks, replace_is_missing, replace_has_surplus, remove_is_missing, remove_has_surplus, IsUpdateProof}
use Rattle.vo_laws.proofs.PrunedLaws.{insert_prunes, insert_bare, insert_complete}
use Rattle.vo_laws.proofs.RepresentingTrees.{inserted_stands, removed_stands, replaced_stands}
use Rattle.vo_laws.proofs.PathProofs.{lacks_map, insertion_lacks, replace_prunes, replace_bare, replacement_lacks}
use Rattle.vo_laws.proofs.RemovalProofs.{remove_prunes, remove_bare, shrink_lacks, removal_lacks}

-- On the tree itself nothing is missing.

insert_there : (row : Row) (rows : List Row) (r : Result RowTree UpdateFault) → Inserts row rows r → lacks r ≡ false
insert_there row rows (Ok t) is = refl
insert_there row rows (Err DuplicateKey) is = refl
insert_there row rows (Err NoRow) is = refl
insert_there row rows (Err Missing) is = absurd is
insert_there row rows (Err Memory) is = refl

change_there : (key : List ℕ) (before after : List Row) (r : Result RowTree UpdateFault) → Changes key before after r → lacks r ≡ false
change_there key before after (Ok t) is = refl
change_there key before after (Err DuplicateKey) is = refl
change_there key before after (Err NoRow) is = refl
change_there key before after (Err Missing) is = absurd is
change_there key before after (Err Memory) is = refl

-- So nothing is on its proof.

pub insertion_works : (row : Row) (t : RowTree) (rows : List Row) → Represents t rows → lacks (tree_with_entry (whole_entry row) (insert_proof row.key t)) ≡ false
insertion_works row t rows stands =
    insertion_lacks (whole_entry row) t ∙ insert_there row rows (tree_with_entry (whole_entry row) t) (inserted_stands row t rows stands)

pub replacement_works : (key : List ℕ) (changes : List CellChange) (t : RowTree) (rows : List Row) → Represents t rows → lacks (tree_with_cells key changes (replace_proof key t)) ≡ false
replacement_works key changes t rows stands =
    replacement_lacks key changes t ∙ change_there key rows (map (changed_row key changes) rows) (tree_with_cells key changes t) (replaced_stands key changes t rows stands)

pub removal_works : (key : List ℕ) (t : RowTree) (rows : List Row) → Represents t rows → lacks (tree_without_key key (remove_proof key t)) ≡ false
removal_works key t rows stands =
    removal_lacks key t ∙ change_there key rows (without_row key rows) (tree_without_key key t) (removed_stands key t rows stands)

pub insertion_proved : (key : List ℕ) (t : RowTree) (rows : List Row) → Represents t rows → IsUpdateProof (insert_is_missing key) (insert_has_surplus key) t (insert_proof key t)
insertion_proved key t rows stands = record {
  prunes = insert_prunes key t;
  complete = insert_complete key t stands.tree;
  minimal = insert_bare key t;
}

pub replacement_proved : (key : List ℕ) (t : RowTree) (rows : List Row) → Represents t rows → IsUpdateProof (replace_is_missing key) (replace_has_surplus key) t (replace_proof key t)
replacement_proved key t rows stands = record {
  prunes = replace_prunes key t;
  complete = replacement_works key [] t rows stands;
  minimal = replace_bare key t;
}

pub removal_proved : (key : List ℕ) (t : RowTree) (rows : List Row) → Represents t rows → IsUpdateProof (remove_is_missing key) (remove_has_surplus key) t (remove_proof key t)
removal_proved key t rows stands = record {
  prunes = remove_prunes key t;
  complete =
      shrink_lacks key t ∙ sym (lacks_map settled_root (shrink row_family key t)) ∙ change_there key rows (without_row key rows) (tree_without_key key t) (removed_stands key t rows stands);
  minimal = remove_bare key t;
}
