-- A command that an owner doesn't refuse takes a tree of its table's root.
use Rattle.std.proofs.Common.{◌≡◌, ℕ, Bool, true, false, cond, not, List, [], ◌∷◌, Option, Some, None, Result, Ok, Err, map, refl, sym, ap, ◌∙◌, subst}
use Rattle.std.specs.Prelude.{bytes_eq, find, slice_get}
use Rattle.std.proofs.lemmas.Slice.Eq.{bytes_eq-Decides}
use Rattle.vo_spec.specs.declared.tables.Schema.{Schema}
use Rattle.vo_spec.specs.declared.tables.Command.{Command}
use Rattle.vo_spec.specs.declared.tables.Command.TheVariants.{Create, Drop, Insert, Update, Delete}
use Rattle.vo_spec.specs.declared.tables.CommandFault.{CommandFault}
use Rattle.vo_spec.specs.declared.records.CatalogTable.{CatalogTable}
use Rattle.vo_spec.specs.Firsts.{unless, and_then}
use Rattle.vo_spec.specs.Tables.{insert_tests, update_tests, delete_tests, refusal}
use Rattle.vo_spec.specs.Trees.{RowTree, digest}
use Rattle.vo_spec.specs.Honest.{Stored, stored_table_header, catalog_of, table_of}
use Rattle.mb_update.specs.declared.ops.Op.{Op}
use Rattle.update_proof.specs.Proving.{update_is_missing, update_has_surplus}
use Rattle.stored_tables.specs.Plain.{catalog_table}
use Rattle.stored_tables.specs.Positions.{is_named}
use Rattle.owner_roots.specs.declared.owner_fault.OwnerFault.{OwnerFault}
use Rattle.owner_roots.specs.declared.owner_fault.OwnerFault.TheVariants as fault
use Rattle.owner_roots.specs.Forms.{has_schema_form}
use Rattle.owner_roots.specs.Next.{table_by_change, table_after, tables_changed, catalog_after, trees_taken}
use Rattle.root_laws.proofs.TablePlaces.{table_headers_same, with_table, behind_table, change_table, changed_at_place}
use Rattle.root_laws.proofs.CommandSteps.{fault_of, insert_op, update_op, delete_op, table_named}

abbrev pub IsTaken : Command → List RowTree → List Stored → Type 0
IsTaken c trees stored = (p : RowTree) × (s : Stored) × (slice_get trees 0 ≡ Some p) × (find (is_named (table_of c)) stored ≡ Some s) × (digest p ≡ digest s.tree)

-- The root is compared.

root_right : (index : ℕ) (t u : CatalogTable) (op : Op) (p : RowTree) (others : List RowTree) → table_after index t op (p ∷ others) ≡ Ok u → digest p ≡ t.root
root_right index t u op p others e = step (not (has_schema_form t.schema p)) (bytes_eq t.root (digest p)) refl e
  where
    found : Bool → Bool → Option OwnerFault
    found form root =
        cond form (Some (fault.ProofForm index))
        (cond (not root) (Some (fault.ProofRoot index t.root (digest p)))
        (cond (update_is_missing op p) (Some (fault.ProofMissing index)) (cond (update_has_surplus op p) (Some (fault.ProofSurplus index)) None)))

    step : (form root : Bool) → bytes_eq t.root (digest p) ≡ root → and_then (table_by_change index t op) (unless (found form root) p) ≡ Ok u → digest p ≡ t.root
    step true root same f = absurd (cc)
    step false true same f = sym ((bytes_eq-Decides t.root (digest p)).0 same)
    step false false same f = absurd (cc)

-- The table of a name is changed where all are.

module _ (name : List ℕ) (change : CatalogTable → Result CatalogTable OwnerFault) where
  with_found : (tables after : List CatalogTable) (r : Result CatalogTable OwnerFault) → with_table tables r ≡ Ok after → (u : CatalogTable) × (r ≡ Ok u)
  with_found tables after (Ok u) e = (u, refl)
  with_found tables after (Err why) e = absurd (cc)

  behind_found : (t : CatalogTable) (after : List CatalogTable) (r : Result (List CatalogTable) OwnerFault) → behind_table t r ≡ Ok after → (rest : List CatalogTable) × (r ≡ Ok rest)
  behind_found t after (Ok rest) e = (rest, refl)
  behind_found t after (Err why) e = absurd (cc)

  changed_there : (stored : List Stored) (after : List CatalogTable) (s : Stored) → change_table name change (map catalog_table stored) ≡ Ok after → find (is_named name) stored ≡ Some s
      → (u : CatalogTable) × (change (catalog_table s) ≡ Ok u)
  changed_there [] after s e found = absurd (cc)
  changed_there (r ∷ stored) after s e found = step (is_named name r) e found (λ rest f there. changed_there stored rest s f there)
    where
      step : (b : Bool)
          → cond b (with_table (map catalog_table stored) (change (catalog_table r))) (behind_table (catalog_table r) (change_table name change (map catalog_table stored))) ≡ Ok after
          → cond b (Some r) (find (is_named name) stored) ≡ Some s
          → ((rest : List CatalogTable) → change_table name change (map catalog_table stored) ≡ Ok rest → find (is_named name) stored ≡ Some s
          → (u : CatalogTable) × (change (catalog_table s) ≡ Ok u))
          → (u : CatalogTable) × (change (catalog_table s) ≡ Ok u)
      step true f there further =
          let same : r ≡ s = cc in
          subst (λ (z : Stored). (u : CatalogTable) × (change (catalog_table z) ≡ Ok u)) same (with_found (map catalog_table stored) after (change (catalog_table r)) f)
      step false f there further =
          let rest = behind_found (catalog_table r) after (change_table name change (map catalog_table stored)) f in
          further rest.0 rest.1 there

-- A command on rows.

rows_taken : (index : ℕ) (c : Command) (op_of : Schema → Op) (trees : List RowTree) (stored : List Stored) (after : List CatalogTable) (s : Stored)
    → find (is_named (table_of c)) stored ≡ Some s → change_table (table_of c) (λ t. table_after index t (op_of t.schema) trees) (map catalog_table stored) ≡ Ok after
    → IsTaken c trees stored
rows_taken index c op_of trees stored after s found e =
    let changed = changed_there (table_of c) (λ t. table_after index t (op_of t.schema) trees) stored after s e found in
    step trees changed.0 changed.1
  where
    step : (ts : List RowTree) (u : CatalogTable) → table_after index (catalog_table s) (op_of s.schema) ts ≡ Ok u → IsTaken c ts stored
    step [] u f = absurd (cc)
    step (p ∷ ps) u f = (p, s, refl, found, root_right index (catalog_table s) u (op_of s.schema) p ps f)

changed_taken : (index : ℕ) (c : Command) (trees : List RowTree) (stored : List Stored) (after : List CatalogTable) → refusal c (map stored_table_header stored) ≡ None
    → tables_changed index c trees (map catalog_table stored) ≡ Ok after → trees_taken c ≡ 1 → IsTaken c trees stored
changed_taken index (Create name columns key) trees stored after allowed e one = absurd (cc)
changed_taken index (Drop name) trees stored after allowed e one = absurd (cc)
changed_taken index (Insert name values) trees stored after allowed e one =
    let there = table_named name (insert_tests values) stored allowed in
    rows_taken index (Insert name values) (insert_op values) trees stored after there.0 there.1
    (sym (changed_at_place name (λ t. table_after index t (insert_op values t.schema) trees) (map catalog_table stored)) ∙ e)
changed_taken index (Update name sets column value) trees stored after allowed e one =
    let there = table_named name (update_tests sets column value) stored allowed in
    rows_taken index (Update name sets column value) (update_op sets value) trees stored after there.0 there.1
    (sym (changed_at_place name (λ t. table_after index t (update_op sets value t.schema) trees) (map catalog_table stored)) ∙ e)
changed_taken index (Delete name column value) trees stored after allowed e one =
    let there = table_named name (delete_tests column value) stored allowed in
    rows_taken index (Delete name column value) (delete_op value) trees stored after there.0 there.1
    (sym (changed_at_place name (λ t. table_after index t (delete_op value t.schema) trees) (map catalog_table stored)) ∙ e)

pub tree_taken : (index : ℕ) (c : Command) (trees : List RowTree) (stored : List Stored) (after : List CatalogTable) → catalog_after index c trees (catalog_of stored).tables ≡ Ok after
    → trees_taken c ≡ 1 → IsTaken c trees stored
unfolding catalog_after
tree_taken index c trees stored after e one =
    step (refusal c (map stored_table_header stored)) refl
    (sym (ap (λ hs. and_then (tables_changed index c trees) (unless (fault_of index (refusal c hs)) (map catalog_table stored))) (table_headers_same stored)) ∙ e)
  where
    step : (r : Option CommandFault) → refusal c (map stored_table_header stored) ≡ r
        → and_then (tables_changed index c trees) (unless (fault_of index r) (map catalog_table stored)) ≡ Ok after → IsTaken c trees stored
    step None allowed f = changed_taken index c trees stored after allowed f one
    step (Some why) allowed f = absurd (cc)
