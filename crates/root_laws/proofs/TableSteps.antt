-- A change of one table of a catalog beside the same change of its tree.
use Rattle.std.proofs.Common.{◌≡◌, ℕ, Bool, true, false, cond, List, [], ◌∷◌, Some, Result, Ok, Err, map, refl, ap, ◌∙◌, subst}
use Rattle.std.specs.Prelude.{find}
use Rattle.std.specs.Result.{result_map_both, IsErrAnd}
use Rattle.std.specs.List.{AllByRecursion}
use Rattle.vo_spec.specs.declared.tables.Table.{Table}
use Rattle.vo_spec.specs.declared.tables.Command.{Command}
use Rattle.vo_spec.specs.declared.tables.CommandFault.{CommandFault}
use Rattle.vo_spec.specs.declared.trees.UpdateFault.{UpdateFault}
use Rattle.vo_spec.specs.declared.records.CatalogTable.{CatalogTable}
use Rattle.vo_spec.specs.Trees.{RowTree}
use Rattle.vo_spec.specs.Honest.{Stored, RepresentsTable, RepresentTables, catalog_of, row_refusal, tree_after, with_tree, behind_stored, change_tree}
use Rattle.vo_laws.specs.FittingTables.{FitsTable}
use Rattle.stored_tables.specs.Plain.{catalog_table}
use Rattle.stored_tables.specs.Positions.{is_named}
use Rattle.stored_tables.specs.Working.{with_new_tree}
use Rattle.owner_roots.specs.declared.owner_fault.OwnerFault.{OwnerFault}
use Rattle.owner_roots.specs.declared.owner_fault.OwnerFault.TheVariants.{Command as Refused}
use Rattle.root_laws.specs.Following.{IsProofFault}
use Rattle.root_laws.proofs.TablePlaces.{with_table, behind_table, change_table}

-- what is made of a table, and of all of them, by the trees

abbrev pub table_by_tree : ℕ → Stored → Result RowTree UpdateFault → Result CatalogTable OwnerFault
table_by_tree index s = result_map_both (λ u. catalog_table (with_new_tree s u)) (λ why. Refused index (row_refusal why))

abbrev pub tables_by_trees : ℕ → Result (List Stored) CommandFault → Result (List CatalogTable) OwnerFault
tables_by_trees index = result_map_both (λ after. (catalog_of after).tables) (Refused index)

-- Two that are handed on.

with_same : (index : ℕ) (s : Stored) (stored : List Stored) (r : Result RowTree UpdateFault)
    → with_table (map catalog_table stored) (table_by_tree index s r) ≡ tables_by_trees index (with_tree s stored r)
with_same index s stored (Ok u) = refl
with_same index s stored (Err why) = refl

behind_same : (index : ℕ) (s : Stored) (r : Result (List Stored) CommandFault) → behind_table (catalog_table s) (tables_by_trees index r) ≡ tables_by_trees index (behind_stored s r)
behind_same index s (Ok stored) = refl
behind_same index s (Err why) = refl

pub refuses_mapped : {A B : Type 0} (f : A → B) (r : Result A OwnerFault) → IsErrAnd r IsProofFault → IsErrAnd (result_map_both f (λ (why : OwnerFault). why) r) IsProofFault
refuses_mapped f (Ok x) refuses = absurd refuses
refuses_mapped f (Err why) refuses = refuses

-- The table of a name.

pub record IsStored (name : List ℕ) (stored : List Stored) (s : Stored) : Type 0 where
  pub table : Table
  pub stands : RepresentsTable s table
  pub fits : FitsTable table

pub table_found : (name : List ℕ) (stored : List Stored) (tables : List Table) → RepresentTables stored tables → AllByRecursion FitsTable tables
    → (s : Stored) → find (is_named name) stored ≡ Some s → IsStored name stored s
table_found name [] tables zs fits s found = absurd (cc)
table_found name (r ∷ stored) [] zs fits s found = absurd zs
table_found name (r ∷ stored) (t ∷ tables) zs fits s found = step (is_named name r) found (table_found name stored tables zs.1 fits.1 s)
  where
    step : (b : Bool) → cond b (Some r) (find (is_named name) stored) ≡ Some s → (find (is_named name) stored ≡ Some s → IsStored name stored s) → IsStored name (r ∷ stored) s
    step true e rest = let same : r ≡ s = cc in subst (IsStored name (r ∷ stored)) same (record { table = t; stands = zs.0; fits = fits.0 })
    step false e rest = let there = rest e in record { table = there.table; stands = there.stands; fits = there.fits }

module _ (index : ℕ) (name : List ℕ) (c : Command) (change : CatalogTable → Result CatalogTable OwnerFault) where
  pub changed_exactly : (stored : List Stored)
      → ((s : Stored) → find (is_named name) stored ≡ Some s → change (catalog_table s) ≡ table_by_tree index s (tree_after c s))
      → change_table name change (map catalog_table stored) ≡ tables_by_trees index (change_tree name c stored)
  changed_exactly [] exact = refl
  changed_exactly (s ∷ stored) exact = step (is_named name s) exact (changed_exactly stored)
    where
      step : (b : Bool) → ((r : Stored) → cond b (Some s) (find (is_named name) stored) ≡ Some r → change (catalog_table r) ≡ table_by_tree index r (tree_after c r))
          → (((r : Stored) → find (is_named name) stored ≡ Some r → change (catalog_table r) ≡ table_by_tree index r (tree_after c r))
          → change_table name change (map catalog_table stored) ≡ tables_by_trees index (change_tree name c stored))
          → cond b (with_table (map catalog_table stored) (change (catalog_table s))) (behind_table (catalog_table s) (change_table name change (map catalog_table stored)))
          ≡ tables_by_trees index (cond b (with_tree s stored (tree_after c s)) (behind_stored s (change_tree name c stored)))
      step true exact rest = ap (with_table (map catalog_table stored)) (exact s refl) ∙ with_same index s stored (tree_after c s)
      step false exact rest = ap (behind_table (catalog_table s)) (rest exact) ∙ behind_same index s (change_tree name c stored)

  pub change_refused : (stored : List Stored) (s : Stored) → find (is_named name) stored ≡ Some s → IsErrAnd (change (catalog_table s)) IsProofFault
      → IsErrAnd (change_table name change (map catalog_table stored)) IsProofFault
  change_refused [] s found refuses = absurd (cc)
  change_refused (r ∷ stored) s found refuses = step (is_named name r) found (λ e. change_refused stored s e refuses)
    where
      step : (b : Bool) → cond b (Some r) (find (is_named name) stored) ≡ Some s
          → (find (is_named name) stored ≡ Some s → IsErrAnd (change_table name change (map catalog_table stored)) IsProofFault)
          → IsErrAnd (cond b (with_table (map catalog_table stored) (change (catalog_table r))) (behind_table (catalog_table r) (change_table name change (map catalog_table stored)))) IsProofFault
      step true e rest =
          let same : s ≡ r = cc in
          refuses_mapped (λ t. t ∷ map catalog_table stored) (change (catalog_table r)) (subst (λ (z : Stored). IsErrAnd (change (catalog_table z)) IsProofFault) same refuses)
      step false e rest = refuses_mapped (λ ts. catalog_table r ∷ ts) (change_table name change (map catalog_table stored)) (rest e)
