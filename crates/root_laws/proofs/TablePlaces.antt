-- Tables of a catalog by their names: what is done at a name's place, table by table.
use Rattle.std.proofs.Common.{◌≡◌, ℕ, suc, ◌+◌, Bool, true, false, cond, not, List, [], ◌∷◌, Option, Some, None, Result, Ok, Err, map, refl, sym, ap, ◌∙◌, subst, arith}
use Rattle.std.specs.Prelude.{bytes_eq, slice_get, filter, insert, remove}
use Rattle.std.specs.Option.{option_map_or}
use Rattle.std.specs.Result.{result_map_both}
use Rattle.std.specs.List.{AllByRecursion}
use Rattle.std.proofs.lemmas.Slice.Eq.{bytes_eq-Decides}
use Rattle.vo_spec.specs.declared.records.CatalogTable.{CatalogTable}
use Rattle.vo_spec.specs.Values.{key_lt}
use Rattle.vo_spec.specs.Representation.{AreRising}
use Rattle.vo_spec.specs.Honest.{Stored, RepresentTables, put_stored, stored_table_header}
use Rattle.vo_spec.specs.declared.tables.Table.{Table}
use Rattle.vo_laws.proofs.InsertionNodes.{other_back}
use Rattle.vo_laws.specs.FittingTables.{names_of}
use Rattle.stored_tables.specs.Plain.{catalog_table}
use Rattle.stored_tables.specs.Positions.{is_named}
use Rattle.owner_roots.specs.declared.owner_fault.OwnerFault.{OwnerFault}
use Rattle.owner_roots.specs.Next.{table_header, table_number, place_for, tables_with}

suc_is : (n : ℕ) → 1 + n ≡ suc n
suc_is n = omega arith

pub table_headers_same : (stored : List Stored) → map table_header (map catalog_table stored) ≡ map stored_table_header stored
table_headers_same [] = refl
table_headers_same (s ∷ stored) = ap (λ hs. stored_table_header s ∷ hs) (table_headers_same stored)

-- A change of the table of a name.

abbrev pub with_table : List CatalogTable → Result CatalogTable OwnerFault → Result (List CatalogTable) OwnerFault
with_table tables = result_map_both (λ t. t ∷ tables) (λ why. why)

abbrev pub behind_table : CatalogTable → Result (List CatalogTable) OwnerFault → Result (List CatalogTable) OwnerFault
behind_table t = result_map_both (λ tables. t ∷ tables) (λ why. why)

module _ (name : List ℕ) (change : CatalogTable → Result CatalogTable OwnerFault) where
  abbrev pub change_table : List CatalogTable → Result (List CatalogTable) OwnerFault
  change_table [] = Ok []
  change_table (t ∷ tables) = cond (bytes_eq t.name name) (with_table tables (change t)) (behind_table t (change_table tables))

  abbrev pub change_at : ℕ → List CatalogTable → Result (List CatalogTable) OwnerFault
  change_at place tables = option_map_or (λ t. tables_with place tables (change t)) (slice_get tables place) (Ok tables)

  first_set : (t : CatalogTable) (tables : List CatalogTable) (r : Result CatalogTable OwnerFault) → tables_with 0 (t ∷ tables) r ≡ with_table tables r
  first_set t tables (Ok u) = refl
  first_set t tables (Err why) = refl

  next_set : (t : CatalogTable) (tables : List CatalogTable) (place : ℕ) (r : Result CatalogTable OwnerFault)
      → tables_with (suc place) (t ∷ tables) r ≡ behind_table t (tables_with place tables r)
  next_set t tables place (Ok u) = refl
  next_set t tables place (Err why) = refl

  next_changed : (t : CatalogTable) (tables : List CatalogTable) (place : ℕ) (found : Option CatalogTable)
      → option_map_or (λ u. tables_with (suc place) (t ∷ tables) (change u)) found (Ok (t ∷ tables))
      ≡ behind_table t (option_map_or (λ u. tables_with place tables (change u)) found (Ok tables))
  next_changed t tables place None = refl
  next_changed t tables place (Some u) = next_set t tables place (change u)

  pub changed_at_place : (tables : List CatalogTable) → change_at (table_number name tables) tables ≡ change_table tables
  changed_at_place [] = refl
  changed_at_place (t ∷ tables) = step (bytes_eq t.name name) (changed_at_place tables)
    where
      step : (b : Bool) → change_at (table_number name tables) tables ≡ change_table tables
          → change_at (cond (not b) (1 + table_number name tables) 0) (t ∷ tables) ≡ cond b (with_table tables (change t)) (behind_table t (change_table tables))
      step true rest = first_set t tables (change t)
      step false rest =
          ap (λ i. change_at i (t ∷ tables)) (suc_is (table_number name tables))
          ∙ next_changed t tables (table_number name tables) (slice_get tables (table_number name tables)) ∙ ap (behind_table t) rest

-- A table is made, or dropped.

pub put_at_place : (s : Stored) (stored : List Stored)
    → insert (map catalog_table stored) (place_for s.name (map catalog_table stored)) (catalog_table s) ≡ map catalog_table (put_stored s stored)
put_at_place s [] = refl
put_at_place s (r ∷ stored) = step (key_lt s.name r.name) (put_at_place s stored)
  where
    step : (b : Bool) → insert (map catalog_table stored) (place_for s.name (map catalog_table stored)) (catalog_table s) ≡ map catalog_table (put_stored s stored)
        → insert (catalog_table r ∷ map catalog_table stored) (cond (not b) (1 + place_for s.name (map catalog_table stored)) 0) (catalog_table s)
        ≡ map catalog_table (cond b (s ∷ r ∷ stored) (r ∷ put_stored s stored))
    step true rest = refl
    step false rest =
        ap (λ i. insert (catalog_table r ∷ map catalog_table stored) i (catalog_table s)) (suc_is (place_for s.name (map catalog_table stored)))
        ∙ ap (λ tables. catalog_table r ∷ tables) rest

abbrev pub stored_names : List Stored → List (List ℕ)
stored_names = map (λ (s : Stored). s.name)

names_same : (stored : List Stored) (tables : List Table) → RepresentTables stored tables → stored_names stored ≡ names_of tables
names_same [] [] zs = refl
names_same [] (t ∷ tables) zs = absurd zs
names_same (s ∷ stored) [] zs = absurd zs
names_same (s ∷ stored) (t ∷ tables) zs = rw (zs.0.name, names_same stored tables zs.1) refl

pub names_rise : (stored : List Stored) (tables : List Table) → RepresentTables stored tables → AreRising (names_of tables) → AreRising (stored_names stored)
names_rise stored tables zs rising = subst AreRising (sym (names_same stored tables zs)) rising

others_stay : (name : List ℕ) (stored : List Stored) → AllByRecursion (λ k. key_lt name k ≡ true) (stored_names stored)
    → filter (λ s. not (is_named name s)) stored ≡ stored
others_stay name [] all = refl
others_stay name (s ∷ stored) all = rw (other_back s.name name all.0, others_stay name stored all.1) refl

pub removed_at_place : (name : List ℕ) (stored : List Stored) → AreRising (stored_names stored)
    → remove (map catalog_table stored) (table_number name (map catalog_table stored)) ≡ map catalog_table (filter (λ s. not (is_named name s)) stored)
removed_at_place name [] r = refl
removed_at_place name (s ∷ stored) r = step (bytes_eq s.name name) refl (removed_at_place name stored r.1)
  where
    step : (b : Bool) → bytes_eq s.name name ≡ b
        → remove (map catalog_table stored) (table_number name (map catalog_table stored)) ≡ map catalog_table (filter (λ s. not (is_named name s)) stored)
        → remove (catalog_table s ∷ map catalog_table stored) (cond (not b) (1 + table_number name (map catalog_table stored)) 0)
        ≡ map catalog_table (cond (not b) (s ∷ filter (λ s. not (is_named name s)) stored) (filter (λ s. not (is_named name s)) stored))
    step true e rest =
        let same : s.name ≡ name = (bytes_eq-Decides s.name name).0 e in
        ap (map catalog_table) (sym (others_stay name stored (subst (λ n. AllByRecursion (λ k. key_lt n k ≡ true) (stored_names stored)) same r.0)))
    step false e rest =
        ap (remove (catalog_table s ∷ map catalog_table stored)) (suc_is (table_number name (map catalog_table stored))) ∙ ap (λ tables. catalog_table s ∷ tables) rest
