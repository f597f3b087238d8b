-- The plain tables for which trees stand are those that the trees show.
use Rattle.std.proofs.Common.{◌≡◌, ℕ, zero, suc, ◌<◌, List, [], ◌∷◌, length, map, get_or, refl, sym, subst, arith}
use Rattle.std.specs.List.{AllByRecursion}
use Rattle.std.specs.declared.rc.Rc.{Rc}
use Rattle.std.specs.declared.alloc.Global.{Global}
use Rattle.vo_spec.specs.declared.tables.Table.{Table}
use Rattle.vo_spec.specs.Records.{FitsCatalog, FitsCatalogTable}
use Rattle.vo_spec.specs.Honest.{Stored, RepresentTables, RepresentsTable, catalog_of}
use Rattle.vo_laws.specs.FittingTables.{FitTables}
use Rattle.vo_laws.proofs.StoredFits.{catalog_fits}
use Rattle.mb_tree.proofs.RowLaws.{rows_in_leaf}
use Rattle.stored_tables.specs.Representation.{IsStanding}
use Rattle.stored_tables.specs.declared.table.StoredTable.{StoredTable}
use Rattle.stored_tables.specs.Plain.{catalog_table, plain_table}
use Rattle.stored_tables.specs.View.{stored_in, stored_of}

one_plain : (s : Stored) (t : Table) → RepresentsTable s t → plain_table s ≡ t
one_plain s t z = rw (z.name, z.schema, z.stands.rows_are, rows_in_leaf t.rows) refl

all_plain : (stored : List Stored) (tables : List Table) → RepresentTables stored tables → map plain_table stored ≡ tables
all_plain [] [] zs = refl
all_plain [] (t ∷ tables) zs = absurd zs
all_plain (s ∷ stored) [] zs = absurd zs
all_plain (s ∷ stored) (t ∷ tables) zs = rw (one_plain s t zs.0, all_plain stored tables zs.1) refl

pub plain_stand : (stored : List Stored) → IsStanding stored → RepresentTables stored (map plain_table stored)
plain_stand stored s = subst (RepresentTables stored) (sym (all_plain stored s.tables s.stand)) s.stand

pub plain_fit : (stored : List Stored) → IsStanding stored → FitTables (map plain_table stored)
plain_fit stored s = subst FitTables (sym (all_plain stored s.tables s.stand)) s.fit

pub standing_catalog : (stored : List Stored) → IsStanding stored → FitsCatalog (catalog_of stored)
standing_catalog stored s = catalog_fits stored s.tables s.stand s.fit

-- one of tables whose catalog fits
pub table_fits : (tables : List (Rc StoredTable Global)) → AllByRecursion FitsCatalogTable (map catalog_table (stored_in tables)) → (i : ℕ) (t : Rc StoredTable Global) → i < length tables → t ≡ get_or tables i t
    → FitsCatalogTable (catalog_table (stored_of t.value))
table_fits [] f i t lt is = absurd (omega arith)
table_fits (u ∷ us) f zero t lt is = subst (λ (r : Rc StoredTable Global). FitsCatalogTable (catalog_table (stored_of r.value))) (sym is) f.0
table_fits (u ∷ us) f (suc i) t lt is = table_fits us f.1 i t (omega arith) is
