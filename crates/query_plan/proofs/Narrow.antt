-- The schemas of a catalog's tables have no more columns than a table may have.
use Rattle.std.proofs.Common.{ℕ, zero, suc, ◌≤◌, Bool, true, false, cond, List, [], ◌∷◌, Some, length, map, arith}
use Rattle.std.specs.Prelude.{bytes_eq}
use Rattle.std.specs.Option.{option_map_or}
use Rattle.std.specs.List.{AllByRecursion}
use Rattle.vo_spec.specs.declared.queries.Source.{Source}
use Rattle.vo_spec.specs.declared.records.Catalog.{Catalog}
use Rattle.vo_spec.specs.declared.records.CatalogTable.{CatalogTable}
use Rattle.vo_spec.specs.Tables.{TableHeader, table_header_named}
use Rattle.vo_spec.specs.Batches.{max_columns}
use Rattle.vo_spec.specs.Conditions.{Query}
use Rattle.vo_spec.specs.Records.{FitsCatalogTable, FitsCatalog, table_headers}
use Rattle.vo_spec.specs.Results.{sources, bound_source_of, bound_sources, schema_at, no_schema}

named_narrow : (name : List ℕ) (tables : List CatalogTable) → AllByRecursion FitsCatalogTable tables
    → length (option_map_or (λ (h : TableHeader). h.schema) (table_header_named name (table_headers (record { tables = tables }))) no_schema).columns ≤ max_columns
named_narrow name [] fit = omega arith
named_narrow name (t ∷ tables) fit = step (bytes_eq t.name name) (named_narrow name tables fit.1)
  where
    step : (b : Bool) → length (option_map_or (λ (h : TableHeader). h.schema) (table_header_named name (table_headers (record { tables = tables }))) no_schema).columns ≤ max_columns
        → length (option_map_or (λ (h : TableHeader). h.schema) (cond b (Some (record { name = t.name; schema = t.schema; count = t.rows })) (table_header_named name (table_headers (record { tables = tables })))) no_schema).columns ≤ max_columns
    step true rest = fit.0.schema.columns.1
    step false rest = rest

each_narrow : (c : Catalog) → FitsCatalog c → (ss : List Source) (i : ℕ) → length (schema_at (map (bound_source_of (table_headers c)) ss) i).columns ≤ max_columns
each_narrow c fit [] zero = omega arith
each_narrow c fit [] (suc i) = omega arith
each_narrow c fit (s ∷ ss) zero = named_narrow s.table c.tables fit.each
each_narrow c fit (s ∷ ss) (suc i) = each_narrow c fit ss i

-- of the sources of any query, also past their end
pub bound_sources_narrow : (c : Catalog) → FitsCatalog c → (q : Query) (i : ℕ) → length (schema_at (bound_sources (table_headers c) q) i).columns ≤ max_columns
bound_sources_narrow c fit q i = each_narrow c fit (sources q) i
