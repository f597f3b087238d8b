-- The columns that a query names of a table are those of cells that its rows have.
use Rattle.std.proofs.Common.{◌≡◌, ℕ, suc, ◌+◌, ◌-◌, ◌<◌, ◌≤◌, Bool, true, false, cond, List, [], ◌∷◌, Some, length, map, refl, ap, arith}
use Rattle.std.specs.Prelude.{◌&&◌, ◌==◌, not, nat_lt, find, remove, bytes_eq}
use Rattle.std.specs.Option.{option_map_or}
use Rattle.std.specs.List.{AllByRecursion}
use Rattle.std.proofs.lemmas.Bool.{and_parts, both_ways, eq-eqb, ltb-true, ltb-false, not-true}
use Rattle.std.proofs.lemmas.List.Edits.{length-remove}
use Rattle.vo_spec.specs.declared.values.Value.{Value}
use Rattle.vo_spec.specs.declared.values.Row.{Row}
use Rattle.vo_spec.specs.declared.tables.Column.{Column}
use Rattle.vo_spec.specs.declared.tables.Schema.{Schema}
use Rattle.vo_spec.specs.declared.tables.Table.{Table}
use Rattle.vo_spec.specs.Values.{is_of_kind}
use Rattle.vo_spec.specs.Tables.{TableHeader, table_header_of, table_header_named, rows_named, cell_number, are_of_kinds}
use Rattle.vo_spec.specs.Conditions.{Query}
use Rattle.vo_spec.specs.Results.{BoundSource, schema_at, no_schema, numbers_from}
use Rattle.vo_spec.specs.Needs.{is_named_column, named_columns, named_cells, uncut_need}
use Rattle.vo_laws.proofs.ListLaws.{IsIn, each_of, each_from, each_map, filter_in}
use Rattle.vo_laws.proofs.AnswerLaws.{numbers_below}
use Rattle.vo_laws.specs.Columns.{HaveColumns}
use Rattle.vo_laws.specs.FittingTables.{HasKinds, FitsTable}
use Rattle.vo_laws.proofs.ReplyTrees.{AreBelow, HasCells, have_below}

-- how many cells a row of this schema has
abbrev pub cells_of : Schema → ℕ
cells_of schema = length (remove schema.columns schema.key)

pub record NamedFits (schema : Schema) (rows : List Row) : Type 0 where
  pub columns : (column : ℕ) → column < length schema.columns → (column == schema.key) ≡ false → cell_number schema.key column < cells_of schema
  pub cells : AllByRecursion (HasCells (cells_of schema)) rows

kinds_length : (columns : List Column) (values : List Value) → are_of_kinds columns values ≡ true → length values ≡ length columns
kinds_length [] [] e = refl
kinds_length [] (v ∷ values) e = absurd (cc)
kinds_length (c ∷ columns) [] e = absurd (cc)
kinds_length (c ∷ columns) (v ∷ values) e = ap suc (kinds_length columns values (and_parts (is_of_kind c.kind v) (are_of_kinds columns values) e).1)

rows_have : (schema : Schema) (rows : List Row) → AllByRecursion (HasKinds schema) rows → AllByRecursion (HasCells (cells_of schema)) rows
rows_have schema [] all = tt
rows_have schema (row ∷ rows) all = (kinds_length (remove schema.columns schema.key) row.cells all.0.cells, rows_have schema rows all.1)

cell_there : (key column n : ℕ) → key < n + 1 → column < n + 1 → (column == key) ≡ false → cell_number key column < n
cell_there key column n in_key in_column e = step (nat_lt column key) refl
  where
    other : column ≡ key → ⊥
    other same = both_ways (column == key) e (eq-eqb column key same)

    step : (b : Bool) → nat_lt column key ≡ b → cond b column (column - 1) < n
    step true f = let below : column < key = ltb-true column key f in omega arith
    step false f = let above : key ≤ column = ltb-false column key f in let apart : column ≡ key → ⊥ = other in omega arith

table_fits : (t : Table) → FitsTable t → NamedFits t.schema t.rows
table_fits t fits =
    let key_in : t.schema.key < length t.schema.columns = fits.schema.key_in in
    let one_less : cells_of t.schema + 1 ≡ length t.schema.columns = length-remove t.schema.columns t.schema.key key_in in
    record {
      columns = λ column lt e. cell_there t.schema.key column (cells_of t.schema) (omega arith) (omega arith) e;
      cells = rows_have t.schema t.rows fits.kinds;
    }

nothing_fits : NamedFits no_schema []
nothing_fits = record { columns = λ column lt e. absurd (omega arith); cells = tt }

pub named_fits : (name : List ℕ) (tables : List Table) → AllByRecursion FitsTable tables
    → NamedFits (option_map_or (λ (h : TableHeader). h.schema) (table_header_named name (map table_header_of tables)) no_schema) (rows_named name tables)
named_fits name [] fits = nothing_fits
named_fits name (t ∷ tables) fits = step (bytes_eq t.name name) (named_fits name tables fits.1)
  where
    step : (b : Bool) → NamedFits (option_map_or (λ (h : TableHeader). h.schema) (table_header_named name (map table_header_of tables)) no_schema) (rows_named name tables)
        → NamedFits (option_map_or (λ (h : TableHeader). h.schema) (cond b (Some (table_header_of t)) (table_header_named name (map table_header_of tables))) no_schema)
        (option_map_or (λ (x : Table). x.rows) (cond b (Some t) (find (λ (x : Table). bytes_eq x.name name) tables)) [])
    step true rest = table_fits t fits.0
    step false rest = rest

pub named_cells_below : (ss : List BoundSource) (q : Query) (bound_source : ℕ) (rows : List Row) → NamedFits (schema_at ss bound_source) rows
    → AreBelow (cells_of (schema_at ss bound_source)) (named_cells ss q bound_source)
named_cells_below ss q bound_source rows fits =
    each_map (λ c. c < cells_of (schema_at ss bound_source)) (cell_number (schema_at ss bound_source).key) (named_columns ss q bound_source)
    (each_from (λ column. cell_number (schema_at ss bound_source).key column < cells_of (schema_at ss bound_source)) (named_columns ss q bound_source) there)
  where
    there : (column : ℕ) → IsIn column (named_columns ss q bound_source) → cell_number (schema_at ss bound_source).key column < cells_of (schema_at ss bound_source)
    there column i =
        let f = filter_in (λ c. not (c == (schema_at ss bound_source).key) && is_named_column ss q bound_source c) (numbers_from 0 (length (schema_at ss bound_source).columns)) column i in
        let lt : column < 0 + length (schema_at ss bound_source).columns =
        each_of (λ c. c < 0 + length (schema_at ss bound_source).columns) (numbers_from 0 (length (schema_at ss bound_source).columns)) (numbers_below 0 (length (schema_at ss bound_source).columns)) column f.0 in
        fits.columns column (omega arith) (not-true (column == (schema_at ss bound_source).key) (and_parts (not (column == (schema_at ss bound_source).key)) (is_named_column ss q bound_source column) f.1).0)

-- so the rows of the left table have what the query asks for
pub named_have : (ss : List BoundSource) (q : Query) (rows : List Row) → NamedFits (schema_at ss 0) rows → HaveColumns rows (uncut_need ss q)
named_have ss q rows fits = have_below (cells_of (schema_at ss 0)) (uncut_need ss q) rows (named_cells_below ss q 0 rows fits) fits.cells
