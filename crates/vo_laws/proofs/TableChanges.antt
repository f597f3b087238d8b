-- Rows of a plain table that are put, changed or removed: the tables keep their limits.
use Rattle.std.proofs.Common.{◌≡◌, ℕ, zero, suc, ◌-◌, ◌<◌, ◌≤◌, Bool, true, false, cond, List, [], ◌∷◌, Some, None, length, map, refl, sym, ap, ◌∙◌, subst, arith}
use Rattle.std.specs.Prelude.{◌&&◌, ◌==◌, not, nat_lt, remove, bytes_eq, slice_set}
use Rattle.std.specs.List.{list_any, list_all, AllByRecursion}
use Rattle.std.proofs.lemmas.Bool.{and_parts, or_parts, and_from, both_ways, eq-eqb, ltb-true, ltb-false}
use Rattle.std.proofs.lemmas.Slice.Eq.{bytes_eq-Decides}
use Rattle.std.proofs.lemmas.List.{length-map, length-set}
use Rattle.std.proofs.lemmas.List.Elements.{All-from_recursion, recursion_from_All}
use Rattle.vo_spec.specs.declared.values.Value.{Value}
use Rattle.vo_spec.specs.declared.values.Row.{Row}
use Rattle.vo_spec.specs.declared.tables.Column.{Column}
use Rattle.vo_spec.specs.declared.tables.Schema.{Schema}
use Rattle.vo_spec.specs.declared.tables.Table.{Table}
use Rattle.vo_spec.specs.declared.tables.SetPart.{SetPart}
use Rattle.vo_spec.specs.declared.tables.Command.TheVariants.{Insert, Update}
use Rattle.vo_spec.specs.Values.{is_null, is_of_kind, key_lt, FitsValue}
use Rattle.vo_spec.specs.Tables.{max_rows, column_at, column_number, column_named, cell_number, has_twice, are_of_kinds, allows, allow_each, table_header_of, is_key, suits, update_tests, refusal, row_of, put_row, with_rows, CellChange, changed_cells, changed_row, cell_changes, without_row, table_named}
use Rattle.vo_spec.specs.Batches.{FitCounted, FitsSet, FitsCommand}
use Rattle.vo_spec.specs.Fits.{FitsRow}
use Rattle.vo_spec.specs.Representation.{AreRising}
use Rattle.vo_laws.proofs.ListLaws.{each_weaker, each_map, none_any}
use Rattle.vo_laws.proofs.InsertionNodes.{other_back}
use Rattle.vo_laws.proofs.CommandLaws.{not_false, tests_fail, IsInsertable, insertable, row_has_kinds, each_filter, filter_shorter, each_put_row, put_row_length, row_fits}
use Rattle.vo_laws.specs.FittingTables.{HasKinds, FitsTable, names_of, FitTables}

-- The rows of one table.

names_kept : (name : List ℕ) (rows : Table → List Row) (tables : List Table) → names_of (with_rows name rows tables) ≡ names_of tables
names_kept name rows [] = refl
names_kept name rows (t ∷ tables) = step (bytes_eq t.name name) (names_kept name rows tables)
  where
    step : (b : Bool) → names_of (with_rows name rows tables) ≡ names_of tables
        → (cond b (record { name = t.name; schema = t.schema; rows = rows t }) t).name ∷ names_of (with_rows name rows tables) ≡ t.name ∷ names_of tables
    step true rest = ap (λ z. t.name ∷ z) rest
    step false rest = ap (λ z. t.name ∷ z) rest

-- where names rise, no table behind one has its name, and none of another name is changed
pub others_kept : (name : List ℕ) (rows : Table → List Row) (tables : List Table) → AllByRecursion (λ k. key_lt name k ≡ true) (names_of tables) → with_rows name rows tables ≡ tables
others_kept name rows [] all = refl
others_kept name rows (t ∷ tables) all = rw (other_back t.name name all.0, others_kept name rows tables all.1) refl

-- where the table of this name fits with its other rows, all tables do
each_changed : (name : List ℕ) (rows : Table → List Row) (tables : List Table)
    → ((t : Table) → table_named name tables ≡ Some t → FitsTable t → FitsTable (record { name = t.name; schema = t.schema; rows = rows t }))
    → AllByRecursion FitsTable tables → AreRising (names_of tables) → AllByRecursion FitsTable (with_rows name rows tables)
each_changed name rows [] fits all rising = tt
each_changed name rows (t ∷ tables) fits all rising = step (bytes_eq t.name name) refl fits (each_changed name rows tables)
  where
    step : (b : Bool) → bytes_eq t.name name ≡ b
        → ((u : Table) → cond b (Some t) (table_named name tables) ≡ Some u → FitsTable u → FitsTable (record { name = u.name; schema = u.schema; rows = rows u }))
        → (((u : Table) → table_named name tables ≡ Some u → FitsTable u → FitsTable (record { name = u.name; schema = u.schema; rows = rows u }))
        → AllByRecursion FitsTable tables → AreRising (names_of tables) → AllByRecursion FitsTable (with_rows name rows tables))
        → AllByRecursion FitsTable (cond b (record { name = t.name; schema = t.schema; rows = rows t }) t ∷ with_rows name rows tables)
    step true f fits rest =
        let name_is : t.name ≡ name = (bytes_eq-Decides t.name name).0 f in (
          fits t refl all.0,
          subst (AllByRecursion FitsTable) (sym (others_kept name rows tables (subst (λ n. AllByRecursion (λ k. key_lt n k ≡ true) (names_of tables)) name_is rising.0))) all.1,
        )
    step false f fits rest = (all.0, rest fits all.1 rising.1)

pub rows_changed_fit : (name : List ℕ) (rows : Table → List Row) (tables : List Table)
    → ((t : Table) → table_named name tables ≡ Some t → FitsTable t → FitsTable (record { name = t.name; schema = t.schema; rows = rows t }))
    → FitTables tables → FitTables (with_rows name rows tables)
rows_changed_fit name rows tables fits before = record {
  each = each_changed name rows tables fits before.each before.rising;
  rising = subst AreRising (sym (names_kept name rows tables)) before.rising;
  count = omega (arith, length-map tables (λ (t : Table). cond (bytes_eq t.name name) (record { name = t.name; schema = t.schema; rows = rows t }) t), before.count);
}

table_inserted : (values : List Value) (t : Table) → FitCounted FitsValue values → IsInsertable t values → FitsTable t
    → FitsTable (record { name = t.name; schema = t.schema; rows = put_row (row_of t.schema values) t.rows })
table_inserted values t fits is before =
    let longer : length (put_row (row_of t.schema values) t.rows) ≡ suc (length t.rows) = put_row_length (row_of t.schema values) t.rows in
    let room : length t.rows < max_rows = is.room in
    record {
      name = before.name;
      schema = before.schema;
      rows = each_put_row FitsRow (row_of t.schema values) t.rows (row_fits t values before.schema fits is) before.rows;
      kinds = each_put_row (HasKinds t.schema) (row_of t.schema values) t.rows (row_has_kinds t values before.schema fits.2 is) before.kinds;
      count = omega arith;
    }

pub inserted_fit : (name : List ℕ) (values : List Value) (tables : List Table) → FitsCommand (Insert name values)
    → refusal (Insert name values) (map table_header_of tables) ≡ None → FitTables tables
    → FitTables (with_rows name (λ t. put_row (row_of t.schema values) t.rows) tables)
unfolding FitsCommand
inserted_fit name values tables fits e before =
    rows_changed_fit name (λ t. put_row (row_of t.schema values) t.rows) tables (λ t found is. table_inserted values t fits.1 (insertable name values tables e t found) is) before

-- What is known of an update that no table header refuses.

abbrev pub SetFits : Schema → SetPart → Type 0
SetFits schema s =
    (is_key schema s.column ≡ false) × (suits schema.columns s.column s.value ≡ true) × (allows (column_named schema.columns s.column) s.value ≡ true)

each_passes : {A : Type 0} (test : A → Bool) (xs : List A) → list_all test xs ≡ true → AllByRecursion (λ x. test x ≡ true) xs
each_passes test [] e = tt
each_passes test (x ∷ xs) e = let p = and_parts (test x) (list_all test xs) e in (p.0, each_passes test xs p.1)

three_hold : {A : Type 0} (P Q R : A → Type 0) (xs : List A) → AllByRecursion P xs → AllByRecursion Q xs → AllByRecursion R xs → AllByRecursion (λ x. P x × Q x × R x) xs
three_hold P Q R [] ps qs rs = tt
three_hold P Q R (x ∷ xs) ps qs rs = ((ps.0, qs.0, rs.0), three_hold P Q R xs ps.1 qs.1 rs.1)

pub updatable : (name : List ℕ) (sets : List SetPart) (column : List ℕ) (value : Value) (tables : List Table) → refusal (Update name sets column value) (map table_header_of tables) ≡ None
    → (t : Table) → table_named name tables ≡ Some t → AllByRecursion (SetFits t.schema) sets
updatable name sets column value tables e t found =
    let tests = tests_fail name (update_tests sets column value) tables e t found in
    let sets_ok = or_parts (list_any (λ (s : SetPart). is_key t.schema s.column) sets) (has_twice (map (λ (s : SetPart). s.column) sets)) tests.1.1.0 in
    let kinds = and_parts (list_all (λ (s : SetPart). suits t.schema.columns s.column s.value) sets) (suits t.schema.columns column value)
    (not_false (list_all (λ (s : SetPart). suits t.schema.columns s.column s.value) sets && suits t.schema.columns column value) tests.1.1.1.0) in
    let given = or_parts (is_null value) (not (list_all (λ (s : SetPart). allows (column_named t.schema.columns s.column) s.value) sets)) tests.1.1.1.1.0 in
    three_hold (λ (s : SetPart). is_key t.schema s.column ≡ false) (λ (s : SetPart). suits t.schema.columns s.column s.value ≡ true)
    (λ (s : SetPart). allows (column_named t.schema.columns s.column) s.value ≡ true) sets
    (none_any (λ (s : SetPart). is_key t.schema s.column) sets sets_ok.0)
    (each_passes (λ (s : SetPart). suits t.schema.columns s.column s.value) sets kinds.0)
    (each_passes (λ (s : SetPart). allows (column_named t.schema.columns s.column) s.value) sets
    (not_false (list_all (λ (s : SetPart). allows (column_named t.schema.columns s.column) s.value) sets) given.1))

-- A value takes another's place.

each_set : {A : Type 0} (P : A → Type 0) (xs : List A) (i : ℕ) (x : A) → AllByRecursion P xs → P x → AllByRecursion P (slice_set xs i x)
each_set P [] i x all p = tt
each_set P (y ∷ xs) zero x all p = (p, all.1)
each_set P (y ∷ xs) (suc i) x all p = (all.0, each_set P xs i x all.1 p)

kinds_set : (columns : List Column) (values : List Value) (i : ℕ) (v : Value) → are_of_kinds columns values ≡ true → is_of_kind (column_at columns i).kind v ≡ true
    → are_of_kinds columns (slice_set values i v) ≡ true
kinds_set [] [] i v e same = refl
kinds_set [] (w ∷ values) i v e same = absurd (cc)
kinds_set (c ∷ columns) [] i v e same = absurd (cc)
kinds_set (c ∷ columns) (w ∷ values) zero v e same =
    and_from (is_of_kind c.kind v) (are_of_kinds columns values) same (and_parts (is_of_kind c.kind w) (are_of_kinds columns values) e).1
kinds_set (c ∷ columns) (w ∷ values) (suc i) v e same =
    let p = and_parts (is_of_kind c.kind w) (are_of_kinds columns values) e in
    and_from (is_of_kind c.kind w) (are_of_kinds columns (slice_set values i v)) p.0 (kinds_set columns values i v p.1 same)

allowed_set : (columns : List Column) (values : List Value) (i : ℕ) (v : Value) → allow_each columns values ≡ true → allows (column_at columns i) v ≡ true
    → allow_each columns (slice_set values i v) ≡ true
allowed_set [] values i v e allowed = refl
allowed_set (c ∷ columns) [] i v e allowed = refl
allowed_set (c ∷ columns) (w ∷ values) zero v e allowed = and_from (allows c v) (allow_each columns values) allowed (and_parts (allows c w) (allow_each columns values) e).1
allowed_set (c ∷ columns) (w ∷ values) (suc i) v e allowed =
    let p = and_parts (allows c w) (allow_each columns values) e in
    and_from (allows c w) (allow_each columns (slice_set values i v)) p.0 (allowed_set columns values i v p.1 allowed)

-- a column that isn't the key stands at its cell's number among the others
next_cell : (key n : ℕ) → (n ≡ key → ⊥) → cell_number (suc key) (suc n) ≡ suc (cell_number key n)
next_cell key n other = step (nat_lt (suc n) (suc key)) (nat_lt n key) refl refl
  where
    step : (b c : Bool) → nat_lt (suc n) (suc key) ≡ b → nat_lt n key ≡ c → cond b (suc n) (suc n - 1) ≡ suc (cond c n (n - 1))
    step true true e f = refl
    step false false e f = let above : key ≤ n = ltb-false n key f in let apart : n ≡ key → ⊥ = other in omega arith
    step true false e f = let below : suc n < suc key = ltb-true (suc n) (suc key) e in let above : key ≤ n = ltb-false n key f in absurd (omega arith)
    step false true e f = let above : suc key ≤ suc n = ltb-false (suc n) (suc key) e in let below : n < key = ltb-true n key f in absurd (omega arith)

cell_column : (columns : List Column) (key n : ℕ) → (n ≡ key → ⊥) → column_at (remove columns key) (cell_number key n) ≡ column_at columns n
cell_column [] zero n other = refl
cell_column [] (suc key) n other = refl
cell_column (c ∷ columns) zero zero other = absurd (other refl)
cell_column (c ∷ columns) zero (suc n) other = step (nat_lt (suc n) 0) refl
  where
    step : (b : Bool) → nat_lt (suc n) 0 ≡ b → column_at columns (cond b (suc n) (suc n - 1)) ≡ column_at columns n
    step true e = let below : suc n < 0 = ltb-true (suc n) 0 e in absurd (omega arith)
    step false e = let less : suc n - 1 ≡ n = omega arith in ap (column_at columns) less
cell_column (c ∷ columns) (suc key) zero other = step (nat_lt 0 (suc key)) refl
  where
    step : (b : Bool) → nat_lt 0 (suc key) ≡ b → column_at (c ∷ remove columns key) (cond b 0 (0 - 1)) ≡ c
    step true e = refl
    step false e = let above : suc key ≤ 0 = ltb-false 0 (suc key) e in absurd (omega arith)
cell_column (c ∷ columns) (suc key) (suc n) other =
    let apart : n ≡ key → ⊥ = λ e. other (ap suc e) in
    ap (column_at (c ∷ remove columns key)) (next_cell key n apart) ∙ cell_column columns key n apart

-- A row whose cells are changed.

cells_long : (changes : List CellChange) (cells : List Value) → length (changed_cells changes cells) ≡ length cells
cells_long [] cells = refl
cells_long (c ∷ changes) cells = cells_long changes (slice_set cells c.column c.value) ∙ length-set cells c.column c.value

cells_fit : (schema : Schema) (sets : List SetPart) (cells : List Value) → AllByRecursion FitsSet sets → AllByRecursion FitsValue cells
    → AllByRecursion FitsValue (changed_cells (cell_changes schema sets) cells)
cells_fit schema [] cells fits all = all
cells_fit schema (s ∷ sets) cells fits all =
    cells_fit schema sets (slice_set cells (cell_number schema.key (column_number schema.columns s.column)) s.value) fits.1
    (each_set FitsValue cells (cell_number schema.key (column_number schema.columns s.column)) s.value all fits.0.1)

cells_kinds : (schema : Schema) (sets : List SetPart) (cells : List Value) → AllByRecursion (SetFits schema) sets → are_of_kinds (remove schema.columns schema.key) cells ≡ true
    → are_of_kinds (remove schema.columns schema.key) (changed_cells (cell_changes schema sets) cells) ≡ true
cells_kinds schema [] cells is e = e
cells_kinds schema (s ∷ sets) cells is e =
    let number = column_number schema.columns s.column in
    let other : number ≡ schema.key → ⊥ = λ same. both_ways (number == schema.key) is.0.0 (eq-eqb number schema.key same) in
    cells_kinds schema sets (slice_set cells (cell_number schema.key number) s.value) is.1
    (kinds_set (remove schema.columns schema.key) cells (cell_number schema.key number) s.value e
    (ap (λ (c : Column). is_of_kind c.kind s.value) (cell_column schema.columns schema.key number other) ∙ is.0.1))

cells_allowed : (schema : Schema) (sets : List SetPart) (cells : List Value) → AllByRecursion (SetFits schema) sets → allow_each (remove schema.columns schema.key) cells ≡ true
    → allow_each (remove schema.columns schema.key) (changed_cells (cell_changes schema sets) cells) ≡ true
cells_allowed schema [] cells is e = e
cells_allowed schema (s ∷ sets) cells is e =
    let number = column_number schema.columns s.column in
    let other : number ≡ schema.key → ⊥ = λ same. both_ways (number == schema.key) is.0.0 (eq-eqb number schema.key same) in
    cells_allowed schema sets (slice_set cells (cell_number schema.key number) s.value) is.1
    (allowed_set (remove schema.columns schema.key) cells (cell_number schema.key number) s.value e
    (ap (λ (c : Column). allows c s.value) (cell_column schema.columns schema.key number other) ∙ is.0.2))

changed_row_fits : (schema : Schema) (key : List ℕ) (sets : List SetPart) → AllByRecursion FitsSet sets → (row : Row) → FitsRow row → FitsRow (changed_row key (cell_changes schema sets) row)
changed_row_fits schema key sets fits row is = step (bytes_eq row.key key)
  where
    step : (b : Bool) → FitsRow (cond b (record { key = row.key; cells = changed_cells (cell_changes schema sets) row.cells }) row)
    step true = record {
      key = is.key;
      cells = record {
        count = subst (λ n. n ≤ 31) (sym (cells_long (cell_changes schema sets) row.cells)) is.cells.count;
        each = All-from_recursion FitsValue (changed_cells (cell_changes schema sets) row.cells) (cells_fit schema sets row.cells fits (recursion_from_All FitsValue row.cells is.cells.each));
      };
    }
    step false = is

changed_row_kinds : (schema : Schema) (key : List ℕ) (sets : List SetPart) → AllByRecursion (SetFits schema) sets → (row : Row) → HasKinds schema row
    → HasKinds schema (changed_row key (cell_changes schema sets) row)
changed_row_kinds schema key sets suit row is = step (bytes_eq row.key key)
  where
    step : (b : Bool) → HasKinds schema (cond b (record { key = row.key; cells = changed_cells (cell_changes schema sets) row.cells }) row)
    step true = record {
      key = is.key;
      cells = cells_kinds schema sets row.cells suit is.cells;
      allowed = cells_allowed schema sets row.cells suit is.allowed;
    }
    step false = is

-- Tables.

pub updated_table_fits : (key : List ℕ) (sets : List SetPart) (t : Table) → AllByRecursion FitsSet sets → AllByRecursion (SetFits t.schema) sets → FitsTable t
    → FitsTable (record { name = t.name; schema = t.schema; rows = map (changed_row key (cell_changes t.schema sets)) t.rows })
updated_table_fits key sets t fits suit is = record {
  name = is.name;
  schema = is.schema;
  rows = each_map FitsRow (changed_row key (cell_changes t.schema sets)) t.rows
      (each_weaker FitsRow (λ row. FitsRow (changed_row key (cell_changes t.schema sets) row)) (changed_row_fits t.schema key sets fits) t.rows is.rows);
  kinds = each_map (HasKinds t.schema) (changed_row key (cell_changes t.schema sets)) t.rows
      (each_weaker (HasKinds t.schema) (λ row. HasKinds t.schema (changed_row key (cell_changes t.schema sets) row)) (changed_row_kinds t.schema key sets suit) t.rows is.kinds);
  count = omega (arith, length-map t.rows (changed_row key (cell_changes t.schema sets)), is.count);
}

pub removed_table_fits : (key : List ℕ) (t : Table) → FitsTable t → FitsTable (record { name = t.name; schema = t.schema; rows = without_row key t.rows })
removed_table_fits key t is = record {
  name = is.name;
  schema = is.schema;
  rows = each_filter FitsRow (λ (r : Row). not (bytes_eq r.key key)) t.rows is.rows;
  kinds = each_filter (HasKinds t.schema) (λ (r : Row). not (bytes_eq r.key key)) t.rows is.kinds;
  count = omega (arith, filter_shorter (λ (r : Row). not (bytes_eq r.key key)) t.rows, is.count);
}
