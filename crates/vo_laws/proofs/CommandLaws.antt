-- Commands on plain tables: what a command that isn't refused keeps of them, and the facts of a row
-- that is inserted.
use Rattle.std.proofs.Common.{◌≡◌, ℕ, zero, suc, ◌+◌, ◌<◌, ◌≤◌, Bool, true, false, cond, List, [], ◌∷◌, Option, Some, None, length, map, take, drop, inl, inr, refl, sym, ap, ◌∙◌, arith}
use Rattle.std.specs.Prelude.{◌||◌, ◌==◌, not, nat_le, filter, remove, option_map, bytes_eq, is_some}
use Rattle.std.specs.Option.{option_map_or}
use Rattle.std.specs.List.{AllByRecursion}
use Rattle.std.proofs.lemmas.Bool.{and_parts, or_parts, both_ways, cases_Bool, not-true, not_from_false, eqb-true, ltb-true, ltb-false, leb-false, and_from, eq-eqb, le-leb}
use Rattle.std.proofs.lemmas.Slice.Eq.{bytes_eq-Decides}
use Rattle.std.proofs.lemmas.List.Edits.{length-remove}
use Rattle.std.proofs.lemmas.List.{length-map}
use Rattle.std.proofs.lemmas.List.Elements.{All-from_recursion}
use Rattle.vo_spec.specs.declared.values.Kind.{Kind}
use Rattle.vo_spec.specs.declared.values.Kind.TheVariants as kind
use Rattle.vo_spec.specs.declared.values.Value.{Value}
use Rattle.vo_spec.specs.declared.values.Value.TheVariants.{Null, Int, Text, Bool as Truth}
use Rattle.vo_spec.specs.declared.values.Row.{Row}
use Rattle.vo_spec.specs.declared.tables.Column.{Column}
use Rattle.vo_spec.specs.declared.tables.Table.{Table}
use Rattle.vo_spec.specs.declared.tables.Command.TheVariants.{Create, Insert}
use Rattle.vo_spec.specs.declared.tables.CommandFault.{CommandFault}
use Rattle.vo_spec.specs.declared.tables.CommandFault.TheVariants.{TableExists, NoTable, BadSchema, TooManyTables}
use Rattle.vo_spec.specs.Firsts.{first_of}
use Rattle.vo_spec.specs.Values.{same_kind, is_null, is_of_kind, key_of, key_lt, FitsValue, IsInRange, IsKeyOf, is_text}
use Rattle.vo_spec.specs.Tables.{max_tables, max_rows, max_key, value_at, column_at, column_number, column_named, has_column, has_twice, are_of_kinds, allows, allow_each, TableHeader, table_header_of, table_header_named, is_bad_schema, insert_tests, on_table, refusal, row_of, put_row, table_named, put_table}
use Rattle.vo_spec.specs.Batches.{FitCounted, FitsCommand}
use Rattle.vo_spec.specs.Records.{FitsSchema}
use Rattle.vo_spec.specs.Fits.{FitsRow}
use Rattle.vo_spec.specs.Representation.{AreRising}
use Rattle.vo_spec.specs.Checks.{key_kind, is_key_of}
use Rattle.vo_laws.specs.FittingTables.{HasKinds, FitsTable, names_of, FitTables}
use Rattle.vo_laws.proofs.KeyOrder.{same_key, key_lt_lt}
pub use Rattle.vo_laws.proofs.ListLaws.{each_filter}
use Rattle.vo_laws.proofs.ListLaws.{each_weaker, each_both, each_map, each_mapped}
use Rattle.vo_laws.proofs.ValueOrder.{number_length}

pub not_false : (b : Bool) → not b ≡ false → b ≡ true
not_false true e = refl
not_false false e = absurd (cc)

-- None of the tests holds where none gives a fault.
none_holds : {F : Type 0} (tests : List (Bool × F)) → first_of tests ≡ None → AllByRecursion (λ (t : Bool × F). t.0 ≡ false) tests
none_holds [] e = tt
none_holds {F} (t ∷ tests) e = step t.0 refl e (none_holds tests)
  where
    step : (b : Bool) → t.0 ≡ b → cond b (Some t.1) (first_of tests) ≡ None → (first_of tests ≡ None → AllByRecursion (λ (x : Bool × F). x.0 ≡ false) tests)
        → (t.0 ≡ false) × AllByRecursion (λ (x : Bool × F). x.0 ≡ false) tests
    step true f e rest = absurd (cc)
    step false f e rest = (f, rest e)

table_header_found : (name : List ℕ) (tables : List Table) → table_header_named name (map table_header_of tables) ≡ option_map table_header_of (table_named name tables)
table_header_found name [] = refl
table_header_found name (t ∷ tables) = step (bytes_eq t.name name) (table_header_found name tables)
  where
    step : (b : Bool) → table_header_named name (map table_header_of tables) ≡ option_map table_header_of (table_named name tables)
        → cond b (Some (table_header_of t)) (table_header_named name (map table_header_of tables)) ≡ option_map table_header_of (cond b (Some t) (table_named name tables))
    step true rest = refl
    step false rest = rest

-- what is known of a row that no table header refuses
pub record IsInsertable (t : Table) (values : List Value) : Type 0 where
  pub arity : length values ≡ length t.schema.columns
  pub kinds : are_of_kinds t.schema.columns values ≡ true
  pub given : is_null (value_at values t.schema.key) ≡ false
  pub allowed : allow_each t.schema.columns values ≡ true
  pub short : length (key_of (value_at values t.schema.key)) ≤ max_key
  pub room : length t.rows < max_rows

-- the table of a command that no table header refuses is there, and none of the command's tests on
-- it holds
pub table_there : (name : List ℕ) (tests : TableHeader → List (Bool × CommandFault)) (tables : List Table) → on_table name (map table_header_of tables) tests ≡ None
    → is_some (table_named name tables) ≡ true
table_there name tests tables e = step (table_named name tables) (ap (λ o. option_map_or (λ h. first_of (tests h)) o (Some NoTable)) (sym (table_header_found name tables)) ∙ e)
  where
    step : (o : Option Table) → option_map_or (λ h. first_of (tests h)) (option_map table_header_of o) (Some NoTable) ≡ None → is_some o ≡ true
    step (Some t) f = refl
    step None f = absurd (cc)

pub tests_fail : (name : List ℕ) (tests : TableHeader → List (Bool × CommandFault)) (tables : List Table) → on_table name (map table_header_of tables) tests ≡ None
    → (t : Table) → table_named name tables ≡ Some t → AllByRecursion (λ (x : Bool × CommandFault). x.0 ≡ false) (tests (table_header_of t))
tests_fail name tests tables e t found =
    let here : table_header_named name (map table_header_of tables) ≡ Some (table_header_of t) = table_header_found name tables ∙ ap (option_map table_header_of) found in
    none_holds (tests (table_header_of t)) (ap (λ o. option_map_or (λ h. first_of (tests h)) o (Some NoTable)) (sym here) ∙ e)

pub insertable : (name : List ℕ) (values : List Value) (tables : List Table) → refusal (Insert name values) (map table_header_of tables) ≡ None
    → (t : Table) → table_named name tables ≡ Some t → IsInsertable t values
insertable name values tables e t found =
    let tests = tests_fail name (insert_tests values) tables e t found in
    let given = or_parts (is_null (value_at values t.schema.key)) (not (allow_each t.schema.columns values)) tests.1.1.0 in
    record {
      arity = eqb-true (length values) (length t.schema.columns) (not_false (length values == length t.schema.columns) tests.0);
      kinds = not_false (are_of_kinds t.schema.columns values) tests.1.0;
      given = given.0;
      allowed = not_false (allow_each t.schema.columns values) given.1;
      short = ltb-false max_key (length (key_of (value_at values t.schema.key))) tests.1.1.1.0;
      room = leb-false max_rows (length t.rows) tests.1.1.1.1.0;
    }

kind_there : (columns : List Column) (values : List Value) (i : ℕ) → are_of_kinds columns values ≡ true → i < length columns
    → is_of_kind (column_at columns i).kind (value_at values i) ≡ true
kind_there [] values i e lt = absurd (omega arith)
kind_there (c ∷ columns) [] i e lt = absurd (cc)
kind_there (c ∷ columns) (v ∷ values) zero e lt = (and_parts (is_of_kind c.kind v) (are_of_kinds columns values) e).0
kind_there (c ∷ columns) (v ∷ values) (suc i) e lt = kind_there columns values i (and_parts (is_of_kind c.kind v) (are_of_kinds columns values) e).1 (omega arith)

value_there : (values : List Value) (i : ℕ) → AllByRecursion FitsValue values → FitsValue (value_at values i)
value_there [] i all = tt
value_there (v ∷ values) zero all = all.0
value_there (v ∷ values) (suc i) all = value_there values i all.1

in_range : (v : Value) → FitsValue v → IsInRange v
in_range Null fits = tt
in_range (Int z) fits = fits
in_range (Text s) fits = tt
in_range (Truth b) fits = tt

key_of_kind : (k : Kind) (v : Value) → is_of_kind k v ≡ true → is_null v ≡ false → same_kind k kind.Bool ≡ false → IsInRange v → IsKeyOf k (key_of v)
key_of_kind kind.Int Null e given other fits = absurd (cc)
key_of_kind kind.Int (Int z) e given other fits = (z, fits, refl)
key_of_kind kind.Int (Text s) e given other fits = absurd (cc)
key_of_kind kind.Int (Truth b) e given other fits = absurd (cc)
key_of_kind kind.Text v e given other fits = tt
key_of_kind kind.Bool v e given other fits = absurd (cc)

pub key_inserted : (t : Table) (values : List Value) → FitsSchema t.schema → AllByRecursion FitsValue values → IsInsertable t values
    → IsKeyOf (key_kind t.schema) (row_of t.schema values).key
key_inserted t values schema fits is =
    key_of_kind (key_kind t.schema) (value_at values t.schema.key)
    (kind_there t.schema.columns values t.schema.key is.kinds schema.key_in) is.given
    (not-true (same_kind (key_kind t.schema) kind.Bool) schema.key_kind)
    (in_range (value_at values t.schema.key) (value_there values t.schema.key fits))

-- Tables with names that rise, each within its limits.

kinds_removed : (columns : List Column) (values : List Value) (k : ℕ) → are_of_kinds columns values ≡ true
    → are_of_kinds (remove columns k) (remove values k) ≡ true
kinds_removed [] [] zero e = refl
kinds_removed [] [] (suc k) e = refl
kinds_removed [] (v ∷ values) k e = absurd (cc)
kinds_removed (c ∷ columns) [] k e = absurd (cc)
kinds_removed (c ∷ columns) (v ∷ values) zero e = (and_parts (is_of_kind c.kind v) (are_of_kinds columns values) e).1
kinds_removed (c ∷ columns) (v ∷ values) (suc k) e =
    let p = and_parts (is_of_kind c.kind v) (are_of_kinds columns values) e in
    and_from (is_of_kind c.kind v) (are_of_kinds (remove columns k) (remove values k)) p.0 (kinds_removed columns values k p.1)

allow_none : (columns : List Column) → allow_each columns [] ≡ true
allow_none [] = refl
allow_none (c ∷ columns) = refl

allowed_removed : (columns : List Column) (values : List Value) (k : ℕ) → allow_each columns values ≡ true
    → allow_each (remove columns k) (remove values k) ≡ true
allowed_removed [] values zero e = refl
allowed_removed [] values (suc k) e = refl
allowed_removed (c ∷ columns) [] zero e = allow_none columns
allowed_removed (c ∷ columns) [] (suc k) e = refl
allowed_removed (c ∷ columns) (v ∷ values) zero e = (and_parts (allows c v) (allow_each columns values) e).1
allowed_removed (c ∷ columns) (v ∷ values) (suc k) e =
    let p = and_parts (allows c v) (allow_each columns values) e in
    and_from (allows c v) (allow_each (remove columns k) (remove values k)) p.0 (allowed_removed columns values k p.1)

is_key : (k : Kind) (v : Value) → is_of_kind k v ≡ true → is_null v ≡ false → same_kind k kind.Bool ≡ false → FitsValue v → length (key_of v) ≤ max_key
    → is_key_of k (key_of v) ≡ true
is_key kind.Int Null e given other fits short = absurd (cc)
is_key kind.Int (Int z) e given other fits short = eq-eqb (length (key_of (Int z))) 8 (number_length _)
is_key kind.Int (Text s) e given other fits short = absurd (cc)
is_key kind.Int (Truth b) e given other fits short = absurd (cc)
is_key kind.Text Null e given other fits short = absurd (cc)
is_key kind.Text (Int z) e given other fits short = absurd (cc)
is_key kind.Text (Text s) e given other fits short = and_from (nat_le (length s) 255) (is_text s) (le-leb (length s) 255 short) fits
is_key kind.Text (Truth b) e given other fits short = absurd (cc)
is_key kind.Bool v e given other fits short = absurd (cc)

pub row_has_kinds : (t : Table) (values : List Value) → FitsSchema t.schema → AllByRecursion FitsValue values → IsInsertable t values
    → HasKinds t.schema (row_of t.schema values)
row_has_kinds t values schema fits is = record {
  key = is_key (key_kind t.schema) (value_at values t.schema.key)
      (kind_there t.schema.columns values t.schema.key is.kinds schema.key_in) is.given
      (not-true (same_kind (key_kind t.schema) kind.Bool) schema.key_kind) (value_there values t.schema.key fits) is.short;
  cells = kinds_removed t.schema.columns values t.schema.key is.kinds;
  allowed = allowed_removed t.schema.columns values t.schema.key is.allowed;
}

-- A table is dropped.

filter_rises : (test : Table → Bool) (tables : List Table) → AreRising (names_of tables) → AreRising (names_of (filter test tables))
filter_rises test [] r = tt
filter_rises test (t ∷ tables) r = step (test t) (filter_rises test tables r.1)
  where
    step : (b : Bool) → AreRising (names_of (filter test tables)) → AreRising (names_of (cond b (t ∷ filter test tables) (filter test tables)))
    step true rest = (
      each_map (λ k. key_lt t.name k ≡ true) (λ (u : Table). u.name) (filter test tables)
          (each_filter (λ (u : Table). key_lt t.name u.name ≡ true) test tables (each_mapped (λ k. key_lt t.name k ≡ true) (λ (u : Table). u.name) tables r.0)),
      rest,
    )
    step false rest = rest

pub filter_shorter : {A : Type 0} (test : A → Bool) (xs : List A) → length (filter test xs) ≤ length xs
filter_shorter test [] = omega arith
filter_shorter {A} test (x ∷ xs) = step (test x) (filter_shorter test xs)
  where
    step : (b : Bool) → length (filter test xs) ≤ length xs → length (cond b (x ∷ filter test xs) (filter test xs)) ≤ suc (length xs)
    step true rest = omega arith
    step false rest = omega arith

pub dropped_fit : (test : Table → Bool) (tables : List Table) → FitTables tables → FitTables (filter test tables)
dropped_fit test tables fits =
    let shorter : length (filter test tables) ≤ length tables = filter_shorter test tables in
    let few : length tables ≤ max_tables = fits.count in
    record { each = each_filter FitsTable test tables fits.each; rising = filter_rises test tables fits.rising; count = omega arith }

-- A table is made.

named_nowhere : (name : List ℕ) (tables : List Table) → is_some (table_header_named name (map table_header_of tables)) ≡ false → AllByRecursion (λ (t : Table). bytes_eq t.name name ≡ false) tables
named_nowhere name [] e = tt
named_nowhere name (t ∷ tables) e = step (bytes_eq t.name name) refl e (named_nowhere name tables)
  where
    step : (b : Bool) → bytes_eq t.name name ≡ b → is_some (cond b (Some (table_header_of t)) (table_header_named name (map table_header_of tables))) ≡ false
        → (is_some (table_header_named name (map table_header_of tables)) ≡ false → AllByRecursion (λ (u : Table). bytes_eq u.name name ≡ false) tables)
        → (bytes_eq t.name name ≡ false) × AllByRecursion (λ (u : Table). bytes_eq u.name name ≡ false) tables
    step true f e rest = absurd (cc)
    step false f e rest = (f, rest e)

not_named : (name other : List ℕ) → key_lt name other ≡ false → bytes_eq other name ≡ false → key_lt other name ≡ true
not_named name other e f = elim (cases_Bool (key_lt other name)) [
  | inl g ↦ g
  | inr g ↦ absurd (both_ways (bytes_eq other name) f ((bytes_eq-Decides other name).1 (same_key other name g e)))
]

each_put : (P : Table → Type 0) (t : Table) (tables : List Table) → P t → AllByRecursion P tables → AllByRecursion P (put_table t tables)
each_put P t [] p all = (p, tt)
each_put P t (u ∷ tables) p all = step (key_lt t.name u.name) (each_put P t tables p all.1)
  where
    step : (b : Bool) → AllByRecursion P (put_table t tables) → AllByRecursion P (cond b (t ∷ u ∷ tables) (u ∷ put_table t tables))
    step true rest = (p, (all.0, all.1))
    step false rest = (all.0, rest)

put_table_rises : (t : Table) (tables : List Table) → AllByRecursion (λ (u : Table). bytes_eq u.name t.name ≡ false) tables → AreRising (names_of tables)
    → AreRising (names_of (put_table t tables))
put_table_rises t [] new r = (tt, tt)
put_table_rises t (u ∷ tables) new r = step (key_lt t.name u.name) refl (put_table_rises t tables new.1 r.1)
  where
    step : (b : Bool) → key_lt t.name u.name ≡ b → AreRising (names_of (put_table t tables)) → AreRising (names_of (cond b (t ∷ u ∷ tables) (u ∷ put_table t tables)))
    step true lt rest = ((lt, each_weaker (λ k. key_lt u.name k ≡ true) (λ k. key_lt t.name k ≡ true) (λ k g. key_lt_lt t.name u.name k lt g) (names_of tables) r.0), r)
    step false ge rest = (
      each_map (λ k. key_lt u.name k ≡ true) (λ (v : Table). v.name) (put_table t tables)
          (each_put (λ (v : Table). key_lt u.name v.name ≡ true) t tables (not_named t.name u.name ge new.0) (each_mapped (λ k. key_lt u.name k ≡ true) (λ (v : Table). v.name) tables r.0)),
      rest,
    )

put_table_length : (t : Table) (tables : List Table) → length (put_table t tables) ≡ suc (length tables)
put_table_length t [] = refl
put_table_length t (u ∷ tables) = step (key_lt t.name u.name) (put_table_length t tables)
  where
    step : (b : Bool) → length (put_table t tables) ≡ suc (length tables) → length (cond b (t ∷ u ∷ tables) (u ∷ put_table t tables)) ≡ suc (suc (length tables))
    step true rest = refl
    step false rest = ap suc rest

pub created_fit : (name : List ℕ) (columns : List Column) (key : List ℕ) (tables : List Table) → FitsCommand (Create name columns key)
    → refusal (Create name columns key) (map table_header_of tables) ≡ None → FitTables tables
    → FitTables (put_table (record { name = name; schema = record { columns = columns; key = column_number columns key }; rows = [] }) tables)
unfolding FitsCommand
created_fit name columns key tables fits e before =
    let tests = none_holds
    ((is_some (table_header_named name (map table_header_of tables)), TableExists) ∷ (nat_le max_tables (length (map table_header_of tables)), TooManyTables) ∷ (is_bad_schema columns key, BadSchema) ∷ []) e in
    let given = or_parts
    (has_twice (map (λ (c : Column). c.name) columns) || not (has_column columns key) || same_kind (column_named columns key).kind kind.Bool)
    (column_named columns key).nullable tests.1.1.0 in
    let schema = or_parts (has_twice (map (λ (c : Column). c.name) columns) || not (has_column columns key)) (same_kind (column_named columns key).kind kind.Bool) given.0 in
    let names = or_parts (has_twice (map (λ (c : Column). c.name) columns)) (not (has_column columns key)) schema.0 in
    let few : length (map table_header_of tables) < max_tables = leb-false max_tables (length (map table_header_of tables)) tests.1.0 in
    let made : Table = record { name = name; schema = record { columns = columns; key = column_number columns key }; rows = [] } in
    let longer : length (put_table made tables) ≡ suc (length tables) = put_table_length made tables in
    record {
      each = each_put FitsTable made tables
          (record {
            name = fits.0;
            schema = record {
              columns = fits.1;
              once = not_from_false (has_twice (map (λ (c : Column). c.name) columns)) names.0;
              key_in = ltb-true (column_number columns key) (length columns) (not_false (has_column columns key) names.1);
              key_kind = not_from_false (same_kind (column_named columns key).kind kind.Bool) schema.1;
              key_given = not_from_false (column_named columns key).nullable given.1;
            };
            rows = tt;
            kinds = tt;
            count = omega arith;
          }) before.each;
      rising = put_table_rises made tables (named_nowhere name tables tests.0) before.rising;
      count = omega (arith, length-map tables table_header_of);
    }

-- A row is put into a table.

pub each_put_row : (P : Row → Type 0) (row : Row) (rows : List Row) → P row → AllByRecursion P rows → AllByRecursion P (put_row row rows)
each_put_row P row [] p all = (p, tt)
each_put_row P row (r ∷ rows) p all = step (key_lt row.key r.key) (each_put_row P row rows p all.1)
  where
    step : (b : Bool) → AllByRecursion P (put_row row rows) → AllByRecursion P (cond b (row ∷ r ∷ rows) (r ∷ put_row row rows))
    step true rest = (p, (all.0, all.1))
    step false rest = (all.0, rest)

pub put_row_length : (row : Row) (rows : List Row) → length (put_row row rows) ≡ suc (length rows)
put_row_length row [] = refl
put_row_length row (r ∷ rows) = step (key_lt row.key r.key) (put_row_length row rows)
  where
    step : (b : Bool) → length (put_row row rows) ≡ suc (length rows) → length (cond b (row ∷ r ∷ rows) (r ∷ put_row row rows)) ≡ suc (suc (length rows))
    step true rest = refl
    step false rest = ap suc rest

each_loadable : (n : ℕ) (values : List Value) → AllByRecursion FitsValue values → AllByRecursion FitsValue (take n values)
each_loadable zero values all = tt
each_loadable (suc n) [] all = tt
each_loadable (suc n) (v ∷ values) all = (all.0, each_loadable n values all.1)

each_dropped : (n : ℕ) (values : List Value) → AllByRecursion FitsValue values → AllByRecursion FitsValue (drop n values)
each_dropped zero values all = all
each_dropped (suc n) [] all = tt
each_dropped (suc n) (v ∷ values) all = each_dropped n values all.1

pub row_fits : (t : Table) (values : List Value) → FitsSchema t.schema → FitCounted FitsValue values → IsInsertable t values → FitsRow (row_of t.schema values)
row_fits t values schema fits is =
    let key_in : t.schema.key < length t.schema.columns = schema.key_in in
    let arity : length values ≡ length t.schema.columns = is.arity in
    let one_less : length (remove values t.schema.key) + 1 ≡ length values = length-remove values t.schema.key (omega arith) in
    let many : length values ≤ 32 = fits.1 in
    record {
      key = is.short;
      cells = record {
        count = omega arith;
        each = All-from_recursion FitsValue (remove values t.schema.key)
            (each_both FitsValue (take t.schema.key values) (drop (suc t.schema.key) values) (each_loadable t.schema.key values fits.2) (each_dropped (suc t.schema.key) values fits.2));
      };
    }
