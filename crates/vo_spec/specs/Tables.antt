-- Plain tables, and what commands and batches make of them.
use Rattle.std.specs.Prelude.{ℕ, ◌+◌, ◌-◌, Bool, true, false, not, ◌&&◌, ◌||◌, ◌==◌, nat_lt, nat_le, if◌then◌else◌, List, [], ◌∷◌, map, length, remove, slice_index_or, slice_set, filter, find, fold, Option, Some, Result, Ok, Err, is_some, bytes_eq}
use Rattle.std.specs.Option.{option_map_or}
use Rattle.std.specs.Result.{result_unwrap_or}
use Rattle.std.specs.List.{list_any, list_all, position_or_len}
use Rattle.vo_spec.specs.declared.values.Kind.TheVariants as kind
use Rattle.vo_spec.specs.declared.values.Value.{Value}
use Rattle.vo_spec.specs.declared.values.Value.TheVariants.{Bool as Truth}
use Rattle.vo_spec.specs.declared.values.Row.{Row}
use Rattle.vo_spec.specs.declared.tables.Column.{Column}
use Rattle.vo_spec.specs.declared.tables.Schema.{Schema}
use Rattle.vo_spec.specs.declared.tables.Table.{Table}
use Rattle.vo_spec.specs.declared.tables.SetPart.{SetPart}
use Rattle.vo_spec.specs.declared.tables.Command.{Command}
use Rattle.vo_spec.specs.declared.tables.Command.TheVariants.{Create, Drop, Insert, Update, Delete}
use Rattle.vo_spec.specs.declared.tables.CommandFault.{CommandFault}
use Rattle.vo_spec.specs.declared.tables.CommandFault.TheVariants.{TableExists, NoTable, BadSchema, Arity, TypeMismatch, DuplicateKey, NoRow, TableFull, TooManyTables, KeyTooLong, NoColumn, NotKey, BadSet, NotNull}
use Rattle.vo_spec.specs.Firsts.{first_of, unless, and_then}
use Rattle.vo_spec.specs.Values.{same_kind, is_null, is_of_kind, key_of, key_lt}

-- how many tables there may be, rows in a table, bytes in a stored key
abbrev pub max_tables : ℕ
max_tables = 64

abbrev pub max_rows : ℕ
max_rows = 4294967295

abbrev pub max_key : ℕ
max_key = 255

-- Columns.

-- what stands past the end of a list, where nobody looks
abbrev pub no_value : Value
no_value = Truth false

abbrev pub no_column : Column
no_column = record { name = []; kind = kind.Int; nullable = false }

abbrev pub value_at : List Value → ℕ → Value
value_at values i = slice_index_or values i no_value

abbrev pub column_at : List Column → ℕ → Column
column_at columns i = slice_index_or columns i no_column

-- the number of the column of this name, or else how many there are
abbrev pub column_number : List Column → List ℕ → ℕ
column_number columns name = position_or_len (λ c. bytes_eq c.name name) columns

-- the column of this name
abbrev pub column_named : List Column → List ℕ → Column
column_named columns name = column_at columns (column_number columns name)

abbrev pub has_column : List Column → List ℕ → Bool
has_column columns name = nat_lt (column_number columns name) (length columns)

-- a column's number among those that aren't the key: the place of its cell in a row
abbrev pub cell_number : ℕ → ℕ → ℕ
cell_number key column = if nat_lt column key then column else column - 1

-- whether two names are the same
abbrev pub has_twice : List (List ℕ) → Bool
has_twice [] = false
has_twice (name ∷ names) = list_any (bytes_eq name) names || has_twice names

-- whether each value is of its column's kind, column by column
abbrev pub are_of_kinds : List Column → List Value → Bool
are_of_kinds [] [] = true
are_of_kinds (c ∷ columns) (v ∷ values) = is_of_kind c.kind v && are_of_kinds columns values
are_of_kinds _ _ = false

-- whether the column may have the value, as far as NULL goes
abbrev pub allows : Column → Value → Bool
allows c v = c.nullable || not (is_null v)

-- whether each column may have its value, as far as NULL goes, column by column
abbrev pub allow_each : List Column → List Value → Bool
allow_each (c ∷ columns) (v ∷ values) = allows c v && allow_each columns values
allow_each _ _ = true

-- Tables without their rows, by which nearly all refusals go.

pub record TableHeader : Type 0 where
  pub name : List ℕ
  pub schema : Schema
  pub count : ℕ

abbrev pub table_header_of : Table → TableHeader
table_header_of t = record { name = t.name; schema = t.schema; count = length t.rows }

abbrev pub table_header_named : List ℕ → List TableHeader → Option TableHeader
table_header_named name = find (λ (h : TableHeader). bytes_eq h.name name)

-- the first of the tests on the table of this name that holds, where there is that table
abbrev pub on_table : List ℕ → List TableHeader → (TableHeader → List (Bool × CommandFault))
    → Option CommandFault
on_table name table_headers tests =
    option_map_or (λ h. first_of (tests h)) (table_header_named name table_headers) (Some NoTable)

-- no schema: two columns of one name, or a key that is no column, a BOOLEAN or nullable
abbrev pub is_bad_schema : List Column → List ℕ → Bool
is_bad_schema columns key =
    has_twice (map (λ (c : Column). c.name) columns)
    || not (has_column columns key)
    || same_kind (column_named columns key).kind kind.Bool
    || (column_named columns key).nullable

abbrev pub is_key : Schema → List ℕ → Bool
is_key schema name = column_number schema.columns name == schema.key

-- whether the value is of the kind of the column of this name
abbrev pub suits : List Column → List ℕ → Value → Bool
suits columns name value = is_of_kind (column_named columns name).kind value

-- The tests of each command, in their order, but for those that need the rows (DuplicateKey,
-- NoRow).

abbrev pub Tests : Type 0
Tests = List (Bool × CommandFault)

abbrev pub create_tests : List ℕ → List Column → List ℕ → List TableHeader → Tests
create_tests name columns key table_headers =
    (is_some (table_header_named name table_headers), TableExists)
    ∷ (nat_le max_tables (length table_headers), TooManyTables)
    ∷ (is_bad_schema columns key, BadSchema)
    ∷ []

abbrev pub insert_tests : List Value → TableHeader → Tests
insert_tests values h =
    (not (length values == length h.schema.columns), Arity)
    ∷ (not (are_of_kinds h.schema.columns values), TypeMismatch)
    ∷ (
      is_null (value_at values h.schema.key) || not (allow_each h.schema.columns values),
      NotNull,
    )
    ∷ (nat_lt max_key (length (key_of (value_at values h.schema.key))), KeyTooLong)
    ∷ (nat_le max_rows h.count, TableFull)
    ∷ []

abbrev pub update_tests : List SetPart → List ℕ → Value → TableHeader → Tests
update_tests sets column value h = (
  not (list_all (λ (s : SetPart). has_column h.schema.columns s.column) sets
      && has_column h.schema.columns column),
  NoColumn,
)
    ∷ (not (is_key h.schema column), NotKey)
    ∷ (
      list_any (λ (s : SetPart). is_key h.schema s.column) sets
          || has_twice (map (λ (s : SetPart). s.column) sets),
      BadSet,
    )
    ∷ (
      not (list_all (λ (s : SetPart). suits h.schema.columns s.column s.value) sets
          && suits h.schema.columns column value),
      TypeMismatch,
    )
    ∷ (
      is_null value || not (list_all
          (λ (s : SetPart). allows (column_named h.schema.columns s.column) s.value) sets),
      NotNull,
    )
    ∷ []

abbrev pub delete_tests : List ℕ → Value → TableHeader → Tests
delete_tests column value h =
    (not (has_column h.schema.columns column), NoColumn)
    ∷ (not (is_key h.schema column), NotKey)
    ∷ (not (suits h.schema.columns column value), TypeMismatch)
    ∷ (is_null value, NotNull)
    ∷ []

-- the first of a command's tests that holds
abbrev pub refusal : Command → List TableHeader → Option CommandFault
refusal (Create name columns key) table_headers =
    first_of (create_tests name columns key table_headers)
refusal (Drop name) table_headers = on_table name table_headers (λ h. [])
refusal (Insert name values) table_headers = on_table name table_headers (insert_tests values)
refusal (Update name sets column value) table_headers =
    on_table name table_headers (update_tests sets column value)
refusal (Delete name column value) table_headers =
    on_table name table_headers (delete_tests column value)

-- Rows.

-- the row of a full list of values, its key apart
abbrev pub row_of : Schema → List Value → Row
row_of schema values = record {
  key = key_of (value_at values schema.key);
  cells = remove values schema.key;
}

abbrev pub has_row : List ℕ → List Row → Bool
has_row key = list_any (λ (r : Row). bytes_eq r.key key)

-- with this row before the first of a greater key
abbrev pub put_row : Row → List Row → List Row
put_row row [] = row ∷ []
put_row row (r ∷ rows) = if key_lt row.key r.key then row ∷ r ∷ rows else r ∷ put_row row rows

abbrev pub without_row : List ℕ → List Row → List Row
without_row key = filter (λ (r : Row). not (bytes_eq r.key key))

-- a place among a row's cells, and the value that it gets
pub record CellChange : Type 0 where
  pub column : ℕ
  pub value : Value

abbrev pub changed_cells : List CellChange → List Value → List Value
changed_cells changes cells = fold
    (λ (vs : List Value) (c : CellChange). slice_set vs c.column c.value) cells changes

abbrev pub changed_row : List ℕ → List CellChange → Row → Row
changed_row key changes row = if bytes_eq row.key key
    then record { key = row.key; cells = changed_cells changes row.cells } else row

abbrev pub cell_changes : Schema → List SetPart → List CellChange
cell_changes schema = map (λ (s : SetPart).
    record {
      column = cell_number schema.key (column_number schema.columns s.column);
      value = s.value;
    })

-- Tables.

abbrev pub table_named : List ℕ → List Table → Option Table
table_named name = find (λ (t : Table). bytes_eq t.name name)

abbrev pub rows_named : List ℕ → List Table → List Row
rows_named name tables = option_map_or (λ (t : Table). t.rows) (table_named name tables) []

-- with this table before the first of a greater name
abbrev pub put_table : Table → List Table → List Table
put_table table [] = table ∷ []
put_table table (t ∷ tables) = if key_lt table.name t.name then table ∷ t ∷ tables
    else t ∷ put_table table tables

-- with other rows in the table of this name
abbrev pub with_rows : List ℕ → (Table → List Row) → List Table → List Table
with_rows name rows = map (λ (t : Table). if bytes_eq t.name name
    then record { name = t.name; schema = t.schema; rows = rows t } else t)

-- what a command that no table header refuses makes of the tables, or the refusal that needs the
-- rows
abbrev pub change_tables : Command → List Table → Result (List Table) CommandFault
change_tables (Create name columns key) tables =
    Ok (put_table (record {
      name = name;
      schema = record { columns = columns; key = column_number columns key };
      rows = [];
    }) tables)
change_tables (Drop name) tables = Ok (filter (λ (t : Table). not (bytes_eq t.name name)) tables)
change_tables (Insert name values) tables =
    if option_map_or (λ (t : Table). has_row (row_of t.schema values).key t.rows)
    (table_named name tables) false
    then Err DuplicateKey
    else Ok (with_rows name (λ t. put_row (row_of t.schema values) t.rows) tables)
change_tables (Update name sets column value) tables =
    if has_row (key_of value) (rows_named name tables)
    then Ok (with_rows name (λ t. map (changed_row (key_of value) (cell_changes t.schema sets))
    t.rows) tables)
    else Err NoRow
change_tables (Delete name column value) tables =
    if has_row (key_of value) (rows_named name tables)
    then Ok (with_rows name (λ t. without_row (key_of value) t.rows) tables)
    else Err NoRow

-- The tables after a command, or its first refusal.
unfoldable pub apply : Command → List Table → Result (List Table) CommandFault
apply command tables = and_then (change_tables command)
    (unless (refusal command (map table_header_of tables)) tables)

-- a refusal with its command's number
abbrev pub with_index : ℕ → Result (List Table) CommandFault
    → Result (List Table) (ℕ × CommandFault)
with_index index (Ok after) = Ok after
with_index index (Err fault) = Err (index, fault)

-- commands in order, the first of them the one of this number
abbrev pub apply_from : ℕ → List Command → List Table → Result (List Table) (ℕ × CommandFault)
apply_from index [] tables = Ok tables
apply_from index (command ∷ commands) tables =
    and_then (apply_from (index + 1) commands) (with_index index (apply command tables))

-- The tables after a batch; the first refused command refuses it whole.
abbrev pub apply_batch : List Command → List Table → Result (List Table) (ℕ × CommandFault)
apply_batch = apply_from 0

-- a batch that is refused leaves the tables
abbrev pub after_batch : List Table → List Command → List Table
after_batch tables batch = result_unwrap_or (apply_batch batch tables) tables

-- The tables after these batches, from none.
unfoldable pub tables_after : List (List Command) → List Table
tables_after batches = fold after_batch [] batches
