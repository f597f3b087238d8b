-- Secondary indexes: the keys of their entries, the rows that they stand for, what of them a
-- comparison with a literal needs, and how their rows are read.
use Rattle.std.specs.Prelude.{ℕ, ◌+◌, Bool, true, false, ◌&&◌, ◌==◌, nat_le, IsTrue, List, [], ◌∷◌, ◌++◌, map, length, take, drop, bytes_eq, FitsSigned, if◌then◌else◌}
use Rattle.std.specs.Int.{w64}
use Rattle.std.specs.List.{AllByRecursion, position_or_len}
use Rattle.vo_spec.specs.declared.values.Kind.{Kind}
use Rattle.vo_spec.specs.declared.values.Kind.TheVariants as kind
use Rattle.vo_spec.specs.declared.values.Value.{Value}
use Rattle.vo_spec.specs.declared.values.Value.TheVariants.{Int, Text}
use Rattle.vo_spec.specs.declared.values.Row.{Row}
use Rattle.vo_spec.specs.declared.needs.SeenRow.{SeenRow}
use Rattle.vo_spec.specs.declared.tables.Schema.{Schema}
use Rattle.vo_spec.specs.declared.keys.Bound.TheVariants.{Absent, Inclusive, Exclusive}
use Rattle.vo_spec.specs.declared.keys.Interval.{Interval}
use Rattle.vo_spec.specs.declared.queries.Cmp.{Cmp}
use Rattle.vo_spec.specs.declared.queries.Cmp.TheVariants as cmp
use Rattle.vo_spec.specs.Values.{key_of, key_lt, value_of_key, is_text}
use Rattle.vo_spec.specs.Tables.{column_at, cell_number, value_at, max_key}
use Rattle.vo_spec.specs.Results.{RowView}
use Rattle.vo_spec.specs.Trees.{RowTree}
use Rattle.vo_spec.specs.Representation.{Represents}

-- The key of a row's entry: the key bytes of the indexed value, a zero, and those of the row's key.
abbrev pub index_key : List ℕ → List ℕ → List ℕ
index_key value key = value ++ 0 ∷ key

-- a row as an index on the column of this cell has it
abbrev pub index_row : ℕ → Row → Row
index_row cell row = record {
  key = index_key (key_of (value_at row.cells cell)) row.key;
  cells = row.cells;
}

-- the row behind those of lower keys that come first, and before one that has its key
abbrev pub put_in_order : Row → List Row → List Row
put_in_order row [] = row ∷ []
put_in_order row (r ∷ rows) = if key_lt r.key row.key then r ∷ put_in_order row rows
    else row ∷ r ∷ rows

-- rows in the order of their keys, those of one key as they are
abbrev pub in_key_order : List Row → List Row
in_key_order [] = []
in_key_order (row ∷ rows) = put_in_order row (in_key_order rows)

-- the rows of an index: one for each row of the table, rising by index key
abbrev pub index_rows : ℕ → List Row → List Row
index_rows cell rows = in_key_order (map (index_row cell) rows)

-- The tree is an index of these rows: it stands for them as the index has them.
abbrev pub IndexesRows : ℕ → RowTree → List Row → Type 0
IndexesRows cell t rows = Represents t (index_rows cell rows)

-- a comparison by which an index is read
abbrev pub has_bounds : Cmp → Bool
has_bounds cmp.Ne = false
has_bounds _ = true

-- The index keys of the values that compare so with one whose key bytes these are.
abbrev pub index_keys_that : Cmp → List ℕ → Interval
index_keys_that cmp.Eq key = record {
  low = Inclusive (key ++ 0 ∷ []);
  high = Exclusive (key ++ 1 ∷ []);
}
index_keys_that cmp.Ne key = record { low = Absent; high = Absent }
index_keys_that cmp.Lt key = record { low = Absent; high = Exclusive (key ++ 0 ∷ []) }
index_keys_that cmp.Le key = record { low = Absent; high = Exclusive (key ++ 1 ∷ []) }
index_keys_that cmp.Gt key = record { low = Inclusive (key ++ 1 ∷ []); high = Absent }
index_keys_that cmp.Ge key = record { low = Inclusive (key ++ 0 ∷ []); high = Absent }

-- An index key is read from its front: a number has eight bytes, and a text ends where the first
-- zero is.

abbrev pub value_length : Kind → List ℕ → ℕ
value_length kind.Int bytes = 8
value_length kind.Text bytes = position_or_len (λ b. b == 0) bytes
value_length kind.Bool bytes = 1

abbrev pub indexed_value : Kind → List ℕ → List ℕ
indexed_value k bytes = take (value_length k bytes) bytes

abbrev pub primary_key : Kind → List ℕ → List ℕ
primary_key k bytes = drop (value_length k bytes + 1) bytes

-- the row of the table that an index's row is of
abbrev pub table_row : Kind → Row → Row
table_row k row = record { key = primary_key k row.key; cells = row.cells }

-- bytes of a value's key: eight, or a text that a column may hold
abbrev pub is_value_key : Kind → List ℕ → Bool
is_value_key kind.Int value = length value == 8
is_value_key kind.Text value = is_text value
is_value_key kind.Bool value = false

-- The bytes are a key of an index on a column of the one kind, in a table whose key is of the
-- other. As the whole is no longer than a key may be, the row's key isn't either.
abbrev pub is_index_key : Kind → Kind → List ℕ → Bool
is_index_key k key_kind bytes =
    nat_le (length bytes) max_key && is_value_key k (indexed_value k bytes)
    && bytes_eq bytes (index_key (indexed_value k bytes) (primary_key k bytes))
    && is_value_key key_kind (primary_key k bytes)

-- a value that an indexed column of this kind may hold; no indexed column is nullable or a BOOLEAN
abbrev pub IsIndexable : Kind → Value → Type 0
IsIndexable kind.Int (Int z) = FitsSigned w64 z
IsIndexable kind.Text (Text s) = IsTrue (is_text s)
IsIndexable _ _ = ⊥

abbrev pub HasValue : Kind → ℕ → Row → Type 0
HasValue k cell row = IsIndexable k (value_at row.cells cell)

abbrev pub HaveValues : Kind → ℕ → List Row → Type 0
HaveValues k cell = AllByRecursion (HasValue k cell)

-- Rows that a scan of an index gives, as the value of each column: the key and the indexed column
-- are read from the index key, the others from the cells that the scan asks for.

abbrev pub kind_in : Schema → ℕ → Kind
kind_in schema column = (column_at schema.columns column).kind

abbrev pub index_row_view : Schema → ℕ → List ℕ → SeenRow → RowView
index_row_view schema indexed cells row column =
    if column == schema.key
    then value_of_key (kind_in schema column) (primary_key (kind_in schema indexed) row.key)
    else if column == indexed
    then value_of_key (kind_in schema indexed) (indexed_value (kind_in schema indexed) row.key)
    else value_at row.values (position_or_len (λ c. c == cell_number schema.key column) cells)
