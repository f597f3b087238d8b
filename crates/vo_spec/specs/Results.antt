-- What a query gives on plain tables: filters and nested loops.
use Rattle.std.specs.Prelude.{ℕ, zero, suc, ◌+◌, Bool, true, not, ◌&&◌, ◌==◌, nat_lt, if◌then◌else◌, List, [], ◌∷◌, ◌++◌, map, length, slice_index_or, take, filter, flat_map, count_by, Option, Some, None, option_map, option_to_list, is_some, bytes_eq}
use Rattle.std.specs.Option.{option_map_or}
use Rattle.std.specs.List.{list_any, position_or_len}
use Rattle.vo_spec.specs.declared.values.Kind.{Kind}
use Rattle.vo_spec.specs.declared.values.Value.{Value}
use Rattle.vo_spec.specs.declared.values.Row.{Row}
use Rattle.vo_spec.specs.declared.tables.Schema.{Schema}
use Rattle.vo_spec.specs.declared.tables.Table.{Table}
use Rattle.vo_spec.specs.declared.queries.Ref.{Ref}
use Rattle.vo_spec.specs.declared.queries.Source.{Source}
use Rattle.vo_spec.specs.declared.queries.Join.{Join}
use Rattle.vo_spec.specs.declared.queries.Items.{Items}
use Rattle.vo_spec.specs.declared.queries.Items.TheVariants.{All, Refs}
use Rattle.vo_spec.specs.declared.queries.Cmp.TheVariants as cmp
use Rattle.vo_spec.specs.declared.queries.Operand.{Operand}
use Rattle.vo_spec.specs.declared.queries.Operand.TheVariants.{Ref as Column_of, Literal}
use Rattle.vo_spec.specs.declared.queries.QueryFault.{QueryFault}
use Rattle.vo_spec.specs.declared.queries.QueryFault.TheVariants.{NoTable, NoColumn, Ambiguous, TypeMismatch, NotKeyJoin}
use Rattle.vo_spec.specs.declared.queries.Outcome.{Outcome}
use Rattle.vo_spec.specs.declared.queries.Outcome.TheVariants.{Rows, Wrong}
use Rattle.vo_spec.specs.Firsts.{first_of, first_some}
use Rattle.vo_spec.specs.Values.{same_kind, is_of_kind, value_of_key}
use Rattle.vo_spec.specs.Tables.{TableHeader, table_header_of, table_header_named, rows_named, column_at, column_number, has_column, cell_number, value_at}
use Rattle.vo_spec.specs.Conditions.{condition_refs, comparisons, comparison_truth, is_true, is_met, Query}

-- The sources.

abbrev pub sources : Query → List Source
sources q = q.left ∷ option_to_list (option_map (λ (j : Join). j.right) q.join)

-- a source with its table's schema
pub record BoundSource : Type 0 where
  pub alias : List ℕ
  pub table : List ℕ
  pub schema : Schema

abbrev pub no_schema : Schema
no_schema = record { columns = []; key = 0 }

abbrev pub no_bound_source : BoundSource
no_bound_source = record { alias = []; table = []; schema = no_schema }

abbrev pub bound_source_of : List TableHeader → Source → BoundSource
bound_source_of table_headers s = record {
  alias = s.alias;
  table = s.table;
  schema = option_map_or (λ (h : TableHeader). h.schema)
      (table_header_named s.table table_headers) no_schema;
}

abbrev pub bound_sources : List TableHeader → Query → List BoundSource
bound_sources table_headers q = map (bound_source_of table_headers) (sources q)

abbrev pub bound_source_at : List BoundSource → ℕ → BoundSource
bound_source_at ss i = slice_index_or ss i no_bound_source

abbrev pub schema_at : List BoundSource → ℕ → Schema
schema_at ss i = (bound_source_at ss i).schema

-- References.

-- whether the reference speaks of this source, and of a column that it has
abbrev pub qualifies : Ref → BoundSource → Bool
qualifies r bound_source = option_map_or (bytes_eq bound_source.alias) r.qualifier true

abbrev pub means_column_of : Ref → BoundSource → Bool
means_column_of r bound_source = qualifies r bound_source
    && has_column bound_source.schema.columns r.column

-- where a reference's column stands: the number of the source, and of the column in its schema
pub record ColumnPlace : Type 0 where
  pub bound_source : ℕ
  pub column : ℕ

abbrev pub place_of : List BoundSource → Ref → ColumnPlace
place_of ss r = let bound_source = position_or_len (means_column_of r) ss in
    record {
      bound_source = bound_source;
      column = column_number (schema_at ss bound_source).columns r.column;
    }

abbrev pub kind_at : List BoundSource → ColumnPlace → Kind
kind_at ss place = (column_at (schema_at ss place.bound_source).columns place.column).kind

abbrev pub ref_kind : List BoundSource → Ref → Kind
ref_kind ss r = kind_at ss (place_of ss r)

-- the references in the order of the text
abbrev pub item_refs : Items → List Ref
item_refs All = []
item_refs (Refs rs) = rs

abbrev pub join_refs : Join → List Ref
join_refs j = j.left_ref ∷ j.right_ref ∷ []

abbrev pub query_refs : Query → List Ref
query_refs q = item_refs q.items ++ option_map_or join_refs q.join []
    ++ option_map_or condition_refs q.condition []

-- The tests of a query, in their order.

abbrev pub missing_table : List TableHeader → Source → Option QueryFault
missing_table table_headers s = if is_some (table_header_named s.table table_headers) then None
    else Some (NoTable s.table)

abbrev pub alias_ref : List ℕ → Ref
alias_ref alias = record { qualifier = None; column = alias }

abbrev pub same_alias : List Source → Option QueryFault
same_alias (a ∷ b ∷ _) = if bytes_eq a.alias b.alias
    then Some (Ambiguous (alias_ref a.alias)) else None
same_alias _ = None

abbrev pub qualifier_of : Ref → List ℕ
qualifier_of r = option_map_or (λ q. q) r.qualifier []

abbrev pub ref_fault : List BoundSource → Ref → Option QueryFault
ref_fault ss r = first_of
    ((not (list_any (qualifies r) ss), NoTable (qualifier_of r))
    ∷ (not (list_any (means_column_of r) ss), NoColumn r)
    ∷ (nat_lt 1 (count_by (means_column_of r) ss), Ambiguous r)
    ∷ [])

-- ON's columns: that of the left source, and that of the right one
abbrev pub join_places : List BoundSource → Join → ColumnPlace × ColumnPlace
join_places ss j = let a = place_of ss j.left_ref in let b = place_of ss j.right_ref in
    if a.bound_source == 1 then (b, a) else (a, b)

abbrev pub is_key_join : List BoundSource → Join → Bool
is_key_join ss j = let p = join_places ss j in
    p.0.bound_source == 0 && p.1.bound_source == 1 && p.1.column == (schema_at ss 1).key

abbrev pub join_fault : List BoundSource → Join → Option QueryFault
join_fault ss j = first_of
    ((not (is_key_join ss j), NotKeyJoin)
    ∷ (not (same_kind (ref_kind ss j.left_ref) (ref_kind ss j.right_ref)), TypeMismatch)
    ∷ [])

abbrev pub is_operand_of : List BoundSource → Kind → Operand → Bool
is_operand_of ss k (Column_of r) = same_kind k (ref_kind ss r)
is_operand_of ss k (Literal v) = is_of_kind k v

abbrev pub kind_fault : List BoundSource → Ref × Operand → Option QueryFault
kind_fault ss c = if is_operand_of ss (ref_kind ss c.0) c.1 then None else Some TypeMismatch

abbrev pub binding_fault : List TableHeader → Query → Option QueryFault
binding_fault table_headers q = let ss = bound_sources table_headers q in first_some
    (map (missing_table table_headers) (sources q)
    ++ (same_alias (sources q) ∷ [])
    ++ map (ref_fault ss) (query_refs q)
    ++ map (join_fault ss) (option_to_list q.join)
    ++ map (kind_fault ss) (option_map_or comparisons q.condition []))

-- The columns that a query shows, and their titles.

abbrev pub numbers_from : ℕ → ℕ → List ℕ
numbers_from first zero = []
numbers_from first (suc n) = first ∷ numbers_from (first + 1) n

-- a place for each column of a source
abbrev pub places_in : List BoundSource → ℕ → List ColumnPlace
places_in ss bound_source = map (λ column. record { bound_source = bound_source; column = column })
    (numbers_from 0 (length (schema_at ss bound_source).columns))

abbrev pub shown_places : List BoundSource → Items → List ColumnPlace
shown_places ss All = flat_map (places_in ss) (numbers_from 0 (length ss))
shown_places ss (Refs rs) = map (place_of ss) rs

-- `alias.column`
abbrev pub dotted_title : List ℕ → List ℕ → List ℕ
dotted_title alias column = alias ++ 46 ∷ column

abbrev pub ref_title : Ref → List ℕ
ref_title r = option_map_or (λ q. dotted_title q r.column) r.qualifier r.column

-- a column's title under `*`: its name, and in a join with its source's alias
abbrev pub place_title : List BoundSource → ColumnPlace → List ℕ
place_title ss p = let name = (column_at (schema_at ss p.bound_source).columns p.column).name in
    if length ss == 1 then name else dotted_title (bound_source_at ss p.bound_source).alias name

abbrev pub header : List BoundSource → Items → List (List ℕ)
header ss All = map (place_title ss) (shown_places ss All)
header ss (Refs rs) = map ref_title rs

-- Rows. A row is here the value of each column, by the column's number.

abbrev pub RowView : Type 0
RowView = ℕ → Value

abbrev pub row_view_of : Schema → Row → RowView
row_view_of schema row column =
    if column == schema.key then value_of_key (column_at schema.columns column).kind row.key
    else value_at row.cells (cell_number schema.key column)

abbrev pub no_row_view : RowView
no_row_view column = value_at [] 0

-- what rows of the sources, one of each, have at a place and for a reference
abbrev pub place_value : List RowView → ColumnPlace → Value
place_value rows p = slice_index_or rows p.bound_source no_row_view p.column

abbrev pub ref_value : List BoundSource → List RowView → Ref → Value
ref_value ss rows r = place_value rows (place_of ss r)

-- whether ON's columns are equal, neither of them NULL
abbrev pub is_joined : List BoundSource → List RowView → Option Join → Bool
is_joined ss rows None = true
is_joined ss rows (Some j) = is_true
    (comparison_truth cmp.Eq (ref_value ss rows j.left_ref) (ref_value ss rows j.right_ref))

abbrev pub is_answer : List BoundSource → Query → List RowView → Bool
is_answer ss q rows = is_joined ss rows q.join && is_met (ref_value ss rows) q.condition

-- each left row alone, or in a join beside each of its right rows in turn
abbrev pub combinations : Option Join → List RowView → (RowView → List RowView)
    → List (List RowView)
combinations None lefts rights = map (λ left. left ∷ []) lefts
combinations (Some j) lefts rights =
    flat_map (λ left. map (λ right. left ∷ right ∷ []) (rights left)) lefts

-- What the query shows of left rows, each with its right rows, whatever its limit: those that meet
-- it, projected.
abbrev pub unlimited_rows : List BoundSource → Query → List RowView → (RowView → List RowView)
    → List (List Value)
unlimited_rows ss q lefts rights =
    map (λ rows. map (place_value rows) (shown_places ss q.items))
    (filter (is_answer ss q) (combinations q.join lefts rights))

-- the first of them, where no more than so many are wanted
abbrev pub first_rows : {A : Type 0} → Option ℕ → List A → List A
first_rows None rows = rows
first_rows (Some n) rows = take n rows

abbrev pub answer_rows : List BoundSource → Query → List RowView → (RowView → List RowView)
    → List (List Value)
answer_rows ss q lefts rights = first_rows q.limit (unlimited_rows ss q lefts rights)

abbrev pub outcome : Option QueryFault → List (List ℕ) → List (List Value) → Outcome
outcome None titles rows = Rows titles rows
outcome (Some fault) titles rows = Wrong fault

abbrev pub row_views_at : List Table → List BoundSource → ℕ → List RowView
row_views_at tables ss i = map (row_view_of (schema_at ss i))
    (rows_named (bound_source_at ss i).table tables)

-- The result of a query on plain tables.
unfoldable pub result : Query → List Table → Outcome
result q tables = let ss = bound_sources (map table_header_of tables) q in
    outcome (binding_fault (map table_header_of tables) q) (header ss q.items)
    (answer_rows ss q (row_views_at tables ss 0) (λ left. row_views_at tables ss 1))
