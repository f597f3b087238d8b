-- What a query needs of its tables' trees: of the left one an interval of keys, of the right one a
-- row for each left row that meets the query so far, and of both the columns that the query names.
use Rattle.std.specs.Prelude.{ℕ, Bool, true, false, not, ◌&&◌, ◌||◌, ◌==◌, if◌then◌else◌, List, [], ◌∷◌, map, length, slice_index_or, filter, flat_map, Option, Some, None, option_to_list, unwrap_or, bytes_eq}
use Rattle.std.specs.Option.{option_map_or}
use Rattle.std.specs.List.{list_any, list_all, position_or_len}
use Rattle.vo_spec.specs.declared.values.Value.{Value}
use Rattle.vo_spec.specs.declared.keys.Bound.{Bound}
use Rattle.vo_spec.specs.declared.keys.Bound.TheVariants.{Absent, Inclusive, Exclusive}
use Rattle.vo_spec.specs.declared.keys.Interval.{Interval}
use Rattle.vo_spec.specs.declared.needs.Need.{Need}
use Rattle.vo_spec.specs.declared.needs.SeenRow.{SeenRow}
use Rattle.vo_spec.specs.declared.tables.Schema.{Schema}
use Rattle.vo_spec.specs.declared.queries.Ref.{Ref}
use Rattle.vo_spec.specs.declared.queries.Cmp.{Cmp}
use Rattle.vo_spec.specs.declared.queries.Cmp.TheVariants as cmp
use Rattle.vo_spec.specs.declared.queries.Operand.TheVariants.{Ref as Column_of, Literal}
use Rattle.vo_spec.specs.declared.queries.Join.{Join}
use Rattle.vo_spec.specs.declared.queries.Items.{Items}
use Rattle.vo_spec.specs.declared.queries.Items.TheVariants.{All, Refs}
use Rattle.vo_spec.specs.Values.{is_null, key_of, key_lt, value_of_key}
use Rattle.vo_spec.specs.Tables.{column_at, cell_number, value_at}
use Rattle.vo_spec.specs.Conditions.{Formula, Formulas, every, some, negated, test, none, more, NameTest, comparison, null_test, Condition, Conditions, condition_refs, is_true, truth, Query}
use Rattle.vo_spec.specs.Results.{BoundSource, ColumnPlace, bound_source_at, schema_at, place_of, join_places, query_refs, numbers_from, RowView, place_value, ref_value}
use Rattle.vo_spec.specs.Parts.{leaf}
use Rattle.vo_spec.specs.Trees.{RowTree}
use Rattle.vo_spec.specs.Scans.{seen}
use Rattle.vo_spec.specs.Cuts.{RowCondition, limited_need}

-- Intervals: what keys a comparison with a literal lets through, and what two intervals share. Of
-- equal bounds the exclusive one counts.

abbrev pub all_keys : Interval
all_keys = record { low = Absent; high = Absent }

abbrev pub keys_that : Cmp → List ℕ → Interval
keys_that cmp.Eq key = record { low = Inclusive key; high = Inclusive key }
keys_that cmp.Ne key = all_keys
keys_that cmp.Lt key = record { low = Absent; high = Exclusive key }
keys_that cmp.Le key = record { low = Absent; high = Inclusive key }
keys_that cmp.Gt key = record { low = Exclusive key; high = Absent }
keys_that cmp.Ge key = record { low = Inclusive key; high = Absent }

-- a comparison with NULL is true of no row, and bounds no interval
abbrev pub keys_that_compare : Cmp → Value → Interval
keys_that_compare op v = if is_null v then all_keys else keys_that op (key_of v)

abbrev pub higher : Bound → Bound → Bound
higher Absent b = b
higher a Absent = a
higher (Inclusive a) (Inclusive b) = if key_lt a b then Inclusive b else Inclusive a
higher (Inclusive a) (Exclusive b) = if key_lt b a then Inclusive a else Exclusive b
higher (Exclusive a) (Inclusive b) = if key_lt a b then Inclusive b else Exclusive a
higher (Exclusive a) (Exclusive b) = if key_lt a b then Exclusive b else Exclusive a

abbrev pub lower : Bound → Bound → Bound
lower Absent b = b
lower a Absent = a
lower (Inclusive a) (Inclusive b) = if key_lt b a then Inclusive b else Inclusive a
lower (Inclusive a) (Exclusive b) = if key_lt a b then Inclusive a else Exclusive b
lower (Exclusive a) (Inclusive b) = if key_lt b a then Inclusive b else Exclusive a
lower (Exclusive a) (Exclusive b) = if key_lt b a then Exclusive b else Exclusive a

abbrev pub intersection : Interval → Interval → Interval
intersection a b = record { low = higher a.low b.low; high = lower a.high b.high }

-- What the conjuncts of a formula share, by the interval of a test.
abbrev mutual
  pub interval_by : {T : Type 0} → (T → Interval) → Formula T → Interval
  interval_by of_test (every fs) = interval_by_all of_test fs
  interval_by of_test (some fs) = all_keys
  interval_by of_test (negated f) = all_keys
  interval_by of_test (test t) = of_test t

  pub interval_by_all : {T : Type 0} → (T → Interval) → Formulas T → Interval
  interval_by_all of_test none = all_keys
  interval_by_all of_test (more f fs) =
      intersection (interval_by of_test f) (interval_by_all of_test fs)

-- The left interval: what the condition's conjuncts of the form `key op literal` share.

abbrev pub is_left_key : List BoundSource → ColumnPlace → Bool
is_left_key ss p = p.bound_source == 0 && p.column == (schema_at ss 0).key

abbrev pub test_interval : List BoundSource → NameTest → Interval
test_interval ss (comparison left op (Column_of r)) = all_keys
test_interval ss (comparison left op (Literal v)) = if is_left_key ss (place_of ss left)
    then keys_that_compare op v else all_keys
test_interval ss (null_test left is_not) = all_keys

abbrev pub interval_of : List BoundSource → Condition → Interval
interval_of ss = interval_by (test_interval ss)

-- The left condition: the conjuncts on left columns alone. The others wait for the right row.

abbrev pub is_left : List BoundSource → Condition → Bool
is_left ss c = list_all (λ r. (place_of ss r).bound_source == 0) (condition_refs c)

abbrev mutual
  pub left_truth : List BoundSource → (Ref → Value) → Condition → Bool
  left_truth ss row (every cs) = left_truths ss row cs
  left_truth ss row (some cs) = if is_left ss (some cs) then is_true (truth row (some cs)) else true
  left_truth ss row (negated c) = if is_left ss (negated c) then is_true (truth row (negated c)) else true
  left_truth ss row (test t) = if is_left ss (test t) then is_true (truth row (test t)) else true

  pub left_truths : List BoundSource → (Ref → Value) → Conditions → Bool
  left_truths ss row none = true
  left_truths ss row (more c cs) = left_truth ss row c && left_truths ss row cs

abbrev pub meets_left : List BoundSource → Query → RowView → Bool
meets_left ss q left = option_map_or (left_truth ss (ref_value ss (left ∷ []))) q.condition true

-- The cells of a side that the query names: those of all its columns but the key under `*`, else
-- those that some reference means.

abbrev pub is_place : ColumnPlace → ColumnPlace → Bool
is_place a b = a.bound_source == b.bound_source && a.column == b.column

abbrev pub shows_all : Items → Bool
shows_all All = true
shows_all (Refs rs) = false

abbrev pub is_named_column : List BoundSource → Query → ℕ → ℕ → Bool
is_named_column ss q bound_source column =
    shows_all q.items || list_any (λ r. is_place (place_of ss r)
    (record { bound_source = bound_source; column = column })) (query_refs q)

abbrev pub named_columns : List BoundSource → Query → ℕ → List ℕ
named_columns ss q bound_source =
    filter (λ column. not (column == (schema_at ss bound_source).key)
    && is_named_column ss q bound_source column)
    (numbers_from 0 (length (schema_at ss bound_source).columns))

abbrev pub named_cells : List BoundSource → Query → ℕ → List ℕ
named_cells ss q bound_source =
    map (cell_number (schema_at ss bound_source).key) (named_columns ss q bound_source)

-- The needs, and what is seen for them.

-- what the query asks of the left tree, whatever rows that has
abbrev pub uncut_need : List BoundSource → Query → Need
uncut_need ss q = record {
  interval = option_map_or (interval_of ss) q.condition all_keys;
  columns = named_cells ss q 0;
}

-- a row that was seen, as the values of its columns: those in its key and in the need's cells
abbrev pub seen_row_view : Schema → List ℕ → SeenRow → RowView
seen_row_view schema cells row column =
    if column == schema.key then value_of_key (column_at schema.columns column).kind row.key
    else value_at row.values (position_or_len (λ c. c == cell_number schema.key column) cells)

-- whether a row that a scan for the uncut need gives meets the left condition
abbrev pub meets_row : List BoundSource → Query → RowCondition
meets_row ss q row = meets_left ss q (seen_row_view (schema_at ss 0) (uncut_need ss q).columns row)

-- How many left rows are needed. A left row of a join may have no row in the answer, so a join's
-- limit says nothing of them.
abbrev pub left_limit : {J : Type 0} → Option J → Option ℕ → Option ℕ
left_limit None limit = limit
left_limit (Some join) limit = None

-- what it needs of this left tree: all that it asks for, or that up to the last row that it wants
abbrev pub left_need : List BoundSource → Query → RowTree → Need
left_need ss q left =
    limited_need (uncut_need ss q) (meets_row ss q) (left_limit q.join q.limit) left

-- the value by which a left row finds its right row
abbrev pub join_value : List BoundSource → Join → RowView → Value
join_value ss j left = place_value (left ∷ []) (join_places ss j).0

-- NULL is equal to no key, so a left row that has it needs no right row
abbrev pub has_join_value : List BoundSource → Join → RowView → Bool
has_join_value ss j left = not (is_null (join_value ss j left))

abbrev pub right_need : List BoundSource → Query → Join → RowView → Need
right_need ss q j left = record {
  interval = keys_that cmp.Eq (key_of (join_value ss j left));
  columns = named_cells ss q 1;
}

abbrev pub seen_row_views : Schema → Need → RowTree → List RowView
seen_row_views schema need p = map (seen_row_view schema need.columns) (unwrap_or (seen need p) [])

-- The trees of a query: one for each of its tables, the left one first. A table joined with itself
-- has one.

abbrev pub same_table : List BoundSource → Bool
same_table ss = bytes_eq (bound_source_at ss 0).table (bound_source_at ss 1).table

abbrev pub tables_used : List BoundSource → List (List ℕ)
tables_used ss = if length ss == 1 || same_table ss then (bound_source_at ss 0).table ∷ []
    else (bound_source_at ss 0).table ∷ (bound_source_at ss 1).table ∷ []

abbrev pub no_tree : RowTree
no_tree = leaf []

abbrev pub tree_at : List RowTree → ℕ → RowTree
tree_at trees i = slice_index_or trees i no_tree

abbrev pub right_tree : List BoundSource → List RowTree → RowTree
right_tree ss trees = if same_table ss then tree_at trees 0 else tree_at trees 1

-- the left rows that are seen and meet the left condition; and of one of them, the right rows that
-- are seen
abbrev pub seen_lefts : List BoundSource → Query → List RowTree → List RowView
seen_lefts ss q trees = let left = tree_at trees 0 in
    filter (meets_left ss q) (seen_row_views (schema_at ss 0) (left_need ss q left) left)

abbrev pub seen_rights : List BoundSource → Query → List RowTree → RowView → List RowView
seen_rights ss q trees left = flat_map
    (λ j. seen_row_views (schema_at ss 1) (right_need ss q j left) (right_tree ss trees))
    (option_to_list q.join)

abbrev pub right_needs : List BoundSource → Query → List RowTree → List Need
right_needs ss q trees = flat_map (λ j. map (right_need ss q j)
    (filter (has_join_value ss j) (seen_lefts ss q trees))) (option_to_list q.join)

-- the needs of each tree, in the order of the trees
abbrev pub needs : List BoundSource → Query → List RowTree → List (List Need)
needs ss q trees = let left = left_need ss q (tree_at trees 0) in
    if length (tables_used ss) == 1
    then (left ∷ right_needs ss q trees) ∷ []
    else (left ∷ []) ∷ right_needs ss q trees ∷ []
