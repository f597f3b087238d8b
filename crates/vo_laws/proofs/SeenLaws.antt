-- What a part tree shows for a need is, in the columns that the need names, the rows of the
-- interval.
use Rattle.std.proofs.Common.{◌≡◌, ℕ, zero, suc, ◌+◌, Bool, true, false, cond, List, [], ◌∷◌, Option, Some, None, map, inl, inr, refl, sym, ap, subst, arith}
use Rattle.std.specs.Prelude.{◌&&◌, ◌⊎◌, ◌==◌, not, filter, unwrap_or}
use Rattle.std.specs.List.{AllZip, position_or_len}
use Rattle.std.proofs.lemmas.Bool.{both_ways, eqb-true, eq-eqb, not-true, not_from_true}
use Rattle.vo_spec.specs.declared.values.Value.{Value}
use Rattle.vo_spec.specs.declared.values.Row.{Row}
use Rattle.vo_spec.specs.declared.tables.Schema.{Schema}
use Rattle.vo_spec.specs.declared.keys.Bound.{Bound}
use Rattle.vo_spec.specs.declared.keys.Bound.TheVariants.{Absent, Inclusive, Exclusive}
use Rattle.vo_spec.specs.declared.keys.Interval.{Interval}
use Rattle.vo_spec.specs.declared.needs.Need.{Need}
use Rattle.vo_spec.specs.declared.needs.SeenRow.{SeenRow}
use Rattle.vo_spec.specs.Values.{key_lt, value_of_key}
use Rattle.vo_spec.specs.Tables.{column_at, cell_number, value_at}
use Rattle.vo_spec.specs.Results.{RowView, row_view_of}
use Rattle.vo_spec.specs.Cells.{value_in, whole_entry, whole_row}
use Rattle.vo_spec.specs.Trees.{RowTree, Prunes}
use Rattle.vo_spec.specs.Scans.{is_above, is_below, in_interval, are_crossed, is_empty_interval, put_before, values_in, with_key, seen_entries, seen_in, seen}
use Rattle.vo_spec.specs.Pruning.{is_missing}
use Rattle.vo_spec.specs.Representation.{Represents}
use Rattle.vo_spec.specs.Needs.{seen_row_view, seen_row_views}
use Rattle.vo_laws.proofs.KeyOrder.{key_lt_back, key_le_le, key_lt_le, key_le_lt}
use Rattle.vo_laws.proofs.ListLaws.{IsIn, zip_map, zip_weaker}
use Rattle.vo_laws.proofs.ScanLaws.{IsNoneOrSame, Shows, sound, complete, scan_is_filter}

-- An empty interval has no key.

crossed : (low high : Bound) (key : List ℕ) → are_crossed low high ≡ true → is_above low key ≡ true → is_below high key ≡ false
crossed Absent high key c a = absurd (cc)
crossed (Inclusive low) Absent key c a = absurd (cc)
crossed (Exclusive low) Absent key c a = absurd (cc)
crossed (Inclusive low) (Inclusive high) key c a = not_from_true (key_lt high key) (key_lt_le high low key c (not-true (key_lt key low) a))
crossed (Inclusive low) (Exclusive high) key c a = key_le_le high low key (not-true (key_lt low high) c) (not-true (key_lt key low) a)
crossed (Exclusive low) (Inclusive high) key c a = not_from_true (key_lt high key) (key_le_lt high low key (not-true (key_lt low high) c) a)
crossed (Exclusive low) (Exclusive high) key c a = key_lt_back high key (key_le_lt high low key (not-true (key_lt low high) c) a)

pub empty_has_none : (interval : Interval) (key : List ℕ) → is_empty_interval interval ≡ true → in_interval interval key ≡ false
empty_has_none interval key e = step (is_above interval.low key) refl
  where
    step : (b : Bool) → is_above interval.low key ≡ b → (b && is_below interval.high key) ≡ false
    step true a = crossed interval.low interval.high key e a
    step false a = refl

-- the row as a scan for these columns shows it
pub record IsSeenOf (columns : List ℕ) (x : SeenRow) (row : Row) : Type 0 where
  pub key : x.key ≡ row.key
  pub values : values_in (whole_row row.cells) columns ≡ Some x.values

abbrev AreSeenOf : List ℕ → Option (List SeenRow) → List Row → Type 0
AreSeenOf columns None rows = Unit {0}
AreSeenOf columns (Some xs) rows = AllZip (IsSeenOf columns) xs rows

row_seen : (columns : List ℕ) (row : Row) (values : Option (List Value)) → values_in (whole_row row.cells) columns ≡ values → (xs : Option (List SeenRow)) (rows : List Row)
    → AreSeenOf columns xs rows → AreSeenOf columns (put_before (with_key row.key values) xs) (row ∷ rows)
row_seen columns row None e xs rows s = tt
row_seen columns row (Some values) e None rows s = tt
row_seen columns row (Some values) e (Some xs) rows s = (record { key = refl; values = e }, s)

rows_seen : (need : Need) (rows : List Row)
    → AreSeenOf need.columns (seen_entries need (map whole_entry rows)) (filter (λ (row : Row). in_interval need.interval row.key) rows)
rows_seen need [] = tt
rows_seen need (row ∷ rows) = step (in_interval need.interval row.key) (rows_seen need rows)
  where
    step : (b : Bool) → AreSeenOf need.columns (seen_entries need (map whole_entry rows)) (filter (λ (r : Row). in_interval need.interval r.key) rows)
        → AreSeenOf need.columns
        (cond b (put_before (with_key row.key (values_in (whole_row row.cells) need.columns)) (seen_entries need (map whole_entry rows))) (seen_entries need (map whole_entry rows)))
        (cond b (row ∷ filter (λ (r : Row). in_interval need.interval r.key) rows) (filter (λ (r : Row). in_interval need.interval r.key) rows))
    step true s = row_seen need.columns row (values_in (whole_row row.cells) need.columns) refl (seen_entries need (map whole_entry rows)) _ s
    step false s = s

-- What a seen row has in a column that was asked for is what the row has there.

cell_read : (cells : List Value) (c : ℕ) (v : Value) → value_in (whole_row cells) c ≡ Some v → value_at cells c ≡ v
cell_read [] c v e = absurd (cc)
cell_read (w ∷ cells) zero v e = cc
cell_read (w ∷ cells) (suc c) v e = cell_read cells c v e

value_read : (cells : List Value) (columns : List ℕ) (values : List Value) (c : ℕ) → values_in (whole_row cells) columns ≡ Some values → IsIn c columns
    → value_at values (position_or_len (λ x. x == c) columns) ≡ value_at cells c
value_read cells [] values c e i = absurd i
value_read cells (x ∷ columns) values c e i =
    step (value_in (whole_row cells) x) refl (values_in (whole_row cells) columns) refl e (λ ws. value_read cells columns ws c)
  where
    behind : (v : Value) (ws : List Value) → values_in (whole_row cells) columns ≡ Some ws
        → ((ws : List Value) → values_in (whole_row cells) columns ≡ Some ws → IsIn c columns → value_at ws (position_or_len (λ y. y == c) columns) ≡ value_at cells c)
        → (x == c) ≡ false → value_at (v ∷ ws) (1 + position_or_len (λ y. y == c) columns) ≡ value_at cells c
    behind v ws g more f =
        let next : 1 + position_or_len (λ y. y == c) columns ≡ suc (position_or_len (λ y. y == c) columns) = omega arith in
        rw next (more ws g (elim i [ inl h ↦ absurd (both_ways (x == c) f (eq-eqb x c (sym h))) | inr j ↦ j ]))

    here : (v : Value) → value_in (whole_row cells) x ≡ Some v → (x == c) ≡ true → v ≡ value_at cells c
    here v g f = let same : x ≡ c = eqb-true x c f in sym (subst (λ z. value_at cells z ≡ v) same (cell_read cells x v g))

    chosen : (v : Value) (ws : List Value) → value_in (whole_row cells) x ≡ Some v → values_in (whole_row cells) columns ≡ Some ws
        → ((ws : List Value) → values_in (whole_row cells) columns ≡ Some ws → IsIn c columns → value_at ws (position_or_len (λ y. y == c) columns) ≡ value_at cells c)
        → (b : Bool) → (x == c) ≡ b → value_at (v ∷ ws) (cond (not b) (1 + position_or_len (λ y. y == c) columns) 0) ≡ value_at cells c
    chosen v ws g h more true f = here v g f
    chosen v ws g h more false f = behind v ws h more f

    step : (o : Option Value) → value_in (whole_row cells) x ≡ o → (os : Option (List Value)) → values_in (whole_row cells) columns ≡ os → put_before o os ≡ Some values
        → ((ws : List Value) → values_in (whole_row cells) columns ≡ Some ws → IsIn c columns → value_at ws (position_or_len (λ y. y == c) columns) ≡ value_at cells c)
        → value_at values (position_or_len (λ y. y == c) (x ∷ columns)) ≡ value_at cells c
    step None g os h put more = absurd (cc)
    step (Some v) g None h put more = absurd (cc)
    step (Some v) g (Some ws) h put more =
        let is : values ≡ v ∷ ws = cc in
        rw is (chosen v ws g h more (x == c) refl)

-- Two lines are alike in the key and in these cells.
abbrev pub Alike : Schema → List ℕ → RowView → RowView → Type 0
Alike schema cells a b = (column : ℕ) → ((column == schema.key) ≡ true) ⊎ IsIn (cell_number schema.key column) cells → a column ≡ b column

row_view_alike : (schema : Schema) (columns : List ℕ) (x : SeenRow) (row : Row) → IsSeenOf columns x row → Alike schema columns (seen_row_view schema columns x) (row_view_of schema row)
row_view_alike schema columns x row s column i = step (column == schema.key) refl i
  where
    other : ((column == schema.key) ≡ true) ⊎ IsIn (cell_number schema.key column) columns → (column == schema.key) ≡ false → IsIn (cell_number schema.key column) columns
    other (inl h) f = absurd (both_ways (column == schema.key) f h)
    other (inr j) f = j

    step : (b : Bool) → (column == schema.key) ≡ b → ((column == schema.key) ≡ true) ⊎ IsIn (cell_number schema.key column) columns
        → cond b (value_of_key (column_at schema.columns column).kind x.key) (value_at x.values (position_or_len (λ c. c == cell_number schema.key column) columns))
        ≡ cond b (value_of_key (column_at schema.columns column).kind row.key) (value_at row.cells (cell_number schema.key column))
    step true f i = ap (value_of_key (column_at schema.columns column).kind) s.key
    step false f i = value_read row.cells columns x.values (cell_number schema.key column) s.values (other i f)

-- the rows of an interval
abbrev pub rows_in : Interval → List Row → List Row
rows_in interval = filter (λ (row : Row). in_interval interval row.key)

pub none_kept : (interval : Interval) (rows : List Row) → is_empty_interval interval ≡ true → rows_in interval rows ≡ []
none_kept interval [] e = refl
none_kept interval (row ∷ rows) e = rw (empty_has_none interval row.key e) (none_kept interval rows e)

whole_seen : (need : Need) (t : RowTree) (rows : List Row) → Represents t rows → AreSeenOf need.columns (seen need t) (rows_in need.interval rows)
whole_seen need t rows stands = step (is_empty_interval need.interval) refl
  where
    step : (b : Bool) → is_empty_interval need.interval ≡ b → AreSeenOf need.columns (cond b (Some []) (seen_in need t)) (rows_in need.interval rows)
    step true e = rw (none_kept need.interval rows e) tt
    step false e = rw (scan_is_filter need t stands.tree, stands.rows_are) (rows_seen need rows)

-- What is seen of a part tree that misses nothing, of a tree that stands for these rows, is the
-- rows in the need's interval, as far as their keys and the need's columns go.
pub accepted : (schema : Schema) (needs : List Need) (need : Need) (p t : RowTree) (rows : List Row)
    → IsIn need needs → is_missing needs p ≡ false → Prunes p t → Represents t rows
    → AllZip (Alike schema need.columns) (seen_row_views schema need p) (map (row_view_of schema) (rows_in need.interval rows))
accepted schema needs need p t rows i full prunes stands =
    step (seen need p) (complete needs need p i full) (sound need p t prunes)
  where
    step : (o : Option (List SeenRow)) → Shows o → IsNoneOrSame o (seen need t)
        → AllZip (Alike schema need.columns) (map (seen_row_view schema need.columns) (unwrap_or o [])) (map (row_view_of schema) (rows_in need.interval rows))
    step None s g = absurd s
    step (Some xs) s g =
        let all : AllZip (IsSeenOf need.columns) xs (rows_in need.interval rows) =
        subst (λ z. AreSeenOf need.columns z (rows_in need.interval rows)) g (whole_seen need t rows stands) in
        zip_map (Alike schema need.columns) (seen_row_view schema need.columns) (row_view_of schema) xs (rows_in need.interval rows)
        (zip_weaker (IsSeenOf need.columns) (λ x row. Alike schema need.columns (seen_row_view schema need.columns x) (row_view_of schema row))
        (row_view_alike schema need.columns) xs (rows_in need.interval rows) all)
