-- What is read from an index is what is read from the table.
use Rattle.std.proofs.Common.{◌≡◌, ℕ, Bool, true, false, cond, List, [], ◌∷◌, map, inl, inr, refl, sym, ap, ◌∙◌}
use Rattle.std.specs.Prelude.{filter, bytes_eq, not}
use Rattle.std.specs.List.{AllByRecursion}
use Rattle.std.proofs.lemmas.Bool.{both_ways, or_parts}
use Rattle.std.proofs.lemmas.Slice.Eq.{bytes_eq-Decides}
use Rattle.vo_spec.specs.declared.values.Kind.{Kind}
use Rattle.vo_spec.specs.declared.values.Value.{Value}
use Rattle.vo_spec.specs.declared.values.Row.{Row}
use Rattle.vo_spec.specs.declared.keys.Interval.{Interval}
use Rattle.vo_spec.specs.declared.queries.Cmp.{Cmp}
use Rattle.vo_spec.specs.Values.{key_of, key_lt, value_cmp}
use Rattle.vo_spec.specs.Tables.{value_at, has_row, put_row, without_row}
use Rattle.vo_spec.specs.Conditions.{compares}
use Rattle.vo_spec.specs.Scans.{in_interval}
use Rattle.vo_laws.proofs.KeyOrder.{same_key}
use Rattle.vo_laws.proofs.InsertionNodes.{other_key}
use Rattle.index_laws.specs.Indexes.{index_row, index_rows, put_in_order, in_key_order, index_keys_that, has_bounds, primary_key, table_row, IsIndexable, HasValue, HaveValues}
use Rattle.index_laws.proofs.IndexKeys.{bounds_compare, key_split}
use Rattle.index_laws.proofs.KeyOrdering.{RowsRise, Apart, AreApart, AreAbove, apart_back, in_order_rises, each_in_order, put_alike, read_back, put_either, picked_in_order}

-- each row that has this one's key is this one
abbrev pub IsOnlyRow : Row → List Row → Type 0
IsOnlyRow row = AllByRecursion (λ (r : Row). r.key ≡ row.key → r ≡ row)

module _ (k : Kind) (cell : ℕ) where
  rows_restored : (rows : List Row) → HaveValues k cell rows
      → AllByRecursion (λ (row : Row). table_row k (index_row cell row) ≡ row) rows
  rows_restored [] have = tt
  rows_restored (row ∷ rows) have = (
    ap (λ key. let r : Row = record { key = key; cells = row.cells } in r)
        (key_split k (value_at row.cells cell) row.key have.0),
    rows_restored rows have.1,
  )

  filter_alike : (p q : Row → Bool) (rows : List Row)
      → AllByRecursion (λ (row : Row). p row ≡ q row) rows → filter p rows ≡ filter q rows
  filter_alike p q [] all = refl
  filter_alike p q (row ∷ rows) all = rw (all.0, filter_alike p q rows all.1) refl

  meet_alike : (op : Cmp) (literal : Value) (rows : List Row) → has_bounds op ≡ true
      → HaveValues k cell rows → IsIndexable k literal
      → AllByRecursion (λ (row : Row). in_interval (index_keys_that op (key_of literal))
      (index_row cell row).key ≡ compares op (value_cmp (value_at row.cells cell) literal)) rows
  meet_alike op literal [] h have fits = tt
  meet_alike op literal (row ∷ rows) h have fits = (
    bounds_compare k op (value_at row.cells cell) literal row.key h have.0 fits,
    meet_alike op literal rows h have.1 fits,
  )

  pub reads_as_table : (op : Cmp) (literal : Value) (rows : List Row) → has_bounds op ≡ true
      → HaveValues k cell rows → IsIndexable k literal → RowsRise rows
      → in_key_order (map (table_row k)
      (filter (λ row. in_interval (index_keys_that op (key_of literal)) row.key)
      (index_rows cell rows)))
      ≡ filter (λ row. compares op (value_cmp (value_at row.cells cell) literal)) rows
  reads_as_table op literal rows h have fits rise =
      read_back (index_row cell) (table_row k)
      (λ row. in_interval (index_keys_that op (key_of literal)) row.key) rows
      (rows_restored rows have) rise
      ∙ filter_alike _ _ rows (meet_alike op literal rows h have fits)

  -- the same of any interval, as of what several comparisons share
  pub reads_interval : (interval : Interval) (rows : List Row) → HaveValues k cell rows
      → RowsRise rows
      → in_key_order (map (table_row k)
      (filter (λ row. in_interval interval row.key) (index_rows cell rows)))
      ≡ filter (λ row. in_interval interval (index_row cell row).key) rows
  reads_interval interval rows have rise =
      read_back (index_row cell) (table_row k) (λ row. in_interval interval row.key) rows
      (rows_restored rows have) rise

  -- Index keys of different rows are different.

  same_row_key : (a b : Row) → HasValue k cell a → HasValue k cell b
      → (index_row cell a).key ≡ (index_row cell b).key → a.key ≡ b.key
  same_row_key a b f g same = sym (key_split k (value_at a.cells cell) a.key f)
      ∙ ap (primary_key k) same ∙ key_split k (value_at b.cells cell) b.key g

  keys_apart : (a b : Row) → HasValue k cell a → HasValue k cell b → bytes_eq a.key b.key ≡ false
      → Apart (index_row cell a).key (index_row cell b).key
  keys_apart a b f g e = step (key_lt (index_row cell a).key (index_row cell b).key) refl
      (key_lt (index_row cell b).key (index_row cell a).key) refl
    where
      step : (x : Bool) → key_lt (index_row cell a).key (index_row cell b).key ≡ x
          → (y : Bool) → key_lt (index_row cell b).key (index_row cell a).key ≡ y
          → Apart (index_row cell a).key (index_row cell b).key
      step true p y q = inl p
      step false p true q = inr q
      step false p false q =
          let same : a.key ≡ b.key = same_row_key a b f g
          (same_key (index_row cell a).key (index_row cell b).key p q) in
          absurd (both_ways (bytes_eq a.key b.key) e ((bytes_eq-Decides a.key b.key).1 same))

  apart_from : (a : Row) (rows : List Row) → HasValue k cell a → HaveValues k cell rows
      → AreAbove a.key rows
      → AllByRecursion (λ (r : Row). Apart (index_row cell a).key r.key) (map (index_row cell) rows)
  apart_from a [] f have above = tt
  apart_from a (b ∷ rows) f have above =
      (keys_apart a b f have.0 (other_key a.key b.key above.0), apart_from a rows f have.1 above.1)

  all_apart : (rows : List Row) → HaveValues k cell rows → RowsRise rows
      → AreApart (map (index_row cell) rows)
  all_apart [] have rise = tt
  all_apart (row ∷ rows) have rise =
      (apart_from row rows have.0 have.1 rise.0, all_apart rows have.1 rise.1)

  pub index_rises : (rows : List Row) → HaveValues k cell rows → RowsRise rows
      → RowsRise (index_rows cell rows)
  index_rises rows have rise = in_order_rises (map (index_row cell) rows) (all_apart rows have rise)

  -- A row more.

  apart_each : (row : Row) (rows : List Row) → HasValue k cell row → HaveValues k cell rows
      → has_row row.key rows ≡ false
      → AllByRecursion (λ (r : Row). Apart (index_row cell row).key r.key)
      (map (index_row cell) rows)
  apart_each row [] f have none = tt
  apart_each row (r ∷ rows) f have none =
      let both = or_parts (bytes_eq r.key row.key) (has_row row.key rows) none in (
        apart_back (index_row cell r).key (index_row cell row).key
            (keys_apart r row have.0 f both.0),
        apart_each row rows f have.1 both.1,
      )

  put_in_index : (row : Row) (rows : List Row) → HasValue k cell row → HaveValues k cell rows
      → has_row row.key rows ≡ false
      → index_rows cell (put_row row rows)
      ≡ put_in_order (index_row cell row) (index_rows cell rows)
  put_in_index row [] fits have none = refl
  put_in_index row (r ∷ rows) fits have none =
      let both = or_parts (bytes_eq r.key row.key) (has_row row.key rows) none in
      step (key_lt row.key r.key) refl both.0 (put_in_index row rows fits have.1 both.1)
    where
      step : (b : Bool) → key_lt row.key r.key ≡ b → bytes_eq r.key row.key ≡ false
          → index_rows cell (put_row row rows)
          ≡ put_in_order (index_row cell row) (index_rows cell rows)
          → index_rows cell (cond b (row ∷ r ∷ rows) (r ∷ put_row row rows))
          ≡ put_in_order (index_row cell row) (index_rows cell (r ∷ rows))
      step true e f rest = refl
      step false e f rest =
          ap (put_in_order (index_row cell r)) rest
          ∙ put_either (index_row cell r) (index_row cell row) (index_rows cell rows)
          (keys_apart r row have.0 fits f)

  pub index_put : (row : Row) (rows : List Row) → HasValue k cell row → HaveValues k cell rows
      → has_row row.key rows ≡ false
      → index_rows cell (put_row row rows) ≡ put_row (index_row cell row) (index_rows cell rows)
  index_put row rows fits have none =
      put_in_index row rows fits have none
      ∙ sym (put_alike (index_row cell row) (index_rows cell rows)
      (each_in_order (λ (r : Row). Apart (index_row cell row).key r.key) (map (index_row cell) rows)
      (apart_each row rows fits have none)))

  -- A row less.

  -- a row has this one's key where their index rows have one key
  pub matches_alike : (row r : Row) → HasValue k cell row → HasValue k cell r
      → (r.key ≡ row.key → r ≡ row)
      → bytes_eq (index_row cell r).key (index_row cell row).key ≡ bytes_eq r.key row.key
  matches_alike row r f g only =
      step (bytes_eq (index_row cell r).key (index_row cell row).key) refl
      (bytes_eq r.key row.key) refl
    where
      step : (x : Bool) → bytes_eq (index_row cell r).key (index_row cell row).key ≡ x
          → (y : Bool) → bytes_eq r.key row.key ≡ y → x ≡ y
      step true p true q = refl
      step false p false q = refl
      step true p false q =
          let same : r.key ≡ row.key = same_row_key r row g f
          ((bytes_eq-Decides (index_row cell r).key (index_row cell row).key).0 p) in
          absurd (both_ways (bytes_eq r.key row.key) q ((bytes_eq-Decides r.key row.key).1 same))
      step false p true q =
          let same : r ≡ row = only ((bytes_eq-Decides r.key row.key).0 q) in
          absurd (both_ways (bytes_eq (index_row cell r).key (index_row cell row).key) p
          ((bytes_eq-Decides (index_row cell r).key (index_row cell row).key).1
          (ap (λ (x : Row). (index_row cell x).key) same)))

  -- the rows but this one, as the index has them
  index_without : (row : Row) (rows : List Row) → HasValue k cell row → HaveValues k cell rows
      → IsOnlyRow row rows
      → filter (λ (r : Row). not (bytes_eq r.key (index_row cell row).key))
      (map (index_row cell) rows) ≡ map (index_row cell) (without_row row.key rows)
  index_without row [] f have only = refl
  index_without row (r ∷ rows) f have only =
      rw (matches_alike row r f have.0 only.0)
      (step (bytes_eq r.key row.key) (index_without row rows f have.1 only.1))
    where
      step : (b : Bool) → filter (λ (x : Row). not (bytes_eq x.key (index_row cell row).key))
          (map (index_row cell) rows) ≡ map (index_row cell) (without_row row.key rows)
          → cond (not b) (index_row cell r ∷ filter
          (λ (x : Row). not (bytes_eq x.key (index_row cell row).key)) (map (index_row cell) rows))
          (filter (λ (x : Row). not (bytes_eq x.key (index_row cell row).key))
          (map (index_row cell) rows))
          ≡ map (index_row cell) (cond (not b) (r ∷ without_row row.key rows)
          (without_row row.key rows))
      step true rest = rest
      step false rest = ap (λ z. index_row cell r ∷ z) rest

  pub index_removed : (row : Row) (rows : List Row) → HasValue k cell row → HaveValues k cell rows
      → RowsRise rows
      → IsOnlyRow row rows
      → index_rows cell (without_row row.key rows)
      ≡ without_row (index_row cell row).key (index_rows cell rows)
  index_removed row rows f have rise only =
      ap in_key_order (sym (index_without row rows f have only))
      ∙ sym (picked_in_order (λ (r : Row). not (bytes_eq r.key (index_row cell row).key))
      (map (index_row cell) rows) (all_apart rows have rise))
