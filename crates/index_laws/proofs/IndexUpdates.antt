-- A row whose cells change: its entry stays in its place, or is removed and put in anew.
use Rattle.std.proofs.Common.{◌≡◌, ℕ, Bool, true, false, cond, List, [], ◌∷◌, map, inl, inr, refl, sym, ap, ◌∙◌, subst}
use Rattle.std.specs.Prelude.{◌||◌, bytes_eq, not}
use Rattle.std.proofs.lemmas.Bool.{or_cases}
use Rattle.std.proofs.lemmas.Slice.Eq.{bytes_eq-Decides}
use Rattle.vo_spec.specs.declared.values.Kind.{Kind}
use Rattle.vo_spec.specs.declared.values.Row.{Row}
use Rattle.vo_spec.specs.Values.{key_lt}
use Rattle.vo_spec.specs.Tables.{CellChange, value_at, changed_cells, changed_row, has_row, put_row, without_row}
use Rattle.vo_laws.proofs.KeyOrder.{key_lt_back}
use Rattle.vo_laws.proofs.ListLaws.{each_filter}
use Rattle.vo_laws.proofs.InsertionNodes.{other_back}
use Rattle.index_laws.specs.Indexes.{index_row, index_rows, put_in_order, in_key_order, HasValue, HaveValues}
use Rattle.index_laws.proofs.KeyOrdering.{RowsRise, AreAbove}
use Rattle.index_laws.proofs.IndexReads.{IsOnlyRow, matches_alike, index_put, index_removed}

-- Changes that keep the keys keep the order.

module _ (f : Row → Row) (keeps : (row : Row) → (f row).key ≡ row.key) where
  put_mapped : (row : Row) (rows : List Row)
      → put_in_order (f row) (map f rows) ≡ map f (put_in_order row rows)
  put_mapped row [] = refl
  put_mapped row (r ∷ rows) = step (key_lt (f r).key (f row).key) (key_lt r.key row.key) same
      (put_mapped row rows)
    where
      same : key_lt (f r).key (f row).key ≡ key_lt r.key row.key
      same = ap (λ key. key_lt key (f row).key) (keeps r) ∙ ap (key_lt r.key) (keeps row)

      step : (b c : Bool) → b ≡ c
          → put_in_order (f row) (map f rows) ≡ map f (put_in_order row rows)
          → cond b (f r ∷ put_in_order (f row) (map f rows)) (f row ∷ f r ∷ map f rows)
          ≡ map f (cond c (r ∷ put_in_order row rows) (row ∷ r ∷ rows))
      step true true e rest = ap (λ z. f r ∷ z) rest
      step false false e rest = refl
      step true false e rest = absurd (cc)
      step false true e rest = absurd (cc)

  mapped_in_order : (rows : List Row) → in_key_order (map f rows) ≡ map f (in_key_order rows)
  mapped_in_order [] = refl
  mapped_in_order (row ∷ rows) = ap (put_in_order (f row)) (mapped_in_order rows)
      ∙ put_mapped row (in_key_order rows)

changed_keeps : (key : List ℕ) (changes : List CellChange) (row : Row)
    → (changed_row key changes row).key ≡ row.key
changed_keeps key changes row = step (bytes_eq row.key key)
  where
    step : (b : Bool) → (let r : Row =
        cond b (record { key = row.key; cells = changed_cells changes row.cells }) row in r.key)
        ≡ row.key
    step true = refl
    step false = refl

module _ (changes : List CellChange) (row : Row) where
  abbrev row_after : Row
  row_after = changed_row row.key changes row

  -- A changed row is one that is removed and put in anew.

  without_changed : (rows : List Row) → has_row row.key (without_row row.key rows) ≡ false
  without_changed [] = refl
  without_changed (r ∷ rows) = step (bytes_eq r.key row.key) refl (without_changed rows)
    where
      step : (b : Bool) → bytes_eq r.key row.key ≡ b
          → has_row row.key (without_row row.key rows) ≡ false
          → has_row row.key (cond (not b) (r ∷ without_row row.key rows) (without_row row.key rows))
          ≡ false
      step true e rest = rest
      step false e rest = rw e rest

  put_before_all : (rows : List Row) → AreAbove row.key rows
      → put_row row_after (without_row row.key rows)
      ≡ row_after ∷ map (changed_row row.key changes) rows
  put_before_all [] above = refl
  put_before_all (r ∷ rows) above =
      rw (other_back r.key row.key above.0, changed_keeps row.key changes row, above.0)
      (ap (λ z. row_after ∷ r ∷ z) (others rows above.1))
    where
      others : (rs : List Row) → AreAbove row.key rs
          → without_row row.key rs ≡ map (changed_row row.key changes) rs
      others [] all = refl
      others (x ∷ rs) all = rw (other_back x.key row.key all.0) (ap (λ z. x ∷ z) (others rs all.1))

  is_above : (key : List ℕ) (rows : List Row) → AreAbove key rows → has_row row.key rows ≡ true
      → key_lt key row.key ≡ true
  is_above key [] all has = absurd (cc)
  is_above key (r ∷ rows) all has =
      elim (or_cases (bytes_eq r.key row.key) (has_row row.key rows) has) [
        | inl e ↦ subst (λ k. key_lt key k ≡ true) ((bytes_eq-Decides r.key row.key).0 e) all.0
        | inr behind ↦ is_above key rows all.1 behind
      ]

  put_anew : (rows : List Row) → RowsRise rows → IsOnlyRow row rows → has_row row.key rows ≡ true
      → put_row row_after (without_row row.key rows) ≡ map (changed_row row.key changes) rows
  put_anew [] rise only has = absurd (cc)
  put_anew (r ∷ rows) rise only has =
      step (bytes_eq r.key row.key) refl has (put_anew rows rise.1 only.1)
    where
      step : (b : Bool) → bytes_eq r.key row.key ≡ b → (b || has_row row.key rows) ≡ true
          → (has_row row.key rows ≡ true
          → put_row row_after (without_row row.key rows) ≡ map (changed_row row.key changes) rows)
          → put_row row_after (cond (not b) (r ∷ without_row row.key rows) (without_row row.key rows))
          ≡ cond b (record { key = r.key; cells = changed_cells changes r.cells }) r
          ∷ map (changed_row row.key changes) rows
      step true e h rest =
          let same : r ≡ row = only.0 ((bytes_eq-Decides r.key row.key).0 e) in
          put_before_all rows (subst (λ (x : Row). AreAbove x.key rows) same rise.0)
          ∙ ap (λ z. z ∷ map (changed_row row.key changes) rows)
          (sym (ap (changed_row row.key changes) same) ∙ rw e refl)
      step false e h rest =
          let below : key_lt r.key row.key ≡ true = is_above r.key rows rise.0 h in
          rw (changed_keeps row.key changes row, key_lt_back r.key row.key below)
          (ap (λ z. r ∷ z) (rest h))

module _ (k : Kind) (cell : ℕ) (changes : List CellChange) (row : Row)
    (fits : HasValue k cell row) where
  abbrev new : Row
  new = changed_row row.key changes row

  -- Where the indexed value stays, the entry has its key, and other cells.

  entry_changed : value_at new.cells cell ≡ value_at row.cells cell
      → (r : Row) → HasValue k cell r → (r.key ≡ row.key → r ≡ row)
      → index_row cell (changed_row row.key changes r)
      ≡ changed_row (index_row cell row).key changes (index_row cell r)
  entry_changed stays r has only =
      rw (matches_alike k cell row r fits has only) (step (bytes_eq r.key row.key) refl)
    where
      value_stays : bytes_eq r.key row.key ≡ true
          → value_at (changed_cells changes r.cells) cell ≡ value_at r.cells cell
      value_stays e =
          let same : r ≡ row = only ((bytes_eq-Decides r.key row.key).0 e) in
          let of_changed : value_at (changed_row row.key changes r).cells cell
          ≡ value_at r.cells cell =
          subst (λ (x : Row).
          value_at (changed_row row.key changes x).cells cell ≡ value_at x.cells cell)
          (sym same) stays in
          ap (λ b. value_at (let x : Row =
          cond b (record { key = r.key; cells = changed_cells changes r.cells }) r in x.cells) cell)
          (sym e) ∙ of_changed

      step : (b : Bool) → bytes_eq r.key row.key ≡ b
          → index_row cell
          (cond b (record { key = r.key; cells = changed_cells changes r.cells }) r)
          ≡ cond b (record { key = (index_row cell r).key; cells = changed_cells changes r.cells })
          (index_row cell r)
      step true e = rw (value_stays e) refl
      step false e = refl

  entries_changed : value_at new.cells cell ≡ value_at row.cells cell → (rows : List Row)
      → HaveValues k cell rows → IsOnlyRow row rows
      → map (index_row cell) (map (changed_row row.key changes) rows)
      ≡ map (changed_row (index_row cell row).key changes) (map (index_row cell) rows)
  entries_changed stays [] have only = refl
  entries_changed stays (r ∷ rows) have only =
      rw (entry_changed stays r have.0 only.0, entries_changed stays rows have.1 only.1) refl

  pub index_kept : (rows : List Row) → HaveValues k cell rows → IsOnlyRow row rows
      → value_at new.cells cell ≡ value_at row.cells cell
      → index_rows cell (map (changed_row row.key changes) rows)
      ≡ map (changed_row (index_row cell row).key changes) (index_rows cell rows)
  index_kept rows have only stays =
      ap in_key_order (entries_changed stays rows have only)
      ∙ mapped_in_order (changed_row (index_row cell row).key changes)
      (changed_keeps (index_row cell row).key changes) (map (index_row cell) rows)

  -- Where it changes, the entry is removed and put in anew.

  pub index_moved : (rows : List Row) → HaveValues k cell rows → RowsRise rows → IsOnlyRow row rows
      → has_row row.key rows ≡ true → HasValue k cell new
      → index_rows cell (map (changed_row row.key changes) rows)
      ≡ put_row (index_row cell new) (without_row (index_row cell row).key (index_rows cell rows))
  index_moved rows have rise only has new_fits =
      ap (index_rows cell) (sym (put_anew changes row rows rise only has))
      ∙ index_put k cell new (without_row row.key rows) new_fits
      (each_filter (HasValue k cell) (λ (r : Row). not (bytes_eq r.key row.key)) rows have)
      (subst (λ key. has_row key (without_row row.key rows) ≡ false)
      (sym (changed_keeps row.key changes row)) (without_changed changes row rows))
      ∙ ap (put_row (index_row cell new)) (index_removed k cell row rows fits have rise only)
