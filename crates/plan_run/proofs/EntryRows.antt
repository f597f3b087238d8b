-- Rows as they stand in a tree as the value of each column.
use Rattle.std.proofs.Common.{◌≡◌, ℕ, suc, ◌+◌, Bool, true, false, cond, List, [], ◌∷◌, Option, Some, None, refl, ap, ◌∙◌, arith}
use Rattle.std.specs.Prelude.{◌==◌, not, is_none, unwrap_or}
use Rattle.std.specs.List.{position_or_len}
use Rattle.vo_spec.specs.declared.values.Value.{Value}
use Rattle.vo_spec.specs.declared.tables.Schema.{Schema}
use Rattle.vo_spec.specs.declared.cells.PartEntry.{PartEntry}
use Rattle.vo_spec.specs.declared.cells.RowPart.{RowPart}
use Rattle.vo_spec.specs.Values.{value_of_key}
use Rattle.vo_spec.specs.Tables.{column_at, cell_number, value_at, no_value}
use Rattle.vo_spec.specs.Cells.{value_in}
use Rattle.vo_spec.specs.Scans.{put_before, values_in}
use Rattle.vo_spec.specs.Needs.{seen_row_view}
use Rattle.plan_run.specs.EntryViews.{named_value, entry_view}

-- the value among those that a scan gives
named_is : (row : RowPart) (cells : List ℕ) (cell : ℕ) → is_none (values_in row cells) ≡ false
    → named_value row cells cell ≡ value_at (unwrap_or (values_in row cells) []) (position_or_len (λ c. c == cell) cells)
named_is row [] cell shown = refl
named_is row (c ∷ cells) cell shown = step (value_in row c) (values_in row cells) (c == cell) shown (named_is row cells cell)
  where
    step : (o : Option Value) (os : Option (List Value)) (b : Bool) → is_none (put_before o os) ≡ false
        → (is_none os ≡ false → named_value row cells cell ≡ value_at (unwrap_or os []) (position_or_len (λ x. x == cell) cells))
        → cond b (unwrap_or o no_value) (named_value row cells cell) ≡ value_at (unwrap_or (put_before o os) []) (cond (not b) (1 + position_or_len (λ x. x == cell) cells) 0)
    step None os b shown rest = absurd (cc)
    step (Some v) None b shown rest = absurd (cc)
    step (Some v) (Some vs) true shown rest = refl
    step (Some v) (Some vs) false shown rest =
        let next : 1 + position_or_len (λ x. x == cell) cells ≡ suc (position_or_len (λ x. x == cell) cells) = omega arith in
        rw next (rest refl)

-- of a row that shows these cells, the view is that of what a scan for them gives
module _ (schema : Schema) (cells : List ℕ) (e : PartEntry) (values : List Value) (given : values_in e.row cells ≡ Some values) where
  at_column : (column : ℕ) → entry_view schema cells e column ≡ seen_row_view schema cells (record { key = e.key; values = values }) column
  at_column column = ap (cond (column == schema.key) (value_of_key (column_at schema.columns column).kind e.key))
      (named_is e.row cells (cell_number schema.key column) (ap is_none given)
      ∙ ap (λ o. value_at (unwrap_or o []) (position_or_len (λ c. c == cell_number schema.key column) cells)) given)

  pub views_alike : entry_view schema cells e ≡ seen_row_view schema cells (record { key = e.key; values = values })
  views_alike = λ i column. at_column column i
