-- Where a row or a table is put: before the first of a greater key or name.
use Rattle.std.proofs.Common.{◌≡◌, ℕ, suc, ◌+◌, Bool, true, false, cond, not, List, [], ◌∷◌, refl, ap, ◌∙◌, arith}
use Rattle.std.specs.Prelude.{insert}
use Rattle.std.specs.List.{position_or_len}
use Rattle.vo_spec.specs.declared.values.Row.{Row}
use Rattle.vo_spec.specs.declared.tables.Table.{Table}
use Rattle.vo_spec.specs.Values.{key_lt}
use Rattle.vo_spec.specs.Tables.{put_row, put_table}

suc_is : (n : ℕ) → suc n ≡ 1 + n
suc_is n = omega arith

pub row_put : (row : Row) (rows : List Row) → put_row row rows ≡ insert rows (position_or_len (λ (r : Row). key_lt row.key r.key) rows) row
row_put row [] = refl
row_put row (r ∷ rows) = step (key_lt row.key r.key) (row_put row rows)
  where
    at : ℕ
    at = position_or_len (λ (r : Row). key_lt row.key r.key) rows

    step : (b : Bool) → put_row row rows ≡ insert rows at row → cond b (row ∷ r ∷ rows) (r ∷ put_row row rows) ≡ insert (r ∷ rows) (cond (not b) (1 + at) 0) row
    step true e = refl
    step false e = ap (λ rs. r ∷ rs) e ∙ ap (λ n. insert (r ∷ rows) n row) (suc_is at)

pub table_put : (table : Table) (tables : List Table) → put_table table tables ≡ insert tables (position_or_len (λ (t : Table). key_lt table.name t.name) tables) table
table_put table [] = refl
table_put table (t ∷ tables) = step (key_lt table.name t.name) (table_put table tables)
  where
    at : ℕ
    at = position_or_len (λ (t : Table). key_lt table.name t.name) tables

    step : (b : Bool) → put_table table tables ≡ insert tables at table → cond b (table ∷ t ∷ tables) (t ∷ put_table table tables) ≡ insert (t ∷ tables) (cond (not b) (1 + at) 0) table
    step true e = refl
    step false e = ap (λ ts. t ∷ ts) e ∙ ap (λ n. insert (t ∷ tables) n table) (suc_is at)
