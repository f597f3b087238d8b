-- What an index shows of a row is what the table has.
use Rattle.std.proofs.Common.{◌≡◌, ℕ, suc, ◌+◌, Bool, true, false, cond, List, [], ◌∷◌, map, inl, inr, refl, sym, ap, ◌∙◌, arith}
use Rattle.std.specs.Prelude.{◌⊎◌, ◌==◌, not}
use Rattle.std.specs.List.{list_any, position_or_len}
use Rattle.std.proofs.lemmas.Bool.{both_ways, eqb-true, eq-eqb, or_cases}
use Rattle.vo_spec.specs.declared.values.Value.{Value}
use Rattle.vo_spec.specs.declared.values.Row.{Row}
use Rattle.vo_spec.specs.declared.tables.Schema.{Schema}
use Rattle.vo_spec.specs.Values.{key_of, value_of_key}
use Rattle.vo_spec.specs.Tables.{cell_number, value_at}
use Rattle.vo_spec.specs.Results.{row_view_of}
use Rattle.vo_laws.specs.Columns.{seen_row}
use Rattle.vo_laws.proofs.ListLaws.{IsIn}
use Rattle.index_laws.specs.Indexes.{index_key, index_row, indexed_value, primary_key, IsIndexable, kind_in, index_row_view}
use Rattle.index_laws.proofs.IndexKeys.{key_split, value_read}

-- the value among those of some cells is that of the cell
value_among : (values : List Value) (cells : List ℕ) (c : ℕ) → IsIn c cells
    → value_at (map (value_at values) cells) (position_or_len (λ x. x == c) cells)
    ≡ value_at values c
value_among values [] c i = absurd i
value_among values (x ∷ cells) c i = step (x == c) refl i (value_among values cells c)
  where
    step : (b : Bool) → (x == c) ≡ b → IsIn c (x ∷ cells)
        → (IsIn c cells → value_at (map (value_at values) cells)
        (position_or_len (λ y. y == c) cells) ≡ value_at values c)
        → value_at (value_at values x ∷ map (value_at values) cells)
        (cond (not b) (1 + position_or_len (λ y. y == c) cells) 0) ≡ value_at values c
    step true e i rest = ap (value_at values) (eqb-true x c e)
    step false e (inl same) rest = absurd (both_ways (x == c) e (eq-eqb x c (sym same)))
    step false e (inr j) rest =
        let next : 1 + position_or_len (λ y. y == c) cells
        ≡ suc (position_or_len (λ y. y == c) cells) = omega arith in
        rw next (rest j)

module _ (schema : Schema) (indexed : ℕ) (cells : List ℕ) (row : Row)
    (fits : IsIndexable (kind_in schema indexed)
    (value_at row.cells (cell_number schema.key indexed))) where
  -- the columns that are read: the key, the indexed one, and those of the cells
  abbrev pub IsShown : ℕ → Type 0
  IsShown column = ((column == schema.key) ≡ true) ⊎ ((column == indexed) ≡ true)
      ⊎ IsIn (cell_number schema.key column) cells

  pub shows_row : (column : ℕ) → IsShown column
      → index_row_view schema indexed cells
      (seen_row cells (index_row (cell_number schema.key indexed) row)) column
      ≡ row_view_of schema row column
  shows_row column i = step (column == schema.key) refl (column == indexed) refl i
    where
      step : (x : Bool) → (column == schema.key) ≡ x → (y : Bool) → (column == indexed) ≡ y
          → IsShown column
          → cond x (value_of_key (kind_in schema column)
          (primary_key (kind_in schema indexed)
          (index_key (key_of (value_at row.cells (cell_number schema.key indexed))) row.key)))
          (cond y (value_of_key (kind_in schema indexed)
          (indexed_value (kind_in schema indexed)
          (index_key (key_of (value_at row.cells (cell_number schema.key indexed))) row.key)))
          (value_at (map (value_at row.cells) cells)
          (position_or_len (λ c. c == cell_number schema.key column) cells)))
          ≡ cond x (value_of_key (kind_in schema column) row.key)
          (value_at row.cells (cell_number schema.key column))
      step true e y f i = ap (value_of_key (kind_in schema column))
          (key_split (kind_in schema indexed)
          (value_at row.cells (cell_number schema.key indexed)) row.key fits)
      step false e true f i =
          let same : column ≡ indexed = eqb-true column indexed f in
          value_read (kind_in schema indexed)
          (value_at row.cells (cell_number schema.key indexed)) row.key fits
          ∙ ap (λ c. value_at row.cells (cell_number schema.key c)) (sym same)
      step false e false f (inl g) = absurd (both_ways (column == schema.key) e g)
      step false e false f (inr (inl g)) = absurd (both_ways (column == indexed) f g)
      step false e false f (inr (inr j)) =
          value_among row.cells cells (cell_number schema.key column) j

among_in : (c : ℕ) (cells : List ℕ) → list_any (λ x. x == c) cells ≡ true → IsIn c cells
among_in c [] e = absurd (cc)
among_in c (x ∷ cells) e = elim (or_cases (x == c) (list_any (λ y. y == c) cells) e) [
  | inl same ↦ inl (sym (eqb-true x c same))
  | inr behind ↦ inr (among_in c cells behind)
]

pub shows_column : (schema : Schema) (indexed : ℕ) (cells : List ℕ) (row : Row)
    → IsIndexable (kind_in schema indexed) (value_at row.cells (cell_number schema.key indexed))
    → (column : ℕ) → ((column == schema.key) ≡ true) ⊎ ((column == indexed) ≡ true)
    ⊎ (list_any (λ c. c == cell_number schema.key column) cells ≡ true)
    → index_row_view schema indexed cells
    (seen_row cells (index_row (cell_number schema.key indexed) row)) column
    ≡ row_view_of schema row column
shows_column schema indexed cells row fits column (inl e) =
    shows_row schema indexed cells row fits column (inl e)
shows_column schema indexed cells row fits column (inr (inl e)) =
    shows_row schema indexed cells row fits column (inr (inl e))
shows_column schema indexed cells row fits column (inr (inr e)) =
    shows_row schema indexed cells row fits column
    (inr (inr (among_in (cell_number schema.key column) cells e)))
