-- One column further among those that a query names.
use Rattle.std.proofs.Common.{◌≡◌, ℕ, suc, ◌+◌, ◌-◌, ◌<◌, true, false, cond, List, [], ◌∷◌, ◌++◌, map, sym, ap, ◌∙◌, arith, append_assoc}
use Rattle.std.specs.Prelude.{filter}
use Rattle.vo_spec.specs.declared.tables.Schema.{Schema}
use Rattle.vo_spec.specs.Tables.{cell_number}
use Rattle.vo_spec.specs.Results.{numbers_from}
use Rattle.query_plan.specs.BoundQueries.{BoundQuery}
use Rattle.query_plan.specs.NamedCells.{is_named_cell, cells_from}

numbers_next : (i n : ℕ) → i < n → numbers_from i (n - i) ≡ i ∷ numbers_from (i + 1) (n - (i + 1))
numbers_next i n lt =
    let e : n - i ≡ suc (n - (i + 1)) = omega arith in
    ap (numbers_from i) e

module _ (b : BoundQuery) (bound_source : ℕ) (schema : Schema) (i n : ℕ) where
  abbrev rest : List ℕ
  rest = cells_from b bound_source schema (i + 1) (n - (i + 1))

  cells_at : i < n → cells_from b bound_source schema i (n - i) ≡ map (cell_number schema.key) (cond (is_named_cell b bound_source schema.key i) (i ∷ filter (is_named_cell b bound_source schema.key) (numbers_from (i + 1) (n - (i + 1)))) (filter (is_named_cell b bound_source schema.key) (numbers_from (i + 1) (n - (i + 1)))))
  cells_at lt = ap (λ ns. map (cell_number schema.key) (filter (is_named_cell b bound_source schema.key) ns)) (numbers_next i n lt)

  pub step_named : (front all : List ℕ) → i < n → is_named_cell b bound_source schema.key i ≡ true → front ++ cells_from b bound_source schema i (n - i) ≡ all
      → (front ++ cell_number schema.key i ∷ []) ++ cells_from b bound_source schema (i + 1) (n - (i + 1)) ≡ all
  step_named front all lt named e =
      let at : cells_from b bound_source schema i (n - i) ≡ cell_number schema.key i ∷ rest =
      cells_at lt ∙ ap (λ t. map (cell_number schema.key) (cond t (i ∷ filter (is_named_cell b bound_source schema.key) (numbers_from (i + 1) (n - (i + 1)))) (filter (is_named_cell b bound_source schema.key) (numbers_from (i + 1) (n - (i + 1)))))) named in
      rw append_assoc (ap (λ cells. front ++ cells) (sym at) ∙ e)

  pub step_passed : (front all : List ℕ) → i < n → is_named_cell b bound_source schema.key i ≡ false → front ++ cells_from b bound_source schema i (n - i) ≡ all
      → front ++ cells_from b bound_source schema (i + 1) (n - (i + 1)) ≡ all
  step_passed front all lt passed e =
      let at : cells_from b bound_source schema i (n - i) ≡ rest =
      cells_at lt ∙ ap (λ t. map (cell_number schema.key) (cond t (i ∷ filter (is_named_cell b bound_source schema.key) (numbers_from (i + 1) (n - (i + 1)))) (filter (is_named_cell b bound_source schema.key) (numbers_from (i + 1) (n - (i + 1)))))) passed in
      ap (λ cells. front ++ cells) (sym at) ∙ e
