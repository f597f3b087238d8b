-- Where columns or values end, each column may have its value.
use Rattle.std.proofs.Common.{◌≡◌, ℕ, ◌≤◌, true, List, [], ◌∷◌, length, drop, inl, inr, refl, sym, ap, ◌∙◌, arith}
use Rattle.std.specs.Prelude.{min}
use Rattle.std.proofs.Math.ListN.{drop_of_length-le}
use Rattle.std.proofs.lemmas.Bool.{cases_lt}
use Rattle.vo_spec.specs.declared.values.Value.{Value}
use Rattle.vo_spec.specs.declared.tables.Column.{Column}
use Rattle.vo_spec.specs.Tables.{allow_each}

no_values : (columns : List Column) → true ≡ allow_each columns []
no_values [] = refl
no_values (c ∷ columns) = refl

pub allowed_at_end : (columns : List Column) (values : List Value) (n : ℕ) → n ≡ min (length columns) (length values) → true ≡ allow_each (drop n columns) (drop n values)
allowed_at_end columns values n e = elim (cases_lt (length columns) (length values)) [
  | inl l ↦
      let h : length columns ≤ n = omega (arith, e, l) in
      ap (λ (cs : List Column). allow_each cs (drop n values)) (sym (drop_of_length-le columns h))
  | inr l ↦
      let h : length values ≤ n = omega (arith, e, l) in
      no_values (drop n columns) ∙ ap (allow_each (drop n columns)) (sym (drop_of_length-le values h))
]
