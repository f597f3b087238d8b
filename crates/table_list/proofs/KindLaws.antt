-- Values are of their columns' kinds only where there are as many of both.
use Rattle.std.proofs.Common.{◌≡◌, ◌≢◌, suc, Bool, true, false, ◌&&◌, List, [], ◌∷◌, length, refl, ap}
use Rattle.vo_spec.specs.declared.values.Value.{Value}
use Rattle.vo_spec.specs.declared.tables.Column.{Column}
use Rattle.vo_spec.specs.Tables.{are_of_kinds}
use Rattle.vo_spec.specs.Values.{is_of_kind}

and_false : (a b : Bool) → false ≡ b → false ≡ (a && b)
and_false true b e = e
and_false false b e = refl

pub unlike_lengths : (columns : List Column) (values : List Value) → length columns ≢ length values → false ≡ are_of_kinds columns values
unlike_lengths [] [] other = absurd (other refl)
unlike_lengths [] (v ∷ values) other = refl
unlike_lengths (c ∷ columns) [] other = refl
unlike_lengths (c ∷ columns) (v ∷ values) other = and_false (is_of_kind c.kind v) _ (unlike_lengths columns values (λ e. other (ap suc e)))
