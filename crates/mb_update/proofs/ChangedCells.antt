-- A row's values with some of them set.
use Rattle.std.proofs.Common.{◌≡◌, ℕ, ◌+◌, ◌<◌, List, ◌∷◌, [], ◌++◌, length, map, take, get_or, slice_set, sym, ap, ◌∙◌, subst, arith, length-set}
use Rattle.std.proofs.lemmas.List.{map_more}
use Rattle.std.proofs.lemmas.List.Sums.{fold_push}
use Rattle.std.proofs.lemmas.List.Elements.{All-set}
use Rattle.vo_spec.specs.declared.values.Value.{Value}
use Rattle.vo_spec.specs.Values.{FitsValue}
use Rattle.vo_spec.specs.Fits.{FitsCells}
use Rattle.vo_spec.specs.Tables.{changed_cells}
use Rattle.mb_update.specs.declared.ops.SetCell.{SetCell}
use Rattle.mb_update.specs.Sets.{change_of, FitsSets}

pub record SetSoFar (sets : List SetCell) (i : ℕ) (values new : List Value) : Type 0 where
  pub value : new ≡ changed_cells (map change_of (take i sets)) values
  pub fits : FitsCells new

pub one_more : (sets : List SetCell) (i : ℕ) (values new next : List Value) (set : SetCell) → i < length sets → set ≡ get_or sets i set → FitsSets sets
    → SetSoFar sets i values new → next ≡ slice_set new set.column set.value → SetSoFar sets (i + 1) values next
one_more sets i values new next set lt is fit far made =
    let changes : map change_of (take (i + 1) sets) ≡ map change_of (take i sets) ++ change_of set ∷ [] = map_more change_of sets i set lt ∙ ap (λ s. map change_of (take i sets) ++ change_of s ∷ []) (sym is) in
    let value : FitsValue set.value = subst (λ (s : SetCell). FitsValue s.value) (sym is) (fit i set lt) in
    let P : List Value → Type 0 = λ l. FitsCells l in
    record {
      value = made ∙ ap (λ l. slice_set l set.column set.value) far.value ∙ sym (fold_push _ values (map change_of (take i sets)) (change_of set)) ∙ ap (λ l. changed_cells l values) (sym changes);
      fits = subst P (sym made) (record { count = omega (arith, length-set new set.column set.value, far.fits.count); each = All-set FitsValue new set.column set.value value far.fits.each });
    }
