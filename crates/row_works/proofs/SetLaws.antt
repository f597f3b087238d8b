-- The values of the cells that SET names fit.
use Rattle.std.proofs.Common.{◌≡◌, List, [], ◌∷◌, map, sym, subst}
use Rattle.std.specs.List.{AllByRecursion}
use Rattle.std.proofs.lemmas.List.Elements.{All-from_recursion}
use Rattle.vo_spec.specs.declared.tables.Schema.{Schema}
use Rattle.vo_spec.specs.declared.tables.SetPart.{SetPart}
use Rattle.vo_spec.specs.Values.{FitsValue}
use Rattle.vo_spec.specs.Tables.{cell_changes}
use Rattle.vo_spec.specs.Batches.{FitsSet}
use Rattle.mb_update.specs.declared.ops.SetCell.{SetCell}
use Rattle.mb_update.specs.Sets.{FitsSets}
use Rattle.row_works.specs.Operations.{set_cell}

each_fits : (schema : Schema) (sets : List SetPart) → AllByRecursion FitsSet sets
    → AllByRecursion (λ (c : SetCell). FitsValue c.value) (map set_cell (cell_changes schema sets))
each_fits schema [] fits = tt
each_fits schema (s ∷ sets) fits = (fits.0.1, each_fits schema sets fits.1)

pub sets_fit : (schema : Schema) (sets : List SetPart) (cells : List SetCell) → cells ≡ map set_cell (cell_changes schema sets) → AllByRecursion FitsSet sets → FitsSets cells
sets_fit schema sets cells same fits =
    subst FitsSets (sym same)
    (All-from_recursion (λ (c : SetCell). FitsValue c.value) (map set_cell (cell_changes schema sets)) (each_fits schema sets fits))
