-- What a replacement sets.
use Rattle.std.specs.Prelude.{List, All}
use Rattle.vo_spec.specs.declared.values.Row.{Row}
use Rattle.vo_spec.specs.Values.{FitsValue}
use Rattle.vo_spec.specs.Tables.{CellChange, changed_cells}
use Rattle.mb_update.specs.declared.ops.SetCell.{SetCell}

abbrev pub change_of : SetCell → CellChange
change_of set = record { column = set.column; value = set.value }

-- the values keep to their limits
abbrev pub FitsSets : List SetCell → Type 0
FitsSets = All (λ (set : SetCell). FitsValue set.value)

abbrev pub changed_by : List CellChange → Row → Row
changed_by changes row = record { key = row.key; cells = changed_cells changes row.cells }
