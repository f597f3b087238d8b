use Rattle.std.proofs.Common.{◌≡◌, map, take}
use Rattle.vo_spec.specs.Tables.{changed_cells}
use Rattle.vo_spec.specs.Fits.{FitsCells}
use Rattle.mb_update.specs.Sets.{change_of}
use Rattle.mb_update.proofs.tree_rows.set_values.Given as goal

-- the values with those set so far
abbrev pub invariant-loop-set : goal.invariant-loop-set
invariant-loop-set l = record {
  value : l.values.items ≡ changed_cells (map change_of (take l.set-index l.sets)) l.fn.values.items;
  fits : FitsCells l.values.items;
}
