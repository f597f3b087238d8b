use Rattle.std.proofs.Common.{◌≡◌, map, take}
use Rattle.vo_spec.specs.Removes.{set_cells}
use Rattle.mb_update.specs.Sets.{change_of}
use Rattle.mb_update.proofs.part_rows.set_all.Given as goal

-- those set so far
abbrev pub invariant-loop-set : goal.invariant-loop-set
invariant-loop-set l = l.cells.items ≡ set_cells (map change_of (take l.set-index l.sets)) l.fn.cells.items
