use Rattle.std.specs.Prelude.{◌≤◌, All, length}
use Rattle.vo_spec.specs.Fits.{FitsCell}
use Rattle.format_lines.proofs.reading.read_row.Given as goal

-- no more cells than a row has, each within its limits
abbrev pub invariant-loop-string : goal.invariant-loop-string
invariant-loop-string l = record {
  count : length l.cells.items ≤ 31;
  each : All FitsCell l.cells.items;
}
