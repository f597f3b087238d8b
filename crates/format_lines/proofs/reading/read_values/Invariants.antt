use Rattle.std.specs.Prelude.{◌≤◌, All, length}
use Rattle.vo_spec.specs.Values.{FitsValue}
use Rattle.format_lines.proofs.reading.read_values.Given as goal

-- no more values than a row has, each within its limits
abbrev pub invariant-loop-string : goal.invariant-loop-string
invariant-loop-string l = record {
  count : length l.values.items ≤ 31;
  each : All FitsValue l.values.items;
}
