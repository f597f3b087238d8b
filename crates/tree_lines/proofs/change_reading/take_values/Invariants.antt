use Rattle.std.specs.Prelude.{◌≡◌, All, length}
use Rattle.vo_spec.specs.Values.{FitsValue}
use Rattle.tree_lines.proofs.change_reading.take_values.Given as goal

-- as many values as were counted, each within its limits
abbrev pub invariant-loop : goal.invariant-loop
invariant-loop l = record {
  count : length l.values.items ≡ l.counter;
  each : All FitsValue l.values.items;
}
