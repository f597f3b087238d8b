-- The two values before step j, which differ.
use Rattle.std.proofs.Common.{◌≡◌, ◌-◌}
use Rattle.std.specs.Prelude.{◌≢◌}
use Rattle.vo_spec.specs.Ots.{advance}
use Rattle.lms_forge.proofs.chains.meeting_step.Given as goal

abbrev pub invariant-loop-j : goal.invariant-loop-j
invariant-loop-j l = record {
  first_is : l.first ≡ advance l.id l.q l.i l.fn.from (l.j - l.fn.from) l.fn.values.0;
  second_is : l.second ≡ advance l.id l.q l.i l.fn.from (l.j - l.fn.from) l.fn.values.1;
  differ : l.first ≢ l.second;
}
