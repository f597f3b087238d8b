-- The sum so far is what the digits so far fall short by, each by less than 2 ^ w.
use Rattle.std.proofs.Common.{◌≡◌, ◌*◌, ◌-◌, ◌^◌, ◌≤◌}
use Rattle.vo_spec.specs.Ots.{shortfall}
use Rattle.lm_ots.proofs.digits.checksum.Given as goal

abbrev pub invariant-loop-i : goal.invariant-loop-i
invariant-loop-i l = (l.sum ≡ shortfall l.digest l.w l.i) × (l.sum ≤ l.i * (2 ^ l.w - 1))
