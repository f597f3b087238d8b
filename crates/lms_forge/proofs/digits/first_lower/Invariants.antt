-- No digit so far is below the owner's.
use Rattle.std.proofs.Common.{ℕ, ◌<◌}
use Rattle.vo_spec.specs.OtsSets.{width_of}
use Rattle.vo_spec.specs.Ots.{coef}
use Rattle.lms_forge.specs.Lowering.{own_digit}
use Rattle.lms_forge.proofs.digits.first_lower.Given as goal

abbrev pub invariant-loop-i : goal.invariant-loop-i
invariant-loop-i l = (k : ℕ) → k < l.i
    → coef l.digits k (width_of l.fn.ots) < own_digit l.fn.ots l.own k → ⊥
