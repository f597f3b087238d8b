use Rattle.std.proofs.Common.{◌≡◌, ℕ, ◌<◌, ◌≤◌, arith}
use Rattle.vo_spec.specs.OtsSets.{width_of, count_of}
use Rattle.vo_spec.specs.Ots.{coef}
use Rattle.lms_forge.specs.Lowering.{own_digit, NoneLower}
use Rattle.lms_forge.proofs.LowerDigits.{some_lower}
use Rattle.lms_forge.proofs.digits.first_lower.Goals as goal

not_below : (a b : ℕ) → (a < b → ⊥) → b ≤ a
not_below a b not = omega arith

pub unreachable-requires : goal.unreachable-requires
unreachable-requires c =
    let all : c.loop-i.i ≡ count_of c.args.ots = omega arith in
    let none : NoneLower c.args.ots c.args.digits.now c.args.own.now =
    λ k inside. not_below (coef c.args.digits.now k (width_of c.args.ots)) (own_digit c.args.ots c.args.own.now k)
    (c.loop-i.invariant k (omega (arith, all, inside))) in
    some_lower c.args.ots c.args.digits.now c.args.own.now c.requires none
