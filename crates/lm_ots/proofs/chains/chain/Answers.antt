use Rattle.std.proofs.Common.{◌≡◌, ◌-◌, ◌+◌, refl, arith}
use Rattle.vo_spec.specs.Ots.{advance}
use Rattle.lm_ots.proofs.Chaining.{advance_more}
use Rattle.lm_ots.proofs.chains.chain.Goals as goal

pub loop-j-init : goal.loop-j-init
unfolding advance
loop-j-init c = let none : c.args.from - c.args.from ≡ 0 = omega arith in rw none refl

pub loop-j-preserved : goal.loop-j-preserved
loop-j-preserved c =
    let one_more : c.loop-j.j + 1 - c.args.from ≡ c.loop-j.j - c.args.from + 1 = omega arith in
    let place : c.args.from + (c.loop-j.j - c.args.from) ≡ c.loop-j.j = omega arith in
    rw (one_more, advance_more, place) cc
