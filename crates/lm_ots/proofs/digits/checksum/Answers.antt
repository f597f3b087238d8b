use Rattle.std.proofs.Common.{◌≡◌, ◌/◌, ◌%◌, ◌^◌, ◌*◌, refl, ap, arith}
use Rattle.vo_spec.specs.OtsSets.{shift_of}
use Rattle.vo_spec.specs.Ots.{shortfall, checksum_of}
use Rattle.lm_ots.proofs.Checking.{shortfall_more, power_fits, shift_fits}
use Rattle.lm_ots.proofs.digits.checksum.Goals as goal

pub loop-i-init : goal.loop-i-init
unfolding shortfall
loop-i-init c = (refl, omega arith)

pub loop-i-preserved : goal.loop-i-preserved
loop-i-preserved c =
    let fits : 1 * 2 ^ c.width-w.result % 4294967296 ≡ 2 ^ c.width-w.result = rw c.width-w.ensures (power_fits c.args.ots) in
    (rw (fits, shortfall_more) cc, rw fits (omega arith))

pub returns : goal.returns
unfolding checksum_of
returns c =
    let all : c.loop-i.i ≡ 256 / c.width-w.result = omega arith in
    let summed = rw (all, c.width-w.ensures) at c.loop-i.invariant in
    rw (c.shift.ensures, shift_fits c.args.ots c.loop-i.sum summed.1) (ap (λ sum. sum * 2 ^ shift_of c.args.ots) summed.0)
