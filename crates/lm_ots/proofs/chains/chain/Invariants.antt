-- After the steps before j, the value is the start advanced by as many.
use Rattle.std.proofs.Common.{◌≡◌, ◌-◌}
use Rattle.vo_spec.specs.Ots.{advance}
use Rattle.lm_ots.proofs.chains.chain.Given as goal

abbrev pub invariant-loop-j : goal.invariant-loop-j
invariant-loop-j l = l.value ≡ advance l.id l.q l.i l.fn.from (l.j - l.fn.from) l.start
