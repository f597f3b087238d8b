use Rattle.std.proofs.Common.{◌+◌, ◌-◌, ◌≤◌, sym, ap, ◌∙◌, arith}
use Rattle.vo_spec.specs.Ots.{advance}
use Rattle.lms_forge.proofs.ChainLaws.{one_step, no_step}
use Rattle.lms_forge.proofs.Findings.{equal, unequal}
use Rattle.lms_forge.proofs.chains.meeting_step.Goals as goal

pub loop-j-init : goal.loop-j-init
loop-j-init c = record {
  first_is = no_step c.args.id.now c.args.q c.args.i c.args.from c.args.values.0;
  second_is = no_step c.args.id.now c.args.q c.args.i c.args.from c.args.values.1;
  differ = unequal c.args.values.0 c.args.values.1 c.eq.result c.eq.ensures c.if-eq.false;
}

pub returns-then-eq-2-clause-some : goal.returns-then-eq-2-clause-some
returns-then-eq-2-clause-some c =
    let j = c.loop-j.j in
    let low : c.args.from ≤ j = omega arith in
    let one = advance c.args.id.now c.args.q c.args.i j (j + 1 - j) in
    record {
      behind = low;
      inside = omega arith;
      differ = λ same. c.loop-j.invariant.differ (c.loop-j.invariant.first_is ∙ same ∙ sym c.loop-j.invariant.second_is);
      meet = sym (one_step c.args.id.now c.args.q c.args.i c.args.from j c.args.values.0 low)
          ∙ sym (ap one c.loop-j.invariant.first_is)
          ∙ sym c.chain-first.ensures
          ∙ equal c.chain-first.result c.chain-second.result c.eq-in-loop-j.result c.eq-in-loop-j.ensures c.if-eq-2.true
          ∙ c.chain-second.ensures
          ∙ ap one c.loop-j.invariant.second_is
          ∙ one_step c.args.id.now c.args.q c.args.i c.args.from j c.args.values.1 low;
    }

pub loop-j-preserved : goal.loop-j-preserved
loop-j-preserved c =
    let j = c.loop-j.j in
    let low : c.args.from ≤ j = omega arith in
    let one = advance c.args.id.now c.args.q c.args.i j (j + 1 - j) in
    record {
      first_is = c.chain-first.ensures ∙ ap one c.loop-j.invariant.first_is
          ∙ one_step c.args.id.now c.args.q c.args.i c.args.from j c.args.values.0 low;
      second_is = c.chain-second.ensures ∙ ap one c.loop-j.invariant.second_is
          ∙ one_step c.args.id.now c.args.q c.args.i c.args.from j c.args.values.1 low;
      differ = unequal c.chain-first.result c.chain-second.result c.eq-in-loop-j.result c.eq-in-loop-j.ensures c.if-eq-2.false;
    }
