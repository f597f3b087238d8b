use Rattle.std.proofs.Common.{◌≡◌, ◌<◌, ◌++◌, ◌∷◌, [], List, Some, None, length, take, refl, sym, ap, ◌∙◌, subst, arith}
use Rattle.std.proofs.lemmas.List.{length-take-le}
use Rattle.vo_spec.specs.declared.records.Entry.{Entry}
use Rattle.vo_spec.specs.Secret.{Secret}
use Rattle.owner_roots.specs.declared.roots.Roots.{Roots}
use Rattle.owner_state.specs.Held.{Held}
use Rattle.owner_state.specs.Replaying.{GivesStepAs}
use Rattle.owner_state.specs.Stepping.{AreStepsTo, IsNoStepAt, IsStepTo}
use Rattle.owner_state.proofs.LeadLaws.{take_next}
use Rattle.owner_state.proofs.ReplayLaws.{no_step_more, step_more}
use Rattle.owner_state.proofs.replaying.replay_behind.Goals as goal

pub loop-index-init : goal.loop-index-init
loop-index-init c = record { some = omega arith; key = refl; steps = c.requires.first }

pub returns-in-None-clause-bad : goal.returns-in-None-clause-bad
returns-in-None-clause-bad c =
    let key : Secret = c.args.owner.now.key in
    let es : List Entry = c.args.entries.now in
    let n = c.loop-index.index in
    let roots : Roots = c.loop-index.owner.roots in
    let e : Entry = c.index-entries-index.result in
    let gives : GivesStepAs c.loop-index.owner.key roots e None = subst (GivesStepAs c.loop-index.owner.key roots e) c.in-None.is (rw c.prepare.ensures at c.in_ok-step.ensures) in
    let never : (after : Roots) → IsStepTo key roots e after → ⊥ =
    subst (λ (k : Secret). (after : Roots) → IsStepTo k roots e after → ⊥) c.loop-index.invariant.key gives in
    let within : n < length es = c.loop-index-test.true in
    let some : 0 < n = c.loop-index.invariant.some in
    let long : length (take n es) ≡ n = length-take-le n es (omega arith) in
    let there : 0 < length (take n es) = omega arith in
    let stops : IsNoStepAt key es n = record {
      so_far = λ later. (roots, c.loop-index.invariant.steps);
      not_on = λ behind more.
          no_step_more key (take n es) roots e there c.loop-index.invariant.steps never behind
          (subst (λ (fs : List Entry). AreStepsTo key fs behind) (take_next es n e within c.index-entries-index.is) more);
    } in
    λ index same.
    let number : n ≡ index = cc in
    subst (IsNoStepAt key es) number stops

pub loop-index-preserved : goal.loop-index-preserved
loop-index-preserved c =
    let key : Secret = c.args.owner.now.key in
    let es : List Entry = c.args.entries.now in
    let n = c.loop-index.index in
    let roots : Roots = c.loop-index.owner.roots in
    let e : Entry = c.index-entries-index.result in
    let gives : GivesStepAs c.loop-index.owner.key roots e (Some c.in-Some.step) =
    subst (GivesStepAs c.loop-index.owner.key roots e) c.in-Some.is (rw c.prepare.ensures at c.in_ok-step.ensures) in
    let is : IsStepTo key roots e c.in-Some.step.roots = subst (λ (k : Secret). IsStepTo k roots e c.in-Some.step.roots) c.loop-index.invariant.key gives.1 in
    let within : n < length es = c.loop-index-test.true in
    let some : 0 < n = c.loop-index.invariant.some in
    let long : length (take n es) ≡ n = length-take-le n es (omega arith) in
    let there : 0 < length (take n es) = omega arith in
    record {
      some = omega arith;
      key = c.advance.ensures.key ∙ ap (λ (h : Held). h.key) c.prepare.ensures ∙ c.loop-index.invariant.key;
      steps = subst (λ (fs : List Entry). AreStepsTo key fs c.advance.new.self.roots) (sym (take_next es n e within c.index-entries-index.is))
          (subst (AreStepsTo key (take n es ++ e ∷ [])) (sym c.advance.ensures.roots)
          (step_more key (take n es) roots e c.in-Some.step.roots there c.loop-index.invariant.steps is));
    }
