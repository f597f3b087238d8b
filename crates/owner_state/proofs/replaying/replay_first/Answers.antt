use Rattle.std.proofs.Common.{◌≡◌, true, List, sym, subst}
use Rattle.vo_spec.specs.declared.records.Entry.{Entry}
use Rattle.vo_spec.specs.Secret.{Secret}
use Rattle.owner_state.specs.Stepping.{AreStepsTo, IsNoStepAt}
use Rattle.owner_state.proofs.ReplayLaws.{first_step, no_first_step}
use Rattle.owner_state.proofs.replaying.replay_first.Goals as goal

pub returns-then-not-begin_with-clause-bad : goal.returns-then-not-begin_with-clause-bad
returns-then-not-begin_with-clause-bad c = λ index same.
    let number : 0 ≡ index = cc in
    subst (IsNoStepAt c.args.key.now c.args.entries.now) number
    (no_first_step c.args.key.now c.args.entries.now c.in_ok-owner.first c.in_ok-owner.ensures.entry
    (λ begins. let yes : c.begin_with.result ≡ true = c.begin_with.ensures.1 begins in let other = c.if-not-begin_with.true in absurd (cc)))

pub returns-clause-roots : goal.returns-clause-roots
returns-clause-roots c =
    let key : Secret = c.args.key.now in
    let test = c.if-not-begin_with.false in
    let yes : c.begin_with.result ≡ true = cc in
    subst (λ (fs : List Entry). AreStepsTo key fs c.in_ok-owner.owner.roots) (sym (c.begin_with.ensures.0 yes))
    (first_step key c.in_ok-owner.first c.in_ok-owner.owner.roots c.in_ok-owner.ensures.entry c.in_ok-owner.ensures.roots)
