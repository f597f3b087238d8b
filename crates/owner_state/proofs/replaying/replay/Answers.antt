use Rattle.std.proofs.Common.{◌≡◌, Err, take, sym, ap, ◌∙◌, subst}
use Rattle.vo_spec.specs.Secret.{Secret}
use Rattle.owner_state.specs.declared.replaying.ReplayFault.TheVariants.{Entry}
use Rattle.owner_state.specs.Stepping.{AreStepsTo, IsNoStepAt}
use Rattle.owner_state.proofs.replaying.replay.Goals as goal

pub replay_behind-requires-clause-first : goal.replay_behind-requires-clause-first
replay_behind-requires-clause-first c =
    subst (λ (k : Secret). AreStepsTo k (take 1 c.args.entries.now) c.in_ok-owner.owner.roots) (sym c.in_ok-owner.ensures.key) c.in_ok-owner.ensures.roots

pub returns-in-Ok-clause-key : goal.returns-in-Ok-clause-key
returns-in-Ok-clause-key c = c.in-Ok.ensures.key ∙ c.in_ok-owner.ensures.key

pub returns-in-Ok-clause-roots : goal.returns-in-Ok-clause-roots
returns-in-Ok-clause-roots c =
    subst (λ (k : Secret). AreStepsTo k c.args.entries.now c.replay_behind.new.owner.roots) c.in_ok-owner.ensures.key c.in-Ok.ensures.roots

pub returns-in-Err-clause-bad : goal.returns-in-Err-clause-bad
returns-in-Err-clause-bad c = λ index is.
    let same : c.in-Err.fault ≡ Entry index = cc in
    subst (λ (k : Secret). IsNoStepAt k c.args.entries.now index) c.in_ok-owner.ensures.key (c.in-Err.ensures.bad index (ap Err same))
