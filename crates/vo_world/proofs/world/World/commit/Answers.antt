use Rattle.std.proofs.Common.{Ok, refl, sym, subst, ◌∙◌}
use Rattle.vo_spec.specs.Secret.{Secret}
use Rattle.owner_state.specs.Stepping.{StepOf}
use Rattle.owner_state.proofs.OwnerSteps.{step_given_by}
use Rattle.vo_world.specs.declared.events.Said.TheVariants as said
use Rattle.vo_world.specs.Keeping.{Keeps}
use Rattle.vo_world.specs.Steps.{begun}
use Rattle.vo_world.specs.Viewing.{model_of}
use Rattle.vo_world.proofs.EntryFits.{few_entries}
use Rattle.vo_world.proofs.Models.{gained_is, same_model}
use Rattle.vo_world.proofs.StepLaws.{begun_keeps, commit_keeps}
use Rattle.vo_world.proofs.world.World.commit.Goals as goal

pub invariant_of-self : goal.invariant_of-self
invariant_of-self c =
    let w = model_of c.self.inside in
    record {
      keeps = subst Keeps
          (same_model (begun w) _ refl refl refl refl (sym c.moment-moment.ensures) refl refl
          (gained_is _ _ _ _ _ c.deref.ensures.value c.entries.ensures (c.in_ok-released.ensures {u = tt})))
          (begun_keeps w c.self.invariant.keeps);
      own_key = c.self.invariant.own_key;
      works = c.self.invariant.works;
      trust = c.self.invariant.trust;
    }

pub append_entry-requires-clause-count : goal.append_entry-requires-clause-count
append_entry-requires-clause-count c =
    let w = model_of c.self.inside in
    let is = step_given_by c.self.inside.owner.key c.self.inside.owner.roots c.args.batch.now.commands c.args.proofs.now c.step.result c.in-Ok.step c.in-Ok.is c.step.ensures.answer in
    let own = subst (λ (k : Secret). StepOf k c.self.inside.owner.roots c.args.batch.now.commands c.args.proofs.now (Ok c.in-Ok.step)) c.self.invariant.own_key is in
    few_entries w.key w.entries w.roots c.args.batch.now.commands c.args.proofs.now c.in-Ok.step c.self.invariant.keeps.steps own c.in-Ok.ensures.few

pub invariant_of-self-2 : goal.invariant_of-self-2
invariant_of-self-2 c =
    let w = model_of c.self.inside in
    let is = step_given_by c.self.inside.owner.key c.self.inside.owner.roots c.args.batch.now.commands c.args.proofs.now c.step.result c.in-Ok.step c.in-Ok.is c.step.ensures.answer in
    let own = subst (λ (k : Secret). StepOf k c.self.inside.owner.roots c.args.batch.now.commands c.args.proofs.now (Ok c.in-Ok.step)) c.self.invariant.own_key is in
    let put = c.in_ok-append_entry.ensures {u = tt} in
    record {
      keeps = commit_keeps (begun w) (begun_keeps w c.self.invariant.keeps) refl c.args.batch.now c.args.proofs.now c.requires (Ok c.in-Ok.step)
          (said.Committed c.in-Ok.step.roots.version) _ own (
            refl,
            same_model _ _ refl c.advance.ensures.roots put.entries put.drive c.moment-moment.ensures refl refl
                (sym (gained_is _ _ _ _ _ c.deref.ensures.value c.entries.ensures (c.in_ok-released.ensures {u = tt}))),
          );
      own_key = c.advance.ensures.key ∙ c.self.invariant.own_key;
      works = put.works;
      trust = c.self.invariant.trust;
    }
