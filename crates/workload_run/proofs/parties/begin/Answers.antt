use Rattle.std.proofs.Common.{ap, ◌∙◌}
use Rattle.owner_state.specs.Held.{Held}
use Rattle.vo_store.specs.StoreState.{new_store}
use Rattle.workload_run.proofs.StandLaws.{begun, takes_first}
use Rattle.workload_run.proofs.StoreSteps.{StoreLaws}
use Rattle.workload_run.proofs.parties.begin.Goals as goal

pub install-requires : goal.install-requires
install-requires c =
    let keeps = c.stores_stay_honest.ensures in
    let follow = c.owners_follow_stores.ensures in
    let laws : StoreLaws = record {
      new = keeps.new;
      proposed = keeps.proposed;
      refused = keeps.refused;
      first = keeps.first;
      installed = keeps.installed;
      leads = follow.accepted;
      both_refuse = follow.refused;
      taken = follow.installed;
    } in
    takes_first laws c.args.key.now c.in_ok-store.store c.in_ok-owner.first
    (c.in_ok-store.ensures ∙ ap new_store c.public.ensures.value) c.in_ok-owner.ensures.first

pub returns : goal.returns
returns c =
    let keeps = c.stores_stay_honest.ensures in
    let follow = c.owners_follow_stores.ensures in
    let laws : StoreLaws = record {
      new = keeps.new;
      proposed = keeps.proposed;
      refused = keeps.refused;
      first = keeps.first;
      installed = keeps.installed;
      leads = follow.accepted;
      both_refuse = follow.refused;
      taken = follow.installed;
    } in
    begun laws c.args.key.now c.in_ok-store.store c.in_ok-owner.first
    (c.in_ok-store.ensures ∙ ap new_store c.public.ensures.value) c.in_ok-owner.ensures.first
    (record {
      owner = record { key = c.owner.inside.key; roots = c.owner.inside.roots };
      entries = c.in_ok-vec.field-0;
      store = c.install.new.store;
    }) c.in_ok-owner.ensures.signs
    (ap (λ (h : Held). h.key) c.owner.view_is ∙ c.in_ok-owner.ensures.key)
    (ap (λ (h : Held). h.roots) c.owner.view_is ∙ c.in_ok-owner.ensures.roots)
    c.in_ok-owner.ensures.entry c.in_ok-vec.ensures.items c.in_ok-install.ensures
