use Rattle.std.proofs.Common.{◌≡◌, [], ◌∷◌, ◌++◌, ap, sym, ◌∙◌}
use Rattle.vo_spec.specs.declared.records.Entry.{Entry}
use Rattle.vo_store.specs.Calls.{proposal_of}
use Rattle.workload_run.proofs.StandLaws.{commits, leads, proposal, takes_batch, takes_entry}
use Rattle.workload_run.proofs.StoreSteps.{StoreLaws}
use Rattle.workload_run.proofs.committing.commit.Goals as goal

pub propose-requires-clause-taken : goal.propose-requires-clause-taken
propose-requires-clause-taken c =
    let keeps = c.stores_stay_honest.ensures in
    let follow = c.owners_follow_stores.ensures in
    let laws : StoreLaws = record {
      new = keeps.new;
      proposed = keeps.proposed;
      refused = keeps.refused;
      first = keeps.first;
      installed = keeps.installed;
      leads = follow.accepted;
      both_refuse = follow.refused;
      taken = follow.installed;
    } in
    takes_batch laws c.args.parties.now c.args.batch.now.commands c.requires.together c.requires.fits
    c.requires.accepted

pub step-requires-clause-leads : goal.step-requires-clause-leads
step-requires-clause-leads c =
    let keeps = c.stores_stay_honest.ensures in
    let follow = c.owners_follow_stores.ensures in
    let laws : StoreLaws = record {
      new = keeps.new;
      proposed = keeps.proposed;
      refused = keeps.refused;
      first = keeps.first;
      installed = keeps.installed;
      leads = follow.accepted;
      both_refuse = follow.refused;
      taken = follow.installed;
    } in
    let made : proposal_of c.args.parties.now.store c.args.batch.now.commands
    ≡ proposal c.propose.new.store c.deref.result.now =
    c.in_ok-proofs.ensures ∙ ap (proposal c.propose.new.store) (sym c.deref.ensures.value) in (
      _,
      leads laws c.args.parties.now c.args.batch.now.commands c.requires.together c.requires.fits
          c.requires.accepted c.propose.new.store c.deref.result.now made,
    )

pub install-requires : goal.install-requires
install-requires c =
    let keeps = c.stores_stay_honest.ensures in
    let follow = c.owners_follow_stores.ensures in
    let laws : StoreLaws = record {
      new = keeps.new;
      proposed = keeps.proposed;
      refused = keeps.refused;
      first = keeps.first;
      installed = keeps.installed;
      leads = follow.accepted;
      both_refuse = follow.refused;
      taken = follow.installed;
    } in
    let made : proposal_of c.args.parties.now.store c.args.batch.now.commands
    ≡ proposal c.propose.new.store c.deref.result.now =
    c.in_ok-proofs.ensures ∙ ap (proposal c.propose.new.store) (sym c.deref.ensures.value) in
    takes_entry laws c.args.parties.now c.args.batch.now.commands c.requires.together c.requires.fits
    c.requires.accepted c.propose.new.store c.deref.result.now made c.in_ok-step.step
    c.in_ok-step.ensures.step c.in_ok-step.ensures.next.signed

pub returns : goal.returns
returns c =
    let keeps = c.stores_stay_honest.ensures in
    let follow = c.owners_follow_stores.ensures in
    let laws : StoreLaws = record {
      new = keeps.new;
      proposed = keeps.proposed;
      refused = keeps.refused;
      first = keeps.first;
      installed = keeps.installed;
      leads = follow.accepted;
      both_refuse = follow.refused;
      taken = follow.installed;
    } in
    let made : proposal_of c.args.parties.now.store c.args.batch.now.commands
    ≡ proposal c.propose.new.store c.deref.result.now =
    c.in_ok-proofs.ensures ∙ ap (proposal c.propose.new.store) (sym c.deref.ensures.value) in
    commits laws c.args.parties.now c.args.batch.now.commands c.requires.together c.requires.fits
    c.requires.accepted c.propose.new.store c.deref.result.now made c.in_ok-step.step
    c.in_ok-step.ensures.step
    (record { owner = c.advance.new.self; entries = c.push.new.self; store = c.install.new.store })
    c.requires.left c.advance.ensures.key c.advance.ensures.roots
    (c.in_ok-push.ensures.items
    ∙ ap (λ (e : Entry). c.args.parties.now.entries.items ++ e ∷ []) c.in_ok-copy_entry.ensures)
    c.in_ok-install.ensures
