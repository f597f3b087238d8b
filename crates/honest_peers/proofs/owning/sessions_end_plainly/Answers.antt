use Rattle.owner_session.specs.SessionWork.{session}
use Rattle.vo_commands.specs.Committing.{entry_forms}
use Rattle.honest_peers.proofs.ServedConnections.{served_answers}
use Rattle.honest_peers.proofs.Sessions.{session_ends}
use Rattle.workload_run.proofs.StoreSteps.{StoreLaws}
use Rattle.honest_peers.proofs.owning.sessions_end_plainly.Goals as goal

pub returns : goal.returns
returns c = λ secret batches held es new s later input ending own within fit served judged value.
    let keeps = c.stores_stay_honest.ensures in
    let follow = c.owners_follow_stores.ensures in
    let laws : StoreLaws = record {
      new = keeps.new;
      proposed = keeps.proposed;
      refused = keeps.refused;
      first = keeps.first;
      installed = keeps.installed;
      leads = follow.accepted;
      both_refuse = follow.refused;
      taken = follow.installed;
    } in
    let ends = session_ends secret laws later ending batches held es new s input own within fit
    (record {
      answered = served_answers s (session entry_forms held es new input).events
          input.coming later served;
      judged = judged;
      value = value;
    }) in
    (ends, keeps.stand ends.behind later ends.store.honest)
