use Rattle.vo_spec.specs.Secret.{public_of_secret}
use Rattle.owner_state.proofs.OwnerSteps.{one_step}
use Rattle.honest_peers.proofs.OwnedSteps.{journal_owned, written_owned}
use Rattle.workload_run.proofs.Readings.{never_bad}
use Rattle.honest_peers.proofs.writing.owners_write_what_they_own.Goals as goal

pub returns : goal.returns
returns c = record {
  entries = λ secret es behind signs steps. written_owned secret signs es behind steps;
  journal = λ secret bytes es behind signs steps is. journal_owned secret signs bytes es behind steps is;
  good = λ secret bytes es behind index signs steps is bad.
      never_bad (public_of_secret secret) bytes es index (journal_owned secret signs bytes es behind steps is) bad;
  step = one_step;
}
