use Rattle.round_trips.proofs.SealedJournals.{loaded, owned}
use Rattle.round_trips.proofs.sealed_journals_are_loadable.Goals as goal

pub returns : goal.returns
returns c = record { owned = owned; loaded = loaded }
