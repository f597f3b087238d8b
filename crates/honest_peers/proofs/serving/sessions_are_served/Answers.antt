use Rattle.honest_peers.proofs.ServedSessions.{some_session, some_store}
use Rattle.honest_peers.proofs.serving.sessions_are_served.Goals as goal

pub returns : goal.returns
returns c = record { loaded = some_store; session = some_session }
