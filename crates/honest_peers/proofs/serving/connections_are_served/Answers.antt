use Rattle.honest_peers.proofs.ServedConnections.{some_question, some_answers}
use Rattle.honest_peers.proofs.serving.connections_are_served.Goals as goal

pub returns : goal.returns
returns c = record { frames = some_answers; asked = some_question }
