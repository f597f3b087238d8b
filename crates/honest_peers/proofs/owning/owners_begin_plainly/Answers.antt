use Rattle.honest_peers.proofs.Beginnings.{begins, sealed_plain}
use Rattle.honest_peers.proofs.owning.owners_begin_plainly.Goals as goal

pub returns : goal.returns
returns c = record { start = begins; sealed = sealed_plain }
