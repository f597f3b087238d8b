use Rattle.honest_peers.proofs.LoadedLaws.{loaded_honest}
use Rattle.honest_peers.proofs.asking.loaded_stores_are_honest.Goals as goal

pub returns : goal.returns
returns c = loaded_honest
