use Rattle.honest_peers.proofs.CrashLaws.{released_kept}
use Rattle.honest_peers.proofs.crashing.crashes_lose_nothing_released.Goals as goal

pub returns : goal.returns
returns c = released_kept
