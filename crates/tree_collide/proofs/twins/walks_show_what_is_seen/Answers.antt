use Rattle.vo_laws.proofs.ScanWalks.{walk_seen, walk_complete}
use Rattle.tree_collide.proofs.OneWalk.{walks_seen}
use Rattle.tree_collide.proofs.twins.walks_show_what_is_seen.Goals as goal

pub returns : goal.returns
returns c = record { seen = walk_seen; complete = walk_complete; same = walks_seen }
