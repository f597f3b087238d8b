use Rattle.honest_peers.proofs.OwnRuns.{own_ends}
use Rattle.honest_peers.proofs.owning.owners_end_plainly.Goals as goal

pub returns : goal.returns
returns c = λ secret batches new net later_net disk later_disk out later_out status held es drive
    before after written later_written s later run own within fit served.
    own_ends secret c.sessions_end_plainly.ensures batches new status held es drive before after
    written later_written s later run own within fit served
