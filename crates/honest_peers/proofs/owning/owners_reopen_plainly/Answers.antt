use Rattle.honest_peers.proofs.Reopenings.{own_runs}
use Rattle.honest_peers.proofs.owning.owners_reopen_plainly.Goals as goal

pub returns : goal.returns
returns c = λ secret batches text some files later_files net later_net disk later_disk out later_out
    status held es drive later_drive before wire written later_written s own journal within script
    serves ends.
    own_runs secret c.sessions_end_plainly.ensures batches text some status held es drive later_drive
    before wire written later_written s own journal within script serves ends
