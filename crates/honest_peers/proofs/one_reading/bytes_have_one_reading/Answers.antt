use Rattle.workload_run.proofs.Readings.{never_bad, one_owned}
use Rattle.vo_commands.proofs.OwnerAudits.{one_reply}
use Rattle.honest_peers.proofs.one_reading.bytes_have_one_reading.Goals as goal

pub returns : goal.returns
returns c = record { reply = one_reply; journal = one_owned; good = never_bad }
