use Rattle.workload_run.proofs.AnswerLaws.{audited, checked}
use Rattle.honest_peers.proofs.one_reading.honest_replies_have_one_answer.Goals as goal

pub returns : goal.returns
returns c = record { checked = checked; audited = audited }
