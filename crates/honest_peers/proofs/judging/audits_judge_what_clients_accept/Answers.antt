use Rattle.honest_peers.proofs.Judged.{accepts_reply, judged}
use Rattle.honest_peers.proofs.judging.audits_judge_what_clients_accept.Goals as goal

pub returns : goal.returns
returns c = record { accepted = accepts_reply; judged = judged }
