use Rattle.honest_peers.proofs.AskLaws.{one_check}
use Rattle.honest_peers.proofs.asking.checks_have_one_answer.Goals as goal

pub returns : goal.returns
returns c = one_check
