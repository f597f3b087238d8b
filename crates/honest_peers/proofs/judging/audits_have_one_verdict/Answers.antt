use Rattle.honest_peers.proofs.OneVerdict.{one_verdict}
use Rattle.honest_peers.proofs.judging.audits_have_one_verdict.Goals as goal

pub returns : goal.returns
returns c = λ key journal q bytes a b first second. one_verdict key q bytes journal a b first second
