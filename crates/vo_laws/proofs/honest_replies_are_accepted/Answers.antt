use Rattle.vo_laws.proofs.CompleteReplies.{honest_answer}
use Rattle.vo_laws.proofs.honest_replies_are_accepted.Goals as goal

pub returns : goal.returns
returns c = honest_answer
