use Rattle.vo_laws.proofs.NeedLaws.{seen_of_proof, needs_by_seen, needs_from_proof}
use Rattle.vo_laws.proofs.proofs_show_what_their_need_sees.Goals as goal

pub returns : goal.returns
returns c = record { seen = seen_of_proof; by_seen = needs_by_seen; needs = needs_from_proof }
