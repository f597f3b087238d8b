use Rattle.vo_laws.proofs.PrunedLaws.{pruned_prunes}
use Rattle.vo_laws.proofs.OneProof.{pruned_canonical, only_canonical}
use Rattle.vo_laws.proofs.needs.needs_have_one_proof.Goals as goal

pub returns : goal.returns
returns c = record { prunes = pruned_prunes; canonical = pruned_canonical; only = only_canonical }
