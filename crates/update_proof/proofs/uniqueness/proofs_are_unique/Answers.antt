use Rattle.update_proof.proofs.OnlyInsertProofs.{only_insert_proof}
use Rattle.update_proof.proofs.OnlyReplaceProofs.{only_replace_proof}
use Rattle.update_proof.proofs.OnlyRemoveProofs.{only_remove_proof}
use Rattle.update_proof.proofs.uniqueness.proofs_are_unique.Goals as goal

pub returns : goal.returns
returns c = record { insertion = only_insert_proof; replacement = only_replace_proof; removal = only_remove_proof }
