use Rattle.vo_laws.proofs.ChangeProofs.{replace_proof_size, remove_proof_size}
use Rattle.vo_laws.proofs.ProofSizes.{insert_proof_size, honest_proofs_fit}
use Rattle.vo_laws.proofs.journals.honest_proofs_fit.Goals as goal

pub returns : goal.returns
returns c = record { size = insert_proof_size; replace_size = replace_proof_size; remove_size = remove_proof_size; fit = honest_proofs_fit }
