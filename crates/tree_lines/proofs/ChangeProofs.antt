-- Proofs of changes keep to the limits of trees.
use Rattle.vo_spec.specs.Fits.{FitsPart, FitsTree}
use Rattle.vo_spec.specs.Trees.{RowTree}
use Rattle.vo_laws.proofs.PrunedFits.{insert_proof_fits}
use Rattle.vo_laws.proofs.ChangeProofs.{replace_proof_fits, remove_proof_fits}
use Rattle.mb_update.specs.declared.ops.Op.{Op}
use Rattle.mb_update.specs.declared.ops.Op.TheVariants.{Insert, Replace, Remove, Put, Set}
use Rattle.update_proof.specs.Proving.{update_proof}

pub update_proof_fits : (op : Op) (tree : RowTree) → FitsTree tree → FitsPart (update_proof op tree)
update_proof_fits (Insert row) tree fits = (insert_proof_fits row.key tree fits).nodes
update_proof_fits (Replace key sets) tree fits = (replace_proof_fits key tree fits).nodes
update_proof_fits (Remove key) tree fits = (remove_proof_fits key tree fits).nodes
update_proof_fits (Put key part) tree fits = (insert_proof_fits key tree fits).nodes
update_proof_fits (Set key part) tree fits = (insert_proof_fits key tree fits).nodes
