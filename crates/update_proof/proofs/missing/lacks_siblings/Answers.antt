use Rattle.std.proofs.Common.{◌≡◌, Err, sym, ap, ◌∙◌}
use Rattle.vo_spec.specs.declared.trees.UpdateFault.TheVariants.{Missing}
use Rattle.update_proof.specs.Proving.{lacks}
use Rattle.update_proof.proofs.MissingPaths.{counted_lacks}
use Rattle.update_proof.proofs.missing.lacks_siblings.Goals as goal

pub returns-in-Err-Missing : goal.returns-in-Err-Missing
returns-in-Err-Missing c =
    let missing : c.remaining.result ≡ Err Missing = cc in ap lacks (sym missing ∙ c.remaining.ensures) ∙ counted_lacks _ _
