-- The length and the typecode of a signature.
use Rattle.std.proofs.Common.{◌≡◌, ℕ, List, length}
use Rattle.std.specs.Prelude.{IsTrue, ◌==◌}
use Rattle.std.proofs.lemmas.Bool.{and_parts, eqb-true}
use Rattle.vo_spec.specs.declared.signatures.OtsType.{OtsType}
use Rattle.vo_spec.specs.Bytes.{u32_at}
use Rattle.vo_spec.specs.OtsSets.{ots_code_of, ots_signature_len}
use Rattle.vo_spec.specs.Ots.{is_ots_form}

pub length_by_form : (ots : OtsType) (signature : List ℕ) → IsTrue (is_ots_form ots signature)
    → length signature ≡ ots_signature_len ots
unfolding is_ots_form
length_by_form ots signature form =
    eqb-true _ _ (and_parts (length signature == ots_signature_len ots) (u32_at signature 0 == ots_code_of ots) form).0
