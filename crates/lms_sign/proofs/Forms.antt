-- The length and the leaf of a signature that has its form.
use Rattle.std.proofs.Common.{◌≡◌, ℕ, ◌+◌, ◌/◌, ◌^◌, ◌<◌, List, refl, add-one}
use Rattle.std.specs.Prelude.{IsTrue, ◌==◌, ◌&&◌, nat_lt, length}
use Rattle.std.proofs.lemmas.Bool.{and_parts, eqb-true, ltb-true}
use Rattle.vo_spec.specs.declared.signatures.OtsType.{OtsType}
use Rattle.vo_spec.specs.declared.signatures.LmsType.{LmsType}
use Rattle.vo_spec.specs.Bytes.{u32_at}
use Rattle.vo_spec.specs.OtsSets.{ots_signature_len}
use Rattle.vo_spec.specs.LmsSets.{lms_code_of, leaves_of, lms_signature_len}
use Rattle.vo_spec.specs.Lms.{is_lms_form, climb, parent}

-- what the form says
pub record HasForm (lms : LmsType) (ots : OtsType) (signature : List ℕ) : Type 0 where
  pub len_is : length signature ≡ lms_signature_len lms ots
  pub leaf_in : u32_at signature 0 < leaves_of lms

pub has_form : (lms : LmsType) (ots : OtsType) (signature : List ℕ) → IsTrue (is_lms_form lms ots signature)
    → HasForm lms ots signature
unfolding is_lms_form
has_form lms ots signature form =
    let len = length signature == lms_signature_len lms ots in
    let code = u32_at signature (4 + ots_signature_len ots) == lms_code_of lms in
    let leaf = nat_lt (u32_at signature 0) (leaves_of lms) in
    let both = and_parts (len && code) leaf form in
    record { len_is = eqb-true _ _ (and_parts len code both.0).0; leaf_in = ltb-true _ _ both.1 }

pub climb_more : (id : List ℕ) (r : ℕ) (path : ℕ → List ℕ) (node : List ℕ) (n : ℕ)
    → climb id r path node (n + 1) ≡ parent id (r / 2 ^ n) (climb id r path node n) (path n)
unfolding climb
climb_more id r path node n = rw add-one refl
