-- A parent is the digest of its text.
use Rattle.std.proofs.Common.{◌≡◌, ℕ, ◌/◌, ◌%◌, List, true, false, refl}
use Rattle.std.specs.Prelude.{◌==◌, Bool, if◌then◌else◌}
use Rattle.vo_spec.specs.Sha256.{sha256}
use Rattle.vo_spec.specs.Lms.{inner_text, parent}
use Rattle.lms_sign.specs.Paths.{parent_text}

chosen : (odd : Bool) (a b : List ℕ) → sha256 (if odd then a else b) ≡ (if odd then sha256 a else sha256 b)
chosen true a b = refl
chosen false a b = refl

pub parent_hashed : (id : List ℕ) (r : ℕ) (node sibling : List ℕ)
    → sha256 (parent_text id r node sibling) ≡ parent id r node sibling
unfolding parent parent_text
parent_hashed id r node sibling =
    chosen (r % 2 == 1) (inner_text id (r / 2) sibling node) (inner_text id (r / 2) node sibling)
