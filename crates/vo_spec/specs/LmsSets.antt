-- The parameter sets of LMS over SHA-256 with m = 32 (RFC 8554, section 5.1).
use Rattle.std.specs.Prelude.{◌==◌, ℕ, ◌+◌, ◌*◌, ◌^◌, Option, Some, None, if◌then◌else◌}
use Rattle.vo_spec.specs.declared.signatures.OtsType.{OtsType}
use Rattle.vo_spec.specs.declared.signatures.LmsType.{LmsType}
use Rattle.vo_spec.specs.declared.signatures.LmsType.TheVariants.{H5, H10, H15, H20, H25}
use Rattle.vo_spec.specs.OtsSets.{ots_signature_len}

-- the set of a typecode
abbrev pub lms_of : ℕ → Option LmsType
lms_of code =
    if code == 5 then Some H5 else
    if code == 6 then Some H10 else
    if code == 7 then Some H15 else
    if code == 8 then Some H20 else
    if code == 9 then Some H25 else None

-- the typecode of a set
abbrev pub lms_code_of : LmsType → ℕ
lms_code_of H5 = 5
lms_code_of H10 = 6
lms_code_of H15 = 7
lms_code_of H20 = 8
lms_code_of H25 = 9

-- h: the height of the tree
abbrev pub height_of : LmsType → ℕ
height_of H5 = 5
height_of H10 = 10
height_of H15 = 15
height_of H20 = 20
height_of H25 = 25

-- the number of leaves
abbrev pub leaves_of : LmsType → ℕ
leaves_of lms = 2 ^ height_of lms

-- the bytes of a signature: the leaf's number, the one-time signature, a typecode, and a digest for
-- each level
abbrev pub lms_signature_len : LmsType → OtsType → ℕ
lms_signature_len lms ots = 8 + ots_signature_len ots + 32 * height_of lms
