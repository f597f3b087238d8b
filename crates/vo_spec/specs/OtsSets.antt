-- The parameter sets of LM-OTS over SHA-256 with n = 32 (RFC 8554, section 4.1).
use Rattle.std.specs.Prelude.{◌≡◌, ◌==◌, ℕ, ◌+◌, ◌*◌, ◌⊎◌, Option, Some, None, if◌then◌else◌}
use Rattle.vo_spec.specs.declared.signatures.OtsType.{OtsType}
use Rattle.vo_spec.specs.declared.signatures.OtsType.TheVariants.{W1, W2, W4, W8}

-- the set of a typecode
abbrev pub ots_of : ℕ → Option OtsType
ots_of code =
    if code == 1 then Some W1 else
    if code == 2 then Some W2 else
    if code == 3 then Some W4 else
    if code == 4 then Some W8 else None

-- the typecode of a set
abbrev pub ots_code_of : OtsType → ℕ
ots_code_of W1 = 1
ots_code_of W2 = 2
ots_code_of W4 = 3
ots_code_of W8 = 4

-- w: the bits of a digit
abbrev pub width_of : OtsType → ℕ
width_of W1 = 1
width_of W2 = 2
width_of W4 = 4
width_of W8 = 8

-- p: the number of chains
abbrev pub count_of : OtsType → ℕ
count_of W1 = 265
count_of W2 = 133
count_of W4 = 67
count_of W8 = 34

-- ls: how far the checksum is shifted left
abbrev pub shift_of : OtsType → ℕ
shift_of W1 = 7
shift_of W2 = 6
shift_of W4 = 4
shift_of W8 = 0

-- the bytes of a one-time signature: a typecode, the randomizer, and a value for each chain
abbrev pub ots_signature_len : OtsType → ℕ
ots_signature_len ots = 36 + 32 * count_of ots

-- the width of some set
abbrev pub IsWidth : ℕ → Type 0
IsWidth w = (w ≡ 1) ⊎ (w ≡ 2) ⊎ (w ≡ 4) ⊎ (w ≡ 8)
