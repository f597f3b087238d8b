-- Checksums.
use Rattle.std.proofs.Common.{◌≡◌, ℕ, ◌+◌, ◌-◌, ◌*◌, ◌/◌, ◌%◌, ◌^◌, ◌≤◌, List, refl, add-one, arith}
use Rattle.vo_spec.specs.declared.signatures.OtsType.{OtsType}
use Rattle.vo_spec.specs.declared.signatures.OtsType.TheVariants.{W1, W2, W4, W8}
use Rattle.vo_spec.specs.OtsSets.{width_of, shift_of}
use Rattle.vo_spec.specs.Ots.{coef, shortfall}

pub shortfall_more : (digest : List ℕ) (w n : ℕ)
    → shortfall digest w (n + 1) ≡ shortfall digest w n + (2 ^ w - 1 - coef digest n w)
unfolding shortfall
shortfall_more digest w n = rw add-one refl

pub power_fits : (ots : OtsType) → 1 * 2 ^ width_of ots % 4294967296 ≡ 2 ^ width_of ots
power_fits W1 = refl
power_fits W2 = refl
power_fits W4 = refl
power_fits W8 = refl

-- a checksum fits 32 bits, as the shift is worked out
pub shift_fits : (ots : OtsType) (sum : ℕ) → sum ≤ 256 / width_of ots * (2 ^ width_of ots - 1)
    → sum * 2 ^ shift_of ots % 4294967296 ≡ sum * 2 ^ shift_of ots
shift_fits W1 sum few = omega arith
shift_fits W2 sum few = omega arith
shift_fits W4 sum few = omega arith
shift_fits W8 sum few = omega arith
