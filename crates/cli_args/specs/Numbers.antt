-- Numbers in digits.
use Rattle.std.specs.Prelude.{ℕ, ◌+◌, ◌*◌, ◌-◌, ◌^◌, Bool, ◌&&◌, ◌==◌, nat_le, nat_lt, if◌then◌else◌, List, [], ◌∷◌, Option, Some, None, option_and_then}

abbrev pub is_digit : ℕ → Bool
is_digit byte = nat_le 48 byte && nat_le byte 57

-- the number with one more digit behind it, if that has 64 bits
abbrev pub with_digit : ℕ → ℕ → Option ℕ
with_digit number byte =
    if is_digit byte && nat_lt (number * 10 + (byte - 48)) (2 ^ 64)
    then Some (number * 10 + (byte - 48)) else None

abbrev pub with_digits : ℕ → List ℕ → Option ℕ
with_digits number [] = Some number
with_digits number (byte ∷ bytes) =
    option_and_then (λ more. with_digits more bytes) (with_digit number byte)

-- one digit or more, without a sign, and none is 0 before others
abbrev pub written_number : List ℕ → Option ℕ
written_number [] = None
written_number (byte ∷ []) = with_digits 0 (byte ∷ [])
written_number (byte ∷ bytes) = if byte == 48 then None else with_digits 0 (byte ∷ bytes)
