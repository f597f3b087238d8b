-- Numbers as bytes, the highest first, and what stands at a place of a byte string. What a number
-- has as bytes stays closed here, so that goals speak of numbers.
use Rattle.std.specs.Prelude.{ℕ, zero, suc, ◌+◌, ◌<◌, List, [], ◌∷◌, ◌++◌, length, take, drop, slice_index}
use Rattle.std.specs.Int.{w16, w32, w64, to_be_bytes, from_be_bytes}

-- each number of the list is a byte
abbrev pub IsBytes : List ℕ → Type 0
IsBytes bytes = (i : ℕ) → slice_index bytes i < 256

-- the two bytes of a number below 2 ^ 16
unfoldable pub u16_bytes : ℕ → List ℕ
u16_bytes n = to_be_bytes w16 n

-- the four bytes of a number below 2 ^ 32
unfoldable pub u32_bytes : ℕ → List ℕ
u32_bytes n = to_be_bytes w32 n

-- the eight bytes of a number below 2 ^ 64
unfoldable pub u64_bytes : ℕ → List ℕ
u64_bytes n = to_be_bytes w64 n

-- the number that the four bytes from a place on spell
unfoldable pub u32_at : List ℕ → ℕ → ℕ
u32_at bytes at = from_be_bytes w32
    (slice_index bytes at ∷ slice_index bytes (at + 1) ∷ slice_index bytes (at + 2)
    ∷ slice_index bytes (at + 3) ∷ [])

-- the number that two bytes spell
unfoldable pub u16_of : List ℕ → ℕ
u16_of bytes = from_be_bytes w16 bytes

-- the number that four bytes spell
unfoldable pub u32_of : List ℕ → ℕ
u32_of bytes = from_be_bytes w32 bytes

-- the number that eight bytes spell
unfoldable pub u64_of : List ℕ → ℕ
u64_of bytes = from_be_bytes w64 bytes

-- the 32 bytes from a place on
unfoldable pub digest_at : List ℕ → ℕ → List ℕ
digest_at bytes at = take 32 (drop at bytes)

-- the 16 bytes from a place on
unfoldable pub id_at : List ℕ → ℕ → List ℕ
id_at bytes at = take 16 (drop at bytes)

-- piece 0 up to piece n - 1, end to end
unfoldable pub join_pieces : (ℕ → List ℕ) → ℕ → List ℕ
join_pieces piece zero = []
join_pieces piece (suc n) = join_pieces piece n ++ piece n

-- bytes behind their length, which is one byte, two or four
abbrev pub short_string : List ℕ → List ℕ
short_string bytes = length bytes ∷ bytes

abbrev pub string : List ℕ → List ℕ
string bytes = u16_bytes (length bytes) ++ bytes

abbrev pub block : List ℕ → List ℕ
block bytes = u32_bytes (length bytes) ++ bytes
