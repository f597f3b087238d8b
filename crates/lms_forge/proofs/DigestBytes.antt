-- A digest is 32 bytes.
use Rattle.std.proofs.Common.{◌≡◌, ℕ, zero, suc, lit<, List, [], ◌∷◌, ◌++◌, length, get_or, arith}
use Rattle.std.specs.Int.{w32, to_be_bytes}
use Rattle.sha2.specs.Sha256.{sha256, digest_bytes}
use Rattle.vo_spec.specs.Bytes.{IsBytes}
use Rattle.tagged_hash.proofs.Lengths.{length-sha256}

none_small : IsBytes []
none_small i = lit< tt

small_behind : (x y : List ℕ) → IsBytes x → IsBytes y → IsBytes (x ++ y)
small_behind [] y first second i = second i
small_behind (b ∷ x) y first second zero = first zero
small_behind (b ∷ x) y first second (suc i) = small_behind x y (λ k. first (suc k)) second i

small_word : (n : ℕ) → IsBytes (to_be_bytes w32 n)
small_word n zero = omega arith
small_word n (suc zero) = omega arith
small_word n (suc (suc zero)) = omega arith
small_word n (suc (suc (suc zero))) = omega arith
small_word n (suc (suc (suc (suc i)))) = lit< tt

small_words : (h : List ℕ) (n : ℕ) → IsBytes (digest_bytes h n)
unfolding digest_bytes
small_words h zero = none_small
small_words h (suc n) = small_behind (digest_bytes h n) (to_be_bytes w32 (get_or h n 0)) (small_words h n) (small_word (get_or h n 0))

-- 32 numbers, each a byte
pub record IsDigest (digest : List ℕ) : Type 0 where
  pub whole : length digest ≡ 32
  pub small : IsBytes digest

digest_small : (text : List ℕ) → IsBytes (sha256 text)
unfolding sha256
digest_small text = small_words _ 8

pub is_digest : (text : List ℕ) → IsDigest (sha256 text)
is_digest text = record { whole = length-sha256 text; small = digest_small text }
