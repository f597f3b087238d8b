-- Steps of chains.
use Rattle.std.proofs.Common.{◌≡◌, ℕ, zero, suc, ◌+◌, ◌-◌, ◌≤◌, List, refl, add-one, add-suc, add-zero, zero-add, add_assoc, arith, length}
use Rattle.tagged_hash.proofs.Lengths.{length-sha256}
use Rattle.vo_spec.specs.Ots.{step, step_text, advance}

pub advance_more : (id : List ℕ) (q i from n : ℕ) (value : List ℕ)
    → advance id q i from (n + 1) value ≡ step id q i (from + n) (advance id q i from n value)
unfolding advance
advance_more id q i from n value = rw add-one refl

-- steps go on where earlier ones ended
pub advance_on : (id : List ℕ) (q i from n m : ℕ) (value : List ℕ)
    → advance id q i (from + n) m (advance id q i from n value) ≡ advance id q i from (n + m) value
unfolding advance
advance_on id q i from n zero value = rw add-zero refl
advance_on id q i from n (suc m) value =
    rw (add-suc, add_assoc from n m, advance_on id q i from n m value) refl

-- the rest of m steps, after the first n
pub advance_rest : (id : List ℕ) (q i n m : ℕ) (value : List ℕ) → n ≤ m
    → advance id q i n (m - n) (advance id q i 0 n value) ≡ advance id q i 0 m value
advance_rest id q i n m value below =
    let whole : n + (m - n) ≡ m = omega arith in
    let joined = rw (zero-add, whole) at (advance_on id q i 0 n (m - n) value) in joined

-- a value that a chain advances to has 32 bytes, as its start has
pub length-advance : (id : List ℕ) (q i from n : ℕ) (value : List ℕ) → length value ≡ 32
    → length (advance id q i from n value) ≡ 32
unfolding advance
length-advance id q i from zero value full = full
length-advance id q i from (suc n) value full =
    length-sha256 (step_text id q i (from + n) (advance id q i from n value))
