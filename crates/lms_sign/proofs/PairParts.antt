-- The parts of a signature of two levels, found among its bytes.
use Rattle.std.proofs.Common.{◌≡◌, ℕ, ◌+◌, List, ◌++◌, length, take, drop, refl, sym, ap, ◌∙◌, subst, append_assoc, arith}
use Rattle.std.proofs.lemmas.List.{length-append}
use Rattle.std.proofs.Math.Seq.{drop-append_seam, take-append_seam}
use Rattle.vo_spec.specs.Bytes.{u32_at}
use Rattle.lm_ots.proofs.Pieces.{u32_at-append}

-- four pieces end to end: the first of 4 bytes, the second of n, the third of 56
pub record AreParts (a b c d : List ℕ) (n : ℕ) : Type 0 where
  pub first : length a ≡ 4
  pub second : length b ≡ n
  pub third : length c ≡ 56

module _ (a b c d : List ℕ) (n : ℕ) (parts : AreParts a b c d n) where
  behind_a : a ++ b ++ c ++ d ≡ a ++ (b ++ (c ++ d))
  behind_a = append_assoc (a ++ b) c d ∙ append_assoc a b (c ++ d)

  behind_b : a ++ b ++ c ++ d ≡ (a ++ b) ++ (c ++ d)
  behind_b = append_assoc (a ++ b) c d

  length-ab : length (a ++ b) ≡ 4 + n
  length-ab = rw (length-append a b, parts.first, parts.second) refl

  length-abc : length (a ++ b ++ c) ≡ 60 + n
  length-abc = rw (length-append (a ++ b) c, length-ab, parts.third) (omega arith)

  pub length-parts : length (a ++ b ++ c ++ d) ≡ 60 + n + length d
  length-parts = rw (length-append (a ++ b ++ c) d, length-abc) refl

  pub second_found : take n (drop 4 (a ++ b ++ c ++ d)) ≡ b
  second_found =
      ap (λ bytes. take n (drop 4 bytes)) behind_a
      ∙ ap (take n) (subst (λ m. drop m (a ++ (b ++ (c ++ d))) ≡ b ++ (c ++ d)) parts.first (drop-append_seam a (b ++ (c ++ d))))
      ∙ subst (λ m. take m (b ++ (c ++ d)) ≡ b) parts.second (take-append_seam b (c ++ d))

  pub third_found : take 56 (drop (4 + n) (a ++ b ++ c ++ d)) ≡ c
  third_found =
      ap (λ bytes. take 56 (drop (4 + n) bytes)) behind_b
      ∙ ap (take 56) (subst (λ m. drop m ((a ++ b) ++ (c ++ d)) ≡ c ++ d) length-ab (drop-append_seam (a ++ b) (c ++ d)))
      ∙ subst (λ m. take m (c ++ d) ≡ c) parts.third (take-append_seam c d)

  pub last_found : drop (60 + n) (a ++ b ++ c ++ d) ≡ d
  last_found = subst (λ m. drop m (a ++ b ++ c ++ d) ≡ d) length-abc (drop-append_seam (a ++ b ++ c) d)

  pub second_number : u32_at (a ++ b ++ c ++ d) 4 ≡ u32_at (b ++ (c ++ d)) 0
  second_number = ap (λ bytes. u32_at bytes 4) behind_a ∙ u32_at-append a (b ++ (c ++ d)) 4 (sym parts.first)

  pub last_number : u32_at (a ++ b ++ c ++ d) (60 + n) ≡ u32_at d 0
  last_number = u32_at-append (a ++ b ++ c) d (60 + n) (sym length-abc)
