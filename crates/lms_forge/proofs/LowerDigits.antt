-- Of two different digests, each behind its checksum, each has a digit below the other's; and one
-- digest behind its checksum has a digit below the greatest.
use Rattle.std.proofs.Common.{◌≡◌, ℕ, zero, suc, ◌+◌, ◌-◌, ◌*◌, ◌/◌, ◌%◌, ◌^◌, ◌≤◌, ◌<◌, List, ◌++◌, Option, get_or, refl, sym, ap, ◌∙◌, subst, arith, below_more}
use Rattle.std.specs.Prelude.{slice_index, bit_and, Some, None}
use Rattle.std.proofs.lemmas.List.{ext_get_or, get_or_append_left, get_or-append-add}
use Rattle.std.proofs.Math.Nat.{div-one}
use Rattle.vo_spec.specs.declared.signatures.OtsType.{OtsType}
use Rattle.vo_spec.specs.declared.signatures.OtsType.TheVariants.{W1, W2, W4, W8}
use Rattle.vo_spec.specs.Bytes.{u16_bytes}
use Rattle.vo_spec.specs.OtsSets.{width_of, count_of, shift_of}
use Rattle.vo_spec.specs.Ots.{coef, shortfall, checksum_of, with_checksum}
use Rattle.vo_spec.specs.Sha256.{sha256}
use Rattle.lms_forge.specs.Lowering.{AreOthers, NoneLower}
use Rattle.lms_forge.proofs.DigestBytes.{IsDigest, is_digest}
use Rattle.lms_forge.proofs.DigitOrder.{digit_in, coef_few, coef_at, bytes_ordered}

-- What digits fall short by.

module _ (x y : List ℕ) (w : ℕ) where
  abbrev Ordered : ℕ → Type 0
  Ordered n = (i : ℕ) → i < n → coef y i w ≤ coef x i w

  shortfall_ordered : (n : ℕ) → Ordered n → shortfall x w n ≤ shortfall y w n
  unfolding shortfall
  shortfall_ordered zero ordered = omega arith
  shortfall_ordered (suc n) ordered =
      let earlier = shortfall_ordered n (λ i inside. ordered i (omega arith)) in
      let last : coef y n w ≤ coef x n w = ordered n (omega arith) in
      omega (arith, earlier, last)

  digits_same : (n : ℕ) → Ordered n → shortfall y w n ≤ shortfall x w n → (i : ℕ) → i < n → coef x i w ≤ coef y i w
  unfolding shortfall
  digits_same zero ordered least i inside = absurd (omega arith)
  digits_same (suc n) ordered least i inside =
      let before : Ordered n = λ k h. ordered k (omega arith) in
      let sums = shortfall_ordered n before in
      let last : coef y n w ≤ coef x n w = ordered n (omega arith) in
      let few = coef_few x n w in
      let earlier : (k : ℕ) → k < n → coef x k w ≤ coef y k w =
      digits_same n before (omega (arith, sums, last, least)) in
      let here : coef x n w ≤ coef y n w = omega (arith, sums, last, least, few) in
      below_more (λ k. coef x k w ≤ coef y k w) n earlier here i (omega arith)

greatest_short : (x : List ℕ) (w n : ℕ) → ((i : ℕ) → i < n → 2 ^ w - 1 ≤ coef x i w) → shortfall x w n ≡ 0
unfolding shortfall
greatest_short x w zero greatest = refl
greatest_short x w (suc n) greatest =
    let earlier = greatest_short x w n (λ i inside. greatest i (omega arith)) in
    let last : 2 ^ w - 1 ≤ coef x n w = greatest n (omega arith) in
    omega (arith, earlier, last)

pub shortfall_few : (x : List ℕ) (w n : ℕ) → shortfall x w n ≤ n * (2 ^ w - 1)
unfolding shortfall
shortfall_few x w zero = omega arith
shortfall_few x w (suc n) =
    let earlier = shortfall_few x w n in
    let next : suc n * (2 ^ w - 1) ≡ n * (2 ^ w - 1) + (2 ^ w - 1) = omega arith in
    omega (arith, earlier, next)

-- A digest behind its checksum.

module _ (ots : OtsType) (digest : List ℕ) (is : IsDigest digest) where
  abbrev whole : List ℕ
  whole = with_checksum ots digest

  abbrev sum : ℕ
  sum = shortfall digest (width_of ots) (256 / width_of ots)

  front_byte : (j : ℕ) → j < 32 → slice_index whole j ≡ slice_index digest j
  unfolding with_checksum
  front_byte j inside = get_or_append_left digest (u16_bytes (checksum_of ots digest)) 0 j (rw is.whole inside)

  high_byte : slice_index whole 32 ≡ sum * 2 ^ shift_of ots / 256 % 256
  unfolding with_checksum checksum_of u16_bytes
  high_byte = subst (λ n. get_or (digest ++ u16_bytes (sum * 2 ^ shift_of ots)) n 0 ≡ sum * 2 ^ shift_of ots / 256 % 256) (rw is.whole refl)
      (get_or-append-add digest (u16_bytes (sum * 2 ^ shift_of ots)) 0 0)

  low_byte : slice_index whole 33 ≡ sum * 2 ^ shift_of ots % 256
  unfolding with_checksum checksum_of u16_bytes
  low_byte = subst (λ n. get_or (digest ++ u16_bytes (sum * 2 ^ shift_of ots)) n 0 ≡ sum * 2 ^ shift_of ots % 256) (rw is.whole refl)
      (get_or-append-add digest (u16_bytes (sum * 2 ^ shift_of ots)) 1 0)

byte_of : (ots : OtsType) (i : ℕ) → i < 256 / width_of ots → i * width_of ots / 8 < 32
byte_of W1 i inside = omega arith
byte_of W2 i inside = omega arith
byte_of W4 i inside = omega arith
byte_of W8 i inside = omega arith

-- the digits of the digest stand in front
front_digit : (ots : OtsType) (digest : List ℕ) → IsDigest digest → (i : ℕ) → i < 256 / width_of ots
    → coef (with_checksum ots digest) i (width_of ots) ≡ coef digest i (width_of ots)
front_digit ots digest is i inside =
    ap (λ b. bit_and (2 ^ width_of ots - 1) (b / 2 ^ (8 - (width_of ots * (i % (8 / width_of ots)) + width_of ots))))
    (front_byte ots digest is (i * width_of ots / 8) (byte_of ots i inside))

-- the first digit behind it, and how many there are in front and in all
first_behind : (ots : OtsType) → 32 * (8 / width_of ots) ≡ 256 / width_of ots
first_behind W1 = refl
first_behind W2 = refl
first_behind W4 = refl
first_behind W8 = refl

within : (ots : OtsType) (j k : ℕ) → j < 32 → k < 8 / width_of ots → j * (8 / width_of ots) + k < 256 / width_of ots
within W1 j k first second = omega arith
within W2 j k first second = omega arith
within W4 j k first second = omega arith
within W8 j k first second = omega arith

front_in : (ots : OtsType) (i : ℕ) → i < 256 / width_of ots → i < count_of ots
front_in W1 i inside = omega arith
front_in W2 i inside = omega arith
front_in W4 i inside = omega arith
front_in W8 i inside = omega arith

high_in : (ots : OtsType) (k : ℕ) → k < 8 / width_of ots → 32 * (8 / width_of ots) + k < count_of ots
high_in W1 k inside = omega arith
high_in W2 k inside = omega arith
high_in W4 k inside = omega arith
high_in W8 k inside = omega arith

low_in : (ots : OtsType) (k : ℕ) → k < 1 → 33 * (8 / width_of ots) + k < count_of ots
low_in W1 k inside = omega arith
low_in W2 k inside = omega arith
low_in W4 k inside = omega arith
low_in W8 k inside = omega arith

some_digit : (ots : OtsType) → 1 ≤ 8 / width_of ots
some_digit W1 = omega arith
some_digit W2 = omega arith
some_digit W4 = omega arith
some_digit W8 = omega arith

-- digits that are all counted are the whole byte
whole_byte : (ots : OtsType) (b : ℕ) → b / 2 ^ (8 - width_of ots * (8 / width_of ots)) ≡ b
whole_byte W1 b = div-one b
whole_byte W2 b = div-one b
whole_byte W4 b = div-one b
whole_byte W8 b = div-one b

-- the counted digits of checksums order the sums
sums_ordered : (ots : OtsType) (s t : ℕ) → s ≤ 256 / width_of ots * (2 ^ width_of ots - 1) → t ≤ 256 / width_of ots * (2 ^ width_of ots - 1)
    → s * 2 ^ shift_of ots / 256 % 256 ≤ t * 2 ^ shift_of ots / 256 % 256
    → s * 2 ^ shift_of ots % 256 / 2 ^ (8 - width_of ots * 1) ≤ t * 2 ^ shift_of ots % 256 / 2 ^ (8 - width_of ots * 1)
    → s ≤ t
sums_ordered W1 s t few few' high low = omega arith
sums_ordered W2 s t few few' high low = omega arith
sums_ordered W4 s t few few' high low = omega arith
sums_ordered W8 s t few few' high low = omega arith

-- Two digests.

module _ (ots : OtsType) (found own : List ℕ) (is_found : IsDigest found) (is_own : IsDigest own)
    (none : NoneLower ots (with_checksum ots found) (Some (with_checksum ots own))) where
  abbrev w : ℕ
  w = width_of ots

  abbrev n : ℕ
  n = 256 / width_of ots

  front_ordered : (i : ℕ) → i < n → coef own i w ≤ coef found i w
  front_ordered i inside =
      rw (front_digit ots own is_own i inside, front_digit ots found is_found i inside) at (none i (front_in ots i inside))

  high_ordered : sum ots own is_own * 2 ^ shift_of ots / 256 % 256 ≤ sum ots found is_found * 2 ^ shift_of ots / 256 % 256
  high_ordered =
      let small : slice_index (with_checksum ots own) 32 < 256 = rw (high_byte ots own is_own) (omega arith) in
      let bytes = bytes_ordered ots (with_checksum ots own) (with_checksum ots found) 32 (8 / width_of ots) small (omega arith)
      (λ k inside. none (32 * (8 / width_of ots) + k) (high_in ots k inside)) in
      rw (whole_byte ots (slice_index (with_checksum ots own) 32), whole_byte ots (slice_index (with_checksum ots found) 32), high_byte ots own is_own, high_byte ots found is_found) at bytes

  low_ordered : sum ots own is_own * 2 ^ shift_of ots % 256 / 2 ^ (8 - width_of ots * 1) ≤ sum ots found is_found * 2 ^ shift_of ots % 256 / 2 ^ (8 - width_of ots * 1)
  low_ordered =
      let small : slice_index (with_checksum ots own) 33 < 256 = rw (low_byte ots own is_own) (omega arith) in
      let bytes = bytes_ordered ots (with_checksum ots own) (with_checksum ots found) 33 1 small (some_digit ots)
      (λ k inside. none (33 * (8 / width_of ots) + k) (low_in ots k inside)) in
      rw (low_byte ots own is_own, low_byte ots found is_found) at bytes

  least : shortfall own w n ≤ shortfall found w n
  least = sums_ordered ots (shortfall own w n) (shortfall found w n) (shortfall_few own w n) (shortfall_few found w n) high_ordered low_ordered

  back_ordered : (i : ℕ) → i < n → coef found i w ≤ coef own i w
  back_ordered = digits_same found own w n front_ordered least

  byte_same : (j : ℕ) → j < 32 → slice_index found j ≡ slice_index own j
  byte_same j inside =
      let up = bytes_ordered ots own found j (8 / width_of ots) (is_own.small j) (omega arith)
      (λ k h. front_ordered (j * (8 / width_of ots) + k) (within ots j k inside h)) in
      let down = bytes_ordered ots found own j (8 / width_of ots) (is_found.small j) (omega arith)
      (λ k h. back_ordered (j * (8 / width_of ots) + k) (within ots j k inside h)) in
      let up' = rw (whole_byte ots (slice_index own j), whole_byte ots (slice_index found j)) at up in
      let down' = rw (whole_byte ots (slice_index own j), whole_byte ots (slice_index found j)) at down in
      omega (arith, up', down')

  pub digests_same : found ≡ own
  digests_same = ext_get_or 0 found own (is_found.whole ∙ sym is_own.whole) (λ j inside. byte_same j (rw is_found.whole at inside))

-- One digest.

greatest_high : (ots : OtsType) → digit_in 0 0 (width_of ots) ≡ 0
greatest_high W1 = refl
greatest_high W2 = refl
greatest_high W4 = refl
greatest_high W8 = refl

some_greatest : (ots : OtsType) → 0 < 2 ^ width_of ots - 1
some_greatest W1 = omega arith
some_greatest W2 = omega arith
some_greatest W4 = omega arith
some_greatest W8 = omega arith

no_bits : (ots : OtsType) → 0 * 2 ^ shift_of ots / 256 % 256 ≡ 0
no_bits W1 = refl
no_bits W2 = refl
no_bits W4 = refl
no_bits W8 = refl

pub not_all_greatest : (ots : OtsType) (found : List ℕ) → IsDigest found → NoneLower ots (with_checksum ots found) None → ⊥
not_all_greatest ots found is none =
    let w = width_of ots in
    let short : shortfall found w (256 / w) ≡ 0 =
    greatest_short found w (256 / w) (λ i inside. rw (front_digit ots found is i inside) at (none i (front_in ots i inside))) in
    let byte : slice_index (with_checksum ots found) 32 ≡ 0 =
    high_byte ots found is ∙ ap (λ s. s * 2 ^ shift_of ots / 256 % 256) short ∙ no_bits ots in
    let digit : coef (with_checksum ots found) (32 * (8 / w) + 0) w ≡ 0 =
    coef_at ots (with_checksum ots found) 32 0 (some_digit ots) ∙ ap (λ b. digit_in b 0 w) byte ∙ greatest_high ots in
    let here = none (32 * (8 / w) + 0) (high_in ots 0 (some_digit ots)) in
    omega (arith, digit, here, some_greatest ots)

-- Of the digits of two digests that differ, or of those of one alone, some one is lower.
pub some_lower : (ots : OtsType) (digits : List ℕ) (own : Option (List ℕ)) → AreOthers ots digits own → NoneLower ots digits own → ⊥
some_lower ots digits None (text, is) none =
    not_all_greatest ots (sha256 text) (is_digest text) (subst (λ d. NoneLower ots d None) is none)
some_lower ots digits (Some own) (text, other, is, own_is, differ) none =
    differ (digests_same ots (sha256 text) (sha256 other) (is_digest text) (is_digest other)
    (subst (λ d. NoneLower ots d (Some (with_checksum ots (sha256 other)))) is (subst (λ o. NoneLower ots digits (Some o)) own_is none)))
