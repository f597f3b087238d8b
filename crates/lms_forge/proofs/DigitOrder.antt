-- The digits of a byte, from its high end on, order bytes.
use Rattle.std.proofs.Common.{◌≡◌, ℕ, zero, suc, ◌+◌, ◌-◌, ◌*◌, ◌/◌, ◌%◌, ◌^◌, ◌≤◌, ◌<◌, List, sym, ap, ◌∙◌, subst, arith}
use Rattle.std.specs.Prelude.{slice_index}
use Rattle.std.proofs.lemmas.Nat.{and_mask, and_comm, and_le_l, shr-shr, shr_split}
use Rattle.std.proofs.Math.Nat.{mul-le-mul, mul-suc, mul-zero}
use Rattle.vo_spec.specs.declared.signatures.OtsType.{OtsType}
use Rattle.vo_spec.specs.declared.signatures.OtsType.TheVariants.{W1, W2, W4, W8}
use Rattle.vo_spec.specs.OtsSets.{width_of}
use Rattle.vo_spec.specs.Ots.{coef}

-- digit k of a byte
abbrev pub digit_in : ℕ → ℕ → ℕ → ℕ
digit_in byte k w = byte / 2 ^ (8 - (w * k + w)) % 2 ^ w

pub coef_few : (bytes : List ℕ) (i w : ℕ) → coef bytes i w ≤ 2 ^ w - 1
coef_few bytes i w = and_le_l (2 ^ w - 1) (slice_index bytes (i * w / 8) / 2 ^ (8 - (w * (i % (8 / w)) + w)))

coef_is : (bytes : List ℕ) (i w : ℕ) → coef bytes i w ≡ digit_in (slice_index bytes (i * w / 8)) (i % (8 / w)) w
coef_is bytes i w =
    let shifted = slice_index bytes (i * w / 8) / 2 ^ (8 - (w * (i % (8 / w)) + w)) in
    and_comm (2 ^ w - 1) shifted ∙ and_mask shifted w

by_power : (x y k : ℕ) → x / 2 ^ k ≤ y / 2 ^ k → x % 2 ^ k ≤ y % 2 ^ k → x ≤ y
by_power x y k above below =
    let rows : x / 2 ^ k * 2 ^ k ≤ y / 2 ^ k * 2 ^ k = mul-le-mul above (omega arith) in
    omega (arith, rows, below, shr_split x k, shr_split y k)

-- down to digit n
down_to : (w a b n : ℕ) → a < 256 → w * n ≤ 8 → ((k : ℕ) → k < n → digit_in a k w ≤ digit_in b k w)
    → a / 2 ^ (8 - w * n) ≤ b / 2 ^ (8 - w * n)
down_to w a b zero small few ordered =
    let none : a / 256 ≡ 0 = omega arith in
    subst (λ m. a / 2 ^ (8 - m) ≤ b / 2 ^ (8 - m)) (sym (mul-zero w)) (subst (λ m. m ≤ b / 256) (sym none) (omega arith))
down_to w a b (suc n) small few ordered =
    let low = 8 - (w * n + w) in
    let next : w * suc n ≡ w * n + w = mul-suc w n in
    let place : low + w ≡ 8 - w * n = omega (arith, next, few) in
    let earlier = down_to w a b n small (omega (arith, next, few)) (λ k inside. ordered k (omega arith)) in
    let above : a / 2 ^ low / 2 ^ w ≤ b / 2 ^ low / 2 ^ w = rw (shr-shr a low w, shr-shr b low w, place) earlier in
    subst (λ m. a / 2 ^ (8 - m) ≤ b / 2 ^ (8 - m)) (sym next)
    (by_power (a / 2 ^ low) (b / 2 ^ low) w above (ordered n (omega arith)))

-- where a digit stands
pub record StandsAt (ots : OtsType) (j k : ℕ) : Type 0 where
  pub byte : (j * (8 / width_of ots) + k) * width_of ots / 8 ≡ j
  pub place : (j * (8 / width_of ots) + k) % (8 / width_of ots) ≡ k

stands_at : (ots : OtsType) (j k : ℕ) → k < 8 / width_of ots → StandsAt ots j k
stands_at W1 j k inside = record { byte = omega arith; place = omega arith }
stands_at W2 j k inside = record { byte = omega arith; place = omega arith }
stands_at W4 j k inside = record { byte = omega arith; place = omega arith }
stands_at W8 j k inside = record { byte = omega arith; place = omega arith }

-- digit k of byte j
pub coef_at : (ots : OtsType) (bytes : List ℕ) (j k : ℕ) → k < 8 / width_of ots
    → coef bytes (j * (8 / width_of ots) + k) (width_of ots) ≡ digit_in (slice_index bytes j) k (width_of ots)
coef_at ots bytes j k inside =
    let stands = stands_at ots j k inside in
    coef_is bytes (j * (8 / width_of ots) + k) (width_of ots)
    ∙ ap (λ b. digit_in (slice_index bytes b) ((j * (8 / width_of ots) + k) % (8 / width_of ots)) (width_of ots)) stands.byte
    ∙ ap (λ p. digit_in (slice_index bytes j) p (width_of ots)) stands.place

width_few : (ots : OtsType) (n : ℕ) → n ≤ 8 / width_of ots → width_of ots * n ≤ 8
width_few W1 n few = omega arith
width_few W2 n few = omega arith
width_few W4 n few = omega arith
width_few W8 n few = omega arith

pub bytes_ordered : (ots : OtsType) (x y : List ℕ) (j n : ℕ) → slice_index x j < 256 → n ≤ 8 / width_of ots
    → ((k : ℕ) → k < n → coef x (j * (8 / width_of ots) + k) (width_of ots) ≤ coef y (j * (8 / width_of ots) + k) (width_of ots))
    → slice_index x j / 2 ^ (8 - width_of ots * n) ≤ slice_index y j / 2 ^ (8 - width_of ots * n)
bytes_ordered ots x y j n small few ordered =
    down_to (width_of ots) (slice_index x j) (slice_index y j) n small (width_few ots n few)
    (λ k inside.
    let within : k < 8 / width_of ots = omega arith in
    let here = ordered k inside in
    rw (coef_at ots x j k within, coef_at ots y j k within) at here)
