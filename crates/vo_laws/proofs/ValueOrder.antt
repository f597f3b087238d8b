-- Keys are in the order of the values that they are keys of.
use Rattle.std.proofs.Common.{◌≡◌, ℕ, ◌+◌, ◌*◌, ◌^◌, ◌<◌, true, false, List, [], ◌∷◌, length, refl, sym, ap, ◌∙◌, arith}
use Rattle.std.specs.Prelude.{ℤ, pos, negsuc, ◌≤ℤ◌, ◌<ℤ◌, ◌+ℤ◌, ◌-ℤ◌, FitsSigned}
use Rattle.std.specs.declared.cmp.Ordering.TheVariants.{Less, Equal, Greater}
use Rattle.std.specs.Ordering.{nat_cmp, int_cmp, ordering_then}
use Rattle.std.specs.Cmp.Lexicographic.{slice_cmp}
use Rattle.std.specs.Int.{w64, cast_unsigned, from_be_bytes}
use Rattle.std.specs.List.{AllByRecursion}
use Rattle.std.proofs.lemmas.Cmp.{ranked, int_ranked, by_ranked}
use Rattle.std.proofs.lemmas.Int.{ints}
use Rattle.std.proofs.lemmas.Nat.{from_be_bytes-to_be_bytes_8}
use Rattle.vo_spec.specs.declared.values.Kind.{Kind}
use Rattle.vo_spec.specs.declared.values.Kind.TheVariants as kind
use Rattle.vo_spec.specs.declared.values.Value.{Value}
use Rattle.vo_spec.specs.declared.values.Value.TheVariants.{Null, Int, Text, Bool as Truth}
use Rattle.vo_spec.specs.Bytes.{u64_bytes, u64_of}
use Rattle.vo_spec.specs.Values.{is_null, is_of_kind, key_of, key_cmp, value_cmp, value_of_key, IsInRange, IsKeyOf}

-- What two numbers compare to.

nat_less : (a b : ℕ) → a < b → nat_cmp a b ≡ Less
nat_less a b lt = by_ranked (a < b) (a ≡ b) (b < a) (nat_cmp a b) (ranked a b (nat_cmp a b) refl) (λ e h. e) (λ e h. absurd (omega arith)) (λ e h. absurd (omega arith))

nat_greater : (a b : ℕ) → b < a → nat_cmp a b ≡ Greater
nat_greater a b lt = by_ranked (a < b) (a ≡ b) (b < a) (nat_cmp a b) (ranked a b (nat_cmp a b) refl) (λ e h. absurd (omega arith)) (λ e h. absurd (omega arith)) (λ e h. e)

int_less : (a b : ℤ) → a <ℤ b → int_cmp a b ≡ Less
int_less a b lt = by_ranked (a <ℤ b) (a ≡ b) (b <ℤ a) (int_cmp a b) (int_ranked a b (int_cmp a b) refl) (λ e h. e) (λ e h. absurd (omega (arith, ints))) (λ e h. absurd (omega (arith, ints)))

int_equal : (a b : ℤ) → a ≡ b → int_cmp a b ≡ Equal
int_equal a b same = by_ranked (a <ℤ b) (a ≡ b) (b <ℤ a) (int_cmp a b) (int_ranked a b (int_cmp a b) refl) (λ e h. absurd (omega (arith, ints))) (λ e h. e) (λ e h. absurd (omega (arith, ints)))

int_greater : (a b : ℤ) → b <ℤ a → int_cmp a b ≡ Greater
int_greater a b lt = by_ranked (a <ℤ b) (a ≡ b) (b <ℤ a) (int_cmp a b) (int_ranked a b (int_cmp a b) refl) (λ e h. absurd (omega (arith, ints))) (λ e h. absurd (omega (arith, ints))) (λ e h. e)

-- Byte strings of one length are in the order of the numbers that they spell, the highest byte
-- first.

-- the number that the bytes spell behind these that were read
abbrev number_of : ℕ → List ℕ → ℕ
number_of n [] = n
number_of n (b ∷ bytes) = number_of (n * 256 + b) bytes

abbrev AreBytes : List ℕ → Type 0
AreBytes = AllByRecursion (λ b. b < 256)

ahead : (m n : ℕ) (xs ys : List ℕ) → AreBytes xs → length xs ≡ length ys → m < n → number_of m xs < number_of n ys
ahead m n [] [] all len lt = lt
ahead m n [] (y ∷ ys) all len lt = absurd (omega arith)
ahead m n (x ∷ xs) [] all len lt = absurd (omega arith)
ahead m n (x ∷ xs) (y ∷ ys) all len lt =
    let small : x < 256 = all.0 in
    ahead (m * 256 + x) (n * 256 + y) xs ys all.1 (omega arith) (omega arith)

in_order : (n : ℕ) (xs ys : List ℕ) → AreBytes xs → AreBytes ys → length xs ≡ length ys
    → slice_cmp nat_cmp xs ys ≡ nat_cmp (number_of n xs) (number_of n ys)
in_order n [] [] p q len = sym (same n)
  where
    same : (k : ℕ) → nat_cmp k k ≡ Equal
    same k = by_ranked (k < k) (k ≡ k) (k < k) (nat_cmp k k) (ranked k k (nat_cmp k k) refl) (λ e h. absurd (omega arith)) (λ e h. e) (λ e h. absurd (omega arith))
in_order n [] (y ∷ ys) p q len = absurd (omega arith)
in_order n (x ∷ xs) [] p q len = absurd (omega arith)
in_order n (x ∷ xs) (y ∷ ys) p q len =
    by_ranked (x < y) (x ≡ y) (y < x) (nat_cmp x y) (ranked x y (nat_cmp x y) refl) below (equal (in_order (n * 256 + x) xs ys p.1 q.1 rest)) above
  where
    rest : length xs ≡ length ys
    rest = omega arith

    below : nat_cmp x y ≡ Less → x < y → ordering_then (nat_cmp x y) (slice_cmp nat_cmp xs ys) ≡ nat_cmp (number_of n (x ∷ xs)) (number_of n (y ∷ ys))
    below e lt = rw (e, nat_less (number_of n (x ∷ xs)) (number_of n (y ∷ ys)) (ahead (n * 256 + x) (n * 256 + y) xs ys p.1 rest (omega arith))) refl

    above : nat_cmp x y ≡ Greater → y < x → ordering_then (nat_cmp x y) (slice_cmp nat_cmp xs ys) ≡ nat_cmp (number_of n (x ∷ xs)) (number_of n (y ∷ ys))
    above e lt = rw (e, nat_greater (number_of n (x ∷ xs)) (number_of n (y ∷ ys)) (ahead (n * 256 + y) (n * 256 + x) ys xs q.1 (sym rest) (omega arith))) refl

    equal : slice_cmp nat_cmp xs ys ≡ nat_cmp (number_of (n * 256 + x) xs) (number_of (n * 256 + x) ys)
        → nat_cmp x y ≡ Equal → x ≡ y → ordering_then (nat_cmp x y) (slice_cmp nat_cmp xs ys) ≡ nat_cmp (number_of n (x ∷ xs)) (number_of n (y ∷ ys))
    equal more e same = rw (e, ← same) more

eight_encode : (a b c d e f g h : ℕ)
    → number_of 0 (a ∷ b ∷ c ∷ d ∷ e ∷ f ∷ g ∷ h ∷ []) ≡ from_be_bytes w64 (a ∷ b ∷ c ∷ d ∷ e ∷ f ∷ g ∷ h ∷ [])
eight_encode a b c d e f g h = omega arith

number_encoded : (n : ℕ) → n < 2 ^ 64 → number_of 0 (u64_bytes n) ≡ n
unfolding u64_bytes
number_encoded n lt = eight_encode _ _ _ _ _ _ _ _ ∙ from_be_bytes-to_be_bytes_8 n lt

number_bytes : (n : ℕ) → AreBytes (u64_bytes n)
unfolding u64_bytes
number_bytes n = (omega arith, (omega arith, (omega arith, (omega arith, (omega arith, (omega arith, (omega arith, (omega arith, tt))))))))

pub number_length : (n : ℕ) → length (u64_bytes n) ≡ 8
unfolding u64_bytes
number_length n = refl

pub numbers_in_order : (a b : ℕ) → a < 2 ^ 64 → b < 2 ^ 64 → slice_cmp nat_cmp (u64_bytes a) (u64_bytes b) ≡ nat_cmp a b
numbers_in_order a b la lb =
    in_order 0 (u64_bytes a) (u64_bytes b) (number_bytes a) (number_bytes b) (number_length a ∙ sym (number_length b))
    ∙ ap (λ x. nat_cmp x (number_of 0 (u64_bytes b))) (number_encoded a la) ∙ ap (λ y. nat_cmp a y) (number_encoded b lb)

-- Integers with their sign bit flipped.

abbrev sign_flipped : ℤ → ℕ
sign_flipped z = cast_unsigned w64 (z +ℤ pos (2 ^ 63))

positive : (y : ℤ) → pos 0 ≤ℤ y → pos (cast_unsigned w64 y) ≡ y
positive (pos n) h = refl
positive (negsuc n) h = absurd (omega (arith, ints))

pub record IsShifted (z : ℤ) (n : ℕ) : Type 0 where
  pub below : n < 2 ^ 64
  pub is : pos n ≡ z +ℤ pos (2 ^ 63)

is_shifted : (z : ℤ) → FitsSigned w64 z → IsShifted z (sign_flipped z)
is_shifted z fits =
    let low : pos 0 ≤ℤ (z +ℤ pos (2 ^ 63)) = omega (arith, ints) in
    let is : pos (sign_flipped z) ≡ z +ℤ pos (2 ^ 63) = positive (z +ℤ pos (2 ^ 63)) low in
    record { below = omega (arith, ints); is = is }

shifted_in_order : (x y : ℤ) (m n : ℕ) → IsShifted x m → IsShifted y n → int_cmp x y ≡ nat_cmp m n
shifted_in_order x y m n a b =
    by_ranked (m < n) (m ≡ n) (n < m) (nat_cmp m n) (ranked m n (nat_cmp m n) refl)
    (λ e lt. int_less x y (omega (arith, ints)) ∙ sym e)
    (λ e same. int_equal x y (omega (arith, ints)) ∙ sym e)
    (λ e lt. int_greater x y (omega (arith, ints)) ∙ sym e)

integers_in_order : (x y : ℤ) → FitsSigned w64 x → FitsSigned w64 y → int_cmp x y ≡ key_cmp (key_of (Int x)) (key_of (Int y))
integers_in_order x y fx fy =
    let a = is_shifted x fx in
    let b = is_shifted y fy in
    shifted_in_order x y (sign_flipped x) (sign_flipped y) a b ∙ sym (numbers_in_order (sign_flipped x) (sign_flipped y) a.below b.below)

number_again : (n : ℕ) → n < 2 ^ 64 → u64_of (u64_bytes n) ≡ n
unfolding u64_bytes u64_of
number_again n lt = from_be_bytes-to_be_bytes_8 n lt

-- an integer is what its key says
pub integer_back : (z : ℤ) → FitsSigned w64 z → value_of_key kind.Int (key_of (Int z)) ≡ Int z
integer_back z fits =
    let a = is_shifted z fits in
    let n : u64_of (u64_bytes (sign_flipped z)) ≡ sign_flipped z = number_again (sign_flipped z) a.below in
    let back : pos (sign_flipped z) -ℤ pos (2 ^ 63) ≡ z = omega (arith, ints, a.is) in
    rw n (ap Int back)

-- A key's value compares with another value of its kind as the keys do, unless that is NULL.
pub keys_in_order : (k : Kind) (key : List ℕ) (v : Value) → IsKeyOf k key → is_of_kind k v ≡ true → is_null v ≡ false → IsInRange v
    → value_cmp (value_of_key k key) v ≡ key_cmp key (key_of v)
keys_in_order kind.Int key Null i e given fits = absurd (cc)
keys_in_order kind.Int key (Int y) i e given fits =
    ap (λ k. value_cmp (value_of_key kind.Int k) (Int y)) i.2
    ∙ ap (λ v. value_cmp v (Int y)) (integer_back i.0 i.1)
    ∙ integers_in_order i.0 y i.1 fits
    ∙ ap (λ k. key_cmp k (key_of (Int y))) (sym i.2)
keys_in_order kind.Int key (Text s) i e given fits = absurd (cc)
keys_in_order kind.Int key (Truth b) i e given fits = absurd (cc)
keys_in_order kind.Text key Null i e given fits = absurd (cc)
keys_in_order kind.Text key (Int y) i e given fits = absurd (cc)
keys_in_order kind.Text key (Text s) i e given fits = refl
keys_in_order kind.Text key (Truth b) i e given fits = absurd (cc)
keys_in_order kind.Bool key v i e given fits = absurd i

-- A key is that of the value that it gives.
pub key_again : (k : Kind) (key : List ℕ) → IsKeyOf k key → key_of (value_of_key k key) ≡ key
key_again kind.Int key i =
    ap (λ k. key_of (value_of_key kind.Int k)) i.2 ∙ ap key_of (integer_back i.0 i.1) ∙ sym i.2
key_again kind.Text key i = refl
key_again kind.Bool key i = absurd i
