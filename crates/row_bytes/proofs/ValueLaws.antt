-- A value that is read is spelled so, and what is spelled so is read.
use Rattle.std.proofs.Common.{◌≡◌, ℕ, zero, suc, ◌^◌, ◌<◌, ◌≤◌, Bool, true, false, not, eqb, ltb, nat_le, List, [], ◌∷◌, ◌++◌, length, take, drop, Option, Some, None, Result, Ok, Err, refl, sym, ap, subst, ◌∙◌, append_assoc, arith, inl, inr}
use Rattle.std.specs.Prelude.{ℤ, ◌&&◌, IsTrue, FitsSigned, IfOk, IsOkAnd}
use Rattle.std.specs.Borrow.{Bor}
use Rattle.std.specs.Int.{w64, cast_signed, cast_unsigned, from_bool}
use Rattle.std.specs.List.{list_all}
use Rattle.std.specs.Str.{is_utf8}
use Rattle.std.proofs.lemmas.Bool.{ltb-false, le-ltb, eqb-true, leb-true, le-leb}
use Rattle.std.proofs.lemmas.Int.{ints, of_z-to_z, to_z-of_z}
use Rattle.std.proofs.lemmas.Nat.{be_bytes_2, be_bytes_8, from_be_bytes-to_be_bytes_2, from_be_bytes-to_be_bytes_8}
use Rattle.std.proofs.lemmas.List.{take_at, drop_at, take-append-drop, length-append, length-take}
use Rattle.vo_spec.specs.declared.values.Value.{Value}
use Rattle.vo_spec.specs.declared.values.Value.TheVariants.{Null, Int, Text, Bool as Truth}
use Rattle.vo_spec.specs.Firsts.{first_of, unless}
use Rattle.vo_spec.specs.Bytes.{IsBytes, u16_bytes, u64_bytes, u16_of, u64_of}
use Rattle.vo_spec.specs.Values.{max_text, value_bytes, FitsValue, is_text}
use Rattle.row_bytes.specs.declared.fault.FormFault.{FormFault}
use Rattle.row_bytes.specs.declared.fault.FormFault.TheVariants.{Short, Tag, Length, NotUtf8, Control}
use Rattle.vo_spec.specs.declared.cells.ValueRef.{ValueRef}
use Rattle.vo_spec.specs.Lent.{value_of}
use Rattle.row_bytes.specs.Taking.{Read}
use Rattle.row_bytes.specs.Reading.{int_at, text_at, bool_at, value_at, text_fault}
use Rattle.row_bytes.proofs.Readers.{IsBytes-take, IsBytes-rest, guard_ok, chosen}

-- what a reader of values took: the bytes are its spelling and the rest, and it fits
pub record Encodes (bytes : List ℕ) (v : Value) (rest : List ℕ) : Type 0 where
  pub parts : bytes ≡ value_bytes v ++ rest
  pub fits : FitsValue v

abbrev done : Value × List ℕ → Result (Value × List ℕ) FormFault
done x = Ok x

ok_is : (x y : Value × List ℕ) → done x ≡ done y → x ≡ y
ok_is x y e = cc

not_ok : (fault : FormFault) (x : Value × List ℕ) → Err fault ≡ done x → ⊥
not_ok fault x e = cc

-- Numbers.

pub u64_same : (bytes : List ℕ) → length bytes ≡ 8 → IsBytes bytes → u64_bytes (u64_of bytes) ≡ bytes
unfolding u64_bytes u64_of
u64_same bytes len fits = be_bytes_8 bytes _ len fits refl

pub u64_again : (n : ℕ) → n < 2 ^ 64 → u64_of (u64_bytes n) ≡ n
unfolding u64_bytes u64_of
u64_again n lt = from_be_bytes-to_be_bytes_8 n lt

pub u64_below : (bytes : List ℕ) → IsBytes bytes → u64_of bytes < 2 ^ 64
unfolding u64_of
u64_below bytes fits = omega (arith, fits 0, fits 1, fits 2, fits 3, fits 4, fits 5, fits 6, fits 7)

pub u64_length : (n : ℕ) → length (u64_bytes n) ≡ 8
unfolding u64_bytes
u64_length n = refl

pub u16_same : (bytes : List ℕ) → length bytes ≡ 2 → IsBytes bytes → u16_bytes (u16_of bytes) ≡ bytes
unfolding u16_bytes u16_of
u16_same bytes len fits = be_bytes_2 bytes _ len fits refl

pub u16_again : (n : ℕ) → n < 2 ^ 16 → u16_of (u16_bytes n) ≡ n
unfolding u16_bytes u16_of
u16_again n lt = from_be_bytes-to_be_bytes_2 n lt

pub u16_length : (n : ℕ) → length (u16_bytes n) ≡ 2
unfolding u16_bytes
u16_length n = refl

fits_signed : (n : ℕ) → n < 2 ^ 64 → FitsSigned w64 (cast_signed w64 n)
fits_signed n lt = record { sfits = grind (arith, ints) }

below_unsigned : (z : ℤ) → FitsSigned w64 z → cast_unsigned w64 z < 2 ^ 64
below_unsigned z fits = omega (arith, ints)

int_encodes : (bytes : List ℕ) (v : Value) (rest : List ℕ) → IsBytes bytes → int_at bytes ≡ Ok (v, rest) → Encodes (1 ∷ bytes) v rest
unfolding int_at
int_encodes bytes v rest fits e =
    let g = guard_ok (ltb (length bytes) 8) Short (Ok (Int (cast_signed w64 (u64_of (take 8 bytes))), drop 8 bytes)) (v, rest) e in
    let long : 8 ≤ length bytes = ltb-false _ _ g.0 in
    let front = IsBytes-take 8 bytes fits in
    let below = u64_below (take 8 bytes) front in
    let len : length (take 8 bytes) ≡ 8 = omega (arith, length-take 8 bytes) in
    let encoded : u64_bytes (cast_unsigned w64 (cast_signed w64 (u64_of (take 8 bytes)))) ≡ take 8 bytes = ap u64_bytes (of_z-to_z w64 (u64_of (take 8 bytes)) below) ∙ u64_same (take 8 bytes) len front in
    let is : (Int (cast_signed w64 (u64_of (take 8 bytes))), drop 8 bytes) ≡ (v, rest) = cc in
    subst (λ (x : Value × List ℕ). Encodes (1 ∷ bytes) x.0 x.1) is (record { parts = ap (λ (t : List ℕ). 1 ∷ t) (sym (take-append-drop 8 bytes) ∙ ap (λ (t : List ℕ). t ++ drop 8 bytes) (sym encoded)); fits = fits_signed (u64_of (take 8 bytes)) below })

int_read : (z : ℤ) (rest : List ℕ) → FitsSigned w64 z → int_at (u64_bytes (cast_unsigned w64 z) ++ rest) ≡ Ok (Int z, rest)
unfolding int_at
int_read z rest fits =
    let bytes = u64_bytes (cast_unsigned w64 z) in
    let len = u64_length (cast_unsigned w64 z) in
    let long : ltb (length (bytes ++ rest)) 8 ≡ false = le-ltb _ _ (omega (arith, length-append bytes rest)) in
    rw (long, take_at bytes rest 8 len, drop_at bytes rest 8 len, u64_again (cast_unsigned w64 z) (below_unsigned z fits), to_z-of_z w64 z fits) refl

-- Texts.

-- what is spelled has none of the faults
text_passes : (most : ℕ) (s : List ℕ) → length s ≤ most → is_utf8 s ≡ true → list_all (nat_le 32) s ≡ true → text_fault most s ≡ None
text_passes most s le utf8 plain = rw (le-ltb most (length s) le, utf8, plain) refl

three_pass : {F : Type 0} (a b c : Bool) (x y z : F) → first_of ((a, x) ∷ (b, y) ∷ (c, z) ∷ []) ≡ None → (a ≡ false) × (b ≡ false) × (c ≡ false)
three_pass true b c x y z e = absurd cc
three_pass false true c x y z e = absurd cc
three_pass false false true x y z e = absurd cc
three_pass false false false x y z e = (refl, refl, refl)

true_from_not : (b : Bool) → not b ≡ false → b ≡ true
true_from_not true e = refl
true_from_not false e = absurd cc

text_plain : (most : ℕ) (s : List ℕ) → text_fault most s ≡ None → (length s ≤ most) × (is_utf8 s ≡ true) × (list_all (nat_le 32) s ≡ true)
text_plain most s e =
    let p = three_pass (ltb most (length s)) (not (is_utf8 s)) (not (list_all (nat_le 32) s)) Length NotUtf8 Control e in
    (ltb-false most (length s) p.0, true_from_not _ p.1, true_from_not _ p.2)

all_true : (a b : Bool) → (a && b) ≡ true → (a ≡ true) × (b ≡ true)
all_true true b e = (refl, e)
all_true false b e = absurd cc

-- a text that is within its length, and the test of it
is_text_from : (s : List ℕ) → (length s ≤ max_text) × (is_utf8 s ≡ true) × (list_all (nat_le 32) s ≡ true) → IsTrue (is_text s)
is_text_from s p = rw (le-leb (length s) max_text p.0, p.1, p.2) refl

text_from_is : (s : List ℕ) → IsTrue (is_text s) → (length s ≤ max_text) × (is_utf8 s ≡ true) × (list_all (nat_le 32) s ≡ true)
text_from_is s p =
    let a = all_true (nat_le (length s) max_text && is_utf8 s) (list_all (nat_le 32) s) p in
    let b = all_true (nat_le (length s) max_text) (is_utf8 s) a.0 in
    (leb-true (length s) max_text b.0, b.1, a.1)

unless_ok : {F A : Type 0} (fault : Option F) (x y : A) → unless fault x ≡ Ok y → (fault ≡ None) × (x ≡ y)
unless_ok None x y e = (refl, cc)
unless_ok (Some f) x y e = absurd cc

text_encodes : (bytes : List ℕ) (v : Value) (rest : List ℕ) → IsBytes bytes → text_at bytes ≡ Ok (v, rest) → Encodes (2 ∷ bytes) v rest
unfolding text_at
text_encodes bytes v rest fits e =
    let count = u16_of (take 2 bytes) in
    let behind = drop 2 bytes in
    let g = guard_ok (ltb (length bytes) 2) Short _ (v, rest) e in
    let h = guard_ok (ltb (length behind) count) Short _ (v, rest) g.1 in
    let u = unless_ok (text_fault max_text (take count behind)) (Text (take count behind), drop count behind) (v, rest) h.1 in
    let two : 2 ≤ length bytes = ltb-false _ _ g.0 in
    let long : count ≤ length behind = ltb-false _ _ h.0 in
    let len : length (take count behind) ≡ count = omega (arith, length-take count behind) in
    let len_two : length (take 2 bytes) ≡ 2 = omega (arith, length-take 2 bytes) in
    let front : u16_bytes (length (take count behind)) ≡ take 2 bytes = ap u16_bytes len ∙ u16_same (take 2 bytes) len_two (IsBytes-take 2 bytes fits) in
    let parts : bytes ≡ u16_bytes (length (take count behind)) ++ take count behind ++ drop count behind =
    sym (take-append-drop 2 bytes) ∙ ap (λ (t : List ℕ). take 2 bytes ++ t) (sym (take-append-drop count behind)) ∙ sym (append_assoc (take 2 bytes) (take count behind) (drop count behind)) ∙ ap (λ (t : List ℕ). t ++ take count behind ++ drop count behind) (sym front) in
    subst (λ (x : Value × List ℕ). Encodes (2 ∷ bytes) x.0 x.1) u.1 (record { parts = ap (λ (t : List ℕ). 2 ∷ t) parts; fits = is_text_from (take count behind) (text_plain max_text (take count behind) u.0) })

text_read : (s rest : List ℕ) → IsTrue (is_text s) → text_at (u16_bytes (length s) ++ s ++ rest) ≡ Ok (Text s, rest)
unfolding text_at
text_read s rest fits =
    let p = text_from_is s fits in
    let len = u16_length (length s) in
    let regrouped : u16_bytes (length s) ++ s ++ rest ≡ u16_bytes (length s) ++ (s ++ rest) = append_assoc (u16_bytes (length s)) s rest in
    let two : ltb (length (u16_bytes (length s) ++ (s ++ rest))) 2 ≡ false = le-ltb _ _ (omega (arith, length-append (u16_bytes (length s)) (s ++ rest))) in
    let long : ltb (length (s ++ rest)) (length s) ≡ false = le-ltb _ _ (omega (arith, length-append s rest)) in
    ap text_at regrouped ∙ rw (two, take_at (u16_bytes (length s)) (s ++ rest) 2 len, drop_at (u16_bytes (length s)) (s ++ rest) 2 len, u16_again (length s) (omega (arith, p.0)), long, take_at s rest (length s) refl, drop_at s rest (length s) refl, text_passes max_text s p.0 p.1 p.2) refl

-- Truth values.

bool_encodes : (bytes : List ℕ) (v : Value) (rest : List ℕ) → bool_at bytes ≡ Ok (v, rest) → Encodes (3 ∷ bytes) v rest
unfolding bool_at
bool_encodes [] v rest e = absurd cc
bool_encodes (zero ∷ bytes) v rest e = subst (λ (x : Value × List ℕ). Encodes (3 ∷ 0 ∷ bytes) x.0 x.1) (ok_is (Truth false, bytes) (v, rest) e) (record { parts = refl; fits = tt })
bool_encodes (suc zero ∷ bytes) v rest e = subst (λ (x : Value × List ℕ). Encodes (3 ∷ 1 ∷ bytes) x.0 x.1) (ok_is (Truth true, bytes) (v, rest) e) (record { parts = refl; fits = tt })
bool_encodes (suc (suc b) ∷ bytes) v rest e =
    let no : ltb (suc (suc b)) 2 ≡ false = le-ltb _ _ (omega arith) in
    absurd (not_ok Tag (v, rest) (rw no at e))

bool_read : (b : Bool) (rest : List ℕ) → bool_at (from_bool b ∷ rest) ≡ Ok (Truth b, rest)
unfolding bool_at
bool_read true rest = refl
bool_read false rest = refl

-- Values.

null_encodes : (bytes : List ℕ) (v : Value) (rest : List ℕ) → done (Null, bytes) ≡ done (v, rest) → Encodes (0 ∷ bytes) v rest
null_encodes bytes v rest e = subst (λ (x : Value × List ℕ). Encodes (0 ∷ bytes) x.0 x.1) (ok_is (Null, bytes) (v, rest) e) (record { parts = refl; fits = tt })

pub value_encodes : (bytes : List ℕ) (v : Value) (rest : List ℕ) → IsBytes bytes → value_at bytes ≡ Ok (v, rest) → Encodes bytes v rest
unfolding value_at
value_encodes [] v rest fits e = absurd cc
value_encodes (kind ∷ bytes) v rest fits e =
    elim (chosen (eqb kind 0) (Ok (Null, bytes)) _ (Ok (v, rest)) e) [
      | inl n ↦ subst (λ (k : ℕ). Encodes (k ∷ bytes) v rest) (sym (eqb-true kind 0 n.0)) (null_encodes bytes v rest n.1)
      | inr n ↦ elim (chosen (eqb kind 1) (int_at bytes) _ (Ok (v, rest)) n.1) [
        | inl a ↦ subst (λ (k : ℕ). Encodes (k ∷ bytes) v rest) (sym (eqb-true kind 1 a.0)) (int_encodes bytes v rest (IsBytes-rest kind bytes fits) a.1)
        | inr a ↦ elim (chosen (eqb kind 2) (text_at bytes) _ (Ok (v, rest)) a.1) [
          | inl b ↦ subst (λ (k : ℕ). Encodes (k ∷ bytes) v rest) (sym (eqb-true kind 2 b.0)) (text_encodes bytes v rest (IsBytes-rest kind bytes fits) b.1)
          | inr b ↦ elim (chosen (eqb kind 3) (bool_at bytes) _ (Ok (v, rest)) b.1) [
            | inl c ↦ subst (λ (k : ℕ). Encodes (k ∷ bytes) v rest) (sym (eqb-true kind 3 c.0)) (bool_encodes bytes v rest c.1)
            | inr c ↦ absurd (not_ok Tag (v, rest) c.1)
          ]
        ]
      ]
    ]

pub value_read : (v : Value) (rest : List ℕ) → FitsValue v → value_at (value_bytes v ++ rest) ≡ Ok (v, rest)
unfolding value_at
value_read Null rest fits = refl
value_read (Int z) rest fits = int_read z rest fits
value_read (Text s) rest fits = text_read s rest fits
value_read (Truth true) rest fits = bool_read true rest
value_read (Truth false) rest fits = bool_read false rest

-- Answers of the calls.

pub is_found : (bytes : List ℕ) (r : Result (ValueRef × Bor (List ℕ)) FormFault) → IsBytes bytes → Read r (value_at bytes) → IfOk r (λ x. FitsValue (value_of x.0) × (bytes ≡ value_bytes (value_of x.0) ++ x.1.now))
is_found bytes (Ok x) fits read = let s = value_encodes bytes (value_of x.0) x.1.now fits read in (s.fits, s.parts)
is_found bytes (Err fault) fits read = tt

pub is_taken : (bytes : List ℕ) (r : Result (ValueRef × Bor (List ℕ)) FormFault) (v : Value) (rest : List ℕ) → Read r (value_at bytes) → FitsValue v → bytes ≡ value_bytes v ++ rest → IsOkAnd r (λ x. (value_of x.0 ≡ v) × (x.1.now ≡ rest))
is_taken bytes (Ok x) v rest read fits e =
    let same : (value_of x.0, x.1.now) ≡ (v, rest) = ok_is (value_of x.0, x.1.now) (v, rest) (sym read ∙ ap value_at e ∙ value_read v rest fits) in
    (ap (λ (p : Value × List ℕ). p.0) same, ap (λ (p : Value × List ℕ). p.1) same)
is_taken bytes (Err fault) v rest read fits e = absurd (not_ok fault (v, rest) (sym read ∙ ap value_at e ∙ value_read v rest fits))

pub one_value : (v w : Value) (a b : List ℕ) → FitsValue v → FitsValue w → value_bytes v ++ a ≡ value_bytes w ++ b → (v ≡ w) × (a ≡ b)
one_value v w a b fits fits' e =
    let same : (v, a) ≡ (w, b) = ok_is (v, a) (w, b) (sym (value_read v a fits) ∙ ap value_at e ∙ value_read w b fits') in
    (ap (λ (p : Value × List ℕ). p.0) same, ap (λ (p : Value × List ℕ). p.1) same)
