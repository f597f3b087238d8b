-- What std's `parse` says of an integer's token.
use Rattle.std.proofs.Common.{◌≡◌, ℕ, ◌+◌, ◌<◌, ◌≤◌, ◌^◌, Bool, true, false, cond, List, [], ◌∷◌, length, take, drop, Option, Some, None, Result, Ok, Err, ℤ, pos, neg_ℤ, refl, ◌⊎◌, inl, inr, sym, ap, ◌∙◌, subst, arith, w64}
use Rattle.std.specs.Str.{IsAscii}
use Rattle.std.specs.Prelude.{slice_index, ◌==◌, nat_le, nat_lt, ◌&&◌}
use Rattle.std.specs.Result.{OkIff, result_ok}
use Rattle.std.specs.Str.{all_ascii_digits}
use Rattle.std.specs.Char.{is_ascii_digit}
use Rattle.std.specs.List.{prefix_len}
use Rattle.std.specs.Str.Parse.{digits_value, ParsesSigned}
use Rattle.std.proofs.Math.Numerals.{one-add}
use Rattle.std.proofs.lemmas.Str.Ascii.{IsAscii-nil, IsAscii-cons}
use Rattle.std.proofs.lemmas.Bool.Decides.{nat_tests}
use Rattle.std.proofs.lemmas.Str.Parse.{IsNumeralModel, numerals_by_value, tells_all_ascii_digits, parse_signed_minus, parse_signed_digits}
use Rattle.sql_tokens.specs.Lex.{digits, integer_value}

own : IsNumeralModel (λ ds. all_ascii_digits ds ≡ true) (digits_value 10)
own = numerals_by_value _ tells_all_ascii_digits

below : (b : ℕ) → is_ascii_digit b ≡ true → b < 128
below b e = grind (arith, nat_tests)

both_true : (a b : Bool) → (a && b) ≡ true → (a ≡ true) × (b ≡ true)
both_true true b e = (refl, e)
both_true false b e = absurd (cc)

ascii_digits : (ds : List ℕ) → all_ascii_digits ds ≡ true → IsAscii ds
ascii_digits [] e = IsAscii-nil
ascii_digits (b ∷ ds) e = let h = both_true (is_ascii_digit b) (all_ascii_digits ds) e in IsAscii-cons b ds (below b h.0) (ascii_digits ds h.1)

same_number : (a b : ℕ) → (a == b) ≡ true → a ≡ b
same_number a b e = grind (arith, nat_tests)

other_number : (a b : ℕ) → (a == b) ≡ false → a ≡ b → ⊥
other_number a b e = grind (arith, nat_tests)

tested : (b : Bool) → (b ≡ true) ⊎ (b ≡ false)
tested true = inl refl
tested false = inr refl

pub ascii_integer : (text : List ℕ) → all_ascii_digits (digits text) ≡ true → IsAscii text
ascii_integer [] e = IsAscii-nil
ascii_integer (b ∷ text) e = by_minus (b == 45) refl
  where
    by_minus : (minus : Bool) → (b == 45) ≡ minus → IsAscii (b ∷ text)
    by_minus true h =
        let small : b < 128 = let same = same_number b 45 h in omega arith in
        IsAscii-cons b text small (ascii_digits text (subst (λ z. all_ascii_digits (cond z text (b ∷ text)) ≡ true) h e))
    by_minus false h = ascii_digits (b ∷ text) (subst (λ z. all_ascii_digits (cond z text (b ∷ text)) ≡ true) h e)

decided : {E : Type 0} (r : Result ℤ E) (Q : Type 0) (x : ℤ) (b : Bool) → (b ≡ true → Q) → (b ≡ false → Q → ⊥) → OkIff r Q x → result_ok r ≡ cond b (Some x) None
decided (Ok y) Q x true holds fails h = ap Some h.1
decided (Ok y) Q x false holds fails h = absurd (fails refl h.0)
decided (Err e) Q x true holds fails h = absurd (h (holds refl))
decided (Err e) Q x false holds fails h = refl

within_le : (a b : ℕ) → nat_le a b ≡ true → a ≤ b
within_le a b e = grind (arith, nat_tests)

past_le : (a b : ℕ) → nat_le a b ≡ false → a ≤ b → ⊥
past_le a b e = grind (arith, nat_tests)

within_lt : (a b : ℕ) → nat_lt a b ≡ true → a < b
within_lt a b e = grind (arith, nat_tests)

past_lt : (a b : ℕ) → nat_lt a b ≡ false → a < b → ⊥
past_lt a b e = grind (arith, nat_tests)

pub parsed_integer : {E : Type 0} (text : List ℕ) (r : Result ℤ E) → ParsesSigned w64 10 text r → all_ascii_digits (digits text) ≡ true → 0 < length (digits text)
    → result_ok r ≡ integer_value text
parsed_integer text r h e some = by_minus (slice_index text 0 == 45) refl
  where
    value : Bool → Option ℤ
    value minus =
        let size = digits_value 10 (cond minus (drop 1 text) text) in
        cond minus (cond (nat_le size (2 ^ 63)) (Some (neg_ℤ (pos size))) None) (cond (nat_lt size (2 ^ 63)) (Some (pos size)) None)

    by_minus : (minus : Bool) → (slice_index text 0 == 45) ≡ minus → result_ok r ≡ integer_value text
    by_minus true m =
        let d : all_ascii_digits (drop 1 text) ≡ true = subst (λ z. all_ascii_digits (cond z (drop 1 text) text) ≡ true) m e in
        let n : 0 < length (drop 1 text) = subst (λ z. 0 < length (cond z (drop 1 text) text)) m some in
        let k = parse_signed_minus own w64 text r h (same_number (slice_index text 0) 45 m) in
        subst (λ z. result_ok r ≡ value z) (sym m)
        (decided r _ _ (nat_le (digits_value 10 (drop 1 text)) (2 ^ 63)) (λ b. (d, n, within_le _ _ b)) (λ b q. past_le _ _ b q.2) k)
    by_minus false m =
        let d : all_ascii_digits text ≡ true = subst (λ z. all_ascii_digits (cond z (drop 1 text) text) ≡ true) m e in
        let n : 0 < length text = subst (λ z. 0 < length (cond z (drop 1 text) text)) m some in
        let k = parse_signed_digits own w64 text r h d in
        subst (λ z. result_ok r ≡ value z) (sym m)
        (decided r _ _ (nat_lt (digits_value 10 text) (2 ^ 63)) (λ b. (n, within_lt _ _ b)) (λ b q. past_lt _ _ b q.1) k)

-- the digits that stand first are digits
pub run_digits : (text : List ℕ) → all_ascii_digits (take (prefix_len is_ascii_digit text) text) ≡ true
run_digits [] = refl
run_digits (b ∷ text) = by_digit (is_ascii_digit b) refl (run_digits text)
  where
    by_digit : (d : Bool) → is_ascii_digit b ≡ d → all_ascii_digits (take (prefix_len is_ascii_digit text) text) ≡ true
        → all_ascii_digits (take (cond (is_ascii_digit b) (1 + prefix_len is_ascii_digit text) 0) (b ∷ text)) ≡ true
    by_digit true e others = rw (e, one-add, e) others
    by_digit false e others = rw e refl

pub minus_digits : (text : List ℕ) → slice_index text 0 ≡ 45 → all_ascii_digits (digits (take (1 + prefix_len is_ascii_digit (drop 1 text)) text)) ≡ true
minus_digits [] e = cc
minus_digits (b ∷ text) e =
    subst (λ z. all_ascii_digits (digits (take (1 + prefix_len is_ascii_digit text) (z ∷ text))) ≡ true) (sym e) (rw one-add (run_digits text))
