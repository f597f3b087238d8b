-- What is printed are tokens.
use Rattle.std.proofs.Common.{◌≡◌, ℕ, suc, ◌+◌, ◌-◌, ◌≤◌, ◌<◌, ◌^◌, Bool, true, false, cond, List, [], ◌∷◌, ◌++◌, length, take, Some, None, Ok, Err, ℤ, pos, negsuc, neg_ℤ, refl, sym, ap, ◌∙◌, subst, arith}
use Rattle.std.specs.Prelude.{option_map, ◌==◌, nat_le, nat_lt, not, ◌&&◌, ◌||◌, decimal, flat_map}
use Rattle.std.specs.List.{prefix_len, list_all}
use Rattle.std.specs.Char.{is_ascii_digit, to_ascii_lowercase}
use Rattle.std.specs.Str.{all_ascii_digits, str_to_ascii_lowercase}
use Rattle.std.specs.Str.Parse.{digits_value}
use Rattle.std.proofs.Math.Numerals.{one-add}
use Rattle.std.proofs.Math.Seq.{take-length, take-append_seam}
use Rattle.std.proofs.lemmas.Bool.Decides.{nat_tests}
use Rattle.std.proofs.lemmas.List.{length-append}
use Rattle.std.proofs.lemmas.Fmt.{digits_decimal, digits_value-decimal, decimal_nonempty}
use Rattle.std.proofs.lemmas.Str.Parse.{IsNumeralModel, numerals_by_value, tells_all_ascii_digits}
use Rattle.sql_tokens.specs.declared.kinds.TokenKind.TheVariants as k
use Rattle.sql_tokens.specs.declared.lexemes.TokenFault.TheVariants as lapse
use Rattle.sql_tokens.specs.Kinds.{keyword}
use Rattle.sql_tokens.specs.Lex.{is_letter, is_word_byte, keyword_or_name, integer_value, integer_kind, integer, closing_len, single_quotes, quoted_value, fits_text, string_token, token_at}
use Rattle.sql_tokens.proofs.Alone.{letter_at, digit_at, minus_at, quote_at}
use Rattle.vo_spec.specs.declared.values.Value.TheVariants as value
use Rattle.vo_spec.specs.Names.{is_digit, is_name_byte, FitsName}
use Rattle.vo_spec.specs.Values.{FitsValue}
use Rattle.sql_text.specs.Tokens.{IsToken}
use Rattle.sql_text.proofs.TokenSounds.{both, and_true, holds_below, below_holds, implied}
use Rattle.sql_text.specs.Printing.{name_token, integer_token, quoted_byte, quoted_token}

-- a run that is all of a text
run_whole : (p : ℕ → Bool) (z : List ℕ) → list_all p z ≡ true → take (prefix_len p z) z ≡ z
run_whole p [] e = refl
run_whole p (b ∷ z) e =
    let parts = both (p b) (list_all p z) e in
    ap (λ c. take (cond c (1 + prefix_len p z) 0) (b ∷ z)) parts.0 ∙ ap (λ i. take i (b ∷ z)) (one-add (prefix_len p z))
    ∙ ap (λ y. b ∷ y) (run_whole p z parts.1)

all_of : (p q : ℕ → Bool) → ((b : ℕ) → p b ≡ true → q b ≡ true) → (z : List ℕ) → list_all p z ≡ true → list_all q z ≡ true
all_of p q f [] e = refl
all_of p q f (b ∷ z) e = let parts = both (p b) (list_all p z) e in and_true (q b) (list_all q z) (f b parts.0) (all_of p q f z parts.1)

-- Names.

abbrev is_small_word : ℕ → Bool
is_small_word b = not (is_name_byte b) || (is_word_byte b && to_ascii_lowercase b == b && (is_digit b || is_letter b))

all_small : holds_below is_small_word 128 ≡ true
unfolding holds_below
all_small = refl

pub name_small : (b : ℕ) → is_name_byte b ≡ true → b < 128
name_small b e = grind (arith, nat_tests)

name_byte : (b : ℕ) → is_name_byte b ≡ true → (is_word_byte b && to_ascii_lowercase b == b && (is_digit b || is_letter b)) ≡ true
name_byte b e = implied (is_name_byte b) _ (below_holds is_small_word 128 b all_small (name_small b e)) e

name_word : (b : ℕ) → is_name_byte b ≡ true → is_word_byte b ≡ true
name_word b e = (both _ _ (both _ _ (name_byte b e)).0).0

name_folds : (b : ℕ) → is_name_byte b ≡ true → to_ascii_lowercase b ≡ b
name_folds b e = same_number (to_ascii_lowercase b) b (both _ _ (both _ _ (name_byte b e)).0).1
  where
    same_number : (x y : ℕ) → (x == y) ≡ true → x ≡ y
    same_number x y f = grind (arith, nat_tests)

name_letter : (b : ℕ) → is_name_byte b ≡ true → not (is_digit b) ≡ true → is_letter b ≡ true
name_letter b e f = by_digit (is_digit b) (is_letter b) (both _ _ (name_byte b e)).1 f
  where
    by_digit : (d l : Bool) → (d || l) ≡ true → not d ≡ true → l ≡ true
    by_digit true l g h = absurd (cc)
    by_digit false l g h = g

folds_all : (z : List ℕ) → list_all is_name_byte z ≡ true → str_to_ascii_lowercase z ≡ z
folds_all [] e = refl
folds_all (b ∷ z) e =
    let parts = both (is_name_byte b) (list_all is_name_byte z) e in
    ap (λ x. x ∷ str_to_ascii_lowercase z) (name_folds b parts.0) ∙ ap (λ y. b ∷ y) (folds_all z parts.1)

pub name_folded : (name : List ℕ) → FitsName name → name ≡ str_to_ascii_lowercase name
name_folded [] h = refl
name_folded (b ∷ name) h = sym (folds_all (b ∷ name) (both _ _ h).1)

pub name_is : (name : List ℕ) → FitsName name → keyword name ≡ None → IsToken (name_token name)
name_is [] h free = absurd (cc)
name_is (b ∷ name) h free =
    let outer = both _ _ h in
    let inner = both _ _ outer.0 in
    let first = both (is_name_byte b) (list_all is_name_byte name) outer.1 in
    letter_at b name (name_letter b first.0 inner.1)
    ∙ ap (λ w. keyword_or_name (keyword w) w) (run_whole is_word_byte (b ∷ name) (all_of is_name_byte is_word_byte name_word (b ∷ name) outer.1))
    ∙ ap (λ o. keyword_or_name o (b ∷ name)) free ∙ ap (λ c. cond c (Ok (name_token (b ∷ name))) (Err lapse.Name)) inner.0

-- Integers.

own : IsNumeralModel (λ ds. all_ascii_digits ds ≡ true) (digits_value 10)
own = numerals_by_value _ tells_all_ascii_digits

digits_run : (ds : List ℕ) → all_ascii_digits ds ≡ true → take (prefix_len is_ascii_digit ds) ds ≡ ds
digits_run [] e = refl
digits_run (b ∷ ds) e =
    let parts = both (is_ascii_digit b) (all_ascii_digits ds) e in
    ap (λ c. take (cond c (1 + prefix_len is_ascii_digit ds) 0) (b ∷ ds)) parts.0 ∙ ap (λ i. take i (b ∷ ds)) (one-add (prefix_len is_ascii_digit ds))
    ∙ ap (λ y. b ∷ y) (digits_run ds parts.1)

abbrev is_plain_digit : ℕ → Bool
is_plain_digit b = not (is_ascii_digit b) || (not (is_letter b) && not (b == 45))

all_plain : holds_below is_plain_digit 128 ≡ true
unfolding holds_below
all_plain = refl

digit_small : (b : ℕ) → is_ascii_digit b ≡ true → b < 128
digit_small b e = grind (arith, nat_tests)

not_false : (c : Bool) → not c ≡ true → c ≡ false
not_false true e = absurd (cc)
not_false false e = refl

digit_plain : (b : ℕ) → is_ascii_digit b ≡ true → (is_letter b ≡ false) × ((b == 45) ≡ false)
digit_plain b e =
    let parts = both _ _ (implied (is_ascii_digit b) _ (below_holds is_plain_digit 128 b all_plain (digit_small b e)) e) in
    (not_false (is_letter b) parts.0, not_false (b == 45) parts.1)

plain_value : (b : ℕ) (ds : List ℕ) → (b == 45) ≡ false → digits_value 10 (b ∷ ds) < 2 ^ 63 → integer_value (b ∷ ds) ≡ Some (pos (digits_value 10 (b ∷ ds)))
plain_value b ds e h = rw e (ap (λ c. cond c (Some (pos (digits_value 10 (b ∷ ds)))) None) (is_less (digits_value 10 (b ∷ ds)) (2 ^ 63) h))
  where
    is_less : (x y : ℕ) → x < y → nat_lt x y ≡ true
    is_less x y g = grind (arith, nat_tests)

minus_value : (ds : List ℕ) → digits_value 10 ds ≤ 2 ^ 63 → integer_value (45 ∷ ds) ≡ Some (neg_ℤ (pos (digits_value 10 ds)))
minus_value ds h = ap (λ c. cond c (Some (neg_ℤ (pos (digits_value 10 ds)))) None) (is_most (digits_value 10 ds) (2 ^ 63) h)
  where
    is_most : (x y : ℕ) → x ≤ y → nat_le x y ≡ true
    is_most x y g = grind (arith, nat_tests)

plain_is : (n : ℕ) → n < 2 ^ 63 → (ds : List ℕ) → all_ascii_digits ds ≡ true → 0 < length ds → digits_value 10 ds ≡ n
    → token_at ds ≡ Ok (record { kind = integer_kind (pos n); text = ds; number = pos n })
plain_is n h [] e f g = absurd (omega arith)
plain_is n h (b ∷ ds) e f g =
    let first = both (is_ascii_digit b) (all_ascii_digits ds) e in
    let plain = digit_plain b first.0 in
    digit_at b ds plain.0 first.0 ∙ ap (λ w. integer (integer_value w) w) (digits_run (b ∷ ds) e)
    ∙ ap (λ o. integer o (b ∷ ds)) (plain_value b ds plain.1 (subst (λ x. x < 2 ^ 63) (sym g) h) ∙ ap (λ x. Some (pos x)) g)

minus_is : (n : ℕ) → suc n ≤ 2 ^ 63 → (ds : List ℕ) → all_ascii_digits ds ≡ true → 0 < length ds → digits_value 10 ds ≡ suc n
    → token_at (45 ∷ ds) ≡ Ok (record { kind = integer_kind (negsuc n); text = 45 ∷ ds; number = negsuc n })
minus_is n h [] e f g = absurd (omega arith)
minus_is n h (b ∷ ds) e f g =
    let first = both (is_ascii_digit b) (all_ascii_digits ds) e in
    let run : take (1 + prefix_len is_ascii_digit (b ∷ ds)) (45 ∷ b ∷ ds) ≡ 45 ∷ b ∷ ds =
    ap (λ i. take i (45 ∷ b ∷ ds)) (one-add (prefix_len is_ascii_digit (b ∷ ds))) ∙ ap (λ y. 45 ∷ y) (digits_run (b ∷ ds) e) in
    minus_at 45 (b ∷ ds) refl refl first.0 ∙ ap (λ w. integer (integer_value w) w) run
    ∙ ap (λ o. integer o (45 ∷ b ∷ ds)) (minus_value (b ∷ ds) (subst (λ x. x ≤ 2 ^ 63) (sym g) h) ∙ ap (λ x. Some (neg_ℤ (pos x))) g)

pub unsigned_is : (n : ℕ) → n < 2 ^ 63 → IsToken (integer_token (pos n))
unsigned_is n small =
    let wide : n < 2 ^ 64 = omega arith in
    plain_is n small (decimal n) (digits_decimal own n wide) (decimal_nonempty n wide) (digits_value-decimal own n wide)

pub integer_is : (z : ℤ) → FitsValue (value.Int z) → IsToken (integer_token z)
integer_is (pos n) h = unsigned_is n (omega arith)
integer_is (negsuc n) h =
    let small : suc n ≤ 2 ^ 63 = omega arith in
    let wide : suc n < 2 ^ 64 = omega arith in
    minus_is n small (decimal (suc n)) (digits_decimal own (suc n) wide) (decimal_nonempty (suc n) wide) (digits_value-decimal own (suc n) wide)

-- Texts in quotes.

closes_at : (s : List ℕ) → closing_len false (flat_map quoted_byte s ++ 39 ∷ []) ≡ Some (length (flat_map quoted_byte s ++ 39 ∷ []))
closes_at [] = refl
closes_at (b ∷ s) = by_quote (b == 39) refl (closes_at s)
  where
    by_quote : (q : Bool) → (b == 39) ≡ q → closing_len false (flat_map quoted_byte s ++ 39 ∷ []) ≡ Some (length (flat_map quoted_byte s ++ 39 ∷ []))
        → closing_len false ((cond q (39 ∷ 39 ∷ []) (b ∷ []) ++ flat_map quoted_byte s) ++ 39 ∷ []) ≡ Some (length ((cond q (39 ∷ 39 ∷ []) (b ∷ []) ++ flat_map quoted_byte s) ++ 39 ∷ []))
    by_quote true e again = ap (λ o. option_map suc (option_map suc o)) again
    by_quote false e again = rw e (ap (option_map suc) again)

single_again : (s : List ℕ) → single_quotes false (flat_map quoted_byte s) ≡ s
single_again [] = refl
single_again (b ∷ s) = by_quote (b == 39) refl (single_again s)
  where
    by_quote : (q : Bool) → (b == 39) ≡ q → single_quotes false (flat_map quoted_byte s) ≡ s
        → single_quotes false (cond q (39 ∷ 39 ∷ []) (b ∷ []) ++ flat_map quoted_byte s) ≡ b ∷ s
    by_quote true e again = let same : b ≡ 39 = grind (arith, nat_tests) in ap (λ y. 39 ∷ y) again ∙ ap (λ x. x ∷ s) (sym same)
    by_quote false e again = rw e (ap (λ y. b ∷ y) again)

doubled_all : (p : ℕ → Bool) → p 39 ≡ true → (s : List ℕ) → list_all p s ≡ true → list_all p (flat_map quoted_byte s ++ 39 ∷ []) ≡ true
doubled_all p h [] e = and_true (p 39) true h refl
doubled_all p h (b ∷ s) e = by_quote (b == 39) (doubled_all p h s (both (p b) (list_all p s) e).1)
  where
    by_quote : (q : Bool) → list_all p (flat_map quoted_byte s ++ 39 ∷ []) ≡ true
        → list_all p ((cond q (39 ∷ 39 ∷ []) (b ∷ []) ++ flat_map quoted_byte s) ++ 39 ∷ []) ≡ true
    by_quote true again = and_true (p 39) _ h (and_true (p 39) _ h again)
    by_quote false again = and_true (p b) _ (both (p b) (list_all p s) e).0 again

pub unquoted_again : (s : List ℕ) → s ≡ quoted_value (39 ∷ flat_map quoted_byte s ++ 39 ∷ [])
unquoted_again s =
    let size : length (flat_map quoted_byte s ++ 39 ∷ []) ≡ length (flat_map quoted_byte s) + 1 = length-append (flat_map quoted_byte s) (39 ∷ []) in
    let cut : length (39 ∷ flat_map quoted_byte s ++ 39 ∷ []) - 2 ≡ length (flat_map quoted_byte s) = omega (arith, size) in
    sym (ap (λ n. single_quotes false (take n (flat_map quoted_byte s ++ 39 ∷ []))) cut
    ∙ ap (single_quotes false) (take-append_seam (flat_map quoted_byte s) (39 ∷ [])) ∙ single_again s)

pub quoted_is : (s : List ℕ) → FitsValue (value.Text s) → IsToken (quoted_token s)
quoted_is s h =
    let z : List ℕ = flat_map quoted_byte s ++ 39 ∷ [] in
    let outer = both _ _ h in
    let short = (both _ _ outer.0).0 in
    let whole : take (suc (length z)) (39 ∷ z) ≡ 39 ∷ z = ap (λ y. 39 ∷ y) (take-length z) in
    let fits : fits_text (39 ∷ z) ≡ true = and_true _ _ (ap (λ y. nat_le (length y) 1024) (sym (unquoted_again s)) ∙ short) (doubled_all (λ b. nat_le 32 b) refl s outer.1) in
    quote_at 39 z refl refl refl refl ∙ ap (λ o. string_token o (39 ∷ z)) (closes_at s)
    ∙ ap (λ y. cond (fits_text y) (Ok (record { kind = k.Quoted; text = y; number = pos 0 })) (Err lapse.Literal)) whole
    ∙ ap (λ c. cond c (Ok (quoted_token s)) (Err lapse.Literal)) fits
