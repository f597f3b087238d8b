-- What tokens of each kind hold.
use Rattle.std.proofs.Common.{◌≡◌, ℕ, zero, suc, ◌+◌, ◌≤◌, ◌<◌, ◌^◌, Bool, true, false, cond, List, length, take, drop, Option, Some, None, Result, Ok, Err, ℤ, pos, neg_ℤ, refl, sym, ap, ◌∙◌, subst, ◌⊎◌, inl, inr, arith, w64}
use Rattle.std.specs.Prelude.{slice_index, ◌==◌, nat_le, nat_lt, ◌&&◌, FitsSigned}
use Rattle.std.specs.List.{prefix_len}
use Rattle.std.specs.Char.{is_ascii_digit}
use Rattle.std.specs.Str.Parse.{digits_value}
use Rattle.std.proofs.lemmas.Bool.Decides.{nat_tests}
use Rattle.sql_tokens.specs.declared.kinds.TokenKind.{TokenKind}
use Rattle.sql_tokens.specs.declared.kinds.TokenKind.TheVariants as k
use Rattle.sql_tokens.specs.declared.lexemes.TokenFault.{TokenFault}
use Rattle.sql_tokens.specs.declared.lexemes.TokenFault.TheVariants as lapse
use Rattle.sql_tokens.specs.Kinds.{keyword}
use Rattle.sql_tokens.specs.Lex.{Token, is_letter, is_word_byte, closing_len, symbol, digits, integer_value, keyword_or_name, integer, string_token, symbolic, token_at}

pub pick : {X : Type 0} (b : Bool) (x y z : X) → cond b x y ≡ z → ((b ≡ true) × (x ≡ z)) ⊎ ((b ≡ false) × (y ≡ z))
pick true x y z e = inl (refl, e)
pick false x y z e = inr (refl, e)

abbrev pub word_of : List ℕ → List ℕ
word_of z = take (prefix_len is_word_byte z) z

-- how a token was read: as a word, an integer, a text in quotes or a symbol
abbrev pub ReadAs : List ℕ → Token → Type 0
ReadAs z t =
    ((is_letter (slice_index z 0) ≡ true) × (keyword_or_name (keyword (word_of z)) (word_of z) ≡ Ok t))
    ⊎ ((text : List ℕ) × (integer (integer_value text) text ≡ Ok t))
    ⊎ (((slice_index z 0 == 39) ≡ true) × (string_token (closing_len false (drop 1 z)) z ≡ Ok t))
    ⊎ (symbolic (symbol (slice_index z 0) (slice_index z 1)) z ≡ Ok t)

module _ (z : List ℕ) (t : Token) where
  abbrev pub symbol_text : Result Token TokenFault
  symbol_text = symbolic (symbol (slice_index z 0) (slice_index z 1)) z

  abbrev pub quote_text : Result Token TokenFault
  quote_text = cond (slice_index z 0 == 39) (string_token (closing_len false (drop 1 z)) z) symbol_text

  abbrev pub minus_text : List ℕ
  minus_text = take (1 + prefix_len is_ascii_digit (drop 1 z)) z

  abbrev pub minus_or : Result Token TokenFault
  minus_or = cond (slice_index z 0 == 45 && is_ascii_digit (slice_index z 1)) (integer (integer_value minus_text) minus_text) quote_text

  abbrev pub digit_text : List ℕ
  digit_text = take (prefix_len is_ascii_digit z) z

  abbrev pub digit_or : Result Token TokenFault
  digit_or = cond (is_ascii_digit (slice_index z 0)) (integer (integer_value digit_text) digit_text) minus_or

  pub cases : token_at z ≡ Ok t → cond (is_letter (slice_index z 0)) (keyword_or_name (keyword (word_of z)) (word_of z)) digit_or ≡ Ok t
  unfolding token_at
  cases h = h

  by_quote : ((slice_index z 0 == 39) ≡ true) × (string_token (closing_len false (drop 1 z)) z ≡ Ok t) ⊎ ((slice_index z 0 == 39) ≡ false) × (symbol_text ≡ Ok t) → ReadAs z t
  by_quote (inl h) = inr (inr (inl h))
  by_quote (inr h) = inr (inr (inr h.1))

  by_minus : ((slice_index z 0 == 45 && is_ascii_digit (slice_index z 1)) ≡ true) × (integer (integer_value minus_text) minus_text ≡ Ok t)
      ⊎ ((slice_index z 0 == 45 && is_ascii_digit (slice_index z 1)) ≡ false) × (quote_text ≡ Ok t) → ReadAs z t
  by_minus (inl h) = inr (inl (minus_text, h.1))
  by_minus (inr h) = by_quote (pick (slice_index z 0 == 39) _ _ (Ok t) h.1)

  by_digit : (is_ascii_digit (slice_index z 0) ≡ true) × (integer (integer_value digit_text) digit_text ≡ Ok t) ⊎ (is_ascii_digit (slice_index z 0) ≡ false) × (minus_or ≡ Ok t) → ReadAs z t
  by_digit (inl h) = inr (inl (digit_text, h.1))
  by_digit (inr h) = by_minus (pick (slice_index z 0 == 45 && is_ascii_digit (slice_index z 1)) _ _ (Ok t) h.1)

  by_letter : (is_letter (slice_index z 0) ≡ true) × (keyword_or_name (keyword (word_of z)) (word_of z) ≡ Ok t) ⊎ (is_letter (slice_index z 0) ≡ false) × (digit_or ≡ Ok t) → ReadAs z t
  by_letter (inl h) = inl h
  by_letter (inr h) = by_digit (pick (is_ascii_digit (slice_index z 0)) _ _ (Ok t) h.1)

  pub read_as : token_at z ≡ Ok t → ReadAs z t
  read_as h = by_letter (pick (is_letter (slice_index z 0)) _ _ (Ok t) (cases h))

-- the numbers

signed_size : (n : ℕ) → n ≤ 2 ^ 63 → FitsSigned w64 (neg_ℤ (pos n))
signed_size zero h = omega arith
signed_size (suc n) h = omega arith

size : (n : ℕ) → n < 2 ^ 63 → FitsSigned w64 (pos n)
size n h = omega arith

in_range : (text : List ℕ) (n : ℤ) → integer_value text ≡ Some n → FitsSigned w64 n
in_range text n e = by_minus (pick (slice_index text 0 == 45) _ _ (Some n) e)
  where
    many : ℕ
    many = digits_value 10 (digits text)

    by_size : ((nat_le many (2 ^ 63) ≡ true) × (Some (neg_ℤ (pos many)) ≡ Some n)) ⊎ ((nat_le many (2 ^ 63) ≡ false) × (None ≡ Some n)) → FitsSigned w64 n
    by_size (inl (b, f)) = let same : neg_ℤ (pos many) ≡ n = cc in subst (FitsSigned w64) same (signed_size many (grind (arith, nat_tests)))
    by_size (inr (b, f)) = absurd (cc)

    by_below : ((nat_lt many (2 ^ 63) ≡ true) × (Some (pos many) ≡ Some n)) ⊎ ((nat_lt many (2 ^ 63) ≡ false) × (None ≡ Some n)) → FitsSigned w64 n
    by_below (inl (b, f)) = let same : pos many ≡ n = cc in subst (FitsSigned w64) same (size many (grind (arith, nat_tests)))
    by_below (inr (b, f)) = absurd (cc)

    by_minus : (((slice_index text 0 == 45) ≡ true) × (cond (nat_le many (2 ^ 63)) (Some (neg_ℤ (pos many))) None ≡ Some n))
        ⊎ (((slice_index text 0 == 45) ≡ false) × (cond (nat_lt many (2 ^ 63)) (Some (pos many)) None ≡ Some n)) → FitsSigned w64 n
    by_minus (inl h) = by_size (pick (nat_le many (2 ^ 63)) _ _ (Some n) h.1)
    by_minus (inr h) = by_below (pick (nat_lt many (2 ^ 63)) _ _ (Some n) h.1)

abbrev number_of : Result Token TokenFault → ℤ
number_of (Ok t) = t.number
number_of (Err e) = pos 0

abbrev kind_of : Result Token TokenFault → TokenKind
kind_of (Ok t) = t.kind
kind_of (Err e) = k.Name

integer_fits : (text : List ℕ) (t : Token) (o : Option ℤ) → integer_value text ≡ o → integer o text ≡ Ok t → FitsSigned w64 t.number
integer_fits text t (Some n) e h = subst (FitsSigned w64) (ap number_of h) (in_range text n e)
integer_fits text t None e h = absurd (cc)

-- other tokens have 0
other_number : (z : List ℕ) (t : Token) → (r : Result Token TokenFault) → number_of r ≡ pos 0 → r ≡ Ok t → FitsSigned w64 t.number
other_number z t r e h = let same : pos 0 ≡ t.number = sym e ∙ ap number_of h in subst (FitsSigned w64) same (size 0 (omega arith))

named_zero : (o : Option TokenKind) (w : List ℕ) → number_of (keyword_or_name o w) ≡ pos 0
named_zero (Some kind) w = refl
named_zero None w = by_length (nat_le (length w) 63)
  where
    by_length : (b : Bool) → number_of (cond b (Ok (record { kind = k.Name; text = w; number = pos 0 })) (Err lapse.Name)) ≡ pos 0
    by_length true = refl
    by_length false = refl

quoted_zero : (o : Option ℕ) (w : List ℕ) → number_of (string_token o w) ≡ pos 0
quoted_zero None w = refl
quoted_zero (Some len) w = by_fit (_)
  where
    by_fit : (b : Bool) → number_of (cond b (Ok (record { kind = k.Quoted; text = take (suc len) w; number = pos 0 })) (Err lapse.Literal)) ≡ pos 0
    by_fit true = refl
    by_fit false = refl

symbolic_zero : (o : Option TokenKind) (w : List ℕ) → number_of (symbolic o w) ≡ pos 0
symbolic_zero None w = refl
symbolic_zero (Some kind) w = refl

-- the number of any token has 64 bits with a sign
pub number_fits : (z : List ℕ) (t : Token) → token_at z ≡ Ok t → FitsSigned w64 t.number
number_fits z t h = by_reading (read_as z t h)
  where
    by_reading : ReadAs z t → FitsSigned w64 t.number
    by_reading (inl (_, e)) = other_number z t _ (named_zero (keyword (word_of z)) (word_of z)) e
    by_reading (inr (inl (text, e))) = integer_fits text t (integer_value text) refl e
    by_reading (inr (inr (inl (_, e)))) = other_number z t _ (quoted_zero (closing_len false (drop 1 z)) z) e
    by_reading (inr (inr (inr e))) = other_number z t _ (symbolic_zero (symbol (slice_index z 0) (slice_index z 1)) z) e
