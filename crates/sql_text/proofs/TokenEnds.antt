-- The tokens of a text that is UTF-8 are UTF-8: each ends with an ASCII byte.
use Rattle.std.proofs.Common.{◌≡◌, ℕ, zero, suc, ◌+◌, ◌-◌, ◌≤◌, ◌<◌, Bool, true, false, cond, List, [], ◌∷◌, length, take, drop, get_or, Option, Some, None, Result, Ok, Err, ℤ, pos, refl, sym, ap, ◌∙◌, subst, ◌⊎◌, inl, inr, arith}
use Rattle.std.specs.Prelude.{slice_index, ◌==◌, nat_le, ◌&&◌}
use Rattle.std.specs.List.{prefix_len, AllByRecursion}
use Rattle.std.specs.Char.{is_ascii_digit}
use Rattle.std.specs.Str.{IsUtf8, IsCharBoundary}
use Rattle.std.proofs.Math.Numerals.{one-add}
use Rattle.std.proofs.lemmas.Bool.Decides.{nat_tests}
use Rattle.std.proofs.lemmas.Str.{IsUtf8-take, IsUtf8-drop, IsCharBoundary-after_ascii}
use Rattle.std.proofs.lemmas.List.{length-take}
use Rattle.sql_tokens.specs.declared.kinds.TokenKind.{TokenKind}
use Rattle.sql_tokens.specs.declared.kinds.TokenKind.TheVariants as k
use Rattle.sql_tokens.specs.declared.lexemes.TokenFault.{TokenFault}
use Rattle.sql_tokens.specs.declared.lexemes.TokenFault.TheVariants as lapse
use Rattle.sql_tokens.specs.Kinds.{keyword, spelling}
use Rattle.sql_tokens.specs.Lex.{Token, Placed, is_blank, is_letter, is_word_byte, closing_len, keyword_or_name, integer, integer_value, string_token, symbol, symbolic, fits_text, token_at, then_tokens, at_place, tokens_from}
use Rattle.sql_text.specs.Texts.{without_places}
use Rattle.sql_text.proofs.TokenFits.{pick, word_of, symbol_text, quote_text, minus_text, minus_or, digit_text, digit_or, cases}
use Rattle.sql_text.proofs.TokenSounds.{word_small, word_letter, closing_last, closed_at_once, within, text_in, read_ok, read_err, AreUtf8}

-- the bytes are the first ones of z, up to one that is ASCII
abbrev EndsAt : List ℕ → List ℕ → Type 0
EndsAt z text = (m : ℕ) × (text ≡ take (suc m) z) × (m < length z) × (get_or z m 0 < 128)

run_at : (p : ℕ → Bool) (z : List ℕ) (i : ℕ) → i < prefix_len p z → (i < length z) × (p (get_or z i 0) ≡ true)
run_at p [] i h = absurd (omega arith)
run_at p (b ∷ z) i h = by_first (λ i h. run_at p z i h) i h (p b) refl
  where
    by_first : ((i : ℕ) → i < prefix_len p z → (i < length z) × (p (get_or z i 0) ≡ true)) → (i : ℕ) → i < cond (p b) (1 + prefix_len p z) 0
        → (c : Bool) → p b ≡ c → (i < length (b ∷ z)) × (p (get_or (b ∷ z) i 0) ≡ true)
    by_first again i h false e = let none : i < 0 = subst (λ c. i < cond c (1 + prefix_len p z) 0) e h in absurd (omega arith)
    by_first again zero h true e = (omega arith, e)
    by_first again (suc i) h true e =
        let more : suc i < 1 + prefix_len p z = subst (λ c. suc i < cond c (1 + prefix_len p z) 0) e h in
        let next = again i (omega arith) in
        (omega (arith, next.0), next.1)

-- a run that is not empty
run_ends : (p : ℕ → Bool) → ((b : ℕ) → p b ≡ true → b < 128) → (z : List ℕ) → p (slice_index z 0) ≡ true → 0 < length z → EndsAt z (take (prefix_len p z) z)
run_ends p small [] e h = absurd (omega arith)
run_ends p small (b ∷ z) e h =
    let size : prefix_len p (b ∷ z) ≡ suc (prefix_len p z) = rw (e, one-add) refl in
    let last = run_at p (b ∷ z) (prefix_len p z) (omega (arith, size)) in
    (prefix_len p z, ap (λ n. take n (b ∷ z)) size, last.0, small _ last.1)

digit_small : (b : ℕ) → is_ascii_digit b ≡ true → b < 128
digit_small b e = grind (arith, nat_tests)

minus_ends : (z : List ℕ) → (slice_index z 0 == 45) ≡ true → EndsAt z (take (1 + prefix_len is_ascii_digit (drop 1 z)) z)
minus_ends [] e = absurd (cc)
minus_ends (b ∷ z) e = by_size (prefix_len is_ascii_digit z) refl
  where
    by_size : (n : ℕ) → prefix_len is_ascii_digit z ≡ n → EndsAt (b ∷ z) (take (1 + prefix_len is_ascii_digit z) (b ∷ z))
    by_size zero f = (0, ap (λ n. take n (b ∷ z)) (ap (λ n. 1 + n) f), omega arith, grind (arith, nat_tests))
    by_size (suc n) f =
        let last = run_at is_ascii_digit z n (omega (arith, f)) in
        (suc n, ap (λ n. take n (b ∷ z)) (ap (λ n. 1 + n) f ∙ one_more n), omega (arith, last.0), digit_small _ last.1)
      where
        one_more : (n : ℕ) → 1 + suc n ≡ suc (suc n)
        one_more n = omega arith

quote_ends : (z : List ℕ) (len : ℕ) → (slice_index z 0 == 39) ≡ true → closing_len false (drop 1 z) ≡ Some len → EndsAt z (take (suc len) z)
quote_ends [] len q e = absurd (cc)
quote_ends (b ∷ ys) zero q e = let f : false ≡ true = closed_at_once false ys e in absurd (cc)
quote_ends (b ∷ ys) (suc n) q e =
    let last = closing_last false ys n e in
    let inside = within n ys last in
    (suc n, refl, omega (arith, inside), omega (arith, last))

-- a symbol has one byte, or two
abbrev IsSymbol : ℕ → ℕ → TokenKind → Type 0
IsSymbol b c kind = ((length (spelling kind) ≡ 1) × (0 < b) × (b < 128)) ⊎ ((length (spelling kind) ≡ 2) × (0 < c) × (c < 128))

step : (b c n : ℕ) (here rest : Option TokenKind) (kind : TokenKind) → (here ≡ Some kind → IsSymbol n c kind) → (rest ≡ Some kind → IsSymbol b c kind)
    → cond (b == n) here rest ≡ Some kind → IsSymbol b c kind
step b c n here rest kind f g e = by_byte (pick (b == n) here rest (Some kind) e)
  where
    by_byte : (((b == n) ≡ true) × (here ≡ Some kind)) ⊎ (((b == n) ≡ false) × (rest ≡ Some kind)) → IsSymbol b c kind
    by_byte (inl (h, e)) = let same : b ≡ n = grind (arith, nat_tests) in subst (λ z. IsSymbol z c kind) (sym same) (f e)
    by_byte (inr (h, e)) = g e

one : (n c : ℕ) (found kind : TokenKind) → length (spelling found) ≡ 1 → 0 < n → n < 128 → Some found ≡ Some kind → IsSymbol n c kind
one n c found kind len some small e = let same : found ≡ kind = cc in subst (IsSymbol n c) same (inl (len, some, small))

-- one of two bytes where the second one is this
two : (n c d : ℕ) (found : TokenKind) (rest kind : TokenKind) → length (spelling found) ≡ 2 → 0 < d → d < 128 → (Some rest ≡ Some kind → IsSymbol n c kind)
    → Some (cond (c == d) found rest) ≡ Some kind → IsSymbol n c kind
two n c d found rest kind len some small g e = by_byte (c == d) refl
  where
    by_byte : (x : Bool) → (c == d) ≡ x → IsSymbol n c kind
    by_byte true h =
        let here : Some found ≡ Some kind = subst (λ x. Some (cond x found rest) ≡ Some kind) h e in
        let same : found ≡ kind = cc in
        let byte : c ≡ d = grind (arith, nat_tests) in
        subst (IsSymbol n c) same (inr (len, omega (arith, byte), omega (arith, byte)))
    by_byte false h = g (subst (λ x. Some (cond x found rest) ≡ Some kind) h e)

unequal : (b c : ℕ) (kind : TokenKind) → cond (b == 33 && c == 61) (Some k.NotEqual) None ≡ Some kind → IsSymbol b c kind
unequal b c kind e = by_bytes (pick (b == 33 && c == 61) (Some k.NotEqual) None (Some kind) e)
  where
    second : (x : Bool) → (b == 33) ≡ x → (x && c == 61) ≡ true → (c == 61) ≡ true
    second true h f = f
    second false h f = absurd (cc)

    by_bytes : (((b == 33 && c == 61) ≡ true) × (Some k.NotEqual ≡ Some kind)) ⊎ (((b == 33 && c == 61) ≡ false) × (None ≡ Some kind)) → IsSymbol b c kind
    by_bytes (inl (h, e)) =
        let test : (c == 61) ≡ true = second (b == 33) refl h in
        let byte : c ≡ 61 = grind (arith, nat_tests) in
        let same : k.NotEqual ≡ kind = cc in
        subst (IsSymbol b c) same (inr (refl, omega (arith, byte), omega (arith, byte)))
    by_bytes (inr (h, e)) = absurd (cc)

is_symbol : (b c : ℕ) (kind : TokenKind) → symbol b c ≡ Some kind → IsSymbol b c kind
is_symbol b c kind =
    step b c 40 _ _ kind (λ e. one 40 c k.LeftParen kind refl (omega arith) (omega arith) e)
    (λ e. step b c 41 _ _ kind (λ e. one 41 c k.RightParen kind refl (omega arith) (omega arith) e)
    (λ e. step b c 44 _ _ kind (λ e. one 44 c k.Comma kind refl (omega arith) (omega arith) e)
    (λ e. step b c 59 _ _ kind (λ e. one 59 c k.Semicolon kind refl (omega arith) (omega arith) e)
    (λ e. step b c 46 _ _ kind (λ e. one 46 c k.Dot kind refl (omega arith) (omega arith) e)
    (λ e. step b c 42 _ _ kind (λ e. one 42 c k.Star kind refl (omega arith) (omega arith) e)
    (λ e. step b c 61 _ _ kind (λ e. one 61 c k.Equal kind refl (omega arith) (omega arith) e)
    (λ e. step b c 60 _ _ kind
    (λ e. two 60 c 62 k.NotEqual _ kind refl (omega arith) (omega arith) (λ e. two 60 c 61 k.LessEqual k.Less kind refl (omega arith) (omega arith) (λ e. one 60 c k.Less kind refl (omega arith) (omega arith) e) e) e)
    (λ e. step b c 62 _ _ kind (λ e. two 62 c 61 k.GreaterEqual k.Greater kind refl (omega arith) (omega arith) (λ e. one 62 c k.Greater kind refl (omega arith) (omega arith) e) e)
    (λ e. unequal b c kind e) e) e) e) e) e) e) e) e)

symbol_ends : (z : List ℕ) (kind : TokenKind) → IsSymbol (slice_index z 0) (slice_index z 1) kind → EndsAt z (take (length (spelling kind)) z)
symbol_ends [] kind (inl (len, some, small)) = absurd (omega arith)
symbol_ends [] kind (inr (len, some, small)) = absurd (omega arith)
symbol_ends (b ∷ z) kind (inl (len, some, small)) = (0, ap (λ n. take n (b ∷ z)) len, omega arith, small)
symbol_ends (b ∷ []) kind (inr (len, some, small)) = absurd (omega arith)
symbol_ends (b ∷ c ∷ z) kind (inr (len, some, small)) = (1, ap (λ n. take n (b ∷ c ∷ z)) len, omega arith, small)

first_true : (a b : Bool) → (a && b) ≡ true → a ≡ true
first_true true b e = refl
first_true false b e = absurd (cc)

integer_ends : (z text : List ℕ) (o : Option ℤ) (t : Token) → EndsAt z text → integer o text ≡ Ok t → EndsAt z t.text
integer_ends z text (Some n) t h e = subst (EndsAt z) (ap text_in e) h
integer_ends z text None t h e = absurd (cc)

named_ends : (z w : List ℕ) (o : Option TokenKind) (t : Token) → EndsAt z w → keyword_or_name o w ≡ Ok t → EndsAt z t.text
named_ends z w (Some kind) t h e = subst (EndsAt z) (ap text_in e) h
named_ends z w None t h e = by_length (pick (nat_le (length w) 63) _ _ (Ok t) e)
  where
    by_length : ((nat_le (length w) 63 ≡ true) × (read_ok (record { kind = k.Name; text = w; number = pos 0 }) ≡ Ok t))
        ⊎ ((nat_le (length w) 63 ≡ false) × (read_err lapse.Name ≡ Ok t)) → EndsAt z t.text
    by_length (inl (_, f)) = subst (EndsAt z) (ap text_in f) h
    by_length (inr (_, f)) = absurd (cc)

quoted_ends : (z : List ℕ) (o : Option ℕ) (t : Token) → ((len : ℕ) → o ≡ Some len → EndsAt z (take (suc len) z)) → string_token o z ≡ Ok t → EndsAt z t.text
quoted_ends z None t h e = absurd (cc)
quoted_ends z (Some len) t h e = by_fit (pick (fits_text (take (suc len) z)) _ _ (Ok t) e)
  where
    by_fit : ((fits_text (take (suc len) z) ≡ true) × (read_ok (record { kind = k.Quoted; text = take (suc len) z; number = pos 0 }) ≡ Ok t))
        ⊎ ((fits_text (take (suc len) z) ≡ false) × (read_err lapse.Literal ≡ Ok t)) → EndsAt z t.text
    by_fit (inl (_, f)) = subst (EndsAt z) (ap text_in f) (h len refl)
    by_fit (inr (_, f)) = absurd (cc)

symbolic_ends : (z : List ℕ) (o : Option TokenKind) (t : Token) → ((kind : TokenKind) → o ≡ Some kind → EndsAt z (take (length (spelling kind)) z)) → symbolic o z ≡ Ok t → EndsAt z t.text
symbolic_ends z None t h e = absurd (cc)
symbolic_ends z (Some kind) t h e = subst (EndsAt z) (ap text_in e) (h kind refl)

module _ (z : List ℕ) (t : Token) (some : 0 < length z) where
  by_quote : ((slice_index z 0 == 39) ≡ true) × (string_token (closing_len false (drop 1 z)) z ≡ Ok t) ⊎ ((slice_index z 0 == 39) ≡ false) × (symbol_text z t ≡ Ok t) → EndsAt z t.text
  by_quote (inl h) = quoted_ends z (closing_len false (drop 1 z)) t (λ len e. quote_ends z len h.0 e) h.1
  by_quote (inr h) = symbolic_ends z (symbol (slice_index z 0) (slice_index z 1)) t (λ kind e. symbol_ends z kind (is_symbol _ _ kind e)) h.1

  by_minus : ((slice_index z 0 == 45 && is_ascii_digit (slice_index z 1)) ≡ true) × (integer (integer_value (minus_text z t)) (minus_text z t) ≡ Ok t)
      ⊎ ((slice_index z 0 == 45 && is_ascii_digit (slice_index z 1)) ≡ false) × (quote_text z t ≡ Ok t) → EndsAt z t.text
  by_minus (inl h) = integer_ends z (minus_text z t) (integer_value (minus_text z t)) t (minus_ends z (first_true _ _ h.0)) h.1
  by_minus (inr h) = by_quote (pick (slice_index z 0 == 39) _ _ (Ok t) h.1)

  by_digit : (is_ascii_digit (slice_index z 0) ≡ true) × (integer (integer_value (digit_text z t)) (digit_text z t) ≡ Ok t) ⊎ (is_ascii_digit (slice_index z 0) ≡ false) × (minus_or z t ≡ Ok t)
      → EndsAt z t.text
  by_digit (inl h) = integer_ends z (digit_text z t) (integer_value (digit_text z t)) t (run_ends is_ascii_digit digit_small z h.0 some) h.1
  by_digit (inr h) = by_minus (pick (slice_index z 0 == 45 && is_ascii_digit (slice_index z 1)) _ _ (Ok t) h.1)

  by_letter : (is_letter (slice_index z 0) ≡ true) × (keyword_or_name (keyword (word_of z)) (word_of z) ≡ Ok t) ⊎ (is_letter (slice_index z 0) ≡ false) × (digit_or z t ≡ Ok t) → EndsAt z t.text
  by_letter (inl h) = named_ends z (word_of z) (keyword (word_of z)) t (run_ends is_word_byte word_small z (word_letter (slice_index z 0) h.0) some) h.1
  by_letter (inr h) = by_digit (pick (is_ascii_digit (slice_index z 0)) _ _ (Ok t) h.1)

  token_ends : token_at z ≡ Ok t → EndsAt z t.text
  token_ends h = by_letter (pick (is_letter (slice_index z 0)) _ _ (Ok t) (cases z t h))

-- a token has a byte, and lies in the text
pub token_inside : (b : ℕ) (z : List ℕ) (t : Token) → token_at (b ∷ z) ≡ Ok t → (1 ≤ length t.text) × (length t.text ≤ length (b ∷ z))
token_inside b z t e = by_end (token_ends (b ∷ z) t (omega arith) e)
  where
    by_end : EndsAt (b ∷ z) t.text → (1 ≤ length t.text) × (length t.text ≤ length (b ∷ z))
    by_end (m, f, inside, small) =
        let size : length t.text ≡ suc m = omega (arith, ap length f, length-take (suc m) (b ∷ z), inside) in
        (omega (arith, size), omega (arith, size, inside))

-- the token and what follows it
split_utf8 : (b : ℕ) (z text : List ℕ) → EndsAt (b ∷ z) text → IsUtf8 (b ∷ z) → IsUtf8 text × IsUtf8 (drop (length text - 1) z)
split_utf8 b z text (m, e, inside, small) u =
    let next : m + 1 ≡ suc m = omega arith in
    let cut : IsCharBoundary (b ∷ z) (suc m) = subst (IsCharBoundary (b ∷ z)) next (IsCharBoundary-after_ascii (b ∷ z) m u inside small) in
    let size : length text - 1 ≡ m = omega (arith, ap length e, length-take (suc m) (b ∷ z)) in
    (subst IsUtf8 (sym e) (IsUtf8-take (b ∷ z) (suc m) u cut), subst (λ n. IsUtf8 (drop n z)) (sym size) (IsUtf8-drop (b ∷ z) (suc m) u cut))

abbrev AreGood : Result (List Placed) (TokenFault × ℕ) → Type 0
AreGood (Ok ps) = AllByRecursion (λ t. IsUtf8 t.text) (without_places ps)
AreGood (Err e) = Unit {0}

followed_good : (p : Placed) (r : Result (List Placed) (TokenFault × ℕ)) → IsUtf8 p.token.text → AreGood r → AreGood (then_tokens p r)
followed_good p (Ok ps) h g = (h, g)
followed_good p (Err e) h g = tt

placed_good : (at : ℕ) (r : Result Token TokenFault) (others : ℕ → Result (List Placed) (TokenFault × ℕ)) → ((t : Token) → r ≡ Ok t → IsUtf8 t.text × AreGood (others (length t.text - 1)))
    → AreGood (at_place at r others)
placed_good at (Ok t) others h = let one = h t refl in followed_good (record { token = t; at = at }) (others (length t.text - 1)) one.0 one.1
placed_good at (Err lapse) others h = tt

blank_small : (b : ℕ) → is_blank b ≡ true → b < 128
blank_small b e = grind (arith, nat_tests)

from_good : (at before : ℕ) (z : List ℕ) → IsUtf8 (drop before z) → AreGood (tokens_from at before z)
unfolding tokens_from
from_good at before [] u = tt
from_good at (suc before) (b ∷ z) u = from_good (at + 1) before z u
from_good at zero (b ∷ z) u =
    by_blank (is_blank b) refl (λ h. from_good (at + 1) 0 z h)
    (placed_good at (token_at (b ∷ z)) (λ n. tokens_from (at + 1) n z)
    (λ t e. let parts = split_utf8 b z t.text (token_ends (b ∷ z) t (omega arith) e) u in (parts.0, from_good (at + 1) (length t.text - 1) z parts.1)))
  where
    by_blank : (c : Bool) → is_blank b ≡ c → (IsUtf8 z → AreGood (tokens_from (at + 1) 0 z)) → AreGood (at_place at (token_at (b ∷ z)) (λ n. tokens_from (at + 1) n z))
        → AreGood (cond c (tokens_from (at + 1) 0 z) (at_place at (token_at (b ∷ z)) (λ n. tokens_from (at + 1) n z)))
    by_blank true e f g = f (IsUtf8-drop (b ∷ z) 1 u (IsCharBoundary-after_ascii (b ∷ z) 0 u (omega arith) (blank_small b e)))
    by_blank false e f g = g

pub utf8_tokens : (text : List ℕ) → IsUtf8 text → AreUtf8 text
utf8_tokens text u = λ ps scanned. subst AreGood scanned (from_good 0 0 text u)
