-- A token's bytes with a blank behind them are that token too.
use Rattle.std.proofs.Common.{◌≡◌, ℕ, zero, suc, ◌+◌, ◌<◌, Bool, true, false, cond, List, [], ◌∷◌, ◌++◌, length, take, drop, Option, Some, None, Result, Ok, Err, refl, sym, ap, ◌∙◌, subst, inl, inr, arith, pos}
use Rattle.std.specs.Prelude.{slice_index, ◌==◌, ◌&&◌, ◌||◌, not, option_map}
use Rattle.std.specs.List.{prefix_len}
use Rattle.std.specs.Char.{is_ascii_digit}
use Rattle.std.proofs.Math.Numerals.{one-add}
use Rattle.std.proofs.lemmas.Bool.{eqb-true}
use Rattle.sql_tokens.specs.declared.kinds.TokenKind.{TokenKind}
use Rattle.sql_tokens.specs.declared.kinds.TokenKind.TheVariants as k
use Rattle.sql_tokens.specs.declared.lexemes.TokenFault.{TokenFault}
use Rattle.sql_tokens.specs.declared.lexemes.TokenFault.TheVariants as lapse
use Rattle.sql_tokens.specs.Kinds.{spelling, keyword}
use Rattle.sql_tokens.specs.Lex.{Token, is_blank, is_letter, is_word_byte, keyword_or_name, integer_value, integer, closing_len, fits_text, string_token, symbol, symbolic, token_at}
use Rattle.sql_tokens.proofs.Alone.{Stands, stands, named_text, integer_text, symbolic_text, quoted_text, letter_at, digit_at, minus_at, quote_at, symbol_at, both_true, one_more, none_at_end}

behind : (b : ℕ) (x y : List ℕ) → b ∷ x ≡ b ∷ y → x ≡ y
behind b x y e = ap (drop 1) e

one_byte : (n b : ℕ) (x : List ℕ) → take (1 + n) (b ∷ x) ≡ b ∷ take n x
one_byte n b x = ap (λ i. take i (b ∷ x)) (one-add n)

-- a run that is whole ends at a blank
run_ends : (p : ℕ → Bool) (w z : List ℕ) → p 32 ≡ false → take (prefix_len p w) w ≡ w → take (prefix_len p (w ++ 32 ∷ z)) (w ++ 32 ∷ z) ≡ w
run_ends p [] z e h = ap (λ c. take (cond c (1 + prefix_len p z) 0) (32 ∷ z)) e
run_ends p (b ∷ w) z e h = by_first (p b) refl (run_ends p w z e)
  where
    all : (c : Bool) → take (cond c (1 + prefix_len p w) 0) (b ∷ w) ≡ b ∷ w → (c ≡ true) × (take (prefix_len p w) w ≡ w)
    all true g = (refl, behind b _ w (sym (one_byte (prefix_len p w) b w) ∙ g))
    all false g = absurd (cc)

    by_first : (c : Bool) → p b ≡ c → (take (prefix_len p w) w ≡ w → take (prefix_len p (w ++ 32 ∷ z)) (w ++ 32 ∷ z) ≡ w)
        → take (prefix_len p (b ∷ w ++ 32 ∷ z)) (b ∷ w ++ 32 ∷ z) ≡ b ∷ w
    by_first c f again =
        let parts = all (p b) h in
        ap (λ d. take (cond d (1 + prefix_len p (w ++ 32 ∷ z)) 0) (b ∷ w ++ 32 ∷ z)) parts.0
        ∙ one_byte (prefix_len p (w ++ 32 ∷ z)) b (w ++ 32 ∷ z) ∙ ap (λ y. b ∷ y) (again parts.1)

-- words and integers without a minus
run_before : (p : ℕ → Bool) (of : List ℕ → Result Token TokenFault) (b : ℕ) (w z : List ℕ) (t : Token) → p 32 ≡ false → t.text ≡ b ∷ w
    → ((u : List ℕ) → of u ≡ Ok t → t.text ≡ u) → ((y : List ℕ) → token_at (b ∷ y) ≡ of (take (prefix_len p (b ∷ y)) (b ∷ y)))
    → token_at (b ∷ w) ≡ Ok t → token_at (b ∷ w ++ 32 ∷ z) ≡ Ok t
run_before p of b w z t blank is text at h =
    let found : of (take (prefix_len p (b ∷ w)) (b ∷ w)) ≡ Ok t = sym (at w) ∙ h in
    let whole : take (prefix_len p (b ∷ w)) (b ∷ w) ≡ b ∷ w = sym (text _ found) ∙ is in
    at (w ++ 32 ∷ z) ∙ ap of (run_ends p (b ∷ w) z blank whole ∙ sym whole) ∙ found

minus_before : (b : ℕ) (w z : List ℕ) (t : Token) → is_letter b ≡ false → is_ascii_digit b ≡ false → (b == 45 && is_ascii_digit (slice_index w 0)) ≡ true
    → t.text ≡ b ∷ w → token_at (b ∷ w) ≡ Ok t → token_at (b ∷ w ++ 32 ∷ z) ≡ Ok t
minus_before b [] z t e f m is h = let g = both_true (b == 45) false m in let no : false ≡ true = g.1 in absurd (cc)
minus_before b (c ∷ w) z t e f m is h =
    let run : List ℕ = take (1 + prefix_len is_ascii_digit (c ∷ w)) (b ∷ c ∷ w) in
    let found : integer (integer_value run) run ≡ Ok t = sym (minus_at b (c ∷ w) e f m) ∙ h in
    let all : run ≡ b ∷ c ∷ w = sym (integer_text (integer_value run) run t found) ∙ is in
    let whole : take (prefix_len is_ascii_digit (c ∷ w)) (c ∷ w) ≡ c ∷ w = behind b _ (c ∷ w) (sym (one_byte (prefix_len is_ascii_digit (c ∷ w)) b (c ∷ w)) ∙ all) in
    let further : take (1 + prefix_len is_ascii_digit (c ∷ w ++ 32 ∷ z)) (b ∷ c ∷ w ++ 32 ∷ z) ≡ b ∷ c ∷ w =
    one_byte (prefix_len is_ascii_digit (c ∷ w ++ 32 ∷ z)) b (c ∷ w ++ 32 ∷ z) ∙ ap (λ y. b ∷ y) (run_ends is_ascii_digit (c ∷ w) z refl whole) in
    minus_at b (c ∷ w ++ 32 ∷ z) e f m ∙ ap (λ y. integer (integer_value y) y) (further ∙ sym all) ∙ found

-- texts in quotes
closing_before : (s : Bool) (w z : List ℕ) (len : ℕ) → closing_len s w ≡ Some len → take len w ≡ w
    → (closing_len s (w ++ 32 ∷ z) ≡ Some len) × (take len (w ++ 32 ∷ z) ≡ w)
closing_before true [] z zero e f = (e, refl)
closing_before true [] z (suc n) e f = absurd (let g : 0 ≡ suc n = cc in omega arith)
closing_before false [] z len e f = absurd (cc)
closing_before s (b ∷ w) z zero e f = absurd (cc)
closing_before s (b ∷ w) z (suc n) e f = by_end (s && not (b == 39)) refl e (λ g. closing_before (not s && b == 39) w z n g (behind b _ w f))
  where
    by_end : (c : Bool) → (s && not (b == 39)) ≡ c → cond {A = Option ℕ} c (Some 0) (option_map suc (closing_len (not s && b == 39) w)) ≡ Some (suc n)
        → (closing_len (not s && b == 39) w ≡ Some n → (closing_len (not s && b == 39) (w ++ 32 ∷ z) ≡ Some n) × (take n (w ++ 32 ∷ z) ≡ w))
        → (closing_len s (b ∷ w ++ 32 ∷ z) ≡ Some (suc n)) × (b ∷ take n (w ++ 32 ∷ z) ≡ b ∷ w)
    by_end true g h again = absurd (let i : 0 ≡ suc n = cc in omega arith)
    by_end false g h again =
        let others = again (one_more (closing_len (not s && b == 39) w) n h) in
        (ap (λ c. cond {A = Option ℕ} c (Some 0) (option_map suc (closing_len (not s && b == 39) (w ++ 32 ∷ z)))) g ∙ ap (option_map suc) others.0, ap (λ y. b ∷ y) others.1)

quote_before : (b : ℕ) (w z : List ℕ) (t : Token) (o : Option ℕ) → ((y : List ℕ) → token_at (b ∷ w ++ y) ≡ string_token (closing_len false (w ++ y)) (b ∷ w ++ y))
    → closing_len false w ≡ o → string_token o (b ∷ w) ≡ Ok t → t.text ≡ b ∷ w → token_at (b ∷ w ++ 32 ∷ z) ≡ Ok t
quote_before b w z t None at c h is = absurd (cc)
quote_before b w z t (Some len) at c h is =
    let whole : take len w ≡ w = behind b _ w (sym (quoted_text len (b ∷ w) t h) ∙ is) in
    let further = closing_before false w z len c whole in
    at (32 ∷ z) ∙ ap (λ o. string_token o (b ∷ w ++ 32 ∷ z)) further.0
    ∙ ap (λ y. cond (fits_text y) (Ok (record { kind = k.Quoted; text = y; number = pos 0 })) (Err lapse.Literal)) (ap (λ y. b ∷ y) (further.1 ∙ sym whole)) ∙ h

-- symbols
symbol_before : (b : ℕ) (w z : List ℕ) (t : Token) (o : Option TokenKind) → ((y : List ℕ) → (b == 45) ≡ false → token_at (b ∷ y) ≡ symbolic (symbol b (slice_index y 0)) (b ∷ y))
    → symbol b (slice_index w 0) ≡ o → symbolic o (b ∷ w) ≡ Ok t → t.text ≡ b ∷ w → token_at (b ∷ w ++ 32 ∷ z) ≡ Ok t
unfolding Stands
symbol_before b w z t None at s h is = absurd (cc)
symbol_before b w z t (Some kind) at s h is = by_length w (stands b (slice_index w 0) kind s) s h is
  where
    by_length : (w : List ℕ) → Stands b (slice_index w 0) kind → symbol b (slice_index w 0) ≡ Some kind → symbolic (Some kind) (b ∷ w) ≡ Ok t → t.text ≡ b ∷ w
        → token_at (b ∷ w ++ 32 ∷ z) ≡ Ok t
    by_length [] (m, inl (len, alone)) s h is =
        at (32 ∷ z) m ∙ ap (λ o. symbolic o (b ∷ 32 ∷ z)) s
        ∙ ap (λ y. Ok (record { kind = kind; text = y; number = pos 0 })) (ap (λ n. take n (b ∷ 32 ∷ z)) len ∙ sym (ap (λ n. take n (b ∷ [])) len)) ∙ h
    by_length (c ∷ w) (m, inl (len, alone)) s h is =
        let cut : b ∷ [] ≡ b ∷ c ∷ w = sym (ap (λ n. take n (b ∷ c ∷ w)) len) ∙ sym (symbolic_text kind (b ∷ c ∷ w) t h) ∙ is in
        absurd (cc)
    by_length [] (m, inr (len, some)) s h is = absurd (omega arith)
    by_length (c ∷ w) (m, inr (len, some)) s h is =
        let two : (y : List ℕ) → take (length (spelling kind)) (b ∷ c ∷ y) ≡ b ∷ c ∷ [] = λ y. ap (λ n. take n (b ∷ c ∷ y)) len in
        at (c ∷ w ++ 32 ∷ z) m ∙ ap (λ o. symbolic o (b ∷ c ∷ w ++ 32 ∷ z)) s
        ∙ ap (λ y. Ok (record { kind = kind; text = y; number = pos 0 })) (two (w ++ 32 ∷ z) ∙ sym (two w)) ∙ h

minus_same : (b : ℕ) (w z : List ℕ) → (b == 45 && is_ascii_digit (slice_index w 0)) ≡ false → (b == 45 && is_ascii_digit (slice_index (w ++ 32 ∷ z) 0)) ≡ false
minus_same b [] z e = e
minus_same b (c ∷ w) z e = e

no_minus : (b : ℕ) (d : Bool) → (b == 45) ≡ false → (b == 45 && d) ≡ false
no_minus b d m = ap (λ c. c && d) m

-- the bytes of a token, and a blank behind them
pub before_blank : (w z : List ℕ) (t : Token) → token_at w ≡ Ok t → t.text ≡ w → token_at (w ++ 32 ∷ z) ≡ Ok t
before_blank [] z t h is = absurd (none_at_end t h)
before_blank (b ∷ w) z t h is = by_letter (is_letter b) refl
  where
    by_quote : is_letter b ≡ false → is_ascii_digit b ≡ false → (b == 45 && is_ascii_digit (slice_index w 0)) ≡ false → (q : Bool) → (b == 39) ≡ q → token_at (b ∷ w ++ 32 ∷ z) ≡ Ok t
    by_quote e f m true g =
        let same : b ≡ 39 = eqb-true b 39 g in
        let at : (y : List ℕ) → token_at (b ∷ w ++ y) ≡ string_token (closing_len false (w ++ y)) (b ∷ w ++ y) = λ y. quote_at b (w ++ y) e f (ap (λ c. c == 45 && is_ascii_digit (slice_index (w ++ y) 0)) same) g in
        quote_before b w z t (closing_len false w) at refl (sym (quote_at b w e f m g) ∙ h) is
    by_quote e f m false g =
        symbol_before b w z t (symbol b (slice_index w 0)) (λ y n. symbol_at b y e f (no_minus b _ n) g) refl (sym (symbol_at b w e f m g) ∙ h) is

    by_minus : is_letter b ≡ false → is_ascii_digit b ≡ false → (m : Bool) → (b == 45 && is_ascii_digit (slice_index w 0)) ≡ m → token_at (b ∷ w ++ 32 ∷ z) ≡ Ok t
    by_minus e f true g = minus_before b w z t e f g is h
    by_minus e f false g = by_quote e f g (b == 39) refl

    by_digit : is_letter b ≡ false → (d : Bool) → is_ascii_digit b ≡ d → token_at (b ∷ w ++ 32 ∷ z) ≡ Ok t
    by_digit e true f = run_before is_ascii_digit (λ u. integer (integer_value u) u) b w z t refl is (λ u g. integer_text (integer_value u) u t g) (λ y. digit_at b y e f) h
    by_digit e false f = by_minus e f (b == 45 && is_ascii_digit (slice_index w 0)) refl

    by_letter : (l : Bool) → is_letter b ≡ l → token_at (b ∷ w ++ 32 ∷ z) ≡ Ok t
    by_letter true e = run_before is_word_byte (λ u. keyword_or_name (keyword u) u) b w z t refl is (λ u g. named_text (keyword u) u t g) (λ y. letter_at b y e) h
    by_letter false e = by_digit e (is_ascii_digit b) refl

-- no token begins with a blank
pub no_blank : (b : ℕ) (z : List ℕ) (t : Token) → token_at (b ∷ z) ≡ Ok t → is_blank b ≡ false
unfolding token_at
no_blank b z t h = by_blank (is_blank b) refl
  where
    space : token_at (32 ∷ z) ≡ Err lapse.Token
    space = refl

    tab : token_at (9 ∷ z) ≡ Err lapse.Token
    tab = refl

    returned : token_at (13 ∷ z) ≡ Err lapse.Token
    returned = refl

    fed : token_at (10 ∷ z) ≡ Err lapse.Token
    fed = refl

    is_none : (n : ℕ) → token_at (n ∷ z) ≡ Err lapse.Token → (b == n) ≡ true → ⊥
    is_none n e f = let g : token_at (n ∷ z) ≡ Ok t = subst (λ y. token_at (y ∷ z) ≡ Ok t) (eqb-true b n f) h in cc

    by_fed : (c : Bool) → (b == 10) ≡ c → c ≡ true → ⊥
    by_fed true e f = is_none 10 fed e
    by_fed false e f = cc

    by_returned : (c : Bool) → (b == 13) ≡ c → (c || b == 10) ≡ true → ⊥
    by_returned true e f = is_none 13 returned e
    by_returned false e f = by_fed (b == 10) refl f

    by_tab : (c : Bool) → (b == 9) ≡ c → (c || b == 13 || b == 10) ≡ true → ⊥
    by_tab true e f = is_none 9 tab e
    by_tab false e f = by_returned (b == 13) refl f

    by_space : (c : Bool) → (b == 32) ≡ c → (c || b == 9 || b == 13 || b == 10) ≡ true → ⊥
    by_space true e f = is_none 32 space e
    by_space false e f = by_tab (b == 9) refl f

    by_blank : (c : Bool) → is_blank b ≡ c → is_blank b ≡ false
    by_blank true e = absurd (by_space (b == 32) refl e)
    by_blank false e = e
