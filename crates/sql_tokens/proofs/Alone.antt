-- A token's bytes alone are that token, so each token of a text is one that some text has.
use Rattle.std.proofs.Common.{◌≡◌, ℕ, zero, suc, ◌+◌, ◌-◌, ◌≤◌, ◌<◌, Bool, true, false, cond, List, [], ◌∷◌, ◌++◌, length, take, map, Option, Some, None, Result, Ok, Err, refl, sym, ap, ◌∙◌, subst, ◌⊎◌, inl, inr, arith, pos, ℤ}
use Rattle.std.specs.Prelude.{slice_index, ◌==◌, ◌&&◌, ◌||◌, not, option_map, nat_le}
use Rattle.std.specs.List.{prefix_len, AllByRecursion}
use Rattle.std.specs.Char.{is_ascii_digit}
use Rattle.std.proofs.Math.Numerals.{one-add}
use Rattle.std.proofs.lemmas.Bool.{eqb-true}
use Rattle.sql_tokens.specs.declared.kinds.TokenKind.{TokenKind}
use Rattle.sql_tokens.specs.declared.kinds.TokenKind.TheVariants as k
use Rattle.sql_tokens.specs.declared.lexemes.TokenFault.{TokenFault}
use Rattle.sql_tokens.specs.declared.lexemes.TokenFault.TheVariants as lapse
use Rattle.sql_tokens.specs.Kinds.{spelling, keyword}
use Rattle.sql_tokens.specs.Lex.{Token, Placed, is_blank, is_letter, is_word_byte, keyword_or_name, integer_value, integer, closing_len, fits_text, string_token, symbol, symbolic, token_at, then_tokens, at_place, tokens_from, tokens_of}

-- a run of bytes alone is a run
run_alone : (p : ℕ → Bool) (z : List ℕ) → let w = take (prefix_len p z) z in take (prefix_len p w) w ≡ w
run_alone p [] = refl
run_alone p (b ∷ z) = by_first (p b) refl (run_alone p z)
  where
    by_first : (c : Bool) → p b ≡ c → take (prefix_len p (take (prefix_len p z) z)) (take (prefix_len p z) z) ≡ take (prefix_len p z) z
        → take (prefix_len p (take (cond (p b) (1 + prefix_len p z) 0) (b ∷ z))) (take (cond (p b) (1 + prefix_len p z) 0) (b ∷ z)) ≡ take (cond (p b) (1 + prefix_len p z) 0) (b ∷ z)
    by_first true e h = rw (e, one-add, e, one-add) (ap (λ w. b ∷ w) h)
    by_first false e h = rw e refl

run_first : (p : ℕ → Bool) (b : ℕ) (z : List ℕ) → p b ≡ true → take (prefix_len p (b ∷ z)) (b ∷ z) ≡ b ∷ take (prefix_len p z) z
run_first p b z e = rw (e, one-add) refl

-- symbols: the second byte counts for those of two bytes alone
unfoldable pub Stands : ℕ → ℕ → TokenKind → Type 0
Stands b c kind = ((b == 45) ≡ false) × (((length (spelling kind) ≡ 1) × (symbol b 0 ≡ Some kind)) ⊎ ((length (spelling kind) ≡ 2) × (0 < c)))

stands_at : (b c : ℕ) (kind found : TokenKind) → Some found ≡ Some kind → Stands b c found → Stands b c kind
stands_at b c kind found e h = subst (Stands b c) (some_same e) h
  where
    some_same : Some found ≡ Some kind → found ≡ kind
    some_same f = cc

above_zero : (c n : ℕ) → (c == n) ≡ true → 0 < n → 0 < c
above_zero c n e h = subst (λ z. 0 < z) (sym (eqb-true c n e)) h

stands_less : (c : ℕ) (kind : TokenKind) → symbol 60 c ≡ Some kind → Stands 60 c kind
unfolding Stands
stands_less c kind h = by_greater (c == 62) refl h
  where
    by_equal : (e : Bool) → (c == 61) ≡ e → Some (cond e k.LessEqual k.Less) ≡ Some kind → Stands 60 c kind
    by_equal true e f = stands_at 60 c kind k.LessEqual f (refl, inr (refl, above_zero c 61 e (omega arith)))
    by_equal false e f = stands_at 60 c kind k.Less f (refl, inl (refl, refl))

    by_greater : (g : Bool) → (c == 62) ≡ g → Some (cond g k.NotEqual (cond (c == 61) k.LessEqual k.Less)) ≡ Some kind → Stands 60 c kind
    by_greater true e f = stands_at 60 c kind k.NotEqual f (refl, inr (refl, above_zero c 62 e (omega arith)))
    by_greater false e f = by_equal (c == 61) refl f

stands_greater : (c : ℕ) (kind : TokenKind) → symbol 62 c ≡ Some kind → Stands 62 c kind
unfolding Stands
stands_greater c kind h = by_equal (c == 61) refl h
  where
    by_equal : (e : Bool) → (c == 61) ≡ e → Some (cond e k.GreaterEqual k.Greater) ≡ Some kind → Stands 62 c kind
    by_equal true e f = stands_at 62 c kind k.GreaterEqual f (refl, inr (refl, above_zero c 61 e (omega arith)))
    by_equal false e f = stands_at 62 c kind k.Greater f (refl, inl (refl, refl))

stands_unequal : (b c : ℕ) (kind : TokenKind) (u : Bool) → (b == 33 && c == 61) ≡ u → cond u (Some k.NotEqual) None ≡ Some kind → Stands b c kind
unfolding Stands
stands_unequal b c kind true e f =
    stands_at b c kind k.NotEqual f (subst (λ z. (z == 45) ≡ false) (sym (eqb-true b 33 (and_one (b == 33) (c == 61) e))) refl, inr (refl, above_zero c 61 (and_two (b == 33) (c == 61) e) (omega arith)))
  where
    and_one : (p q : Bool) → (p && q) ≡ true → p ≡ true
    and_one true q h = refl
    and_one false q h = h

    and_two : (p q : Bool) → (p && q) ≡ true → q ≡ true
    and_two true q h = h
    and_two false q h = absurd (cc)
stands_unequal b c kind false e f = absurd (cc)

stands_one : (n b c : ℕ) (kind found : TokenKind) (others : Option TokenKind) → length (spelling found) ≡ 1 → (n == 45) ≡ false → symbol n 0 ≡ Some found
    → (others ≡ Some kind → Stands b c kind) → (q : Bool) → (b == n) ≡ q → cond q (Some found) others ≡ Some kind → Stands b c kind
unfolding Stands
stands_one n b c kind found others len minus at later true e f =
    subst (λ z. Stands z c kind) (sym (eqb-true b n e)) (stands_at n c kind found f (minus, inl (len, at)))
stands_one n b c kind found others len minus at later false e f = later f

stands_as : (n b c : ℕ) (kind : TokenKind) (here others : Option TokenKind) → (here ≡ Some kind → Stands n c kind) → (others ≡ Some kind → Stands b c kind)
    → (q : Bool) → (b == n) ≡ q → cond q here others ≡ Some kind → Stands b c kind
stands_as n b c kind here others at later true e f = subst (λ z. Stands z c kind) (sym (eqb-true b n e)) (at f)
stands_as n b c kind here others at later false e f = later f

pub stands : (b c : ℕ) (kind : TokenKind) → symbol b c ≡ Some kind → Stands b c kind
stands b c kind h =
    stands_one 40 b c kind k.LeftParen _ refl refl refl
    (stands_one 41 b c kind k.RightParen _ refl refl refl
    (stands_one 44 b c kind k.Comma _ refl refl refl
    (stands_one 59 b c kind k.Semicolon _ refl refl refl
    (stands_one 46 b c kind k.Dot _ refl refl refl
    (stands_one 42 b c kind k.Star _ refl refl refl
    (stands_one 61 b c kind k.Equal _ refl refl refl
    (stands_as 60 b c kind _ _ (stands_less c kind)
    (stands_as 62 b c kind _ _ (stands_greater c kind)
    (stands_unequal b c kind (b == 33 && c == 61) refl)
    (b == 62) refl) (b == 60) refl) (b == 61) refl) (b == 42) refl) (b == 46) refl) (b == 59) refl) (b == 44) refl) (b == 41) refl) (b == 40) refl h

pub text_of : Result Token TokenFault → List ℕ
text_of (Ok t) = t.text
text_of (Err lapse) = []

pub named_text : (o : Option TokenKind) (w : List ℕ) (t : Token) → keyword_or_name o w ≡ Ok t → t.text ≡ w
unfolding text_of
named_text (Some kind) w t e = sym (ap text_of e)
named_text None w t e = by_length (nat_le (length w) 63) e
  where
    by_length : (b : Bool) → cond b (Ok (record { kind = k.Name; text = w; number = pos 0 })) (Err lapse.Name) ≡ Ok t → t.text ≡ w
    by_length true f = sym (ap text_of f)
    by_length false f = absurd (cc)

pub integer_text : (o : Option ℤ) (w : List ℕ) (t : Token) → integer o w ≡ Ok t → t.text ≡ w
unfolding text_of
integer_text (Some number) w t e = sym (ap text_of e)
integer_text None w t e = absurd (cc)

pub symbolic_text : (kind : TokenKind) (z : List ℕ) (t : Token) → symbolic (Some kind) z ≡ Ok t → t.text ≡ take (length (spelling kind)) z
unfolding text_of
symbolic_text kind z t e = sym (ap text_of e)

pub quoted_text : (len : ℕ) (z : List ℕ) (t : Token) → string_token (Some len) z ≡ Ok t → t.text ≡ take (suc len) z
unfolding text_of
quoted_text len z t e = by_fit (fits_text (take (suc len) z)) e
  where
    by_fit : (b : Bool) → cond b (Ok (record { kind = k.Quoted; text = take (suc len) z; number = pos 0 })) (Err lapse.Literal) ≡ Ok t → t.text ≡ take (suc len) z
    by_fit true f = sym (ap text_of f)
    by_fit false f = absurd (cc)

-- which token stands first, by the first byte

pub letter_at : (b : ℕ) (z : List ℕ) → is_letter b ≡ true → token_at (b ∷ z) ≡ (let w = take (prefix_len is_word_byte (b ∷ z)) (b ∷ z) in keyword_or_name (keyword w) w)
unfolding token_at
letter_at b z e = rw e refl

pub digit_at : (b : ℕ) (z : List ℕ) → is_letter b ≡ false → is_ascii_digit b ≡ true
    → token_at (b ∷ z) ≡ (let w = take (prefix_len is_ascii_digit (b ∷ z)) (b ∷ z) in integer (integer_value w) w)
unfolding token_at
digit_at b z e f = rw (e, f) refl

pub minus_at : (b : ℕ) (z : List ℕ) → is_letter b ≡ false → is_ascii_digit b ≡ false → (b == 45 && is_ascii_digit (slice_index z 0)) ≡ true
    → token_at (b ∷ z) ≡ (let w = take (1 + prefix_len is_ascii_digit z) (b ∷ z) in integer (integer_value w) w)
unfolding token_at
minus_at b z e f h = rw (e, f, h) refl

pub quote_at : (b : ℕ) (z : List ℕ) → is_letter b ≡ false → is_ascii_digit b ≡ false → (b == 45 && is_ascii_digit (slice_index z 0)) ≡ false → (b == 39) ≡ true
    → token_at (b ∷ z) ≡ string_token (closing_len false z) (b ∷ z)
unfolding token_at
quote_at b z e f h i = rw (e, f, h, i) refl

pub symbol_at : (b : ℕ) (z : List ℕ) → is_letter b ≡ false → is_ascii_digit b ≡ false → (b == 45 && is_ascii_digit (slice_index z 0)) ≡ false → (b == 39) ≡ false
    → token_at (b ∷ z) ≡ symbolic (symbol b (slice_index z 0)) (b ∷ z)
unfolding token_at
symbol_at b z e f h i = rw (e, f, h, i) refl

-- a word or an integer is a run; v is the token's bytes
run_token : (p : ℕ → Bool) (of : List ℕ → Result Token TokenFault) (b : ℕ) (z : List ℕ) (t : Token) → p b ≡ true
    → ((w : List ℕ) → of w ≡ Ok t → t.text ≡ w)
    → ((y : List ℕ) → token_at (b ∷ y) ≡ of (take (prefix_len p (b ∷ y)) (b ∷ y))) → token_at (b ∷ z) ≡ Ok t → token_at t.text ≡ Ok t
run_token p of b z t e text at h =
    let w = take (prefix_len p (b ∷ z)) (b ∷ z) in
    let found : of w ≡ Ok t = sym (at z) ∙ h in
    let w_is : w ≡ b ∷ take (prefix_len p z) z = run_first p b z e in
    let again : take (prefix_len p (b ∷ take (prefix_len p z) z)) (b ∷ take (prefix_len p z) z) ≡ w =
    subst (λ y. take (prefix_len p y) y ≡ w) w_is (run_alone p (b ∷ z)) in
    ap token_at (text w found ∙ w_is) ∙ at (take (prefix_len p z) z) ∙ ap of again ∙ found

pub word_letter : (b : ℕ) → is_letter b ≡ true → is_word_byte b ≡ true
word_letter b e = or_left (is_letter b) (is_ascii_digit b) e
  where
    or_left : (x y : Bool) → x ≡ true → (x || y) ≡ true
    or_left true y f = refl
    or_left false y f = absurd (cc)

pub both_true : (x y : Bool) → (x && y) ≡ true → (x ≡ true) × (y ≡ true)
both_true true y e = (refl, e)
both_true false y e = absurd (cc)

minus_token : (b : ℕ) (z : List ℕ) (t : Token) → is_letter b ≡ false → is_ascii_digit b ≡ false → (b == 45 && is_ascii_digit (slice_index z 0)) ≡ true
    → token_at (b ∷ z) ≡ Ok t → token_at t.text ≡ Ok t
minus_token b [] t e f h i = absurd (let g = both_true (b == 45) false h in let no : false ≡ true = g.1 in cc)
minus_token b (c ∷ z) t e f h i =
    let m = both_true (b == 45) (is_ascii_digit c) h in
    let digits = take (prefix_len is_ascii_digit (c ∷ z)) (c ∷ z) in
    let w = take (1 + prefix_len is_ascii_digit (c ∷ z)) (b ∷ c ∷ z) in
    let found : integer (integer_value w) w ≡ Ok t = sym (minus_at b (c ∷ z) e f h) ∙ i in
    let w_is : w ≡ b ∷ digits = rw one-add refl in
    let starts : slice_index digits 0 ≡ c = ap (λ y. slice_index y 0) (run_first is_ascii_digit c z m.1) in
    let still : (b == 45 && is_ascii_digit (slice_index digits 0)) ≡ true = subst (λ y. (b == 45 && is_ascii_digit y) ≡ true) (sym starts) h in
    let again : take (1 + prefix_len is_ascii_digit digits) (b ∷ digits) ≡ b ∷ digits = rw one-add (ap (λ y. b ∷ y) (run_alone is_ascii_digit (c ∷ z))) in
    ap token_at (integer_text (integer_value w) w t found ∙ w_is) ∙ minus_at b digits e f still
    ∙ ap (λ y. integer (integer_value y) y) (again ∙ sym w_is) ∙ found

take_none : (n : ℕ) → take {A = ℕ} n [] ≡ []
take_none zero = refl
take_none (suc n) = refl

pub one_more : (o : Option ℕ) (n : ℕ) → option_map suc o ≡ Some (suc n) → o ≡ Some n
one_more (Some m) n e = let h : suc m ≡ suc n = cc in ap Some (omega arith)
one_more None n e = absurd (cc)

pub some_more : (o : Option ℕ) → option_map suc o ≡ Some 0 → ⊥
some_more (Some m) e = let h : suc m ≡ 0 = cc in omega arith
some_more None e = cc

first_true : (x y : Bool) → (x && y) ≡ true → x ≡ true
first_true true y e = refl
first_true false y e = e

closing_alone : (second : Bool) (z : List ℕ) (len : ℕ) → closing_len second z ≡ Some len → closing_len second (take len z) ≡ Some len
closing_alone second [] len e = ap (closing_len second) (take_none len) ∙ e
closing_alone second (b ∷ z) zero e = by_end (second && not (b == 39)) refl e
  where
    by_end : (c : Bool) → (second && not (b == 39)) ≡ c → cond {A = Option ℕ} c (Some 0) (option_map suc (closing_len (not second && b == 39) z)) ≡ Some 0 → cond {A = Option ℕ} second (Some 0) None ≡ Some 0
    by_end true h f = rw (first_true second (not (b == 39)) h) refl
    by_end false h f = absurd (some_more (closing_len (not second && b == 39) z) f)
closing_alone second (b ∷ z) (suc n) e = by_end (second && not (b == 39)) refl e (closing_alone (not second && b == 39) z n)
  where
    by_end : (c : Bool) → (second && not (b == 39)) ≡ c → cond {A = Option ℕ} c (Some 0) (option_map suc (closing_len (not second && b == 39) z)) ≡ Some (suc n)
        → (closing_len (not second && b == 39) z ≡ Some n → closing_len (not second && b == 39) (take n z) ≡ Some n)
        → cond {A = Option ℕ} (second && not (b == 39)) (Some 0) (option_map suc (closing_len (not second && b == 39) (take n z))) ≡ Some (suc n)
    by_end true h f others = absurd (let g : 0 ≡ suc n = cc in omega arith)
    by_end false h f others = rw h (ap (option_map suc) (others (one_more (closing_len (not second && b == 39) z) n f)))

take_again : (n : ℕ) (z : List ℕ) → take n (take n z) ≡ take n z
take_again zero z = refl
take_again (suc n) [] = refl
take_again (suc n) (b ∷ z) = ap (λ y. b ∷ y) (take_again n z)

quote_token : (z : List ℕ) (t : Token) (o : Option ℕ) → closing_len false z ≡ o → string_token o (39 ∷ z) ≡ Ok t → token_at t.text ≡ Ok t
quote_token z t None e h = absurd (cc)
quote_token z t (Some len) e h =
    ap token_at (quoted_text len (39 ∷ z) t h) ∙ quote_at 39 (take len z) refl refl refl refl
    ∙ ap (λ y. string_token y (39 ∷ take len z)) (closing_alone false z len e) ∙ same ∙ h
  where
    same : string_token (Some len) (39 ∷ take len z) ≡ string_token (Some len) (39 ∷ z)
    same = ap (λ y. cond (fits_text y) (Ok (record { kind = k.Quoted; text = y; number = pos 0 })) (Err lapse.Literal)) (ap (λ y. 39 ∷ y) (take_again len z))

symbol_token : (b : ℕ) (z : List ℕ) (t : Token) (o : Option TokenKind) → is_letter b ≡ false → is_ascii_digit b ≡ false → (b == 39) ≡ false → symbol b (slice_index z 0) ≡ o
    → symbolic o (b ∷ z) ≡ Ok t → token_at t.text ≡ Ok t
unfolding Stands
symbol_token b z t None e f q s h = absurd (cc)
symbol_token b z t (Some kind) e f q s h = by_length z (stands b (slice_index z 0) kind s) s h
  where
    no_minus : (b == 45) ≡ false → (c : Bool) → (b == 45 && c) ≡ false
    no_minus m c = rw m refl

    by_length : (z : List ℕ) → Stands b (slice_index z 0) kind → symbol b (slice_index z 0) ≡ Some kind → symbolic (Some kind) (b ∷ z) ≡ Ok t → token_at t.text ≡ Ok t
    by_length z (m, inl (len, at)) s h =
        let one : (y : List ℕ) → take (length (spelling kind)) (b ∷ y) ≡ b ∷ [] = λ y. ap (λ n. take n (b ∷ y)) len in
        ap token_at (symbolic_text kind (b ∷ z) t h ∙ one z) ∙ symbol_at b [] e f (no_minus m _) q ∙ ap (λ o. symbolic o (b ∷ [])) at
        ∙ ap (λ y. Ok (record { kind = kind; text = y; number = pos 0 })) (one [] ∙ sym (one z)) ∙ h
    by_length [] (m, inr (len, some)) s h = absurd (omega arith)
    by_length (c ∷ z) (m, inr (len, some)) s h =
        let two : (y : List ℕ) → take (length (spelling kind)) (b ∷ c ∷ y) ≡ b ∷ c ∷ [] = λ y. ap (λ n. take n (b ∷ c ∷ y)) len in
        ap token_at (symbolic_text kind (b ∷ c ∷ z) t h ∙ two z) ∙ symbol_at b (c ∷ []) e f (no_minus m _) q ∙ ap (λ o. symbolic o (b ∷ c ∷ [])) s
        ∙ ap (λ y. Ok (record { kind = kind; text = y; number = pos 0 })) (two [] ∙ sym (two z)) ∙ h

pub none_at_end : (t : Token) → token_at [] ≡ Ok t → ⊥
unfolding token_at
none_at_end t h = cc

-- the token that a text begins with is that of its own bytes
pub alone : (z : List ℕ) (t : Token) → token_at z ≡ Ok t → token_at t.text ≡ Ok t
alone [] t h = absurd (none_at_end t h)
alone (b ∷ z) t h = by_letter (is_letter b) refl
  where
    by_quote : is_letter b ≡ false → is_ascii_digit b ≡ false → (b == 45 && is_ascii_digit (slice_index z 0)) ≡ false → (q : Bool) → (b == 39) ≡ q → token_at t.text ≡ Ok t
    by_quote e f m true g =
        let same : b ≡ 39 = eqb-true b 39 g in
        let found : string_token (closing_len false z) (39 ∷ z) ≡ Ok t = ap (λ y. string_token (closing_len false z) (y ∷ z)) (sym same) ∙ sym (quote_at b z e f m g) ∙ h in
        quote_token z t (closing_len false z) refl found
    by_quote e f m false g = symbol_token b z t (symbol b (slice_index z 0)) e f g refl (sym (symbol_at b z e f m g) ∙ h)

    by_minus : is_letter b ≡ false → is_ascii_digit b ≡ false → (m : Bool) → (b == 45 && is_ascii_digit (slice_index z 0)) ≡ m → token_at t.text ≡ Ok t
    by_minus e f true g = minus_token b z t e f g h
    by_minus e f false g = by_quote e f g (b == 39) refl

    by_digit : is_letter b ≡ false → (d : Bool) → is_ascii_digit b ≡ d → token_at t.text ≡ Ok t
    by_digit e true f = run_token is_ascii_digit (λ w. integer (integer_value w) w) b z t f (λ w g. integer_text (integer_value w) w t g) (λ y. digit_at b y e f) h
    by_digit e false f = by_minus e f (b == 45 && is_ascii_digit (slice_index z 0)) refl

    by_letter : (l : Bool) → is_letter b ≡ l → token_at t.text ≡ Ok t
    by_letter true e = run_token is_word_byte (λ w. keyword_or_name (keyword w) w) b z t (word_letter b e) (λ w g. named_text (keyword w) w t g) (λ y. letter_at b y e) h
    by_letter false e = by_digit e (is_ascii_digit b) refl

-- all tokens of a text
abbrev AreAlone : Result (List Placed) (TokenFault × ℕ) → Type 0
AreAlone (Ok ps) = AllByRecursion (λ t. token_at t.text ≡ Ok t) (map (λ p. p.token) ps)
AreAlone (Err e) = Unit {0}

followed_alone : (p : Placed) (r : Result (List Placed) (TokenFault × ℕ)) → token_at p.token.text ≡ Ok p.token → AreAlone r → AreAlone (then_tokens p r)
followed_alone p (Ok ps) h k = (h, k)
followed_alone p (Err e) h k = tt

placed_alone : (at : ℕ) (z : List ℕ) (r : Result Token TokenFault) (others : ℕ → Result (List Placed) (TokenFault × ℕ)) → token_at z ≡ r → ((n : ℕ) → AreAlone (others n))
    → AreAlone (at_place at r others)
placed_alone at z (Ok t) others e k = followed_alone (record { token = t; at = at }) (others (length t.text - 1)) (alone z t e) (k (length t.text - 1))
placed_alone at z (Err lapse) others e k = tt

from_alone : (at within : ℕ) (z : List ℕ) → AreAlone (tokens_from at within z)
unfolding tokens_from
from_alone at within [] = tt
from_alone at (suc within) (b ∷ z) = from_alone (at + 1) within z
from_alone at zero (b ∷ z) = by_blank (is_blank b) (from_alone (at + 1) 0 z) (placed_alone at (b ∷ z) (token_at (b ∷ z)) (λ n. tokens_from (at + 1) n z) refl (λ n. from_alone (at + 1) n z))
  where
    by_blank : (c : Bool) → AreAlone (tokens_from (at + 1) 0 z) → AreAlone (at_place at (token_at (b ∷ z)) (λ n. tokens_from (at + 1) n z))
        → AreAlone (cond c (tokens_from (at + 1) 0 z) (at_place at (token_at (b ∷ z)) (λ n. tokens_from (at + 1) n z)))
    by_blank true h k = h
    by_blank false h k = k

pub tokens_real : (text : List ℕ) (ps : List Placed) → tokens_of text ≡ Ok ps → AllByRecursion (λ t. token_at t.text ≡ Ok t) (map (λ p. p.token) ps)
tokens_real text ps e = subst AreAlone e (from_alone 0 0 text)
