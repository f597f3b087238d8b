-- Names and texts of a text's tokens fit: a name has 1 to 63 bytes of names, a text is UTF-8 within
-- its limits.
use Rattle.std.proofs.Common.{◌≡◌, ℕ, zero, suc, ◌+◌, ◌-◌, ◌≤◌, ◌<◌, Bool, true, false, cond, List, [], ◌∷◌, ◌++◌, length, take, drop, get_or, map, Option, Some, None, Result, Ok, Err, ℤ, pos, refl, sym, ap, ◌∙◌, subst, ◌⊎◌, inl, inr, arith}
use Rattle.std.specs.Prelude.{slice_index, option_map, ◌==◌, nat_le, nat_lt, not, ◌&&◌, ◌||◌, find, int_le}
use Rattle.std.specs.List.{prefix_len, list_all, AllByRecursion}
use Rattle.std.specs.Char.{to_ascii_lowercase}
use Rattle.std.specs.Str.{str_to_ascii_lowercase, str_eq_ignore_ascii_case, IsUtf8, IsCharBoundary}
use Rattle.std.proofs.Math.Numerals.{one-add}
use Rattle.std.proofs.lemmas.Bool.Decides.{nat_tests}
use Rattle.std.proofs.lemmas.List.{length-map, append-nil, length-take}
use Rattle.std.proofs.lemmas.Str.{IsUtf8-nil, IsUtf8-append, IsUtf8-from_ascii, IsUtf8-encode, IsUtf8-between, IsCharBoundary-after_ascii, IsCharBoundary-before_ascii, is_utf8-from_IsUtf8, encode_ascii, length-encode, len_utf8_bounds, inside_one}
use Rattle.std.proofs.lemmas.Str.Ascii.{IsAscii-nil, IsAscii-cons}
use Rattle.std.proofs.Math.Utf8.{encode, encodes, scalars}
use Rattle.sql_tokens.specs.declared.kinds.TokenKind.{TokenKind}
use Rattle.sql_tokens.specs.declared.kinds.TokenKind.TheVariants as k
use Rattle.sql_tokens.specs.declared.lexemes.TokenFault.{TokenFault}
use Rattle.sql_tokens.specs.declared.lexemes.TokenFault.TheVariants as lapse
use Rattle.sql_tokens.specs.Kinds.{keyword, keywords, spelling}
use Rattle.sql_tokens.specs.Lex.{Token, Placed, closing_len, single_quotes, quoted_value, tokens_of, is_letter, is_word_byte, keyword_or_name, integer, string_token, symbolic, fits_text, token_at}
use Rattle.vo_spec.specs.declared.values.Value.TheVariants as value
use Rattle.vo_spec.specs.Values.{is_text, FitsValue}
use Rattle.vo_spec.specs.Names.{is_name, is_digit, is_name_byte, FitsName}
use Rattle.sql_text.specs.Tokens.{IsToken}
use Rattle.sql_text.specs.Texts.{without_places}
use Rattle.sql_text.proofs.TokenFits.{ReadAs, read_as, pick, word_of}

-- a word's bytes in small letters are those of names

unfoldable pub holds_below : (p : ℕ → Bool) → ℕ → Bool
holds_below p zero = true
holds_below p (suc n) = p n && holds_below p n

pub both : (a b : Bool) → (a && b) ≡ true → (a ≡ true) × (b ≡ true)
both true b e = (refl, e)
both false b e = absurd (cc)

pub below_holds : (p : ℕ → Bool) (n b : ℕ) → holds_below p n ≡ true → b < n → p b ≡ true
unfolding holds_below
below_holds p zero b e h = absurd (omega arith)
below_holds p (suc n) b e h = let parts = both (p n) (holds_below p n) e in by_place parts.0 (below_holds p n b parts.1) (b == n) refl
  where
    by_place : p n ≡ true → (b < n → p b ≡ true) → (x : Bool) → (b == n) ≡ x → p b ≡ true
    by_place here again true f = let same : b ≡ n = grind (arith, nat_tests) in subst (λ z. p z ≡ true) (sym same) here
    by_place here again false f = let less : b < n = grind (arith, nat_tests) in again less

pub word_small : (b : ℕ) → is_word_byte b ≡ true → b < 128
word_small b e = grind (arith, nat_tests)

abbrev is_kept : ℕ → Bool
is_kept b = not (is_word_byte b) || is_name_byte (to_ascii_lowercase b)

abbrev starts : ℕ → Bool
starts b = not (is_letter b) || not (is_digit (to_ascii_lowercase b))

all_kept : holds_below is_kept 128 ≡ true
unfolding holds_below
all_kept = refl

all_start : holds_below starts 128 ≡ true
unfolding holds_below
all_start = refl

pub implied : (a b : Bool) → (not a || b) ≡ true → a ≡ true → b ≡ true
implied true b e f = e
implied false b e f = absurd (cc)

kept : (b : ℕ) → is_word_byte b ≡ true → is_name_byte (to_ascii_lowercase b) ≡ true
kept b e = implied (is_word_byte b) _ (below_holds is_kept 128 b all_kept (word_small b e)) e

pub and_true : (a b : Bool) → a ≡ true → b ≡ true → (a && b) ≡ true
and_true a b e f = rw (e, f) refl

kept_all : (xs : List ℕ) → list_all is_word_byte xs ≡ true → list_all is_name_byte (map to_ascii_lowercase xs) ≡ true
kept_all [] e = refl
kept_all (b ∷ xs) e =
    let h = both (is_word_byte b) (list_all is_word_byte xs) e in
    and_true (is_name_byte (to_ascii_lowercase b)) (list_all is_name_byte (map to_ascii_lowercase xs)) (kept b h.0) (kept_all xs h.1)

letter_starts : (b : ℕ) → is_letter b ≡ true → is_word_byte b ≡ true → not (is_digit (to_ascii_lowercase b)) ≡ true
letter_starts b e f = implied (is_letter b) _ (below_holds starts 128 b all_start (word_small b f)) e

name_of : (b : ℕ) (y : List ℕ) → is_letter b ≡ true → list_all is_word_byte (b ∷ y) ≡ true → nat_le (length (b ∷ y)) 63 ≡ true
    → is_name (map to_ascii_lowercase (b ∷ y)) ≡ true
name_of b y e f g =
    let h = both (is_word_byte b) (list_all is_word_byte y) f in
    and_true _ _ (and_true _ _ (ap (λ n. nat_le n 63) (length-map (b ∷ y) to_ascii_lowercase) ∙ g) (letter_starts b e h.0))
    (kept_all (b ∷ y) f)

run_all : (p : ℕ → Bool) (z : List ℕ) → list_all p (take (prefix_len p z) z) ≡ true
run_all p [] = refl
run_all p (b ∷ z) = by_first (p b) refl (run_all p z)
  where
    by_first : (c : Bool) → p b ≡ c → list_all p (take (prefix_len p z) z) ≡ true → list_all p (take (cond (p b) (1 + prefix_len p z) 0) (b ∷ z)) ≡ true
    by_first true e h = rw (e, one-add) (and_true (p b) _ e h)
    by_first false e h = rw e refl

pub word_letter : (b : ℕ) → is_letter b ≡ true → is_word_byte b ≡ true
word_letter b e = rw e refl

run_first : (p : ℕ → Bool) (b : ℕ) (z : List ℕ) → p b ≡ true → take (prefix_len p (b ∷ z)) (b ∷ z) ≡ b ∷ take (prefix_len p z) z
run_first p b z e = rw (e, one-add) refl

word_is_name : (z : List ℕ) → is_letter (slice_index z 0) ≡ true → nat_le (length (word_of z)) 63 ≡ true → FitsName (str_to_ascii_lowercase (word_of z))
word_is_name [] e g = absurd (cc)
word_is_name (b ∷ z) e g =
    let first = run_first is_word_byte b z (word_letter b e) in
    subst (λ w. is_name (map to_ascii_lowercase w) ≡ true) (sym first)
    (name_of b (take (prefix_len is_word_byte z) z) e (subst (λ w. list_all is_word_byte w ≡ true) first (run_all is_word_byte (b ∷ z))) (subst (λ w. nat_le (length w) 63 ≡ true) first g))

-- no keyword is a name, an integer or a text

found_holds : {X : Type 0} (p f : X → Bool) (xs : List X) (x : X) → list_all p xs ≡ true → find f xs ≡ Some x → p x ≡ true
found_holds p f [] x h e = absurd (cc)
found_holds p f (y ∷ xs) x h e = by_first (found_holds p f xs x (both (p y) (list_all p xs) h).1) (pick (f y) (Some y) (find f xs) (Some x) e)
  where
    by_first : (find f xs ≡ Some x → p x ≡ true) → ((f y ≡ true) × (Some y ≡ Some x)) ⊎ ((f y ≡ false) × (find f xs ≡ Some x)) → p x ≡ true
    by_first again (inl (_, g)) = let same : y ≡ x = cc in subst (λ z. p z ≡ true) same (both (p y) (list_all p xs) h).0
    by_first again (inr (_, g)) = again g

abbrev is_word : TokenKind → Bool
is_word kind = nat_lt 0 (length (spelling kind))

all_words : list_all is_word keywords ≡ true
all_words = refl

keyword_spelled : (w : List ℕ) (kind : TokenKind) → keyword w ≡ Some kind → is_word kind ≡ true
keyword_spelled w kind e = found_holds is_word (λ kind. str_eq_ignore_ascii_case (spelling kind) w) keywords kind all_words e

abbrev pub read_ok : Token → Result Token TokenFault
read_ok t = Ok t

abbrev pub read_err : TokenFault → Result Token TokenFault
read_err e = Err e

abbrev kind_in : Result Token TokenFault → TokenKind
kind_in (Ok t) = t.kind
kind_in (Err e) = k.Select

abbrev pub text_in : Result Token TokenFault → List ℕ
text_in (Ok t) = t.text
text_in (Err e) = []

unspelled : (w : List ℕ) (kind : TokenKind) → spelling kind ≡ [] → keyword w ≡ Some kind → ⊥
unspelled w kind e f =
    let spelled : nat_lt 0 (length (spelling kind)) ≡ true = keyword_spelled w kind f in
    let none : nat_lt 0 (length (spelling kind)) ≡ false = ap (λ z. nat_lt 0 (length z)) e in
    absurd (cc)

none_at_end : (t : Token) → token_at [] ≡ Ok t → ⊥
unfolding token_at
none_at_end t h = cc

no_symbol : (t : Token) (o : Option TokenKind) → IsToken t → spelling t.kind ≡ [] → symbolic o t.text ≡ Ok t → ⊥
no_symbol t None real e h = cc
no_symbol t (Some kind) real e h =
    let same : kind ≡ t.kind = ap kind_in h in
    let none : t.text ≡ [] = sym (ap text_in h) ∙ ap (λ z. take (length z) t.text) (ap spelling same ∙ e) in
    none_at_end t (subst (λ z. token_at z ≡ Ok t) none real)

-- an integer's token is of one of two kinds
no_integer : (o : Option ℤ) (text : List ℕ) (t : Token) (kind : TokenKind) → integer o text ≡ Ok t → t.kind ≡ kind → (k.Integer ≡ kind → ⊥) → (k.RowCount ≡ kind → ⊥) → ⊥
no_integer (Some n) text t kind h e plain rows = by_rows (int_le (pos 1) n && int_le n (pos 4294967295)) (ap kind_in h ∙ e)
  where
    by_rows : (b : Bool) → cond b k.RowCount k.Integer ≡ kind → ⊥
    by_rows true f = rows f
    by_rows false f = plain f
no_integer None text t kind h e plain rows = absurd (cc)

is_quoted : (o : Option ℕ) (z : List ℕ) (t : Token) → string_token o z ≡ Ok t → k.Quoted ≡ t.kind
is_quoted None z t h = absurd (cc)
is_quoted (Some len) z t h = by_fit (pick (fits_text (take (suc len) z)) _ _ (Ok t) h)
  where
    by_fit : ((fits_text (take (suc len) z) ≡ true) × (read_ok (record { kind = k.Quoted; text = take (suc len) z; number = pos 0 }) ≡ Ok t))
        ⊎ ((fits_text (take (suc len) z) ≡ false) × (read_err lapse.Literal ≡ Ok t)) → k.Quoted ≡ t.kind
    by_fit (inl (_, e)) = ap kind_in e
    by_fit (inr (_, e)) = absurd (cc)

is_named : (w : List ℕ) (t : Token) → keyword_or_name None w ≡ Ok t → k.Name ≡ t.kind
is_named w t h = by_length (pick (nat_le (length w) 63) _ _ (Ok t) h)
  where
    by_length : ((nat_le (length w) 63 ≡ true) × (read_ok (record { kind = k.Name; text = w; number = pos 0 }) ≡ Ok t))
        ⊎ ((nat_le (length w) 63 ≡ false) × (read_err lapse.Name ≡ Ok t)) → k.Name ≡ t.kind
    by_length (inl (_, e)) = ap kind_in e
    by_length (inr (_, e)) = absurd (cc)

-- a name fits
pub name_fits : (t : Token) → IsToken t → t.kind ≡ k.Name → FitsName (str_to_ascii_lowercase t.text)
name_fits t real kind = by_reading (read_as t.text t real)
  where
    by_length : is_letter (slice_index t.text 0) ≡ true
        → ((nat_le (length (word_of t.text)) 63 ≡ true) × (read_ok (record { kind = k.Name; text = word_of t.text; number = pos 0 }) ≡ Ok t))
        ⊎ ((nat_le (length (word_of t.text)) 63 ≡ false) × (read_err lapse.Name ≡ Ok t)) → FitsName (str_to_ascii_lowercase t.text)
    by_length l (inl (few, e)) = subst (λ z. FitsName (str_to_ascii_lowercase z)) (ap text_in e) (word_is_name t.text l few)
    by_length l (inr (_, e)) = absurd (cc)

    by_keyword : (o : Option TokenKind) → keyword (word_of t.text) ≡ o → is_letter (slice_index t.text 0) ≡ true → keyword_or_name o (word_of t.text) ≡ Ok t → FitsName (str_to_ascii_lowercase t.text)
    by_keyword (Some found) f l e =
        let same : found ≡ k.Name = ap kind_in e ∙ kind in
        absurd (unspelled (word_of t.text) k.Name refl (f ∙ ap Some same))
    by_keyword None f l e = by_length l (pick (nat_le (length (word_of t.text)) 63) _ _ (Ok t) e)

    by_reading : ReadAs t.text t → FitsName (str_to_ascii_lowercase t.text)
    by_reading (inl (l, e)) = by_keyword (keyword (word_of t.text)) refl l e
    by_reading (inr (inl (text, e))) = absurd (no_integer _ text t k.Name e kind (λ f. cc) (λ f. cc))
    by_reading (inr (inr (inl (_, e)))) = let same : k.Quoted ≡ k.Name = is_quoted _ t.text t e ∙ kind in absurd (cc)
    by_reading (inr (inr (inr e))) = absurd (no_symbol t _ real (ap spelling kind) e)

-- a text in quotes ends with one

some_more : (o : Option ℕ) → option_map suc o ≡ Some 0 → ⊥
some_more None e = cc
some_more (Some n) e = cc

one_more : (o : Option ℕ) (n : ℕ) → option_map suc o ≡ Some (suc n) → o ≡ Some n
one_more None n e = absurd (cc)
one_more (Some m) n e = cc

pub closed_at_once : (s : Bool) (ys : List ℕ) → closing_len s ys ≡ Some 0 → s ≡ true
closed_at_once true ys e = refl
closed_at_once false [] e = absurd (cc)
closed_at_once false (b ∷ ys) e = absurd (some_more _ e)

same_byte : (b : ℕ) (s : Bool) → (not s && b == 39) ≡ true → b ≡ 39
same_byte b true e = absurd (cc)
same_byte b false e = grind (arith, nat_tests)

pub closing_last : (s : Bool) (ys : List ℕ) (n : ℕ) → closing_len s ys ≡ Some (suc n) → get_or ys n 0 ≡ 39
closing_last true [] n e = absurd (cc)
closing_last false [] n e = absurd (cc)
closing_last s (b ∷ ys) n e = by_end n (λ m f. closing_last (not s && b == 39) ys m f) (pick (s && not (b == 39)) (Some 0) (option_map suc (closing_len (not s && b == 39) ys)) (Some (suc n)) e)
  where
    by_end : (n : ℕ) → ((m : ℕ) → closing_len (not s && b == 39) ys ≡ Some (suc m) → get_or ys m 0 ≡ 39)
        → (((s && not (b == 39)) ≡ true) × (Some 0 ≡ Some (suc n))) ⊎ (((s && not (b == 39)) ≡ false) × (option_map suc (closing_len (not s && b == 39) ys) ≡ Some (suc n)))
        → get_or (b ∷ ys) n 0 ≡ 39
    by_end n again (inl (_, f)) = absurd (cc)
    by_end zero again (inr (_, f)) = same_byte b s (closed_at_once _ ys (one_more _ 0 f))
    by_end (suc m) again (inr (_, f)) = again m (one_more _ (suc m) f)

-- one quote for two keeps UTF-8

high_kept : (bs rest : List ℕ) → AllByRecursion (λ b. 128 ≤ b) bs → single_quotes false (bs ++ rest) ≡ bs ++ single_quotes false rest
high_kept [] rest h = refl
high_kept (b ∷ bs) rest h =
    let other : (b == 39) ≡ false = let high = h.0 in grind (arith, nat_tests) in
    ap (λ z. b ∷ z) (ap (λ z. single_quotes z (bs ++ rest)) other ∙ high_kept bs rest h.1)

high_first : (s : Bool) (b : ℕ) (bs : List ℕ) → 128 ≤ b → single_quotes s (b ∷ bs) ≡ single_quotes false (b ∷ bs)
high_first false b bs h = refl
high_first true b bs h = let other : (b == 39) ≡ false = grind (arith, nat_tests) in rw other refl

high_part : (s : Bool) (bs rest : List ℕ) → 1 ≤ length bs → AllByRecursion (λ b. 128 ≤ b) bs → single_quotes s (bs ++ rest) ≡ bs ++ single_quotes false rest
high_part s [] rest some h = absurd (omega arith)
high_part s (b ∷ bs) rest some h = high_first s b (bs ++ rest) h.0 ∙ high_kept (b ∷ bs) rest h

all_at : (bs : List ℕ) → ((i : ℕ) → i < length bs → 128 ≤ get_or bs i 0) → AllByRecursion (λ b. 128 ≤ b) bs
all_at [] f = tt
all_at (b ∷ bs) f = (f 0 (omega arith), all_at bs (λ i h. f (suc i) (omega arith)))

pub high_char : (c : ℕ) → 128 ≤ c → AllByRecursion (λ b. 128 ≤ b) (encode c)
high_char c h = all_at (encode c) (λ i inside. by_byte i inside (nat_lt (get_or (encode c) i 0) 128) refl)
  where
    by_byte : (i : ℕ) → i < length (encode c) → (b : Bool) → nat_lt (get_or (encode c) i 0) 128 ≡ b → 128 ≤ get_or (encode c) i 0
    by_byte i inside true e =
        let small : get_or (encode c) i 0 < 128 = grind (arith, nat_tests) in
        let same : c ≡ get_or (encode c) i 0 = inside_one c [] (encode c) i (sym (append-nil (encode c))) inside small in
        absurd (omega (arith, same))
    by_byte i inside false e = grind (arith, nat_tests)

pub utf8_cons : (c : ℕ) (bs : List ℕ) → c < 128 → IsUtf8 bs → IsUtf8 (c ∷ bs)
utf8_cons c bs h u = IsUtf8-append (c ∷ []) bs (IsUtf8-from_ascii (c ∷ []) (IsAscii-cons c [] h IsAscii-nil)) u

singles_utf8 : (s : Bool) (cs : List ℕ) → scalars cs ≡ true → IsUtf8 (single_quotes s (encodes cs))
singles_utf8 s [] e = IsUtf8-nil
singles_utf8 s (c ∷ cs) e = by_size (λ s2. singles_utf8 s2 cs (both _ _ e).1) (nat_lt c 128) refl
  where
    by_quote : ((s2 : Bool) → IsUtf8 (single_quotes s2 (encodes cs))) → c < 128 → (q : Bool) → (s && c == 39) ≡ q
        → IsUtf8 (cond (s && c == 39) (single_quotes false (encodes cs)) (c ∷ single_quotes (c == 39) (encodes cs)))
    by_quote again h true f = rw f (again false)
    by_quote again h false f = rw f (utf8_cons c (single_quotes (c == 39) (encodes cs)) h (again (c == 39)))

    by_size : ((s2 : Bool) → IsUtf8 (single_quotes s2 (encodes cs))) → (b : Bool) → nat_lt c 128 ≡ b → IsUtf8 (single_quotes s (encode c ++ encodes cs))
    by_size again true f =
        let small : c < 128 = grind (arith, nat_tests) in
        subst (λ z. IsUtf8 (single_quotes s (z ++ encodes cs))) (sym (encode_ascii c small)) (by_quote again small (s && c == 39) refl)
    by_size again false f =
        let high : 128 ≤ c = grind (arith, nat_tests) in
        let some : 1 ≤ length (encode c) = omega (arith, length-encode c, (len_utf8_bounds c).0) in
        subst IsUtf8 (sym (high_part s (encode c) (encodes cs) some (high_char c high)))
        (IsUtf8-append (encode c) (single_quotes false (encodes cs)) (IsUtf8-encode c (both _ _ e).0) (again false))

single_utf8 : (s : Bool) (bs : List ℕ) → IsUtf8 bs → IsUtf8 (single_quotes s bs)
single_utf8 s bs (cs, (e, f)) = subst (λ z. IsUtf8 (single_quotes s z)) f (singles_utf8 s cs e)

-- what stands between the quotes is UTF-8
inner_utf8 : (b : ℕ) (ys : List ℕ) (n : ℕ) → b ≡ 39 → IsUtf8 (b ∷ ys) → get_or ys n 0 ≡ 39 → length ys ≡ suc n → IsUtf8 (quoted_value (b ∷ ys))
inner_utf8 b ys n e u f len =
    let size : length (b ∷ ys) ≡ n + 2 = omega (arith, len) in
    let first : IsCharBoundary (b ∷ ys) 1 = IsCharBoundary-after_ascii (b ∷ ys) 0 u (omega arith) (omega (arith, e)) in
    let last : IsCharBoundary (b ∷ ys) (suc n) = IsCharBoundary-before_ascii (b ∷ ys) (suc n) (omega (arith, len)) (omega (arith, f)) in
    let between : IsUtf8 (take (suc n - 1) (drop 1 (b ∷ ys))) = IsUtf8-between (b ∷ ys) 1 (suc n) u (omega arith) first last in
    let same : suc n - 1 ≡ length (b ∷ ys) - 2 = omega (arith, size) in
    single_utf8 false _ (subst (λ z. IsUtf8 (take z (drop 1 (b ∷ ys)))) same between)

singles_all : (p : ℕ → Bool) (s : Bool) (bs : List ℕ) → list_all p bs ≡ true → list_all p (single_quotes s bs) ≡ true
singles_all p s [] e = refl
singles_all p s (b ∷ bs) e = by_quote (λ s2. singles_all p s2 bs (both _ _ e).1) (s && b == 39) refl
  where
    by_quote : ((s2 : Bool) → list_all p (single_quotes s2 bs) ≡ true) → (q : Bool) → (s && b == 39) ≡ q
        → list_all p (cond (s && b == 39) (single_quotes false bs) (b ∷ single_quotes (b == 39) bs)) ≡ true
    by_quote again true f = rw f (again false)
    by_quote again false f = rw f (and_true (p b) _ (both _ _ e).0 (again (b == 39)))

all_taken : (p : ℕ → Bool) (n : ℕ) (bs : List ℕ) → list_all p bs ≡ true → list_all p (take n bs) ≡ true
all_taken p zero bs e = refl
all_taken p (suc n) [] e = refl
all_taken p (suc n) (b ∷ bs) e = and_true (p b) _ (both _ _ e).0 (all_taken p n bs (both _ _ e).1)

unquoted_all : (p : ℕ → Bool) (b : ℕ) (ys : List ℕ) → list_all p (b ∷ ys) ≡ true → list_all p (quoted_value (b ∷ ys)) ≡ true
unquoted_all p b ys e = singles_all p false _ (all_taken p (length (b ∷ ys) - 2) ys (both _ _ e).1)

-- the tokens of the text are UTF-8
abbrev pub AreUtf8 : List ℕ → Type 0
AreUtf8 text = (ps : List Placed) → tokens_of text ≡ Ok ps → AllByRecursion (λ t. IsUtf8 t.text) (without_places ps)

-- a token of a text, which is UTF-8
abbrev pub IsSound : Token → Type 0
IsSound t = IsToken t × IsUtf8 t.text

pub within : (n : ℕ) (ys : List ℕ) → get_or ys n 0 ≡ 39 → n < length ys
within n [] e = absurd (cc)
within zero (y ∷ ys) e = omega arith
within (suc n) (y ∷ ys) e = let h = within n ys e in omega arith

text_is : (z : List ℕ) (len : ℕ) → IsUtf8 z → (slice_index z 0 == 39) ≡ true → closing_len false (drop 1 z) ≡ Some len → take (suc len) z ≡ z → fits_text z ≡ true → is_text (quoted_value z) ≡ true
text_is [] len u q c w f = absurd (cc)
text_is (b ∷ ys) zero u q c w f = let e : false ≡ true = closed_at_once false ys c in absurd (cc)
text_is (b ∷ ys) (suc n) u q c w f =
    let first : b ≡ 39 = grind (arith, nat_tests) in
    let last = closing_last false ys n c in
    let inside : n < length ys = within n ys last in
    let size : length ys ≡ suc n = omega (arith, inside, ap length w, length-take (suc (suc n)) (b ∷ ys)) in
    let parts = both _ _ f in
    and_true _ _ (and_true _ _ parts.0 (is_utf8-from_IsUtf8 _ (inner_utf8 b ys n first u last size))) (unquoted_all (nat_le 32) b ys parts.1)

-- a text fits
pub value_fits : (t : Token) → IsSound t → t.kind ≡ k.Quoted → FitsValue (value.Text (quoted_value t.text))
value_fits t (real, u) kind = by_reading (read_as t.text t real)
  where
    by_fit : (len : ℕ) → (slice_index t.text 0 == 39) ≡ true → closing_len false (drop 1 t.text) ≡ Some len
        → ((fits_text (take (suc len) t.text) ≡ true) × (read_ok (record { kind = k.Quoted; text = take (suc len) t.text; number = pos 0 }) ≡ Ok t))
        ⊎ ((fits_text (take (suc len) t.text) ≡ false) × (read_err lapse.Literal ≡ Ok t)) → FitsValue (value.Text (quoted_value t.text))
    by_fit len q c (inl (f, e)) =
        let whole : take (suc len) t.text ≡ t.text = ap text_in e in
        text_is t.text len u q c whole (subst (λ z. fits_text z ≡ true) whole f)
    by_fit len q c (inr (_, e)) = absurd (cc)

    by_closing : (o : Option ℕ) → closing_len false (drop 1 t.text) ≡ o → (slice_index t.text 0 == 39) ≡ true → string_token o t.text ≡ Ok t → FitsValue (value.Text (quoted_value t.text))
    by_closing None c q e = absurd (cc)
    by_closing (Some len) c q e = by_fit len q c (pick (fits_text (take (suc len) t.text)) _ _ (Ok t) e)

    by_keyword : (o : Option TokenKind) → keyword (word_of t.text) ≡ o → keyword_or_name o (word_of t.text) ≡ Ok t → FitsValue (value.Text (quoted_value t.text))
    by_keyword (Some found) f e =
        let same : found ≡ k.Quoted = ap kind_in e ∙ kind in
        absurd (unspelled (word_of t.text) k.Quoted refl (f ∙ ap Some same))
    by_keyword None f e = let same : k.Name ≡ k.Quoted = is_named (word_of t.text) t e ∙ kind in absurd (cc)

    by_reading : ReadAs t.text t → FitsValue (value.Text (quoted_value t.text))
    by_reading (inl (l, e)) = by_keyword (keyword (word_of t.text)) refl e
    by_reading (inr (inl (text, e))) = absurd (no_integer _ text t k.Quoted e kind (λ f. cc) (λ f. cc))
    by_reading (inr (inr (inl (q, e)))) = by_closing (closing_len false (drop 1 t.text)) refl q e
    by_reading (inr (inr (inr e))) = absurd (no_symbol t _ real (ap spelling kind) e)
