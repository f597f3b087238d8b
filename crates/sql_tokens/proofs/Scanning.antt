-- The steps of the loop over a text.
use Rattle.std.proofs.Common.{◌≡◌, ℕ, zero, suc, ◌+◌, ◌-◌, ◌<◌, ◌≤◌, true, false, List, [], ◌∷◌, ◌++◌, length, drop, get_or, map, Result, Ok, Err, refl, sym, ap, ◌∙◌, arith, append_assoc, add-one, add-zero, sub-one}
use Rattle.std.proofs.Math.Seq.{drop-cons}
use Rattle.std.proofs.lemmas.List.{append-nil, drop-drop, map-append}
use Rattle.sql_tokens.specs.declared.lexemes.TokenFault.{TokenFault}
use Rattle.sql_tokens.specs.declared.lexemes.Lexeme.{Lexeme}
use Rattle.sql_tokens.specs.Lex.{Token, Placed, is_blank, token_at, then_tokens, tokens_from, token_of, placed_of}

-- tokens that were read, in front of what is read from there on
abbrev pub puts : List Placed → Result (List Placed) (TokenFault × ℕ) → Result (List Placed) (TokenFault × ℕ)
puts front (Ok ps) = Ok (front ++ ps)
puts front (Err e) = Err e

pub puts_none : (r : Result (List Placed) (TokenFault × ℕ)) → puts [] r ≡ r
puts_none (Ok ps) = refl
puts_none (Err e) = refl

puts_one : (front : List Placed) (p : Placed) (r : Result (List Placed) (TokenFault × ℕ)) → puts front (then_tokens p r) ≡ puts (front ++ p ∷ []) r
puts_one front p (Ok ps) = ap Ok (sym (append_assoc front (p ∷ []) ps))
puts_one front p (Err e) = refl

skips : (at n : ℕ) (z : List ℕ) → tokens_from at n z ≡ tokens_from (at + n) 0 (drop n z)
unfolding tokens_from
skips at zero z = rw add-zero refl
skips at (suc n) [] = refl
skips at (suc n) (b ∷ z) = skips (at + 1) n z ∙ ap (λ k. tokens_from k 0 (drop n z)) (omega arith)

pub blank : (at b : ℕ) (z : List ℕ) → is_blank b ≡ true → tokens_from at 0 (b ∷ z) ≡ tokens_from (at + 1) 0 z
unfolding tokens_from
blank at b z e = rw e refl

fails : (at b : ℕ) (z : List ℕ) (lapse : TokenFault) → is_blank b ≡ false → token_at (b ∷ z) ≡ Err lapse → tokens_from at 0 (b ∷ z) ≡ Err (lapse, at)
unfolding tokens_from
fails at b z lapse e f = rw (e, f) refl

behind : (at len b : ℕ) (z : List ℕ) → 1 ≤ len → tokens_from (at + 1) (len - 1) z ≡ tokens_from (at + len) 0 (drop len (b ∷ z))
behind at zero b z some = absurd (omega arith)
behind at (suc n) b z some = rw sub-one (skips (at + 1) n z ∙ ap (λ k. tokens_from k 0 (drop n z)) (omega arith))

pub goes : (at b : ℕ) (z : List ℕ) (t : Token) → is_blank b ≡ false → token_at (b ∷ z) ≡ Ok t → 1 ≤ length t.text
    → tokens_from at 0 (b ∷ z) ≡ then_tokens (record { token = t; at = at }) (tokens_from (at + length t.text) 0 (drop (length t.text) (b ∷ z)))
unfolding tokens_from
goes at b z t e f some = rw (e, f) (ap (then_tokens (record { token = t; at = at })) (behind at (length t.text) b z some))

-- at a place inside the text
module _ (text : List ℕ) (at : ℕ) (inside : at < length text) where
  here : drop at text ≡ get_or text at 0 ∷ drop (suc at) text
  here = drop-cons text at 0 inside

  pub blank_goes : is_blank (get_or text at 0) ≡ true → tokens_from at 0 (drop at text) ≡ tokens_from (at + 1) 0 (drop (at + 1) text)
  blank_goes e = ap (tokens_from at 0) here ∙ blank at (get_or text at 0) (drop (suc at) text) e ∙ ap (λ k. tokens_from (at + 1) 0 (drop k text)) (sym (add-one at))

  pub token_fails : (lapse : TokenFault) → is_blank (get_or text at 0) ≡ false → token_at (drop at text) ≡ Err lapse → tokens_from at 0 (drop at text) ≡ Err (lapse, at)
  token_fails lapse e f = ap (tokens_from at 0) here ∙ fails at (get_or text at 0) (drop (suc at) text) lapse e (ap token_at (sym here) ∙ f)

  pub token_goes : (x : Lexeme) (list : List Lexeme) → is_blank (get_or text at 0) ≡ false → token_at (drop at text) ≡ Ok (token_of x) → x.at ≡ at → 1 ≤ length x.text.now
      → puts (map placed_of list) (tokens_from at 0 (drop at text))
      ≡ puts (map placed_of (list ++ x ∷ [])) (tokens_from (at + length x.text.now) 0 (drop (at + length x.text.now) text))
  token_goes x list e f place some =
      let len = length x.text.now in
      let next : tokens_from at 0 (drop at text) ≡ then_tokens (record { token = token_of x; at = at }) (tokens_from (at + len) 0 (drop (at + len) text)) =
      ap (tokens_from at 0) here ∙ goes at (get_or text at 0) (drop (suc at) text) (token_of x) e (ap token_at (sym here) ∙ f) some
      ∙ ap (λ z. then_tokens (record { token = token_of x; at = at }) (tokens_from (at + len) 0 z)) (ap (drop len) (sym here) ∙ drop-drop len at text) in
      ap (puts (map placed_of list)) next ∙ puts_one (map placed_of list) (record { token = token_of x; at = at }) (tokens_from (at + len) 0 (drop (at + len) text))
      ∙ ap (λ z. puts z (tokens_from (at + len) 0 (drop (at + len) text)))
      (ap (λ k. map placed_of list ++ record { token = token_of x; at = k } ∷ []) (sym place) ∙ sym (map-append placed_of list (x ∷ [])))

pub all_read : (text : List ℕ) (at : ℕ) → length text ≤ at → tokens_from at 0 (drop at text) ≡ Ok []
unfolding tokens_from
all_read text at past = ap (tokens_from at 0) (drop_past text at past)
  where
    drop_past : (xs : List ℕ) (i : ℕ) → length xs ≤ i → drop i xs ≡ []
    drop_past [] zero h = refl
    drop_past [] (suc i) h = refl
    drop_past (x ∷ xs) zero h = absurd (omega arith)
    drop_past (x ∷ xs) (suc i) h = drop_past xs i (omega arith)

pub all_read_puts : (front : List Placed) (text : List ℕ) (at : ℕ) → length text ≤ at → puts front (tokens_from at 0 (drop at text)) ≡ Ok front
all_read_puts front text at past = ap (puts front) (all_read text at past) ∙ ap Ok (append-nil front)

pub ruleset scanning = (blank_goes, token_fails, token_goes, all_read, puts_none)
