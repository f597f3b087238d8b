-- Tokens with one blank between each two are read back.
use Rattle.std.proofs.Common.{◌≡◌, ℕ, zero, suc, ◌+◌, ◌-◌, ◌≤◌, List, [], ◌∷◌, ◌++◌, length, take, drop, Ok, refl, sym, ap, ◌∙◌, subst, arith, append_assoc}
use Rattle.std.specs.List.{AllByRecursion}
use Rattle.std.proofs.Math.Seq.{take-append_seam}
use Rattle.std.proofs.lemmas.List.{append-nil, length-append}
use Rattle.sql_tokens.specs.Lex.{Token, Placed, token_at, then_tokens, tokens_from, tokens_of}
use Rattle.sql_tokens.proofs.Alone.{none_at_end}
use Rattle.sql_tokens.proofs.BeforeBlank.{before_blank, no_blank}
use Rattle.sql_tokens.proofs.Scanning.{blank, goes}
use Rattle.sql_text.specs.Tokens.{IsToken}
use Rattle.sql_text.specs.Texts.{without_places}
use Rattle.sql_text.specs.Printing.{spaces_between, text_of}

-- a blank behind each is one blank more

written_is : (t : Token) (ts : List Token) → text_of (t ∷ ts) ≡ spaces_between (t ∷ ts) ++ 32 ∷ []
written_is t [] = append-nil (t.text ++ 32 ∷ [])
written_is t (u ∷ ts) =
    ap (λ z. (t.text ++ 32 ∷ []) ++ z) (written_is u ts) ∙ append_assoc t.text (32 ∷ []) (spaces_between (u ∷ ts) ++ 32 ∷ [])
    ∙ sym (append_assoc t.text (32 ∷ spaces_between (u ∷ ts)) (32 ∷ []))

pub last_blank : (tokens : List Token) (text left : List ℕ) (len : ℕ) → len ≡ length text → left ≡ take (len - 1) text → text ≡ text_of tokens → left ≡ spaces_between tokens
last_blank [] text left len n e f = e ∙ ap (λ z. take (len - 1) z) f ∙ none (len - 1)
  where
    none : (n : ℕ) → take {A = ℕ} n [] ≡ []
    none zero = refl
    none (suc n) = refl
last_blank (t ∷ ts) text left len n e f =
    let same : text ≡ spaces_between (t ∷ ts) ++ 32 ∷ [] = f ∙ written_is t ts in
    let size : len ≡ length (spaces_between (t ∷ ts)) + 1 = n ∙ ap length same ∙ length-append (spaces_between (t ∷ ts)) (32 ∷ []) in
    let cut : len - 1 ≡ length (spaces_between (t ∷ ts)) = omega (arith, size) in
    e ∙ ap (λ z. take (len - 1) z) same ∙ ap (λ n. take n (spaces_between (t ∷ ts) ++ 32 ∷ [])) cut ∙ take-append_seam (spaces_between (t ∷ ts)) (32 ∷ [])

-- what is read from a place on are these tokens
abbrev ReadsAs : ℕ → List ℕ → List Token → Type 0
ReadsAs at text ts = (ps : List Placed) × (tokens_from at 0 text ≡ Ok ps) × (without_places ps ≡ ts)

drop_seam : {A : Type 0} (xs ys : List A) → drop (length xs) (xs ++ ys) ≡ ys
drop_seam [] ys = refl
drop_seam (x ∷ xs) ys = drop_seam xs ys

-- the first token, and what is read behind it
first_read : (at b : ℕ) (x y : List ℕ) (t : Token) (ts : List Token) → t.text ≡ b ∷ x → token_at (b ∷ x ++ y) ≡ Ok t → ReadsAs (at + length t.text) y ts → ReadsAs at (b ∷ x ++ y) (t ∷ ts)
first_read at b x y t ts is h (ps, e, f) =
    let some : 1 ≤ length t.text = omega (arith, ap length is) in
    let left : drop (length t.text) (b ∷ x ++ y) ≡ y = ap (λ z. drop (length z) (b ∷ x ++ y)) is ∙ drop_seam (b ∷ x) y in (
      record { token = t; at = at } ∷ ps,
      goes at b (x ++ y) t (no_blank b (x ++ y) t h) h some
          ∙ ap (then_tokens (record { token = t; at = at })) (ap (tokens_from (at + length t.text) 0) left ∙ e),
      ap (λ z. t ∷ z) f,
    )

no_text : (t : Token) → IsToken t → t.text ≡ [] → ⊥
no_text t h e = none_at_end t (subst (λ z. token_at z ≡ Ok t) e h)

reads_none : (at : ℕ) → ReadsAs at [] []
unfolding tokens_from
reads_none at = ([], refl, refl)

reads_from : (at : ℕ) (ts : List Token) → AllByRecursion IsToken ts → ReadsAs at (spaces_between ts) ts
reads_from at [] h = reads_none at
reads_from at (t ∷ []) h = by_text t.text refl
  where
    by_text : (z : List ℕ) → t.text ≡ z → ReadsAs at t.text (t ∷ [])
    by_text [] e = absurd (no_text t h.0 e)
    by_text (b ∷ x) e =
        let same : t.text ≡ b ∷ x ++ [] = e ∙ sym (append-nil (b ∷ x)) in
        subst (λ z. ReadsAs at z (t ∷ [])) (sym same)
        (first_read at b x [] t [] e (subst (λ z. token_at z ≡ Ok t) same h.0) (reads_none (at + length t.text)))
reads_from at (t ∷ u ∷ ts) h = by_text t.text refl (λ n. reads_from n (u ∷ ts) h.1)
  where
    by_text : (z : List ℕ) → t.text ≡ z → ((n : ℕ) → ReadsAs n (spaces_between (u ∷ ts)) (u ∷ ts)) → ReadsAs at (t.text ++ 32 ∷ spaces_between (u ∷ ts)) (t ∷ u ∷ ts)
    by_text [] e others = absurd (no_text t h.0 e)
    by_text (b ∷ x) e others =
        let read = others (at + length t.text + 1) in
        let behind : ReadsAs (at + length t.text) (32 ∷ spaces_between (u ∷ ts)) (u ∷ ts) =
        (read.0, blank (at + length t.text) 32 (spaces_between (u ∷ ts)) refl ∙ read.1, read.2) in
        subst (λ z. ReadsAs at (z ++ 32 ∷ spaces_between (u ∷ ts)) (t ∷ u ∷ ts)) (sym e)
        (first_read at b x (32 ∷ spaces_between (u ∷ ts)) t (u ∷ ts) e
        (before_blank (b ∷ x) (spaces_between (u ∷ ts)) t (subst (λ z. token_at z ≡ Ok t) e h.0) e) behind)

-- the text's tokens are these
pub reads_back : (ts : List Token) → AllByRecursion IsToken ts → (ps : List Placed) × (tokens_of (spaces_between ts) ≡ Ok ps) × (without_places ps ≡ ts)
reads_back ts h = reads_from 0 ts h
