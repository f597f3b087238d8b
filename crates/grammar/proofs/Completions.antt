-- Texts that a rule has: with nothing inside, empty, and with a given first token.
use Rattle.std.proofs.Common.{◌≡◌, ℕ, Bool, true, false, cond, List, [], ◌∷◌, ◌++◌, Option, Some, None, refl, ◌⊎◌, inl, inr, sym, arith, append_assoc}
use Rattle.std.proofs.lemmas.List.{append-nil}
use Rattle.std.specs.Prelude.{◌&&◌}
use Rattle.grammar.specs.Language.{Language, IsLanguage}
use Rattle.grammar.specs.Rule.{Rule, nothing, token, both, either, many, means, inside}
use Rattle.grammar.specs.Text.{Nests, Within, Spells}
use Rattle.grammar.specs.Checks.{has, is_nullable, first, is_plain, is_completable}
use Rattle.grammar.proofs.Truths.{or_either, or_from_left, or_from_right, and_left, and_right}
use Rattle.grammar.proofs.KindSets.{has_one}

pub within_none : (counted : Bool) (limit : Option ℕ) → Within counted limit 0
within_none true None = tt
within_none true (Some n) = omega arith
within_none false limit = tt

-- these tokens can be completed to a text
abbrev pub Begun : {l : Language} {A : Type 0} → Nests l → Bool → Rule l A → List l.Token → Type 0
Begun {l} {A} N counted p ts = (more : List l.Token) × (v : A) × Spells N counted p (ts ++ more) v

has_in : (l : Language) (a b : List l.Kind) (k : l.Kind) → has l (a ++ b) k ≡ true → (has l a k ≡ true) ⊎ (has l b k ≡ true)
has_in l [] b k e = inr e
has_in l (x ∷ a) b k e =
    elim (or_either (l.same x k) _ e) [
      | inl h ↦ inl (or_from_left (l.same x k) _ h)
      | inr h ↦ elim (has_in l a b k h) [ inl i ↦ inl (or_from_right (l.same x k) _ i) | inr i ↦ inr i ]
    ]

when_has : (l : Language) (b : Bool) (a : List l.Kind) (k : l.Kind) → has l (cond b a []) k ≡ true → (b ≡ true) × (has l a k ≡ true)
when_has l true a k e = (refl, e)
when_has l false a k e = absurd (cc)

module _ (l : Language) (w : IsLanguage l) (N : Nests l) (counted : Bool) where
  pub plain : {A : Type 0} (p : Rule l A) → is_plain p ≡ true → (ts : List l.Token) × (v : A) × Spells N counted p ts v
  plain (nothing a) e = ([], a, (refl, refl))
  plain (token k) e = let t = w.some_token k in (t.0 ∷ [], t.0, (t.2, t.1, refl))
  plain (both p q) e =
      let a = plain p (and_left _ _ e) in
      let b = plain q (and_right (is_plain p) _ e) in
      (a.0 ++ b.0, (a.1, b.1), (a.0, b.0, refl, a.2, b.2))
  plain (either p q) e =
      elim (or_either (is_plain p) _ e) [
        | inl h ↦ let a = plain p h in (a.0, a.1, inl a.2)
        | inr h ↦ let b = plain q h in (b.0, b.1, inr b.2)
      ]
  plain (many limit p) e = ([], [], (within_none counted limit, refl))
  plain (means f p) e = let a = plain p e in (a.0, f a.1, (a.1, a.2, refl))
  plain (inside k n) e = absurd (cc)

  pub empty : {A : Type 0} (p : Rule l A) → is_nullable p ≡ true → (v : A) × Spells N counted p [] v
  empty (nothing a) e = (a, (refl, refl))
  empty (token k) e = absurd (cc)
  empty (both p q) e =
      let a = empty p (and_left _ _ e) in
      let b = empty q (and_right (is_nullable p) _ e) in
      ((a.0, b.0), ([], [], refl, a.1, b.1))
  empty (either p q) e =
      elim (or_either (is_nullable p) _ e) [
        | inl h ↦ let a = empty p h in (a.0, inl a.1)
        | inr h ↦ let b = empty q h in (b.0, inr b.1)
      ]
  empty (many limit p) e = ([], (within_none counted limit, refl))
  empty (means f p) e = let a = empty p e in (f a.0, (a.0, a.1, refl))
  empty (inside k n) e = absurd (cc)

  -- what begins the one is completed by the other, what begins the other comes after the one
  pub begun_first : {A B : Type 0} (p : Rule l A) (q : Rule l B) (ts : List l.Token) → is_plain q ≡ true → Begun N counted p ts → Begun N counted (both p q) ts
  begun_first p q ts e (more, v, s) = let b = plain q e in (more ++ b.0, (v, b.1), (ts ++ more, b.0, sym (append_assoc ts more b.0), s, b.2))

  pub begun_second : {A B : Type 0} (p : Rule l A) (q : Rule l B) (x y : List l.Token) (v : A) → Spells N counted p x v → Begun N counted q y → Begun N counted (both p q) (x ++ y)
  begun_second p q x y v s (more, w', r) = (more, (v, w'), (x, y ++ more, append_assoc x y more, s, r))

  pub begun_part : {A : Type 0} (limit : Option ℕ) (p : Rule l A) (ts : List l.Token) → Within counted limit 1 → Begun N counted p ts → Begun N counted (many limit p) ts
  begun_part limit p ts h (more, v, s) = (more, v ∷ [], (h, (ts ++ more, [], sym (append-nil (ts ++ more)), s, refl)))

-- a token that a rule may begin with begins a text, where each nonterminal has a text and limits
-- don't count
module _ (l : Language) (w : IsLanguage l) (N : Nests l) (has_some : (n : l.Nonterminal) → (ts : List l.Token) × (v : l.Tree) × N n ts v) where
  begun_one : (k : l.Kind) (t : l.Token) → l.IsToken t → l.kind t ≡ k → Begun {l = l} N false (token k) (t ∷ [])
  begun_one k t real e = ([], t, (real, e, refl))

  pub opened : {A : Type 0} (p : Rule l A) (t : l.Token) → is_completable p ≡ true → l.IsToken t → has l (first p) (l.kind t) ≡ true → Begun N false p (t ∷ [])
  opened (nothing a) t e real h = absurd (cc)
  opened (token k) t e real h = begun_one k t real (sym (has_one l w k (l.kind t) h))
  opened (both p q) t e real h =
      let plain_q : is_plain q ≡ true = and_left _ _ (and_left _ (is_completable q) e) in
      elim (has_in l (first p) _ (l.kind t) h) [
        | inl here ↦ begun_first l w N false p q (t ∷ []) plain_q (opened p t (and_right (is_plain q) _ (and_left _ (is_completable q) e)) real here)
        | inr later ↦
            let none = empty l w N false p (when_has l (is_nullable p) (first q) (l.kind t) later).0 in
            begun_second l w N false p q [] (t ∷ []) none.0 none.1
            (opened q t (and_right (is_plain q && is_completable p) _ e) real (when_has l (is_nullable p) (first q) (l.kind t) later).1)
      ]
  opened (either p q) t e real h =
      elim (has_in l (first p) _ (l.kind t) h) [
        | inl here ↦ let b = opened p t (and_left _ _ e) real here in (b.0, b.1, inl b.2)
        | inr later ↦ let b = opened q t (and_right (is_completable p) _ e) real later in (b.0, b.1, inr b.2)
      ]
  opened (many limit p) t e real h = begun_part l w N false limit p (t ∷ []) tt (opened p t e real h)
  opened (means f p) t e real h = let b = opened p t e real h in (b.0, f b.1, (b.1, b.2, refl))
  opened (inside k n) t e real h =
      let some = has_some n in
      (some.0, some.1, (t, some.0, real, sym (has_one l w k (l.kind t) h), refl, some.2))
