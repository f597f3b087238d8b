-- What a text begins with.
use Rattle.std.proofs.Common.{◌≡◌, ℕ, Bool, true, false, cond, List, [], ◌∷◌, ◌++◌, Option, refl, inl, inr, sym, subst}
use Rattle.grammar.specs.Language.{Language, IsLanguage}
use Rattle.grammar.specs.Rule.{Rule, nothing, token, both, either, many, means, inside}
use Rattle.grammar.specs.Text.{Nests, Repeats, Spells}
use Rattle.grammar.specs.Checks.{has, is_nullable, first}
use Rattle.grammar.specs.Reading.{begins}
use Rattle.grammar.proofs.Truths.{or_from_left, or_from_right}
use Rattle.grammar.proofs.KindSets.{has_in_left, has_in_right, has_not_left, has_not_right, has_itself}

-- the empty text is of a nullable rule, and any other begins with one of its first kinds
abbrev pub Starts : {l : Language} {A : Type 0} → Rule l A → List l.Token → Type 0
Starts p [] = is_nullable p ≡ true
Starts {l} p (t ∷ _) = has l (first p) (l.kind t) ≡ true

module _ (l : Language) (w : IsLanguage l) where
  pub has_kind : (t : l.Token) (k : l.Kind) → l.kind t ≡ k → has l (k ∷ []) (l.kind t) ≡ true
  has_kind t k e = subst (λ a. has l (a ∷ []) (l.kind t) ≡ true) e (has_itself l w (l.kind t) [])

  starts_both : {A B : Type 0} (p : Rule l A) (q : Rule l B) (x y : List l.Token) → Starts p x → Starts q y → Starts (both p q) (x ++ y)
  starts_both p q [] [] s r = rw s (rw r refl)
  starts_both p q [] (t ∷ y) s r = has_in_right l w (first p) _ (l.kind t) (rw s r)
  starts_both p q (t ∷ x) y s r = has_in_left l w (first p) _ (l.kind t) s

  starts_left : {A : Type 0} (p q : Rule l A) (x : List l.Token) → Starts p x → Starts (either p q) x
  starts_left p q [] s = or_from_left (is_nullable p) _ s
  starts_left p q (t ∷ x) s = has_in_left l w (first p) _ (l.kind t) s

  starts_right : {A : Type 0} (p q : Rule l A) (x : List l.Token) → Starts q x → Starts (either p q) x
  starts_right p q [] s = or_from_right (is_nullable p) _ s
  starts_right p q (t ∷ x) s = has_in_right l w (first p) _ (l.kind t) s

  starts_many : {A : Type 0} (limit : Option ℕ) (p : Rule l A) (x y : List l.Token) → Starts p x → Starts (many limit p) y → Starts (many limit p) (x ++ y)
  starts_many limit p [] y s r = r
  starts_many limit p (t ∷ x) y s r = s

  pub starts_repeats : {A : Type 0} (N : Nests l) (counted : Bool) (limit : Option ℕ) (p : Rule l A)
      → ((ts : List l.Token) (v : A) → Spells N counted p ts v → Starts p ts)
      → (ts : List l.Token) (vs : List A) → Repeats (Spells N counted p) ts vs → Starts (many limit p) ts
  starts_repeats N counted limit p of_part ts [] e = subst (Starts (many limit p)) (sym e) refl
  starts_repeats N counted limit p of_part ts (v ∷ vs) (x, y, e, s, r) =
      subst (Starts (many limit p)) (sym e) (starts_many limit p x y (of_part x v s) (starts_repeats N counted limit p of_part y vs r))

  starts_at : {A : Type 0} (p : Rule l A) (x y : List l.Token) → x ≡ y → Starts p y → Starts p x
  starts_at p x y e s = subst (Starts p) (sym e) s

  starts_means : {A B : Type 0} (f : A → B) (p : Rule l A) (x : List l.Token) → Starts p x → Starts (means f p) x
  starts_means f p [] s = s
  starts_means f p (t ∷ x) s = s

  pub starts : {A : Type 0} (N : Nests l) (counted : Bool) (p : Rule l A) (ts : List l.Token) (v : A) → Spells N counted p ts v → Starts p ts
  starts N counted (nothing a) ts v (e, _) = starts_at (nothing a) ts [] e refl
  starts N counted (token k) ts v (_, e, f) = starts_at (token k) ts (v ∷ []) f (has_kind v k e)
  starts N counted (both p q) ts v (x, y, e, s, r) =
      subst (Starts (both p q)) (sym e) (starts_both p q x y (starts N counted p x v.0 s) (starts N counted q y v.1 r))
  starts N counted (either p q) ts v (inl s) = starts_left p q ts (starts N counted p ts v s)
  starts N counted (either p q) ts v (inr s) = starts_right p q ts (starts N counted q ts v s)
  starts N counted (many limit p) ts vs (_, r) = starts_repeats N counted limit p (starts N counted p) ts vs r
  starts N counted (means f p) ts v (a, s, _) = starts_means f p ts (starts N counted p ts a s)
  starts N counted (inside k n) ts v (t, rest, _, e, f, _) = starts_at (inside k n) ts (t ∷ rest) f (has_kind t k e)

  -- what begins with none of more kinds begins with none of fewer
  pub begins_not_left : (a b : List l.Kind) (ts : List l.Token) → begins l (a ++ b) ts ≡ false → begins l a ts ≡ false
  begins_not_left a b [] e = refl
  begins_not_left a b (t ∷ ts) e = has_not_left l w a b (l.kind t) e

  pub begins_not_right : (a b : List l.Kind) (ts : List l.Token) → begins l (a ++ b) ts ≡ false → begins l b ts ≡ false
  begins_not_right a b [] e = refl
  begins_not_right a b (t ∷ ts) e = has_not_right l w a b (l.kind t) e

  pub begins_not_when : (b : Bool) (a : List l.Kind) (ts : List l.Token) → b ≡ true → begins l (cond b a []) ts ≡ false → begins l a ts ≡ false
  begins_not_when true a ts e h = h
  begins_not_when false a ts e h = absurd (cc)
