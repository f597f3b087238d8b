-- What the values of a rule are made of: tokens, and what stands in itself.
use Rattle.std.proofs.Common.{◌≡◌, ℕ, suc, ◌≤◌, true, List, [], ◌∷◌, ◌++◌, length, Option, Some, subst, sym, ◌⊎◌, inl, inr, arith}
use Rattle.std.specs.List.{AllByRecursion}
use Rattle.grammar.specs.Rule.{Rule, nothing, token, both, either, many, means, inside}
use Rattle.grammar.specs.Text.{Nests, Within, Repeats, Spells}
use Rattle.sql_tokens.specs.declared.kinds.TokenKind.{TokenKind}
use Rattle.sql_tokens.specs.Lex.{Token}
use Rattle.vo_spec.specs.Conditions.{Condition}
use Rattle.sql_text.specs.Tokens.{sql, Nested}
use Rattle.sql_text.specs.Rules.{before, followed_by, in_parens, list_of, list_to_end}

pub all_parts : {X : Type 0} (T : X → Type 0) (x y : List X) → AllByRecursion T (x ++ y) → AllByRecursion T x × AllByRecursion T y
all_parts T [] y h = (tt, h)
all_parts T (t ∷ x) y h = let others = all_parts T x y h.1 in ((h.0, others.0), others.1)

pub all_both : {X : Type 0} (T : X → Type 0) (x y : List X) → AllByRecursion T x → AllByRecursion T y → AllByRecursion T (x ++ y)
all_both T [] y h k = k
all_both T (t ∷ x) y h k = (h.0, all_both T x y h.1 k)

pub all_mapped : {X : Type 0} (P Q : X → Type 0) (xs : List X) → ((x : X) → P x → Q x) → AllByRecursion P xs → AllByRecursion Q xs
all_mapped P Q [] f h = tt
all_mapped P Q (x ∷ xs) f h = (f x h.0, all_mapped P Q xs f h.1)

-- T holds of each token, W of each value that stands in itself
module _ (T : Token → Type 0) (W : Condition → Type 0) where
  abbrev pub Made : {A : Type 0} → Rule sql A → A → Type 0
  Made (nothing a) v = v ≡ a
  Made (token kind) v = T v × (v.kind ≡ kind)
  Made (both p q) v = Made p v.0 × Made q v.1
  Made (either p q) v = Made p v ⊎ Made q v
  Made (many limit p) vs = Within true limit (length vs) × AllByRecursion (Made p) vs
  Made (means {A} f p) v = (a : A) × Made p a × (v ≡ f a)
  Made (inside kind n) v = W v

  each : {A : Type 0} (S : List Token → A → Type 0) (M : A → Type 0) → ((ts : List Token) (v : A) → S ts v → AllByRecursion T ts → M v)
      → (ts : List Token) (vs : List A) → Repeats S ts vs → AllByRecursion T ts → AllByRecursion M vs
  each S M f ts [] r h = tt
  each S M f ts (v ∷ vs) (x, y, e, s, r) h =
      let parts = all_parts T x y (subst (AllByRecursion T) e h) in
      (f x v s parts.0, each S M f y vs r parts.1)

  -- a text's value is made of its tokens
  pub made : {A : Type 0} (N : Nests sql) → ((n : Nested) (ts : List Token) (v : Condition) → N n ts v → AllByRecursion T ts → W v)
      → (p : Rule sql A) (ts : List Token) (v : A) → Spells N true p ts v → AllByRecursion T ts → Made p v
  made N w (nothing a) ts v (e, f) h = f
  made N w (token kind) ts v (real, e, f) h = let one = subst (AllByRecursion T) f h in (one.0, e)
  made N w (both p q) ts v (x, y, e, s, t) h =
      let parts = all_parts T x y (subst (AllByRecursion T) e h) in
      (made N w p x v.0 s parts.0, made N w q y v.1 t parts.1)
  made N w (either p q) ts v (inl s) h = inl (made N w p ts v s h)
  made N w (either p q) ts v (inr s) h = inr (made N w q ts v s h)
  made N w (many limit p) ts vs (fit, r) h = (fit, each (Spells N true p) (Made p) (λ us u s g. made N w p us u s g) ts vs r h)
  made N w (means f p) ts v (a, s, e) h = (a, made N w p ts a s h, e)
  made N w (inside kind n) ts v (t, rest, real, e, f, s) h = let one = subst (AllByRecursion T) f h in w n rest v s one.1

  -- the ways to build rules

  pub of_before : {A : Type 0} (kind : TokenKind) (p : Rule sql A) (v : A) → Made (before kind p) v → Made p v
  unfolding before
  of_before kind p v (x, (t, m), e) = subst (Made p) (sym e) m

  pub of_closed : {A : Type 0} (p : Rule sql A) (kind : TokenKind) (v : A) → Made (followed_by p kind) v → Made p v
  unfolding followed_by
  of_closed p kind v (x, (m, t), e) = subst (Made p) (sym e) m

  pub of_parens : {A : Type 0} (p : Rule sql A) (v : A) → Made (in_parens p) v → Made p v
  unfolding in_parens before followed_by
  of_parens p v (x, (t, (y, (m, u), f)), e) = subst (Made p) (sym e) (subst (Made p) (sym f) m)

  -- at least one part, and at most so many more
  abbrev pub Parts : {A : Type 0} → ℕ → (A → Type 0) → List A → Type 0
  Parts most M vs = (1 ≤ length vs) × (length vs ≤ suc most) × AllByRecursion M vs

  pub of_listed : {A : Type 0} (most : Option ℕ) (kind : TokenKind) (p : Rule sql A) (vs : List A) → Made (list_of most kind p) vs → AllByRecursion (Made p) vs
  unfolding list_of
  of_listed most kind p vs (x, (m, (fit, others)), e) = subst (AllByRecursion (Made p)) (sym e) (m, all_mapped (Made (before kind p)) (Made p) x.1 (λ v h. of_before kind p v h) others)

  pub few_listed : {A : Type 0} (most : ℕ) (kind : TokenKind) (p : Rule sql A) (vs : List A) → Made (list_of (Some most) kind p) vs → Parts most (Made p) vs
  unfolding list_of
  few_listed {A} most kind p vs (x, (m, (fit, others)), e) =
      subst (Parts most (Made p)) (sym e)
      (omega arith, omega (arith, fit), (m, all_mapped (Made (before kind p)) (Made p) x.1 (λ v h. of_before kind p v h) others))

  pub few_ended : {A : Type 0} (most : ℕ) (p : Rule sql A) (kind : TokenKind) (vs : List A) → Made (list_to_end (Some most) p kind) vs → Parts most (Made p) vs
  unfolding list_to_end
  few_ended {A} most p kind vs (x, (m, (fit, others)), e) =
      subst (Parts most (Made p)) (sym e)
      (omega arith, omega (arith, fit), (of_closed p kind x.0 m, all_mapped (Made (followed_by p kind)) (Made p) x.1 (λ v h. of_closed p kind v h) others))
