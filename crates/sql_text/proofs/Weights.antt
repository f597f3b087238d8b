-- What a text of a rule may come to in bytes, by the bytes of its tokens; and which tokens it has
-- not.
use Rattle.std.proofs.Common.{◌≡◌, ℕ, ◌+◌, ◌*◌, ◌≤◌, arith, Bool, true, false, ◌&&◌, List, [], ◌∷◌, ◌++◌, length, Option, Ok, subst, sym, ap, ◌∙◌, refl, inl, inr}
use Rattle.std.specs.Prelude.{not}
use Rattle.std.specs.List.{AllByRecursion}
use Rattle.grammar.specs.Rule.{Rule, nothing, token, both, either, many, means, inside}
use Rattle.grammar.specs.Text.{Nests, Repeats, Spells}
use Rattle.sql_tokens.specs.declared.kinds.TokenKind.{TokenKind}
use Rattle.sql_tokens.specs.declared.kinds.TokenKind.TheVariants as k
use Rattle.sql_tokens.specs.Kinds.{same_kind}
use Rattle.sql_tokens.specs.Lex.{Token, token_at}
use Rattle.sql_text.specs.Tokens.{sql, IsToken}
use Rattle.sql_text.specs.Rules.{before, followed_by, in_parens, list_of, list_to_end}

-- how many bytes the tokens have
abbrev pub weigh : List Token → ℕ
weigh [] = 0
weigh (t ∷ ts) = length t.text + weigh ts

pub weigh_and : (x y : List Token) → weigh (x ++ y) ≡ weigh x + weigh y
weigh_and [] y = omega arith
weigh_and (t ∷ x) y = omega (arith, weigh_and x y)

-- a token has a byte
pub some_byte : (text : List ℕ) (t : Token) → token_at text ≡ Ok t → 1 ≤ length text
unfolding token_at
some_byte [] t e = absurd (cc)
some_byte (b ∷ text) t e = omega arith

-- the sizes of all
abbrev pub total : {A : Type 0} → (A → ℕ) → List A → ℕ
total f [] = 0
total f (x ∷ xs) = f x + total f xs

module _ (N : Nests sql) where
  -- each byte of a text's tokens stands for at most nine of this size
  pub record Light {A : Type 0} (p : Rule sql A) (f : A → ℕ) : Type 0 where
    pub bound : (ts : List Token) (v : A) → Spells N true p ts v → f v ≤ 9 * weigh ts

  pub light_less : {A : Type 0} {p : Rule sql A} {f g : A → ℕ} → Light p g → ((v : A) → f v ≤ g v) → Light p f
  light_less l h = record { bound = λ ts v s. omega (arith, h v, l.bound ts v s) }

  pub light_zero : {A : Type 0} {p : Rule sql A} → Light p (λ _. 0)
  light_zero = record { bound = λ ts v s. omega arith }

  pub light_token : {kind : TokenKind} {f : Token → ℕ} → ((t : Token) → IsToken t → t.kind ≡ kind → f t ≤ 9 * length t.text) → Light (token kind) f
  light_token {kind} {f} h = record { bound = λ ts v s. by_token ts v s }
    where
      by_token : (ts : List Token) (v : Token) → Spells {l = sql} N true (token kind) ts v → f v ≤ 9 * weigh ts
      by_token ts v (real, e, g) = let one : weigh ts ≡ length v.text + 0 = ap weigh g in omega (arith, h v real e, one)

  pub light_nine : {kind : TokenKind} → Light (token kind) (λ _. 9)
  light_nine = light_token (λ t real e. omega (arith, some_byte t.text t real))

  pub light_both : {A B : Type 0} {p : Rule sql A} {q : Rule sql B} {f : A → ℕ} {g : B → ℕ} → Light p f → Light q g → Light (both p q) (λ v. f v.0 + g v.1)
  light_both {A} {B} {p} {q} {f} {g} l m = record { bound = λ ts v s. by_parts ts v s }
    where
      by_parts : (ts : List Token) (v : A × B) → Spells N true (both p q) ts v → f v.0 + g v.1 ≤ 9 * weigh ts
      by_parts ts v (x, y, e, s, t) =
          let parts : weigh ts ≡ weigh x + weigh y = ap weigh e ∙ weigh_and x y in
          omega (arith, l.bound x v.0 s, m.bound y v.1 t, parts)

  pub light_either : {A : Type 0} {p q : Rule sql A} {f : A → ℕ} → Light p f → Light q f → Light (either p q) f
  light_either {A} {p} {q} {f} l m = record { bound = λ ts v s. by_side ts v s }
    where
      by_side : (ts : List Token) (v : A) → Spells N true (either p q) ts v → f v ≤ 9 * weigh ts
      by_side ts v (inl s) = l.bound ts v s
      by_side ts v (inr s) = m.bound ts v s

  pub light_means : {A B : Type 0} {g : A → B} {p : Rule sql A} {f : B → ℕ} → Light p (λ a. f (g a)) → Light (means g p) f
  light_means {A} {B} {g} {p} {f} l = record { bound = λ ts v s. by_value ts v s }
    where
      by_value : (ts : List Token) (v : B) → Spells N true (means g p) ts v → f v ≤ 9 * weigh ts
      by_value ts v (a, s, e) = subst (λ z. f z ≤ 9 * weigh ts) (sym e) (l.bound ts a s)

  light_repeats : {A : Type 0} (S : List Token → A → Type 0) (f : A → ℕ) → ((ts : List Token) (v : A) → S ts v → f v ≤ 9 * weigh ts)
      → (ts : List Token) (vs : List A) → Repeats S ts vs → total f vs ≤ 9 * weigh ts
  light_repeats S f l ts [] r = omega arith
  light_repeats S f l ts (v ∷ vs) (x, y, e, s, r) =
      let parts : weigh ts ≡ weigh x + weigh y = ap weigh e ∙ weigh_and x y in
      omega (arith, l x v s, light_repeats S f l y vs r, parts)

  pub light_many : {A : Type 0} {most : Option ℕ} {p : Rule sql A} {f : A → ℕ} → Light p f → Light (many most p) (total f)
  light_many {A} {most} {p} {f} l = record { bound = λ ts vs s. light_repeats (Spells N true p) f (λ us v s. l.bound us v s) ts vs s.1 }

  -- the ways to build rules

  pub light_before : {A : Type 0} (kind : TokenKind) {p : Rule sql A} {f : A → ℕ} → Light p f → Light (before kind p) (λ v. 9 + f v)
  unfolding before
  light_before {A} kind {p} {f} l = light_means (light_both {p = token kind} {q = p} {f = λ _. 9} {g = f} light_nine l)

  pub light_closed : {A : Type 0} {p : Rule sql A} (kind : TokenKind) {f : A → ℕ} → Light p f → Light (followed_by p kind) (λ v. f v + 9)
  unfolding followed_by
  light_closed {A} {p} kind {f} l = light_means (light_both {p = p} {q = token kind} {f = f} {g = λ _. 9} l light_nine)

  pub light_parens : {A : Type 0} {p : Rule sql A} {f : A → ℕ} → Light p f → Light (in_parens p) (λ v. 9 + (f v + 9))
  unfolding in_parens
  light_parens {A} {p} {f} l = light_before k.LeftParen {f = λ v. f v + 9} (light_closed k.RightParen l)

  pub light_listed : {A : Type 0} (most : Option ℕ) (kind : TokenKind) {p : Rule sql A} {f : A → ℕ} → Light p f → Light (list_of most kind p) (total f)
  unfolding list_of
  light_listed {A} most kind {p} {f} l =
      let more : Light (before kind p) f = light_less (light_before kind l) (λ v. omega arith) in
      light_means (light_both {p = p} {q = many most (before kind p)} {f = f} {g = total f} l (light_many more))

  pub light_ended : {A : Type 0} (most : Option ℕ) {p : Rule sql A} (kind : TokenKind) {f : A → ℕ} → Light p f → Light (list_to_end most p kind) (total f)
  unfolding list_to_end
  light_ended {A} most {p} kind {f} l =
      let one : Light (followed_by p kind) f = light_less (light_closed kind l) (λ v. omega arith) in
      light_means (light_both {p = followed_by p kind} {q = many most (followed_by p kind)} {f = f} {g = total f} one (light_many one))

-- Rules without COMMIT.

abbrev pub IsOther : Token → Type 0
IsOther t = same_kind t.kind k.Commit ≡ false

-- no token of the rule itself is COMMIT, and nothing stands in itself
abbrev pub avoids : {A : Type 0} → Rule sql A → Bool
avoids (nothing a) = true
avoids (token kind) = not (same_kind kind k.Commit)
avoids (both p q) = avoids p && avoids q
avoids (either p q) = avoids p && avoids q
avoids (many most p) = avoids p
avoids (means f p) = avoids p
avoids (inside kind n) = false

left_true : (a b : Bool) → (a && b) ≡ true → a ≡ true
left_true true b e = refl
left_true false b e = absurd (cc)

right_true : (a b : Bool) → (a && b) ≡ true → b ≡ true
right_true true b e = e
right_true false b e = absurd (cc)

not_true : (a : Bool) → not a ≡ true → a ≡ false
not_true true e = absurd (cc)
not_true false e = refl

other_parts : (x y : List Token) → AllByRecursion IsOther x → AllByRecursion IsOther y → AllByRecursion IsOther (x ++ y)
other_parts [] y h g = g
other_parts (t ∷ x) y h g = (h.0, other_parts x y h.1 g)

other_repeats : {A : Type 0} (S : List Token → A → Type 0) → ((ts : List Token) (v : A) → S ts v → AllByRecursion IsOther ts)
    → (ts : List Token) (vs : List A) → Repeats S ts vs → AllByRecursion IsOther ts
other_repeats S h ts [] e = subst (AllByRecursion IsOther) (sym e) tt
other_repeats S h ts (v ∷ vs) (x, y, e, s, r) = subst (AllByRecursion IsOther) (sym e) (other_parts x y (h x v s) (other_repeats S h y vs r))

-- so no token of its texts is
pub others : {A : Type 0} (N : Nests sql) (p : Rule sql A) → avoids p ≡ true → (ts : List Token) (v : A) → Spells N true p ts v → AllByRecursion IsOther ts
others N (nothing a) e ts v (f, g) = subst (AllByRecursion IsOther) (sym f) tt
others N (token kind) e ts v (real, f, g) =
    subst (AllByRecursion IsOther) (sym g) (subst (λ z. same_kind z k.Commit ≡ false) (sym f) (not_true (same_kind kind k.Commit) e), tt)
others N (both p q) e ts v (x, y, f, s, t) =
    subst (AllByRecursion IsOther) (sym f)
    (other_parts x y (others N p (left_true (avoids p) (avoids q) e) x v.0 s) (others N q (right_true (avoids p) (avoids q) e) y v.1 t))
others N (either p q) e ts v (inl s) = others N p (left_true (avoids p) (avoids q) e) ts v s
others N (either p q) e ts v (inr s) = others N q (right_true (avoids p) (avoids q) e) ts v s
others N (many most p) e ts vs (fit, r) = other_repeats (Spells N true p) (λ us u s. others N p e us u s) ts vs r
others N (means f p) e ts v (a, s, g) = others N p e ts a s
others N (inside kind n) e ts v s = absurd (cc)
