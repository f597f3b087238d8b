-- Reading leaves fewer tokens, so a repetition is read round by round, whatever its fuel.
use Rattle.std.proofs.Common.{◌≡◌, ℕ, zero, suc, ◌+◌, ◌≤◌, Bool, true, false, cond, List, [], ◌∷◌, length, Option, Ok, Err, refl, ap, subst, arith}
use Rattle.std.specs.Prelude.{◌&&◌, ◌||◌, if◌then◌else◌}
use Rattle.grammar.specs.Language.{Language}
use Rattle.grammar.specs.Rule.{Rule, Grammar, nothing, token, both, either, many, means, inside}
use Rattle.grammar.specs.Checks.{is_nullable, first}
use Rattle.grammar.specs.Reading.{Found, Reader, begins, and_then, take_token, is_full, one_less, rounds, read, reader}
use Rattle.grammar.specs.declared.ParseFault.TheVariants.{Syntax, TooMany}

-- what was read took at least so many tokens
abbrev pub Shortens : {T A : Type 0} → ℕ → List T → Found T A → Type 0
Shortens k ts (Ok v, rest) = length rest + k ≤ length ts
Shortens k ts (Err s, rest) = Unit {0}

shortens_less : {T A : Type 0} (a b : ℕ) (ts : List T) (r : Found T A) → b ≤ a → Shortens a ts r → Shortens b ts r
shortens_less a b ts (Ok v, rest) h k = omega arith
shortens_less a b ts (Err s, rest) h k = tt

shortens_from : {T A : Type 0} (a b : ℕ) (ts mid : List T) (r : Found T A) → length mid + a ≤ length ts → Shortens b mid r → Shortens (a + b) ts r
shortens_from a b ts mid (Ok v, rest) h k = omega arith
shortens_from a b ts mid (Err s, rest) h k = tt

shortens_then : {T A B : Type 0} (a b : ℕ) (ts : List T) (r : Found T A) (f : A → List T → Found T B)
    → Shortens a ts r → ((v : A) (mid : List T) → Shortens b mid (f v mid)) → Shortens (a + b) ts (and_then r f)
shortens_then a b ts (Ok v, mid) f h k = shortens_from a b ts mid (f v mid) h (k v mid)
shortens_then a b ts (Err s, mid) f h k = tt

shortens_ended : {T A B : Type 0} (a : ℕ) (ts : List T) (r : Found T A) (f : A → B) → Shortens a ts r → Shortens a ts (and_then r (λ v end. (Ok (f v), end)))
shortens_ended a ts (Ok v, mid) f h = h
shortens_ended a ts (Err s, mid) f h = tt

abbrev pub least : Bool → ℕ
least true = 0
least false = 1

least_and : (a b : Bool) → least (a && b) ≤ least a + least b
least_and true b = omega arith
least_and false true = omega arith
least_and false false = omega arith

least_or_left : (a b : Bool) → least (a || b) ≤ least a
least_or_left true b = omega arith
least_or_left false true = omega arith
least_or_left false false = omega arith

least_or_right : (a b : Bool) → least (a || b) ≤ least b
least_or_right true b = omega arith
least_or_right false b = omega arith

shortens_choice : {T A : Type 0} (b c : Bool) (ts : List T) (x : Found T (List A)) → Shortens 0 ts x → Shortens 0 ts (cond b (cond c (Err TooMany, ts) x) (Ok [], ts))
shortens_choice true true ts x h = tt
shortens_choice true false ts x h = h
shortens_choice false c ts x h = omega arith

shortens_rounds : {T A : Type 0} (go : List T → Bool) (next : List T → Found T A) → ((ts : List T) → Shortens 0 ts (next ts))
    → (limit : Option ℕ) (fuel : ℕ) (ts : List T) → Shortens 0 ts (rounds go next limit fuel ts)
shortens_rounds go next part limit zero ts = omega arith
shortens_rounds go next part limit (suc fuel) ts =
    shortens_choice (go ts) (is_full limit) ts _
    (shortens_then 0 0 ts (next ts) _ (part ts)
    (λ v rest. shortens_ended 0 rest (rounds go next (one_less limit) fuel rest) _ (shortens_rounds go next part (one_less limit) fuel rest)))

module _ (l : Language) (R : Reader l) (nested : (n : l.Nonterminal) (t : l.Token) (ts : List l.Token) → Shortens 0 ts (R n t ts)) where
  pub shortens_taken : (k : l.Kind) (ts : List l.Token) → Shortens 1 ts (take_token l k ts)
  shortens_taken k [] = tt
  shortens_taken k (t ∷ ts) = by_kind (l.same (l.kind t) k)
    where
      by_kind : (b : Bool) → Shortens 1 (t ∷ ts) (cond b (Ok t, ts) (Err Syntax, t ∷ ts))
      by_kind true = omega arith
      by_kind false = tt

  shortens_either : {A : Type 0} (b : Bool) (k : ℕ) (ts : List l.Token) (x y : Found l.Token A) → Shortens k ts x → Shortens k ts y → Shortens k ts (cond b x y)
  shortens_either true k ts x y h i = h
  shortens_either false k ts x y h i = i

  pub shorter : {A : Type 0} (p : Rule l A) (ts : List l.Token) → Shortens (least (is_nullable p)) ts (read R p ts)
  shorter (nothing a) ts = omega arith
  shorter (token k) ts = shortens_taken k ts
  shorter (both p q) ts =
      shortens_less (least (is_nullable p) + least (is_nullable q)) (least (is_nullable p && is_nullable q)) ts (read R (both p q) ts) (least_and (is_nullable p) (is_nullable q))
      (shortens_then (least (is_nullable p)) (least (is_nullable q)) ts (read R p ts) _ (shorter p ts)
      (λ v mid. shortens_ended (least (is_nullable q)) mid (read R q mid) _ (shorter q mid)))
  shorter (either p q) ts =
      shortens_either (begins l (first p) ts) (least (is_nullable p || is_nullable q)) ts (read R p ts) (read R q ts)
      (shortens_less _ _ ts (read R p ts) (least_or_left (is_nullable p) (is_nullable q)) (shorter p ts))
      (shortens_less _ _ ts (read R q ts) (least_or_right (is_nullable p) (is_nullable q)) (shorter q ts))
  shorter (many limit p) ts =
      shortens_rounds (begins l (first p)) (read R p) (λ z. shortens_less (least (is_nullable p)) 0 z (read R p z) (omega arith) (shorter p z)) limit (length ts) ts
  shorter (means f p) ts = shortens_ended (least (is_nullable p)) ts (read R p ts) f (shorter p ts)
  shorter (inside k n) ts = shortens_then 1 0 ts (take_token l k ts) (R n) (shortens_taken k ts) (nested n)

pub nested_shorter : (l : Language) (g : Grammar l) (m : ℕ) (n : l.Nonterminal) (t : l.Token) (ts : List l.Token) → Shortens 0 ts (reader g m n t ts)
nested_shorter l g zero n t ts = tt
nested_shorter l g (suc m) n t ts =
    shortens_less (least (is_nullable (g.rule n))) 0 ts (read (reader g m) (g.rule n) ts) (omega arith) (shorter l (reader g m) (nested_shorter l g m) (g.rule n) ts)

same_then : {T A B : Type 0} (ts : List T) (r : Found T A) (f h : A → List T → Found T B) → Shortens 1 ts r
    → ((v : A) (mid : List T) → length mid + 1 ≤ length ts → f v mid ≡ h v mid) → and_then r f ≡ and_then r h
same_then ts (Ok v, mid) f h s e = e v mid s
same_then ts (Err x, mid) f h s e = refl

rounds_enough : {T A : Type 0} (go : List T → Bool) (next : List T → Found T A) → go [] ≡ false → ((ts : List T) → Shortens 1 ts (next ts))
    → (limit : Option ℕ) (fuel more : ℕ) (ts : List T) → length ts ≤ fuel → length ts ≤ more → rounds go next limit fuel ts ≡ rounds go next limit more ts
rounds_enough go next none part limit zero zero ts h i = refl
rounds_enough go next none part limit zero (suc more) [] h i = rw none refl
rounds_enough go next none part limit zero (suc more) (t ∷ ts) h i = absurd (omega arith)
rounds_enough go next none part limit (suc fuel) zero [] h i = rw none refl
rounds_enough go next none part limit (suc fuel) zero (t ∷ ts) h i = absurd (omega arith)
rounds_enough go next none part limit (suc fuel) (suc more) ts h i =
    ap (λ z. cond (go ts) (cond (is_full limit) (Err TooMany, ts) z) (Ok [], ts))
    (same_then ts (next ts) _ _ (part ts)
    (λ v mid s. ap (λ z. and_then z (λ vs end. (Ok (v ∷ vs), end))) (rounds_enough go next none part (one_less limit) fuel more mid (omega arith) (omega arith))))

-- one round, and the others
abbrev pub round : {l : Language} {A : Type 0} → Reader l → Option ℕ → Rule l A → List l.Token → Found l.Token (List A)
round R limit p ts = and_then (read R p ts) (λ v rest. and_then (read R (many (one_less limit) p) rest) (λ vs end. (Ok (v ∷ vs), end)))

pub many_step : (l : Language) (R : Reader l) {A : Type 0} (p : Rule l A) → ((ts : List l.Token) → Shortens 1 ts (read R p ts)) → (limit : Option ℕ) (ts : List l.Token)
    → read R (many limit p) ts ≡ (if begins l (first p) ts then (if is_full limit then (Err TooMany, ts) else round R limit p ts) else (Ok [], ts))
many_step l R p part limit [] = refl
many_step l R p part limit (t ∷ ts) =
    ap (λ z. cond (begins l (first p) (t ∷ ts)) (cond (is_full limit) (Err TooMany, t ∷ ts) z) (Ok [], t ∷ ts))
    (same_then (t ∷ ts) (read R p (t ∷ ts)) _ _ (part (t ∷ ts))
    (λ v mid s. ap (λ z. and_then z (λ vs end. (Ok (v ∷ vs), end)))
    (rounds_enough (begins l (first p)) (read R p) refl part (one_less limit) (length ts) (length mid) mid (omega arith) (omega arith))))

-- a rule with no empty text takes a token
pub solid_shorter : (l : Language) (g : Grammar l) (m : ℕ) {A : Type 0} (p : Rule l A) → is_nullable p ≡ false → (ts : List l.Token) → Shortens 1 ts (read (reader g m) p ts)
solid_shorter l g m p e ts = subst (λ b. Shortens (least b) ts (read (reader g m) p ts)) e (shorter l (reader g m) (nested_shorter l g m) p ts)
