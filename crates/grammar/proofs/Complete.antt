-- What is spelled is read, in front of whatever it can't go on with: to its value, or to a fault of
-- levels or parts.
use Rattle.std.proofs.Common.{◌≡◌, ℕ, zero, suc, ◌≤◌, ◌<◌, Bool, true, false, List, [], ◌∷◌, ◌++◌, length, Option, Some, None, Ok, Err, refl, ◌⊎◌, inl, inr, ap, sym, ◌∙◌, subst, arith, append_assoc}
use Rattle.std.specs.Prelude.{not, ◌&&◌}
use Rattle.std.proofs.lemmas.List.{length-append}
use Rattle.grammar.specs.Language.{Language, IsLanguage}
use Rattle.grammar.specs.Rule.{Rule, Grammar, nothing, token, both, either, many, means, inside}
use Rattle.grammar.specs.Text.{Nests, Within, Repeats, Spells, NestsIn}
use Rattle.grammar.specs.Checks.{has, are_apart, are_among, is_nullable, first, goes_on, is_predictive}
use Rattle.grammar.specs.Reading.{Found, Reader, begins, and_then, take_token, is_full, one_less, rounds, read, reader}
use Rattle.grammar.specs.declared.ParseFault.TheVariants.{Syntax, Nesting, TooMany}
use Rattle.grammar.proofs.Truths.{and_left, and_right, not_true, not_both, tested}
use Rattle.grammar.proofs.KindSets.{apart_not, among_has}
use Rattle.grammar.proofs.Starts.{Starts, starts, starts_repeats, begins_not_left, begins_not_right, begins_not_when}

-- the value and what follows, or too deep, or, where limits don't count, too many
abbrev pub Takes : {T A : Type 0} → Type 0 → Bool → A → List T → Found T A → Type 0
Takes Deep counted v rest (Ok a, end) = (a ≡ v) × (end ≡ rest)
Takes Deep counted v rest (Err Syntax, end) = ⊥
Takes Deep counted v rest (Err Nesting, end) = Deep
Takes Deep counted v rest (Err TooMany, end) = counted ≡ false

takes_then : {T A B : Type 0} (Deep : Type 0) (counted : Bool) (a : A) (mid : List T) (b : B) (rest : List T) (f : A → List T → Found T B) (r : Found T A)
    → Takes Deep counted a mid r → Takes Deep counted b rest (f a mid) → Takes Deep counted b rest (and_then r f)
takes_then Deep counted a mid b rest f (Ok x, end) h k =
    subst (λ z. Takes Deep counted b rest (f z end)) (sym h.0) (subst (λ z. Takes Deep counted b rest (f a z)) (sym h.1) k)
takes_then Deep counted a mid b rest f (Err Syntax, end) h k = h
takes_then Deep counted a mid b rest f (Err Nesting, end) h k = h
takes_then Deep counted a mid b rest f (Err TooMany, end) h k = h

takes_deeper : {T A : Type 0} (D E : Type 0) (counted : Bool) (v : A) (rest : List T) (r : Found T A) → (D → E) → Takes D counted v rest r → Takes E counted v rest r
takes_deeper D E counted v rest (Ok x, end) f h = h
takes_deeper D E counted v rest (Err Syntax, end) f h = h
takes_deeper D E counted v rest (Err Nesting, end) f h = f h
takes_deeper D E counted v rest (Err TooMany, end) f h = h

-- a part more is within the limit, unless limits don't count
fits : (counted : Bool) (limit : Option ℕ) (n : ℕ) → Within counted limit (suc n)
    → ((is_full limit ≡ true) × (counted ≡ false)) ⊎ ((is_full limit ≡ false) × Within counted (one_less limit) n)
fits true None n h = inr (refl, tt)
fits true (Some zero) n h = absurd (omega arith)
fits true (Some (suc m)) n h = inr (refl, omega arith)
fits false None n h = inr (refl, tt)
fits false (Some zero) n h = inl (refl, refl)
fits false (Some (suc m)) n h = inr (refl, tt)

module _ (l : Language) (w : IsLanguage l) (g : Grammar l) (N : Nests l) (R : Reader l) (counted : Bool) (Deep : Type 0)
    (nested : (n : l.Nonterminal) (t : l.Token) (ts : List l.Token) (v : l.Tree) (rest : List l.Token)
    → N n ts v → begins l (g.after n) rest ≡ false → Takes Deep counted v rest (R n t (ts ++ rest))) where
  taken_is : (k : l.Kind) (t : l.Token) (rest : List l.Token) → l.kind t ≡ k → take_token l k (t ∷ rest) ≡ (Ok t, rest)
  taken_is k t rest e = let s : l.same (l.kind t) k ≡ true = subst (λ a. l.same (l.kind t) a ≡ true) e (w.same_self (l.kind t)) in rw s refl

  -- the first can't go on with what the second begins with, nor with what follows where that is
  -- empty
  not_after_first : {A B : Type 0} (p : Rule l A) (q : Rule l B) (y rest : List l.Token) → are_apart l (goes_on g p) (first q) ≡ true → Starts q y
      → begins l (goes_on g (both p q)) rest ≡ false → begins l (goes_on g p) (y ++ rest) ≡ false
  not_after_first p q [] rest apart s e = begins_not_when l w (is_nullable q) (goes_on g p) rest s (begins_not_right l w (goes_on g q) _ rest e)
  not_after_first p q (t ∷ y) rest apart s e = apart_not l w (goes_on g p) (first q) (l.kind t) apart s

  not_after_round : {A : Type 0} (limit : Option ℕ) (p : Rule l A) (y rest : List l.Token) → are_apart l (goes_on g p) (first p) ≡ true → Starts (many limit p) y
      → begins l (goes_on g (many limit p)) rest ≡ false → begins l (goes_on g p) (y ++ rest) ≡ false
  not_after_round limit p [] rest apart s e = begins_not_left l w (goes_on g p) (first p) rest e
  not_after_round limit p (t ∷ y) rest apart s e = apart_not l w (goes_on g p) (first p) (l.kind t) apart s

  begins_started : {A : Type 0} (p : Rule l A) (x rest : List l.Token) → is_nullable p ≡ false → Starts p x → begins l (first p) (x ++ rest) ≡ true
  begins_started p [] rest e s = not_both (is_nullable p) s e
  begins_started p (t ∷ x) rest e s = s

  begins_other : {A : Type 0} (p q : Rule l A) (x rest : List l.Token) → are_apart l (first p) (first q) ≡ true → Starts q x
      → begins l (goes_on g (either p q)) rest ≡ false → begins l (first p) (x ++ rest) ≡ false
  begins_other p q [] rest apart s e = begins_not_when l w (is_nullable q) (first p) rest s (begins_not_right l w (goes_on g p ++ goes_on g q) _ rest e)
  begins_other p q (t ∷ x) rest apart s e = apart_not l w (first p) (first q) (l.kind t) apart s

  takes_round : {A : Type 0} (limit : Option ℕ) (p : Rule l A) (fuel : ℕ) (ts : List l.Token) (v : A) (vs : List A) (mid rest : List l.Token)
      → begins l (first p) ts ≡ true → Within counted limit (suc (length vs)) → Takes Deep counted v mid (read R p ts)
      → (Within counted (one_less limit) (length vs) → Takes Deep counted vs rest (rounds (begins l (first p)) (read R p) (one_less limit) fuel mid))
      → Takes Deep counted (v ∷ vs) rest (rounds (begins l (first p)) (read R p) limit (suc fuel) ts)
  takes_round limit p fuel ts v vs mid rest go within one others =
      rw go (elim (fits counted limit (length vs) within) [
        | inl (full, uncounted) ↦ rw full uncounted
        | inr (room, fewer) ↦ rw room (takes_then Deep counted v mid (v ∷ vs) rest _ (read R p ts) one
            (takes_then Deep counted vs rest (v ∷ vs) rest _ (rounds (begins l (first p)) (read R p) (one_less limit) fuel mid) (others fewer) (refl, refl)))
      ])

  takes_none : {A : Type 0} (p : Rule l A) (limit : Option ℕ) (fuel : ℕ) (rest : List l.Token) → begins l (first p) rest ≡ false
      → Takes Deep counted [] rest (rounds (begins l (first p)) (read R p) limit fuel rest)
  takes_none p limit zero rest e = (refl, refl)
  takes_none p limit (suc fuel) rest e = rw e (refl, refl)

  solid_length : {A : Type 0} (p : Rule l A) (x : List l.Token) → is_nullable p ≡ false → Starts p x → 0 < length x
  solid_length p [] e s = not_both (is_nullable p) s e
  solid_length p (t ∷ x) e s = omega arith

  takes_rounds : {A : Type 0} (p : Rule l A) → is_nullable p ≡ false → are_apart l (goes_on g p) (first p) ≡ true
      → ((ts : List l.Token) (v : A) (rest : List l.Token) → Spells N counted p ts v → begins l (goes_on g p) rest ≡ false → Takes Deep counted v rest (read R p (ts ++ rest)))
      → (limit : Option ℕ) (fuel : ℕ) (ts : List l.Token) (vs : List A) (rest : List l.Token) → length (ts ++ rest) ≤ fuel → Within counted limit (length vs)
      → Repeats (Spells N counted p) ts vs → begins l (goes_on g (many limit p)) rest ≡ false
      → Takes Deep counted vs rest (rounds (begins l (first p)) (read R p) limit fuel (ts ++ rest))
  takes_rounds p solid apart part limit fuel ts [] rest room within e after =
      subst (λ z. Takes Deep counted [] rest (rounds (begins l (first p)) (read R p) limit fuel (z ++ rest))) (sym e)
      (takes_none p limit fuel rest (begins_not_right l w (goes_on g p) (first p) rest after))
  takes_rounds p solid apart part limit zero ts (v ∷ vs) rest room within (x, y, e, s, r) after =
      let some = solid_length p x solid (starts l w N counted p x v s) in
      absurd (omega (arith, ap (λ z. length (z ++ rest)) e, length-append ts rest, length-append (x ++ y) rest, length-append x y))
  takes_rounds p solid apart part limit (suc fuel) ts (v ∷ vs) rest room within (x, y, e, s, r) after =
      let whole : ts ++ rest ≡ x ++ (y ++ rest) = ap (λ z. z ++ rest) e ∙ append_assoc x y rest in
      let started : Starts p x = starts l w N counted p x v s in
      let some = solid_length p x solid started in
      let fewer_tokens : length (y ++ rest) ≤ fuel = omega (arith, ap length whole, length-append x (y ++ rest)) in
      subst (λ z. Takes Deep counted (v ∷ vs) rest (rounds (begins l (first p)) (read R p) limit (suc fuel) z)) (sym whole)
      (takes_round limit p fuel (x ++ (y ++ rest)) v vs (y ++ rest) rest (begins_started p x (y ++ rest) solid started) within
      (part x v (y ++ rest) s (not_after_round limit p y rest apart (starts_repeats l w N counted limit p (starts l w N counted p) y vs r) after))
      (λ fewer. takes_rounds p solid apart part (one_less limit) fuel y vs rest fewer_tokens fewer r after))

  pub complete : {A : Type 0} (p : Rule l A) → is_predictive g p ≡ true → (ts : List l.Token) (v : A) (rest : List l.Token)
      → Spells N counted p ts v → begins l (goes_on g p) rest ≡ false → Takes Deep counted v rest (read R p (ts ++ rest))
  complete (nothing a) good ts v rest (e, f) after = subst (λ z. Takes Deep counted v rest (read {l = l} R (nothing a) (z ++ rest))) (sym e) (sym f, refl)
  complete (token k) good ts v rest (real, e, f) after = subst (λ z. Takes Deep counted v rest (take_token l k (z ++ rest))) (sym f) (rw (taken_is k v rest e) (refl, refl))
  complete (both p q) good ts v rest (x, y, e, s, r) after =
      let whole : ts ++ rest ≡ x ++ (y ++ rest) = ap (λ z. z ++ rest) e ∙ append_assoc x y rest in
      let apart = and_left (are_apart l (goes_on g p) (first q)) (is_predictive g p) (and_left _ (is_predictive g q) good) in
      let after_p = not_after_first p q y rest apart (starts l w N counted q y v.1 r) after in
      subst (λ z. Takes Deep counted v rest (read R (both p q) z)) (sym whole)
      (takes_then Deep counted v.0 (y ++ rest) v rest _ (read R p (x ++ (y ++ rest)))
      (complete p (and_right (are_apart l (goes_on g p) (first q)) (is_predictive g p) (and_left _ (is_predictive g q) good)) x v.0 (y ++ rest) s after_p)
      (takes_then Deep counted v.1 rest v rest _ (read R q (y ++ rest))
      (complete q (and_right (are_apart l (goes_on g p) (first q) && is_predictive g p) (is_predictive g q) good) y v.1 rest r (begins_not_left l w (goes_on g q) _ rest after))
      (refl, refl)))
  complete (either p q) good ts v rest (inl s) after =
      let front = and_left _ (is_predictive g p) (and_left _ (is_predictive g q) good) in
      let solid = not_true _ (and_left (not (is_nullable p)) _ front) in
      rw (begins_started p ts rest solid (starts l w N counted p ts v s))
      (complete p (and_right (not (is_nullable p) && are_apart l (first p) (first q)) _ (and_left _ (is_predictive g q) good)) ts v rest s
      (begins_not_left l w (goes_on g p) (goes_on g q) rest (begins_not_left l w (goes_on g p ++ goes_on g q) _ rest after)))
  complete (either p q) good ts v rest (inr s) after =
      let front = and_left _ (is_predictive g p) (and_left _ (is_predictive g q) good) in
      rw (begins_other p q ts rest (and_right (not (is_nullable p)) _ front) (starts l w N counted q ts v s) after)
      (complete q (and_right (not (is_nullable p) && are_apart l (first p) (first q) && is_predictive g p) _ good) ts v rest s
      (begins_not_right l w (goes_on g p) (goes_on g q) rest (begins_not_left l w (goes_on g p ++ goes_on g q) _ rest after)))
  complete (many limit p) good ts vs rest (within, r) after =
      takes_rounds p (not_true _ (and_left (not (is_nullable p)) _ (and_left _ (is_predictive g p) good))) (and_right (not (is_nullable p)) _ (and_left _ (is_predictive g p) good))
      (complete p (and_right (not (is_nullable p) && are_apart l (goes_on g p) (first p)) _ good)) limit (length (ts ++ rest)) ts vs rest (omega arith) within r after
  complete (means f p) good ts v rest (a, s, e) after =
      subst (λ z. Takes Deep counted z rest (read R (means f p) (ts ++ rest))) (sym e)
      (takes_then Deep counted a rest (f a) rest _ (read R p (ts ++ rest)) (complete p good ts a rest s after) (refl, refl))
  complete (inside k n) good ts v rest (t, more, real, e, f, s) after =
      subst (λ z. Takes Deep counted v rest (and_then (take_token l k (z ++ rest)) (R n))) (sym f)
      (rw (taken_is k t (more ++ rest) e) (nested n t more v rest s after))

-- at the nonterminals, for a text of n levels read with m
module _ (l : Language) (w : IsLanguage l) (g : Grammar l) (counted : Bool)
    (predictive : (n : l.Nonterminal) → is_predictive g (g.rule n) ≡ true)
    (closed : (n : l.Nonterminal) → are_among l (goes_on g (g.rule n)) (g.after n) ≡ true) where
  begins_not_among : (a b : List l.Kind) (ts : List l.Token) → are_among l a b ≡ true → begins l b ts ≡ false → begins l a ts ≡ false
  begins_not_among a b [] among e = refl
  begins_not_among a b (t ∷ ts) among e =
      elim (tested (has l a (l.kind t))) [ inl h ↦ not_both (has l b (l.kind t)) (among_has l w a b (l.kind t) among h) e | inr h ↦ h ]

  pub nested_takes : (levels m : ℕ) (n : l.Nonterminal) (t : l.Token) (ts : List l.Token) (v : l.Tree) (rest : List l.Token)
      → NestsIn g counted levels n ts v → begins l (g.after n) rest ≡ false → Takes (m < levels) counted v rest (reader g m n t (ts ++ rest))
  nested_takes zero m n t ts v rest s after = absurd s
  nested_takes (suc levels) zero n t ts v rest s after = omega arith
  nested_takes (suc levels) (suc m) n t ts v rest s after =
      takes_deeper (m < levels) (suc m < suc levels) counted v rest (read (reader g m) (g.rule n) (ts ++ rest)) (λ h. omega arith)
      (complete l w g (NestsIn g counted levels) (reader g m) counted (m < levels) (nested_takes levels m) (g.rule n) (predictive n) ts v rest s
      (begins_not_among (goes_on g (g.rule n)) (g.after n) rest (closed n) after))

  pub text_takes : {A : Type 0} (p : Rule l A) → is_predictive g p ≡ true → (levels m : ℕ) (ts : List l.Token) (v : A)
      → Spells (NestsIn g counted levels) counted p ts v → Takes (m < levels) counted v [] (read (reader g m) p (ts ++ []))
  text_takes p good levels m ts v s =
      complete l w g (NestsIn g counted levels) (reader g m) counted (m < levels) (nested_takes levels m) p good ts v [] s refl
