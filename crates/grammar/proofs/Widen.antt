-- A text stays one where more nests and limits are looser.
use Rattle.std.proofs.Common.{ℕ, zero, suc, Bool, true, false, List, [], ◌∷◌, length, Option, inl, inr}
use Rattle.grammar.specs.Language.{Language}
use Rattle.grammar.specs.Rule.{Rule, Grammar, nothing, token, both, either, many, means, inside}
use Rattle.grammar.specs.Text.{Nests, Within, Repeats, Spells, NestsIn}

module _ (l : Language) (N M : Nests l) (c d : Bool) (nests : (n : l.Nonterminal) (ts : List l.Token) (v : l.Tree) → N n ts v → M n ts v)
    (loose : (limit : Option ℕ) (n : ℕ) → Within c limit n → Within d limit n) where
  widen_repeats : {A : Type 0} (p : Rule l A) → ((ts : List l.Token) (v : A) → Spells N c p ts v → Spells M d p ts v)
      → (ts : List l.Token) (vs : List A) → Repeats (Spells N c p) ts vs → Repeats (Spells M d p) ts vs
  widen_repeats p part ts [] e = e
  widen_repeats p part ts (v ∷ vs) (x, y, e, s, r) = (x, y, e, part x v s, widen_repeats p part y vs r)

  pub widen : {A : Type 0} (p : Rule l A) (ts : List l.Token) (v : A) → Spells N c p ts v → Spells M d p ts v
  widen (nothing a) ts v s = s
  widen (token k) ts v s = s
  widen (both p q) ts v (x, y, e, s, r) = (x, y, e, widen p x v.0 s, widen q y v.1 r)
  widen (either p q) ts v (inl s) = inl (widen p ts v s)
  widen (either p q) ts v (inr s) = inr (widen q ts v s)
  widen (many limit p) ts vs (h, r) = (loose limit (length vs) h, widen_repeats p (widen p) ts vs r)
  widen (means f p) ts v (a, s, e) = (a, widen p ts a s, e)
  widen (inside k n) ts v (t, rest, real, e, f, s) = (t, rest, real, e, f, nests n rest v s)

pub uncounted : (limit : Option ℕ) (n : ℕ) → Within true limit n → Within false limit n
uncounted limit n h = tt

pub deeper : {l : Language} (g : Grammar l) (d : Bool) (loose : (limit : Option ℕ) (n : ℕ) → Within true limit n → Within d limit n)
    (m : ℕ) (n : l.Nonterminal) (ts : List l.Token) (v : l.Tree) → NestsIn g true m n ts v → NestsIn g d (suc m) n ts v
deeper g d loose zero n ts v s = absurd s
deeper {l} g d loose (suc m) n ts v s = widen l (NestsIn g true m) (NestsIn g d (suc m)) true d (deeper g d loose m) loose (g.rule n) ts v s
