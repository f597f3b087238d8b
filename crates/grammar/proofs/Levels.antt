-- The trace of reading with so many levels, by recursion on these.
use Rattle.std.proofs.Common.{◌≡◌, ℕ, zero, suc, Bool, true, false, List, [], ◌∷◌, ◌++◌, Option, Some, None, Result, Ok, Err, refl, inl, inr, ap, sym, ◌∙◌, subst}
use Rattle.std.specs.Prelude.{◌&&◌}
use Rattle.std.specs.List.{AllByRecursion}
use Rattle.grammar.specs.Language.{Language, IsLanguage}
use Rattle.grammar.specs.Rule.{Rule, Grammar, inside}
use Rattle.grammar.specs.Text.{Spells, NestsIn}
use Rattle.grammar.specs.Checks.{is_plain, is_completable, is_predictive, is_good_rule, is_good, goes_on, are_among}
use Rattle.grammar.specs.Reading.{read, reader}
use Rattle.grammar.specs.declared.ParseFault.{ParseFault}
use Rattle.grammar.specs.declared.ParseFault.TheVariants.{Syntax, Nesting, TooMany}
use Rattle.grammar.proofs.Truths.{and_left, and_right, tested}
use Rattle.grammar.proofs.Completions.{Begun, plain}
use Rattle.grammar.proofs.Shorter.{solid_shorter}
use Rattle.grammar.proofs.Widen.{uncounted, deeper}
use Rattle.grammar.proofs.ReadTraces.{peek, Opens, Finds, IsViable, Trace, Traced, traced}

-- the tests that each nonterminal's rule passes
pub record IsGrammar {l : Language} (g : Grammar l) : Type 0 where
  pub plain : (n : l.Nonterminal) → is_plain (g.rule n) ≡ true
  pub completable : (n : l.Nonterminal) → is_completable (g.rule n) ≡ true
  pub predictive : (n : l.Nonterminal) → is_predictive g (g.rule n) ≡ true
  pub closed : (n : l.Nonterminal) → are_among l (goes_on g (g.rule n)) (g.after n) ≡ true

pub grammar_of : {l : Language} {A : Type 0} (w : IsLanguage l) (g : Grammar l) (p : Rule l A) → is_good g p ≡ true → IsGrammar g
grammar_of {l} w g p e = record {
  plain = λ n. and_left (is_plain (g.rule n)) _ (and_left _ (is_predictive g (g.rule n)) (and_left (is_good_rule g (g.rule n)) _ (each n)));
  completable = λ n. and_right (is_plain (g.rule n)) _ (and_left _ (is_predictive g (g.rule n)) (and_left (is_good_rule g (g.rule n)) _ (each n)));
  predictive = λ n. and_right (is_plain (g.rule n) && is_completable (g.rule n)) _ (and_left (is_good_rule g (g.rule n)) _ (each n));
  closed = λ n. and_right (is_good_rule g (g.rule n)) _ (each n);
}
  where
    each : (n : l.Nonterminal) → (is_good_rule g (g.rule n) && are_among l (goes_on g (g.rule n)) (g.after n)) ≡ true
    each = w.each (λ n. is_good_rule g (g.rule n) && are_among l (goes_on g (g.rule n)) (g.after n)) (and_right (is_good_rule g p) _ e)

module _ (l : Language) (w : IsLanguage l) (g : Grammar l) (good : IsGrammar g) where
  abbrev pub TracedIn : ℕ → {A : Type 0} → Rule l A → List l.Token → Type 0
  TracedIn m p ts = Traced l w g (reader g m) (NestsIn g true m) (NestsIn g true (suc m)) (NestsIn g false (suc m)) p ts

  abbrev TraceIn : ℕ → {A : Type 0} → Rule l A → List l.Token → Result A ParseFault → Option l.Token → Type 0
  TraceIn m p x o next = Trace l w g (reader g m) (NestsIn g true m) (NestsIn g true (suc m)) (NestsIn g false (suc m)) p x o next

  nested_end : (m : ℕ) (k : l.Kind) (n : l.Nonterminal) → TracedIn m (inside k n) []
  nested_end m k n = record { took = []; rest = []; outcome = Err Syntax; split = refl; trace = record { reads = ended; finds = tt; viable = inl refl } }
    where
      ended : (rest : List l.Token) → peek rest ≡ None → read {l = l} (reader g m) (inside k n) rest ≡ (Err Syntax, rest)
      ended [] e = refl
      ended (t ∷ rest) e = absurd (cc)

  nested_other : (m : ℕ) (k : l.Kind) (n : l.Nonterminal) (t : l.Token) (ts : List l.Token) → l.same (l.kind t) k ≡ false → TracedIn m (inside k n) (t ∷ ts)
  nested_other m k n t ts e = record { took = []; rest = t ∷ ts; outcome = Err Syntax; split = refl; trace = record { reads = other; finds = tt; viable = inl refl } }
    where
      other : (rest : List l.Token) → peek rest ≡ Some t → read {l = l} (reader g m) (inside k n) rest ≡ (Err Syntax, rest)
      other [] h = absurd (cc)
      other (u ∷ rest) h = let same : u ≡ t = cc in let f : l.same (l.kind u) k ≡ false = ap (λ z. l.same (l.kind z) k) same ∙ e in rw f refl

  nested_deep : (k : l.Kind) (n : l.Nonterminal) (t : l.Token) (ts : List l.Token) → l.IsToken t → l.same (l.kind t) k ≡ true → TracedIn 0 (inside k n) (t ∷ ts)
  nested_deep k n t ts real e =
      record { took = []; rest = t ∷ ts; outcome = Err Nesting; split = refl; trace = record { reads = too_deep; finds = one_deeper; viable = inl refl } }
    where
      too_deep : (rest : List l.Token) → peek rest ≡ Some t → read {l = l} (reader g 0) (inside k n) rest ≡ (Err Nesting, rest)
      too_deep [] h = absurd (cc)
      too_deep (u ∷ rest) h = let same : u ≡ t = cc in let f : l.same (l.kind u) k ≡ true = ap (λ z. l.same (l.kind z) k) same ∙ e in rw f refl

      some : (ts : List l.Token) × (v : l.Tree) × Spells (NestsIn g true 0) true (g.rule n) ts v
      some = plain l w (NestsIn g true 0) true (g.rule n) (good.plain n)

      one_deeper : Begun {l = l} (NestsIn g true 1) true (inside k n) (t ∷ [])
      one_deeper = (some.0, some.1, (t, some.0, real, w.same_true (l.kind t) k e, refl, some.2))

  nested_reads : (m : ℕ) (k : l.Kind) (n : l.Nonterminal) (t : l.Token) (ts : List l.Token) → l.same (l.kind t) k ≡ true
      → read {l = l} (reader g (suc m)) (inside k n) (t ∷ ts) ≡ read (reader g m) (g.rule n) ts
  nested_reads m k n t ts e = rw e refl

  begun_inside : (c : Bool) (m : ℕ) (k : l.Kind) (n : l.Nonterminal) (t : l.Token) (x : List l.Token) → l.IsToken t → l.kind t ≡ k
      → Begun (NestsIn g c m) c (g.rule n) x → Begun {l = l} (NestsIn g c (suc m)) c (inside k n) (t ∷ x)
  begun_inside c m k n t x real e (more, v, s) = (more, v, (t, x ++ more, real, e, refl, s))

  opens_inside : (c : Bool) (m : ℕ) (k : l.Kind) (n : l.Nonterminal) (t : l.Token) (x : List l.Token) (next : Option l.Token) → l.IsToken t → l.kind t ≡ k
      → Opens (NestsIn g c m) c (g.rule n) x next → Opens {l = l} (NestsIn g c (suc m)) c (inside k n) (t ∷ x) next
  opens_inside c m k n t x None real e h = h
  opens_inside c m k n t x (Some u) real e h = begun_inside c m k n t (x ++ u ∷ []) real e h

  nested_trace : (m : ℕ) (k : l.Kind) (n : l.Nonterminal) (t : l.Token) (x : List l.Token) (o : Result l.Tree ParseFault) (next : Option l.Token) → l.IsToken t
      → l.same (l.kind t) k ≡ true → TraceIn m (g.rule n) x o next → TraceIn (suc m) (inside k n) (t ∷ x) o next
  nested_trace m k n t x o next real e i = record {
    reads = λ rest h. nested_reads m k n t (x ++ rest) e ∙ i.reads rest h;
    finds = finds o i.finds;
    viable = viable o i.viable;
  }
    where
      kind_is : l.kind t ≡ k
      kind_is = w.same_true (l.kind t) k e

      finds : (o : Result l.Tree ParseFault) → Finds l w g (reader g m) (NestsIn g true m) (NestsIn g true (suc m)) (NestsIn g false (suc m)) (g.rule n) x o next
          → Finds l w g (reader g (suc m)) (NestsIn g true (suc m)) (NestsIn g true (suc (suc m))) (NestsIn g false (suc (suc m))) (inside k n) (t ∷ x) o next
      finds (Ok v) s = (t, x, real, kind_is, refl, s)
      finds (Err Syntax) s = tt
      finds (Err Nesting) s = opens_inside true (suc m) k n t x next real kind_is s
      finds (Err TooMany) s = opens_inside false (suc m) k n t x next real kind_is s

      some : (ts : List l.Token) × (v : l.Tree) × Spells (NestsIn g true m) true (g.rule n) ts v
      some = plain l w (NestsIn g true m) true (g.rule n) (good.plain n)

      viable : (o : Result l.Tree ParseFault) → IsViable l w g (reader g m) (NestsIn g true m) (NestsIn g true (suc m)) (NestsIn g false (suc m)) (g.rule n) x o
          → IsViable l w g (reader g (suc m)) (NestsIn g true (suc m)) (NestsIn g true (suc (suc m))) (NestsIn g false (suc (suc m))) (inside k n) (t ∷ x) o
      viable (Ok v) h = tt
      viable (Err s) (inl h) = inr (subst (λ z. Begun {l = l} (NestsIn g true (suc m)) true (inside k n) (t ∷ z)) (sym h) (begun_inside true m k n t [] real kind_is some))
      viable (Err s) (inr b) = inr (begun_inside true m k n t x real kind_is b)

  has_some : (m : ℕ) (n : l.Nonterminal) → (ts : List l.Token) × (v : l.Tree) × NestsIn g false (suc m) n ts v
  has_some m n = plain l w (NestsIn g false m) false (g.rule n) (good.plain n)

  nested_traced : (m : ℕ) (k : l.Kind) (n : l.Nonterminal) (ts : List l.Token) → AllByRecursion l.IsToken ts → TracedIn m (inside k n) ts
  nested_traced m k n [] real = nested_end m k n
  nested_traced zero k n (t ∷ ts) real = elim (tested (l.same (l.kind t) k)) [ inl e ↦ nested_deep k n t ts real.0 e | inr e ↦ nested_other 0 k n t ts e ]
  nested_traced (suc m) k n (t ∷ ts) real =
      elim (tested (l.same (l.kind t) k)) [
        | inl e ↦
            let i = traced l w g (reader g m) (NestsIn g true m) (NestsIn g true (suc m)) (NestsIn g false (suc m)) (deeper g true (λ limit n h. h) m)
            (deeper g false uncounted m) (has_some m) (λ A p h. solid_shorter l g m p h) (nested_traced m) (g.rule n) (good.completable n) (good.predictive n) ts real.1 in
            record {
              took = t ∷ i.took;
              rest = i.rest;
              outcome = i.outcome;
              split = ap (λ z. t ∷ z) i.split;
              trace = nested_trace m k n t i.took i.outcome (peek i.rest) real.0 e i.trace;
            }
        | inr e ↦ nested_other (suc m) k n t ts e
      ]

  pub traced_in : (m : ℕ) {A : Type 0} (p : Rule l A) → is_completable p ≡ true → is_predictive g p ≡ true → (ts : List l.Token) → AllByRecursion l.IsToken ts → TracedIn m p ts
  traced_in m p completable predictive ts real =
      traced l w g (reader g m) (NestsIn g true m) (NestsIn g true (suc m)) (NestsIn g false (suc m)) (deeper g true (λ limit n h. h) m)
      (deeper g false uncounted m) (has_some m) (λ A p h. solid_shorter l g m p h) (nested_traced m) p completable predictive ts real
