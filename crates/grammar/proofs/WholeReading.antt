-- Reading a whole list one token ahead gives its value, or its one fault.
use Rattle.std.proofs.Common.{◌≡◌, ℕ, suc, ◌<◌, Bool, true, false, List, [], ◌∷◌, ◌++◌, Option, Some, None, Result, Ok, Err, refl, ◌⊎◌, inl, inr, ap, sym, ◌∙◌, subst, append_assoc, arith}
use Rattle.std.specs.Prelude.{◌&&◌}
use Rattle.std.specs.List.{AllByRecursion}
use Rattle.std.proofs.lemmas.List.{append-nil}
use Rattle.grammar.specs.Language.{Language, IsLanguage}
use Rattle.grammar.specs.Rule.{Rule, Grammar}
use Rattle.grammar.specs.Text.{NestsIn, IsText, Begins, StopsAt, FaultsAt, Judges}
use Rattle.grammar.specs.Checks.{is_plain, is_completable, is_predictive, is_good_rule, is_good}
use Rattle.grammar.specs.Reading.{Found, read, reader, at_end, parse}
use Rattle.grammar.specs.declared.ParseFault.{ParseFault}
use Rattle.grammar.specs.declared.ParseFault.TheVariants.{Syntax, Nesting, TooMany}
use Rattle.grammar.proofs.Truths.{and_left, and_right}
use Rattle.grammar.proofs.Completions.{plain}
use Rattle.grammar.proofs.Complete.{Takes, text_takes}
use Rattle.grammar.proofs.ReadTraces.{peek, Trace}
use Rattle.grammar.proofs.Levels.{IsGrammar, grammar_of, traced_in}

module _ (l : Language) (w : IsLanguage l) (g : Grammar l) {A : Type 0} (p : Rule l A) (good : is_good g p ≡ true) (m : ℕ) where
  predictive : is_predictive g p ≡ true
  predictive = and_right (is_plain p && is_completable p) _ (and_left (is_good_rule g p) _ good)

  completable : is_completable p ≡ true
  completable = and_right (is_plain p) _ (and_left _ (is_predictive g p) (and_left (is_good_rule g p) _ good))

  nonterminals : IsGrammar g
  nonterminals = grammar_of w g p good

  abbrev TracedAt : List l.Token → Result A ParseFault → Option l.Token → Type 0
  TracedAt x o next = Trace l w g (reader g m) (NestsIn g true m) (NestsIn g true (suc m)) (NestsIn g false (suc m)) p x o next

  -- what reading does with a text of any number of levels
  takes : (counted : Bool) (n : ℕ) (ts : List l.Token) (v : A) → IsText g counted n p ts v → Takes (m < n) counted v [] (read (reader g m) p ts)
  takes counted n ts v s =
      subst (λ z. Takes (m < n) counted v [] (read (reader g m) p z)) (append-nil ts)
      (text_takes l w g counted nonterminals.predictive nonterminals.closed p predictive n m ts v s)

  -- what reading does with any text that has the front and the next token that were seen
  takes_front : (x : List l.Token) (t : l.Token) (o : Result A ParseFault) → ((r : List l.Token) → peek r ≡ Some t → read (reader g m) p (x ++ r) ≡ (o, r))
      → (counted : Bool) (n : ℕ) (more : List l.Token) (v : A) → IsText g counted n p (x ++ t ∷ [] ++ more) v → Takes (m < n) counted v [] (o, t ∷ more)
  takes_front x t o reads counted n more v s =
      subst (Takes (m < n) counted v []) (reads (t ∷ more) refl)
      (subst (λ z. Takes (m < n) counted v [] (read (reader g m) p z)) (append_assoc x (t ∷ []) more) (takes counted n (x ++ t ∷ [] ++ more) v s))

  -- the tokens up to the next one, the next one, and what follows
  stops_syntax : (x rest : List l.Token) → ((r : List l.Token) → peek r ≡ peek rest → (o : Found l.Token A) × (read (reader g m) p (x ++ r) ≡ o)
      × ((counted : Bool) (n : ℕ) (v : A) → Takes (m < n) counted v [] o → ⊥)) → StopsAt g m p x Syntax rest
  stops_syntax x [] none = λ counted n v s.
      let r = none [] refl in
      r.2 counted n v (subst (Takes (m < n) counted v []) (ap (read (reader g m) p) (sym (append-nil x)) ∙ r.1) (takes counted n x v s))
  stops_syntax x (t ∷ ts) none = λ counted n b.
      let r = none (t ∷ b.0) refl in
      r.2 counted n b.1 (subst (Takes (m < n) counted b.1 []) r.1
      (subst (λ z. Takes (m < n) counted b.1 [] (read (reader g m) p z)) (append_assoc x (t ∷ []) b.0) (takes counted n (x ++ t ∷ [] ++ b.0) b.1 b.2)))

  -- a value with tokens behind it is a fault at these
  more_behind : (x : List l.Token) (t : l.Token) (ts : List l.Token) (v : A) → TracedAt x (Ok v) (Some t) → FaultsAt g m p (x ++ t ∷ ts) Syntax (t ∷ ts)
  more_behind x t ts v k = (
    x,
    refl,
    ([], v, subst (λ z. IsText g true m p z v) (sym (append-nil x)) k.finds),
    stops_syntax x (t ∷ ts) (λ r h. ((Ok v, r), k.reads r h, λ counted n u e. other r (h ∙ refl) (sym e.1))),
  )
    where
      other : (r : List l.Token) → peek r ≡ Some t → [] ≡ r → ⊥
      other r h e = let none : None ≡ Some t = ap peek e ∙ h in absurd (cc)

  fault : (x rest : List l.Token) (s : ParseFault) → TracedAt x (Err s) (peek rest) → StopsAt g m p x s rest
  fault x rest Syntax k = stops_syntax x rest (λ r h. ((Err Syntax, r), k.reads r h, λ counted n v e. e))
  fault x [] Nesting k = k.finds
  fault x (t ∷ ts) Nesting k = (k.finds, λ counted b. absurd (not_less (takes_front x t (Err Nesting) k.reads counted m b.0 b.1 b.2)))
    where
      not_less : m < m → ⊥
      not_less h = omega arith
  fault x [] TooMany k = k.finds
  fault x (t ∷ ts) TooMany k = (k.finds, λ n b. let e : true ≡ false = takes_front x t (Err TooMany) k.reads true n b.0 b.1 b.2 in absurd (cc))

  viable : (x : List l.Token) (s : ParseFault) (next : Option l.Token) → TracedAt x (Err s) next → Begins g true m p x
  viable x s next k = go k.viable
    where
      go : (x ≡ []) ⊎ Begins g true m p x → Begins g true m p x
      go (inl e) = subst (Begins g true m p) (sym e) (plain l w (NestsIn g true m) true p (and_left (is_plain p) _ (and_left _ (is_predictive g p) (and_left (is_good_rule g p) _ good))))
      go (inr b) = b

  judges : (ts x rest : List l.Token) (o : Result A ParseFault) → ts ≡ x ++ rest → TracedAt x o (peek rest)
      → Judges g m p ts (at_end (o, rest)).0 (at_end (o, rest)).1
  judges ts x [] (Ok v) e k = subst (λ z. IsText g true m p z v) (sym (e ∙ append-nil x)) k.finds
  judges ts x (t ∷ rest) (Ok v) e k = subst (λ z. FaultsAt g m p z Syntax (t ∷ rest)) (sym e) (more_behind x t rest v k)
  judges ts x rest (Err s) e k = (x, e, viable x s (peek rest) k, fault x rest s k)

  pub judged : (ts : List l.Token) → AllByRecursion l.IsToken ts → Judges g m p ts (parse g m p ts).0 (parse g m p ts).1
  judged ts real =
      let t = traced_in l w g nonterminals m p completable predictive ts real in
      let seen : read (reader g m) p ts ≡ (t.outcome, t.rest) = ap (read (reader g m) p) t.split ∙ t.trace.reads t.rest refl in
      subst (λ z. Judges g m p ts (at_end z).0 (at_end z).1) (sym seen) (judges ts t.took t.rest t.outcome t.split t.trace)

  -- a text is read to its value, so it has no other
  pub parsed : (ts : List l.Token) (v : A) → IsText g true m p ts v → parse g m p ts ≡ (Ok v, [])
  parsed ts v s = ended (read (reader g m) p ts) (takes true m ts v s)
    where
      ended : (r : Found l.Token A) → Takes (m < m) true v [] r → at_end r ≡ (Ok v, [])
      ended (Ok u, rest) h = subst (λ z. at_end (Ok u, z) ≡ (Ok v, [])) (sym h.1) (ap (λ z. (Ok z, [])) h.0)
      ended (Err Syntax, rest) h = absurd h
      ended (Err Nesting, rest) h = absurd (omega arith)
      ended (Err TooMany, rest) h = absurd (cc)
