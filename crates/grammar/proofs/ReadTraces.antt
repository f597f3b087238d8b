-- What reading does with any tokens: what it took, what it found there, and that it looked no
-- further than at the next token.
use Rattle.std.proofs.Common.{◌≡◌, ℕ, zero, suc, ◌≤◌, ◌<◌, Bool, true, false, List, [], ◌∷◌, ◌++◌, length, Option, Some, None, Result, Ok, Err, refl, ◌⊎◌, inl, inr, ap, sym, ◌∙◌, subst, arith, append_assoc}
use Rattle.std.specs.Prelude.{not, ◌&&◌}
use Rattle.std.specs.List.{AllByRecursion}
use Rattle.std.proofs.lemmas.List.{length-append, append-nil}
use Rattle.grammar.specs.Language.{Language, IsLanguage}
use Rattle.grammar.specs.Rule.{Rule, Grammar, nothing, token, both, either, many, means, inside}
use Rattle.grammar.specs.Text.{Nests, Within, Spells}
use Rattle.grammar.specs.Checks.{has, are_apart, is_nullable, first, goes_on, is_predictive, is_plain, is_completable}
use Rattle.grammar.specs.Reading.{Reader, begins, and_then, take_token, is_full, one_less, read}
use Rattle.grammar.specs.declared.ParseFault.{ParseFault}
use Rattle.grammar.specs.declared.ParseFault.TheVariants.{Syntax, Nesting, TooMany}
use Rattle.grammar.proofs.Truths.{and_left, and_right, not_true, not_both, tested}
use Rattle.grammar.proofs.Starts.{Starts, starts}
use Rattle.grammar.proofs.Completions.{Begun, plain, opened, begun_first, begun_second, begun_part}
use Rattle.grammar.proofs.Shorter.{Shortens, many_step}
use Rattle.grammar.proofs.Widen.{widen, uncounted}

abbrev pub peek : {T : Type 0} → List T → Option T
peek [] = None
peek (t ∷ _) = Some t

pub peek_append : {T : Type 0} (x a b : List T) → peek a ≡ peek b → peek (x ++ a) ≡ peek (x ++ b)
peek_append [] a b e = e
peek_append (t ∷ x) a b e = refl

-- lists with the same first token begin alike
begins_alike : (l : Language) (ks : List l.Kind) (a b : List l.Token) → peek a ≡ peek b → begins l ks a ≡ begins l ks b
begins_alike l ks [] [] e = refl
begins_alike l ks [] (u ∷ b) e = absurd (cc)
begins_alike l ks (t ∷ a) [] e = absurd (cc)
begins_alike l ks (t ∷ a) (u ∷ b) e = let same : t ≡ u = cc in ap (λ z. has l ks (l.kind z)) same

begins_same : (l : Language) (ks : List l.Kind) (ts x rest : List l.Token) (b : Bool) → ts ≡ x ++ rest → begins l ks ts ≡ b
    → (other : List l.Token) → peek other ≡ peek rest → begins l ks (x ++ other) ≡ b
begins_same l ks ts x rest b e f other h = begins_alike l ks (x ++ other) ts (peek_append x other rest h ∙ ap peek (sym e)) ∙ f

-- the tokens so far and the next one begin a text
abbrev pub Opens : {l : Language} {A : Type 0} → Nests l → Bool → Rule l A → List l.Token → Option l.Token → Type 0
Opens N counted p x None = ⊥
Opens N counted p x (Some t) = Begun N counted p (x ++ t ∷ [])

-- N nests with the levels that there are, D with one more, and M with one more and without limits
-- of parts
module _ (l : Language) (w : IsLanguage l) (g : Grammar l) (R : Reader l) (N D M : Nests l) where
  abbrev pub Finds : {A : Type 0} → Rule l A → List l.Token → Result A ParseFault → Option l.Token → Type 0
  Finds p x (Ok v) next = Spells N true p x v
  Finds p x (Err Syntax) next = Unit {0}
  Finds p x (Err Nesting) next = Opens D true p x next
  Finds p x (Err TooMany) next = Opens M false p x next

  abbrev pub IsViable : {A : Type 0} → Rule l A → List l.Token → Result A ParseFault → Type 0
  IsViable p x (Ok v) = Unit {0}
  IsViable p x (Err s) = (x ≡ []) ⊎ Begun N true p x

  -- reading took x, found o there, and looked no further than at the next token
  pub record Trace {A : Type 0} (p : Rule l A) (x : List l.Token) (o : Result A ParseFault) (next : Option l.Token) : Type 0 where
    pub reads : (rest : List l.Token) → peek rest ≡ next → read R p (x ++ rest) ≡ (o, rest)
    pub finds : Finds p x o next
    pub viable : IsViable p x o

  pub record Traced {A : Type 0} (p : Rule l A) (ts : List l.Token) : Type 0 where
    pub took : List l.Token
    pub rest : List l.Token
    pub outcome : Result A ParseFault
    pub split : ts ≡ took ++ rest
    pub trace : Trace p took outcome (peek rest)

  begun_left : {A : Type 0} (c : Bool) (K : Nests l) (p q : Rule l A) (ts : List l.Token) → Begun K c p ts → Begun K c (either p q) ts
  begun_left c K p q ts b = (b.0, b.1, inl b.2)

  begun_right : {A : Type 0} (c : Bool) (K : Nests l) (p q : Rule l A) (ts : List l.Token) → Begun K c q ts → Begun K c (either p q) ts
  begun_right c K p q ts b = (b.0, b.1, inr b.2)

  begun_means : {A B : Type 0} (c : Bool) (K : Nests l) (f : A → B) (p : Rule l A) (ts : List l.Token) → Begun K c p ts → Begun K c (means f p) ts
  begun_means c K f p ts b = (b.0, f b.1, (b.1, b.2, refl))

  begun_more : {A : Type 0} (c : Bool) (K : Nests l) (limit : Option ℕ) (p : Rule l A) (x y : List l.Token) (v : A)
      → ((n : ℕ) → Within c (one_less limit) n → Within c limit (suc n)) → Spells K c p x v → Begun K c (many (one_less limit) p) y → Begun K c (many limit p) (x ++ y)
  begun_more c K limit p x y v grow s (more, vs, (h, r)) = (more, v ∷ vs, (grow (length vs) h, (x, y ++ more, append_assoc x y more, s, r)))

  -- a fault keeps what was found where what begins the one rule begins the other
  record Lifts {A B : Type 0} (p : Rule l A) (r : Rule l B) (x y : List l.Token) : Type 0 where
    in_n : (more : List l.Token) → Begun N true p (x ++ more) → Begun N true r (y ++ more)
    in_d : (more : List l.Token) → Begun D true p (x ++ more) → Begun D true r (y ++ more)
    in_m : (more : List l.Token) → Begun M false p (x ++ more) → Begun M false r (y ++ more)

  lift_opens : {A B : Type 0} (K : Nests l) (c : Bool) (p : Rule l A) (r : Rule l B) (x y : List l.Token) (next : Option l.Token)
      → ((more : List l.Token) → Begun K c p (x ++ more) → Begun K c r (y ++ more)) → Opens K c p x next → Opens K c r y next
  lift_opens K c p r x y None up h = h
  lift_opens K c p r x y (Some t) up h = up (t ∷ []) h

  lift_finds : {A B : Type 0} (p : Rule l A) (r : Rule l B) (x y : List l.Token) (s : ParseFault) (next : Option l.Token)
      → Lifts p r x y → Finds p x (Err s) next → Finds r y (Err s) next
  lift_finds p r x y Syntax next up h = tt
  lift_finds p r x y Nesting next up h = lift_opens D true p r x y next up.in_d h
  lift_finds p r x y TooMany next up h = lift_opens M false p r x y next up.in_m h

  begun_end : {A : Type 0} (p : Rule l A) (x : List l.Token) → Begun N true p (x ++ []) → Begun N true p x
  begun_end p x b = subst (Begun N true p) (append-nil x) b

  begun_start : {A : Type 0} (p : Rule l A) (x : List l.Token) → Begun N true p x → Begun N true p (x ++ [])
  begun_start p x b = subst (Begun N true p) (sym (append-nil x)) b

  -- the whole of what the one took
  lift_viable : {A B : Type 0} (p : Rule l A) (r : Rule l B) (x y : List l.Token) (s : ParseFault)
      → Lifts p r x y → (x ≡ [] → (y ≡ []) ⊎ Begun N true r y) → IsViable p x (Err s) → IsViable r y (Err s)
  lift_viable p r x y s up none (inl e) = none e
  lift_viable p r x y s up none (inr b) = inr (begun_end r y (up.in_n [] (begun_start p x b)))

  token_traced : (k : l.Kind) (ts : List l.Token) → AllByRecursion l.IsToken ts → Traced (token k) ts
  token_traced k [] real = record {
    took = [];
    rest = [];
    outcome = Err Syntax;
    split = refl;
    trace = record { reads = ended; finds = tt; viable = inl refl };
  }
    where
      ended : (rest : List l.Token) → peek rest ≡ None → take_token l k rest ≡ (Err Syntax, rest)
      ended [] e = refl
      ended (t ∷ rest) e = absurd (cc)
  token_traced k (t ∷ ts) real = by_kind (tested (l.same (l.kind t) k))
    where
      is_taken : l.same (l.kind t) k ≡ true → (rest : List l.Token) → take_token l k (t ∷ rest) ≡ (Ok t, rest)
      is_taken e rest = rw e refl

      is_not : l.same (l.kind t) k ≡ false → (rest : List l.Token) → peek rest ≡ Some t → take_token l k rest ≡ (Err Syntax, rest)
      is_not e [] h = absurd (cc)
      is_not e (u ∷ rest) h = let same : u ≡ t = cc in let f : l.same (l.kind u) k ≡ false = ap (λ z. l.same (l.kind z) k) same ∙ e in rw f refl

      by_kind : (l.same (l.kind t) k ≡ true) ⊎ (l.same (l.kind t) k ≡ false) → Traced (token k) (t ∷ ts)
      by_kind (inl e) = record {
        took = t ∷ [];
        rest = ts;
        outcome = Ok t;
        split = refl;
        trace = record { reads = λ rest _. is_taken e rest; finds = (real.0, w.same_true (l.kind t) k e, refl); viable = tt };
      }
      by_kind (inr e) = record {
        took = [];
        rest = t ∷ ts;
        outcome = Err Syntax;
        split = refl;
        trace = record { reads = is_not e; finds = tt; viable = inl refl };
      }

  all_right : (x y : List l.Token) → AllByRecursion l.IsToken (x ++ y) → AllByRecursion l.IsToken y
  all_right [] y h = h
  all_right (t ∷ x) y h = all_right x y h.1

  all_rest : (ts x y : List l.Token) → ts ≡ x ++ y → AllByRecursion l.IsToken ts → AllByRecursion l.IsToken y
  all_rest ts x y e h = all_right x y (subst (AllByRecursion l.IsToken) e h)

  module _ (in_d : (n : l.Nonterminal) (ts : List l.Token) (v : l.Tree) → N n ts v → D n ts v)
      (in_m : (n : l.Nonterminal) (ts : List l.Token) (v : l.Tree) → N n ts v → M n ts v)
      (has_some : (n : l.Nonterminal) → (ts : List l.Token) × (v : l.Tree) × M n ts v)
      (short : (A : Type 0) (p : Rule l A) → is_nullable p ≡ false → (ts : List l.Token) → Shortens 1 ts (read R p ts))
      (nested : (k : l.Kind) (n : l.Nonterminal) (ts : List l.Token) → AllByRecursion l.IsToken ts → Traced (inside k n) ts) where
    to_d : {A : Type 0} (p : Rule l A) (x : List l.Token) (v : A) → Spells N true p x v → Spells D true p x v
    to_d p x v s = widen l N D true true in_d (λ limit n h. h) p x v s

    to_m : {A : Type 0} (p : Rule l A) (x : List l.Token) (v : A) → Spells N true p x v → Spells M false p x v
    to_m p x v s = widen l N M true false in_m uncounted p x v s

    first_fault : {A B : Type 0} (p : Rule l A) (q : Rule l B) (x rest : List l.Token) (s : ParseFault) → is_plain q ≡ true
        → Trace p x (Err s) (peek rest) → Trace (both p q) x (Err s) (peek rest)
    first_fault p q x rest s plain_q t = record {
      reads = λ r h. rw (t.reads r h) refl;
      finds = lift_finds p (both p q) x x s (peek rest) lifts t.finds;
      viable = lift_viable p (both p q) x x s lifts inl t.viable;
    }
      where
        lifts : Lifts p (both p q) x x
        lifts = record {
          in_n = λ more b. begun_first l w N true p q (x ++ more) plain_q b;
          in_d = λ more b. begun_first l w D true p q (x ++ more) plain_q b;
          in_m = λ more b. begun_first l w M false p q (x ++ more) plain_q b;
        }

    second_lifts : {A B : Type 0} (p : Rule l A) (q : Rule l B) (x y : List l.Token) (v : A) → Spells N true p x v → Lifts q (both p q) y (x ++ y)
    second_lifts p q x y v s = record {
      in_n = λ more b. subst (Begun N true (both p q)) (sym (append_assoc x y more)) (begun_second l w N true p q x (y ++ more) v s b);
      in_d = λ more b. subst (Begun D true (both p q)) (sym (append_assoc x y more)) (begun_second l w D true p q x (y ++ more) v (to_d p x v s) b);
      in_m = λ more b. subst (Begun M false (both p q)) (sym (append_assoc x y more)) (begun_second l w M false p q x (y ++ more) v (to_m p x v s) b);
    }

    -- the first is read again in front of what the second took and anything like the rest
    first_again : {A : Type 0} (p : Rule l A) (x y mid rest : List l.Token) (v : A) → mid ≡ y ++ rest → Trace p x (Ok v) (peek mid)
        → (r : List l.Token) → peek r ≡ peek rest → read R p (x ++ y ++ r) ≡ (Ok v, y ++ r)
    first_again p x y mid rest v e t r h =
        subst (λ z. read R p z ≡ (Ok v, y ++ r)) (sym (append_assoc x y r)) (t.reads (y ++ r) (peek_append y r rest h ∙ ap peek (sym e)))

    second_ok : {A B : Type 0} (p : Rule l A) (q : Rule l B) (x y mid rest : List l.Token) (v : A) (u : B) → mid ≡ y ++ rest
        → Trace p x (Ok v) (peek mid) → Trace q y (Ok u) (peek rest) → Trace (both p q) (x ++ y) (Ok (v, u)) (peek rest)
    second_ok p q x y mid rest v u e t r = record {
      reads = λ z h. rw (first_again p x y mid rest v e t z h, r.reads z h) refl;
      finds = (x, y, refl, t.finds, r.finds);
      viable = tt;
    }

    second_fault : {A B : Type 0} (p : Rule l A) (q : Rule l B) (x y mid rest : List l.Token) (v : A) (s : ParseFault) → is_plain q ≡ true → mid ≡ y ++ rest
        → Trace p x (Ok v) (peek mid) → Trace q y (Err s) (peek rest) → Trace (both p q) (x ++ y) (Err s) (peek rest)
    second_fault p q x y mid rest v s plain_q e t r = record {
      reads = λ z h. rw (first_again p x y mid rest v e t z h, r.reads z h) refl;
      finds = lift_finds q (both p q) y (x ++ y) s (peek rest) lifts r.finds;
      viable = lift_viable q (both p q) y (x ++ y) s lifts none r.viable;
    }
      where
        lifts : Lifts q (both p q) y (x ++ y)
        lifts = second_lifts p q x y v t.finds

        some : (ts : List l.Token) × (u : _) × Spells N true q ts u
        some = plain l w N true q plain_q

        none : y ≡ [] → (x ++ y ≡ []) ⊎ Begun N true (both p q) (x ++ y)
        none h = inr (subst (λ z. Begun N true (both p q) (x ++ z)) (sym h) (some.0, (v, some.1), (x, some.0, ap (λ z. z ++ some.0) (append-nil x), t.finds, some.2)))

    both_traced : {A B : Type 0} (p : Rule l A) (q : Rule l B) (ts x rest : List l.Token) (o : Result A ParseFault) → is_plain q ≡ true → ts ≡ x ++ rest
        → Trace p x o (peek rest) → Traced q rest → Traced (both p q) ts
    both_traced p q ts x rest (Err s) plain_q e t r = record { took = x; rest = rest; outcome = Err s; split = e; trace = first_fault p q x rest s plain_q t }
    both_traced p q ts x mid (Ok v) plain_q e t r = then r.outcome r.trace
      where
        whole : ts ≡ x ++ r.took ++ r.rest
        whole = e ∙ ap (λ z. x ++ z) r.split ∙ sym (append_assoc x r.took r.rest)

        then : (o : Result _ ParseFault) → Trace q r.took o (peek r.rest) → Traced (both p q) ts
        then (Ok u) k = record { took = x ++ r.took; rest = r.rest; outcome = Ok (v, u); split = whole; trace = second_ok p q x r.took mid r.rest v u r.split t k }
        then (Err s) k = record { took = x ++ r.took; rest = r.rest; outcome = Err s; split = whole; trace = second_fault p q x r.took mid r.rest v s plain_q r.split t k }

    left_trace : {A : Type 0} (p q : Rule l A) (x : List l.Token) (o : Result A ParseFault) (next : Option l.Token)
        → ((r : List l.Token) → peek r ≡ next → begins l (first p) (x ++ r) ≡ true) → Trace p x o next → Trace (either p q) x o next
    left_trace p q x (Ok v) next chosen t = record { reads = λ r h. rw (chosen r h) (t.reads r h); finds = inl t.finds; viable = tt }
    left_trace p q x (Err s) next chosen t = record {
      reads = λ r h. rw (chosen r h) (t.reads r h);
      finds = lift_finds p (either p q) x x s next lifts t.finds;
      viable = lift_viable p (either p q) x x s lifts inl t.viable;
    }
      where
        lifts : Lifts p (either p q) x x
        lifts = record {
          in_n = λ more b. begun_left true N p q (x ++ more) b;
          in_d = λ more b. begun_left true D p q (x ++ more) b;
          in_m = λ more b. begun_left false M p q (x ++ more) b;
        }

    right_trace : {A : Type 0} (p q : Rule l A) (x : List l.Token) (o : Result A ParseFault) (next : Option l.Token)
        → ((r : List l.Token) → peek r ≡ next → begins l (first p) (x ++ r) ≡ false) → Trace q x o next → Trace (either p q) x o next
    right_trace p q x (Ok v) next chosen t = record { reads = λ r h. rw (chosen r h) (t.reads r h); finds = inr t.finds; viable = tt }
    right_trace p q x (Err s) next chosen t = record {
      reads = λ r h. rw (chosen r h) (t.reads r h);
      finds = lift_finds q (either p q) x x s next lifts t.finds;
      viable = lift_viable q (either p q) x x s lifts inl t.viable;
    }
      where
        lifts : Lifts q (either p q) x x
        lifts = record {
          in_n = λ more b. begun_right true N p q (x ++ more) b;
          in_d = λ more b. begun_right true D p q (x ++ more) b;
          in_m = λ more b. begun_right false M p q (x ++ more) b;
        }

    means_trace : {A B : Type 0} (f : A → B) (p : Rule l A) (ts x rest : List l.Token) (o : Result A ParseFault) → ts ≡ x ++ rest → Trace p x o (peek rest) → Traced (means f p) ts
    means_trace f p ts x rest (Ok v) e t = record {
      took = x;
      rest = rest;
      outcome = Ok (f v);
      split = e;
      trace = record { reads = λ r h. rw (t.reads r h) refl; finds = (v, t.finds, refl); viable = tt };
    }
    means_trace f p ts x rest (Err s) e t = record {
      took = x;
      rest = rest;
      outcome = Err s;
      split = e;
      trace = record {
        reads = λ r h. rw (t.reads r h) refl;
        finds = lift_finds p (means f p) x x s (peek rest) lifts t.finds;
        viable = lift_viable p (means f p) x x s lifts inl t.viable;
      };
    }
      where
        lifts : Lifts p (means f p) x x
        lifts = record {
          in_n = λ more b. begun_means true N f p (x ++ more) b;
          in_d = λ more b. begun_means true D f p (x ++ more) b;
          in_m = λ more b. begun_means false M f p (x ++ more) b;
        }

    within_one : (limit : Option ℕ) → is_full limit ≡ false → Within true limit 1
    within_one None e = tt
    within_one (Some zero) e = absurd (cc)
    within_one (Some (suc n)) e = omega arith

    within_more : (limit : Option ℕ) → is_full limit ≡ false → (n : ℕ) → Within true (one_less limit) n → Within true limit (suc n)
    within_more None e n h = tt
    within_more (Some zero) e n h = absurd (cc)
    within_more (Some (suc m)) e n h = omega arith

    no_round : {A : Type 0} (limit : Option ℕ) (p : Rule l A) (ts : List l.Token) → is_nullable p ≡ false → begins l (first p) ts ≡ false → Traced (many limit p) ts
    no_round limit p ts solid e = record {
      took = [];
      rest = ts;
      outcome = Ok [];
      split = refl;
      trace = record {
        reads = λ r h. many_step l R p (short _ p solid) limit r ∙ rw (begins_alike l (first p) r ts h ∙ e) refl;
        finds = (none limit, refl);
        viable = tt;
      };
    }
      where
        none : (limit : Option ℕ) → Within true limit 0
        none None = tt
        none (Some n) = omega arith

    full_round : {A : Type 0} (limit : Option ℕ) (p : Rule l A) (t : l.Token) (ts : List l.Token) → is_nullable p ≡ false → is_completable p ≡ true → l.IsToken t
        → begins l (first p) (t ∷ ts) ≡ true → is_full limit ≡ true → Traced (many limit p) (t ∷ ts)
    full_round limit p t ts solid completable real e full = record {
      took = [];
      rest = t ∷ ts;
      outcome = Err TooMany;
      split = refl;
      trace = record {
        reads = λ r h. many_step l R p (short _ p solid) limit r ∙ rw (begins_alike l (first p) r (t ∷ ts) h ∙ e, full) refl;
        finds = begun_part l w M false limit p (t ∷ []) tt (opened l w M has_some p t completable real e);
        viable = inl refl;
      };
    }

    round_fault : {A : Type 0} (limit : Option ℕ) (p : Rule l A) (ts x rest : List l.Token) (s : ParseFault) → is_nullable p ≡ false → is_full limit ≡ false → ts ≡ x ++ rest
        → begins l (first p) ts ≡ true → Trace p x (Err s) (peek rest) → Trace (many limit p) x (Err s) (peek rest)
    round_fault limit p ts x rest s solid room e go t = record {
      reads = λ r h. many_step l R p (short _ p solid) limit (x ++ r) ∙ rw (begins_same l (first p) ts x rest true e go r h, room, t.reads r h) refl;
      finds = lift_finds p (many limit p) x x s (peek rest) lifts t.finds;
      viable = lift_viable p (many limit p) x x s lifts inl t.viable;
    }
      where
        lifts : Lifts p (many limit p) x x
        lifts = record {
          in_n = λ more b. begun_part l w N true limit p (x ++ more) (within_one limit room) b;
          in_d = λ more b. begun_part l w D true limit p (x ++ more) (within_one limit room) b;
          in_m = λ more b. begun_part l w M false limit p (x ++ more) tt b;
        }

    more_reads : {A : Type 0} (limit : Option ℕ) (p : Rule l A) (ts x y mid rest : List l.Token) (v : A) → is_nullable p ≡ false → is_full limit ≡ false
        → ts ≡ x ++ mid → mid ≡ y ++ rest → begins l (first p) ts ≡ true → Trace p x (Ok v) (peek mid)
        → (r : List l.Token) → peek r ≡ peek rest
        → read R (many limit p) (x ++ y ++ r) ≡ and_then (read R (many (one_less limit) p) (y ++ r)) (λ vs end. (Ok (v ∷ vs), end))
    more_reads limit p ts x y mid rest v solid room e f go t r h =
        let begins_so : begins l (first p) (x ++ y ++ r) ≡ true =
        subst (λ z. begins l (first p) z ≡ true) (sym (append_assoc x y r)) (begins_same l (first p) ts x mid true e go (y ++ r) (peek_append y r rest h ∙ ap peek (sym f))) in
        many_step l R p (short _ p solid) limit (x ++ y ++ r) ∙ rw (begins_so, room, first_again p x y mid rest v f t r h) refl

    more_ok : {A : Type 0} (limit : Option ℕ) (p : Rule l A) (ts x y mid rest : List l.Token) (v : A) (vs : List A) → is_nullable p ≡ false → is_full limit ≡ false
        → ts ≡ x ++ mid → mid ≡ y ++ rest → begins l (first p) ts ≡ true → Trace p x (Ok v) (peek mid) → Trace (many (one_less limit) p) y (Ok vs) (peek rest)
        → Trace (many limit p) (x ++ y) (Ok (v ∷ vs)) (peek rest)
    more_ok limit p ts x y mid rest v vs solid room e f go t k = record {
      reads = λ r h. more_reads limit p ts x y mid rest v solid room e f go t r h ∙ rw (k.reads r h) refl;
      finds = (within_more limit room (length vs) k.finds.0, (x, y, refl, t.finds, k.finds.1));
      viable = tt;
    }

    more_fault : {A : Type 0} (limit : Option ℕ) (p : Rule l A) (ts x y mid rest : List l.Token) (v : A) (s : ParseFault) → is_nullable p ≡ false → is_full limit ≡ false
        → ts ≡ x ++ mid → mid ≡ y ++ rest → begins l (first p) ts ≡ true → Trace p x (Ok v) (peek mid) → Trace (many (one_less limit) p) y (Err s) (peek rest)
        → Trace (many limit p) (x ++ y) (Err s) (peek rest)
    more_fault limit p ts x y mid rest v s solid room e f go t k = record {
      reads = λ r h. more_reads limit p ts x y mid rest v solid room e f go t r h ∙ rw (k.reads r h) refl;
      finds = lift_finds (many (one_less limit) p) (many limit p) y (x ++ y) s (peek rest) lifts k.finds;
      viable = lift_viable (many (one_less limit) p) (many limit p) y (x ++ y) s lifts none k.viable;
    }
      where
        lifts : Lifts (many (one_less limit) p) (many limit p) y (x ++ y)
        lifts = record {
          in_n = λ more b. subst (Begun N true (many limit p)) (sym (append_assoc x y more)) (begun_more true N limit p x (y ++ more) v (within_more limit room) t.finds b);
          in_d = λ more b. subst (Begun D true (many limit p)) (sym (append_assoc x y more)) (begun_more true D limit p x (y ++ more) v (within_more limit room) (to_d p x v t.finds) b);
          in_m = λ more b. subst (Begun M false (many limit p)) (sym (append_assoc x y more)) (begun_more false M limit p x (y ++ more) v (λ n h. tt) (to_m p x v t.finds) b);
        }

        none : y ≡ [] → (x ++ y ≡ []) ⊎ Begun N true (many limit p) (x ++ y)
        none h = inr (subst (λ z. Begun N true (many limit p) (x ++ z)) (sym h) ([], v ∷ [], (within_one limit room, (x, [], append-nil (x ++ []), t.finds, refl))))

    more_traced : {A : Type 0} (limit : Option ℕ) (p : Rule l A) (ts x mid : List l.Token) (v : A) → is_nullable p ≡ false → is_full limit ≡ false
        → ts ≡ x ++ mid → begins l (first p) ts ≡ true → Trace p x (Ok v) (peek mid) → Traced (many (one_less limit) p) mid → Traced (many limit p) ts
    more_traced limit p ts x mid v solid room e go t k = then k.outcome k.trace
      where
        whole : ts ≡ x ++ k.took ++ k.rest
        whole = e ∙ ap (λ z. x ++ z) k.split ∙ sym (append_assoc x k.took k.rest)

        then : (o : Result (List _) ParseFault) → Trace (many (one_less limit) p) k.took o (peek k.rest) → Traced (many limit p) ts
        then (Ok vs) u = record {
          took = x ++ k.took;
          rest = k.rest;
          outcome = Ok (v ∷ vs);
          split = whole;
          trace = more_ok limit p ts x k.took mid k.rest v vs solid room e k.split go t u;
        }
        then (Err s) u = record {
          took = x ++ k.took;
          rest = k.rest;
          outcome = Err s;
          split = whole;
          trace = more_fault limit p ts x k.took mid k.rest v s solid room e k.split go t u;
        }

    solid_took : {A : Type 0} (p : Rule l A) (x : List l.Token) (v : A) → is_nullable p ≡ false → Spells N true p x v → 0 < length x
    solid_took p x v solid s = took x (starts l w N true p x v s)
      where
        took : (x : List l.Token) → Starts p x → 0 < length x
        took [] h = not_both (is_nullable p) h solid
        took (t ∷ x) h = omega arith

    part_traced : {A : Type 0} (bound : ℕ) (limit : Option ℕ) (p : Rule l A) (ts x rest : List l.Token) (o : Result A ParseFault) → is_nullable p ≡ false → is_full limit ≡ false
        → length ts ≤ suc bound → ts ≡ x ++ rest → begins l (first p) ts ≡ true → Trace p x o (peek rest)
        → (length rest ≤ bound → Traced (many (one_less limit) p) rest) → Traced (many limit p) ts
    part_traced bound limit p ts x rest (Err s) solid room fits e go t others =
        record { took = x; rest = rest; outcome = Err s; split = e; trace = round_fault limit p ts x rest s solid room e go t }
    part_traced bound limit p ts x rest (Ok v) solid room fits e go t others =
        let some = solid_took p x v solid t.finds in
        more_traced limit p ts x rest v solid room e go t (others (omega (arith, ap length e, length-append x rest)))

    many_traced : {A : Type 0} (p : Rule l A) → is_nullable p ≡ false → is_completable p ≡ true → ((ts : List l.Token) → AllByRecursion l.IsToken ts → Traced p ts)
        → (bound : ℕ) (limit : Option ℕ) (ts : List l.Token) → length ts ≤ bound → AllByRecursion l.IsToken ts → Traced (many limit p) ts
    many_traced p solid completable part bound limit [] fits real = no_round limit p [] solid refl
    many_traced p solid completable part zero limit (t ∷ ts) fits real = absurd (omega arith)
    many_traced p solid completable part (suc bound) limit (t ∷ ts) fits real =
        elim (tested (begins l (first p) (t ∷ ts))) [
          | inr stops ↦ no_round limit p (t ∷ ts) solid stops
          | inl go ↦ elim (tested (is_full limit)) [
            | inl full ↦ full_round limit p t ts solid completable real.0 go full
            | inr room ↦
                let one = part (t ∷ ts) real in
                part_traced bound limit p (t ∷ ts) one.took one.rest one.outcome solid room fits one.split go one.trace
                (λ fewer. many_traced p solid completable part bound (one_less limit) one.rest fewer (all_rest (t ∷ ts) one.took one.rest one.split real))
          ]
        ]

    pub traced : {A : Type 0} (p : Rule l A) → is_completable p ≡ true → is_predictive g p ≡ true → (ts : List l.Token) → AllByRecursion l.IsToken ts → Traced p ts
    traced (nothing a) completable predictive ts real =
        record { took = []; rest = ts; outcome = Ok a; split = refl; trace = record { reads = λ r h. refl; finds = (refl, refl); viable = tt } }
    traced (token k) completable predictive ts real = token_traced k ts real
    traced (both p q) completable predictive ts real =
        let one = traced p (and_right (is_plain q) _ (and_left _ (is_completable q) completable))
        (and_right (are_apart l (goes_on g p) (first q)) _ (and_left _ (is_predictive g q) predictive)) ts real in
        both_traced p q ts one.took one.rest one.outcome (and_left (is_plain q) _ (and_left _ (is_completable q) completable)) one.split one.trace
        (traced q (and_right (is_plain q && is_completable p) _ completable) (and_right (are_apart l (goes_on g p) (first q) && is_predictive g p) _ predictive)
        one.rest (all_rest ts one.took one.rest one.split real))
    traced (either p q) completable predictive ts real =
        elim (tested (begins l (first p) ts)) [
          | inl go ↦
              let one = traced p (and_left _ (is_completable q) completable)
              (and_right (not (is_nullable p) && are_apart l (first p) (first q)) _ (and_left _ (is_predictive g q) predictive)) ts real in
              record {
                took = one.took;
                rest = one.rest;
                outcome = one.outcome;
                split = one.split;
                trace = left_trace p q one.took one.outcome (peek one.rest) (begins_same l (first p) ts one.took one.rest true one.split go) one.trace;
              }
          | inr stops ↦
              let one = traced q (and_right (is_completable p) _ completable)
              (and_right (not (is_nullable p) && are_apart l (first p) (first q) && is_predictive g p) _ predictive) ts real in
              record {
                took = one.took;
                rest = one.rest;
                outcome = one.outcome;
                split = one.split;
                trace = right_trace p q one.took one.outcome (peek one.rest) (begins_same l (first p) ts one.took one.rest false one.split stops) one.trace;
              }
        ]
    traced (many limit p) completable predictive ts real =
        many_traced p (not_true _ (and_left (not (is_nullable p)) _ (and_left _ (is_predictive g p) predictive))) completable
        (traced p completable (and_right (not (is_nullable p) && are_apart l (goes_on g p) (first p)) _ predictive)) (length ts) limit ts (omega arith) real
    traced (means f p) completable predictive ts real =
        let one = traced p completable predictive ts real in
        means_trace f p ts one.took one.rest one.outcome one.split one.trace
    traced (inside k n) completable predictive ts real = nested k n ts real
