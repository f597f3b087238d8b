-- What the parser found before the first batch that is too long answers for a script.
use Rattle.std.proofs.Common.{◌≡◌, ℕ, zero, suc, ◌+◌, ◌-◌, ◌≤◌, ◌<◌, arith, Bool, true, false, List, [], ◌∷◌, ◌++◌, length, take, drop, slice_index_or, Fits, w64, ◌^◌, ◌==◌, map, None, Result, Ok, Err, refl, sym, ap, ◌∙◌, subst, inl, inr, append_assoc}
use Rattle.std.specs.Prelude.{nat_lt}
use Rattle.std.specs.List.{AllByRecursion}
use Rattle.std.proofs.lemmas.Bool.{eqb-true}
use Rattle.std.proofs.lemmas.List.{append-nil, map-append, take-append-drop, take-append-le, drop-append-le}
use Rattle.grammar.specs.Rule.{many}
use Rattle.grammar.specs.Text.{IsText, Begins, StopsAt, FaultsAt, Judges}
use Rattle.grammar.specs.Reading.{Found, read, reader, at_end}
use Rattle.grammar.specs.declared.ParseFault.{ParseFault}
use Rattle.grammar.specs.declared.ParseFault.TheVariants as stop
use Rattle.grammar.proofs.WholeReading.{judged}
use Rattle.sql_tokens.specs.declared.kinds.TokenKind.TheVariants as k
use Rattle.sql_tokens.specs.declared.lexemes.TokenFault.TheVariants as lapse
use Rattle.sql_tokens.specs.declared.lexemes.LexFault.{LexFault}
use Rattle.sql_tokens.specs.declared.lexemes.LexFault.TheVariants as lex
use Rattle.sql_tokens.specs.declared.lexemes.Lexeme.{Lexeme}
use Rattle.sql_tokens.specs.Lex.{Token, Placed, tokens_of, token_of, placed_of, Scans}
use Rattle.sql_tokens.proofs.Alone.{tokens_real}
use Rattle.vo_spec.specs.declared.tables.Batch.{Batch}
use Rattle.sql_text.specs.declared.faults.SqlFault.{SqlFault}
use Rattle.sql_text.specs.declared.faults.SqlFault.TheVariants as fault
use Rattle.sql_text.specs.declared.parse_error.ParseError.{ParseError}
use Rattle.sql_text.specs.declared.parse_error.ParseError.TheVariants.{Memory, Fault}
use Rattle.sql_text.specs.declared.parser.Parser.{Parser}
use Rattle.sql_text.specs.Faults.{of_tokens}
use Rattle.sql_text.specs.Tokens.{sql, IsToken}
use Rattle.sql_text.specs.Parsing.{ReadsAndLeaves, Reads, left_of}
use Rattle.sql_text.specs.Queries.{conditions_of}
use Rattle.sql_text.specs.Rules.{followed_by}
use Rattle.sql_text.specs.Commands.{batch, script}
use Rattle.sql_text.specs.Texts.{without_places, token_offset, Breaks, AnswersText, Accepts, expect_end}
use Rattle.sql_text.specs.Scripts.{closes, commits, has_long, AreShort, IsScript, BreaksScript, HasLongBatch, HasScriptFault, AnswersScript, short_len, ended_script}
use Rattle.sql_text.proofs.Rounds.{with_front, front_none}
use Rattle.sql_text.proofs.Repeats.{many_of}
use Rattle.sql_text.proofs.Good.{is_sql, script_good}
use Rattle.sql_text.proofs.AnswerLaws.{answers, accepts, same_ok, unplaced_is, drop_placed}

-- the loop over batches, at its begin
pub script_is : (levels : ℕ) (left : List Token) (none : List Batch) → none ≡ []
    → read (reader conditions_of levels) script left ≡ with_front (map (λ x. x) none) (many_of None (followed_by (followed_by batch k.Commit) k.Semicolon) levels left)
unfolding script many_of
script_is levels left none e =
    sym (front_none _) ∙ ap (λ z. with_front (map (λ x. x) z) (read (reader conditions_of levels) (many None (followed_by (followed_by batch k.Commit) k.Semicolon)) left)) (sym e)

-- The tokens before the first `;` of a batch that is too long.

long_step : (start : ℕ) (c : Bool) (p : Placed) (ps : List Placed) → closes c p ≡ true → nat_lt 65536 (p.at - start) ≡ true → short_len start c (p ∷ ps) ≡ 0
long_step start c p ps e f = rw (e, f) refl

short_step : (start : ℕ) (c : Bool) (p : Placed) (ps : List Placed) → closes c p ≡ true → nat_lt 65536 (p.at - start) ≡ false
    → (short_len start c (p ∷ ps) ≡ suc (short_len (p.at + 1) false ps)) × ((qs : List Placed) → has_long start c (p ∷ qs) ≡ has_long (p.at + 1) false qs)
short_step start c p ps e f = (rw (e, f) refl, λ qs. rw (e, f) refl)

other_step : (start : ℕ) (c : Bool) (p : Placed) (ps : List Placed) → closes c p ≡ false
    → (short_len start c (p ∷ ps) ≡ suc (short_len start (commits p) ps)) × ((qs : List Placed) → has_long start c (p ∷ qs) ≡ has_long start (commits p) qs)
other_step start c p ps e = (rw e refl, λ qs. rw e refl)

is_long : (start : ℕ) (c : Bool) (p : Placed) (qs : List Placed) → closes c p ≡ true → nat_lt 65536 (p.at - start) ≡ true → has_long start c (p ∷ qs) ≡ true
is_long start c p qs e f = rw (e, f) refl

-- no part of them closes one
pub prefix_short : (start : ℕ) (c : Bool) (n : ℕ) (ps : List Placed) → has_long start c (take n (take (short_len start c ps) ps)) ≡ false
prefix_short start c zero ps = refl
prefix_short start c (suc n) [] = refl
prefix_short start c (suc n) (p ∷ ps) = by_closing (λ start2 c2. prefix_short start2 c2 n ps) (closes c p) refl
  where
    further : (m : ℕ) (start2 : ℕ) (c2 : Bool) → short_len start c (p ∷ ps) ≡ suc m → ((qs : List Placed) → has_long start c (p ∷ qs) ≡ has_long start2 c2 qs)
        → has_long start2 c2 (take n (take m ps)) ≡ false → has_long start c (take (suc n) (take (short_len start c (p ∷ ps)) (p ∷ ps))) ≡ false
    further m start2 c2 e f h = subst (λ z. has_long start c (take (suc n) (take z (p ∷ ps))) ≡ false) (sym e) (f (take n (take m ps)) ∙ h)

    by_long : ((start2 : ℕ) (c2 : Bool) → has_long start2 c2 (take n (take (short_len start2 c2 ps) ps)) ≡ false)
        → closes c p ≡ true → (l : Bool) → nat_lt 65536 (p.at - start) ≡ l → has_long start c (take (suc n) (take (short_len start c (p ∷ ps)) (p ∷ ps))) ≡ false
    by_long again e true f = subst (λ z. has_long start c (take (suc n) (take z (p ∷ ps))) ≡ false) (sym (long_step start c p ps e f)) refl
    by_long again e false f =
        let s = short_step start c p ps e f in
        further (short_len (p.at + 1) false ps) (p.at + 1) false s.0 s.1 (again (p.at + 1) false)

    by_closing : ((start2 : ℕ) (c2 : Bool) → has_long start2 c2 (take n (take (short_len start2 c2 ps) ps)) ≡ false)
        → (b : Bool) → closes c p ≡ b → has_long start c (take (suc n) (take (short_len start c (p ∷ ps)) (p ∷ ps))) ≡ false
    by_closing again true e = by_long again e (nat_lt 65536 (p.at - start)) refl
    by_closing again false e =
        let s = other_step start c p ps e in
        further (short_len start (commits p) ps) start (commits p) s.0 s.1 (again start (commits p))

-- the next one does
pub next_long : (start : ℕ) (c : Bool) (ps : List Placed) (q : Placed) (rest : List Placed) → drop (short_len start c ps) ps ≡ q ∷ rest
    → has_long start c (take (short_len start c ps) ps ++ q ∷ []) ≡ true
next_long start c [] q rest h = absurd (cc)
next_long start c (p ∷ ps) q rest h = by_closing (λ start2 c2. next_long start2 c2 ps q rest) (closes c p) refl
  where
    further : (m : ℕ) (start2 : ℕ) (c2 : Bool) → short_len start c (p ∷ ps) ≡ suc m → ((qs : List Placed) → has_long start c (p ∷ qs) ≡ has_long start2 c2 qs)
        → (drop m ps ≡ q ∷ rest → has_long start2 c2 (take m ps ++ q ∷ []) ≡ true) → has_long start c (take (short_len start c (p ∷ ps)) (p ∷ ps) ++ q ∷ []) ≡ true
    further m start2 c2 e f k =
        subst (λ z. has_long start c (take z (p ∷ ps) ++ q ∷ []) ≡ true) (sym e)
        (f (take m ps ++ q ∷ []) ∙ k (sym (ap (λ z. drop z (p ∷ ps)) e) ∙ h))

    by_long : ((start2 : ℕ) (c2 : Bool) → drop (short_len start2 c2 ps) ps ≡ q ∷ rest → has_long start2 c2 (take (short_len start2 c2 ps) ps ++ q ∷ []) ≡ true)
        → closes c p ≡ true → (l : Bool) → nat_lt 65536 (p.at - start) ≡ l → has_long start c (take (short_len start c (p ∷ ps)) (p ∷ ps) ++ q ∷ []) ≡ true
    by_long again e true f =
        let none = long_step start c p ps e f in
        let all : p ∷ ps ≡ q ∷ rest = sym (ap (λ z. drop z (p ∷ ps)) none) ∙ h in
        let same : p ≡ q = cc in
        subst (λ z. has_long start c (take z (p ∷ ps) ++ q ∷ []) ≡ true) (sym none)
        (subst (λ z. has_long start c (z ∷ []) ≡ true) same (is_long start c p [] e f))
    by_long again e false f =
        let s = short_step start c p ps e f in
        further (short_len (p.at + 1) false ps) (p.at + 1) false s.0 s.1 (again (p.at + 1) false)

    by_closing : ((start2 : ℕ) (c2 : Bool) → drop (short_len start2 c2 ps) ps ≡ q ∷ rest → has_long start2 c2 (take (short_len start2 c2 ps) ps ++ q ∷ []) ≡ true)
        → (b : Bool) → closes c p ≡ b → has_long start c (take (short_len start c (p ∷ ps)) (p ∷ ps) ++ q ∷ []) ≡ true
    by_closing again true e = by_long again e (nat_lt 65536 (p.at - start)) refl
    by_closing again false e =
        let s = other_step start c p ps e in
        further (short_len start (commits p) ps) start (commits p) s.0 s.1 (again start (commits p))

-- where none is too long they are all
pub all_short : (start : ℕ) (c : Bool) (ps : List Placed) → has_long start c ps ≡ false → drop (short_len start c ps) ps ≡ []
all_short start c [] h = refl
all_short start c (p ∷ ps) h = by_closing (λ start2 c2. all_short start2 c2 ps) (closes c p) refl
  where
    by_long : ((start2 : ℕ) (c2 : Bool) → has_long start2 c2 ps ≡ false → drop (short_len start2 c2 ps) ps ≡ [])
        → closes c p ≡ true → (l : Bool) → nat_lt 65536 (p.at - start) ≡ l → drop (short_len start c (p ∷ ps)) (p ∷ ps) ≡ []
    by_long again e true f = let long = is_long start c p ps e f in absurd (cc)
    by_long again e false f =
        let s = short_step start c p ps e f in
        ap (λ z. drop z (p ∷ ps)) s.0 ∙ again (p.at + 1) false (sym (s.1 ps) ∙ h)

    by_closing : ((start2 : ℕ) (c2 : Bool) → has_long start2 c2 ps ≡ false → drop (short_len start2 c2 ps) ps ≡ [])
        → (b : Bool) → closes c p ≡ b → drop (short_len start c (p ∷ ps)) (p ∷ ps) ≡ []
    by_closing again true e = by_long again e (nat_lt 65536 (p.at - start)) refl
    by_closing again false e =
        let s = other_step start c p ps e in
        ap (λ z. drop z (p ∷ ps)) s.0 ∙ again start (commits p) (sym (s.1 ps) ∙ h)

take_whole : {X : Type 0} (xs : List X) → take (length xs) xs ≡ xs
take_whole [] = refl
take_whole (x ∷ xs) = ap (λ z. x ∷ z) (take_whole xs)

all_take : (m : ℕ) (ps : List Placed) → AllByRecursion IsToken (without_places ps) → AllByRecursion IsToken (without_places (take m ps))
all_take zero ps h = tt
all_take (suc m) [] h = tt
all_take (suc m) (p ∷ ps) h = (h.0, all_take m ps h.1)

in_range : {X : Type 0} (n : ℕ) (xs : List X) (y : X) (ys : List X) → drop n xs ≡ y ∷ ys → n ≤ length xs
in_range zero xs y ys e = omega arith
in_range (suc n) [] y ys e = absurd (cc)
in_range (suc n) (x ∷ xs) y ys e = let h = in_range n xs y ys e in omega arith

-- only the first token of what is left counts at a fault
moved : (s : ParseFault) (front : List Token) (t : Token) (ts us : List Token) → StopsAt conditions_of 32 script front s (t ∷ ts) → StopsAt conditions_of 32 script front s (t ∷ us)
moved stop.Syntax front t ts us h = h
moved stop.Nesting front t ts us h = h
moved stop.TooMany front t ts us h = h

abbrev pub is_none : List Placed → Bool
is_none [] = true
is_none (_ ∷ _) = false

module _ {B : Type 0} (view : B → List Batch) (text : List ℕ) (ps : List Placed) (n : ℕ)
    (fits : length text ≤ 16777216) (scanned : tokens_of text ≡ Ok ps) (real : AllByRecursion IsToken (without_places ps)) where
  abbrev cut : List Placed
  cut = take (short_len 0 false ps) ps

  abbrev behind : List Placed
  behind = drop (short_len 0 false ps) ps

  cut_and : cut ++ behind ≡ ps
  cut_and = take-append-drop (short_len 0 false ps) ps

  cut_short : AreShort cut
  cut_short = subst (λ z. has_long 0 false z ≡ false) (take_whole cut) (prefix_short 0 false (length cut) ps)

  judged_cut : (r : Found Token (List Batch)) → read (reader conditions_of 32) script (without_places cut) ≡ r → Judges conditions_of 32 script (without_places cut) (at_end r).0 (at_end r).1
  judged_cut r e =
      subst (λ z. Judges conditions_of 32 script (without_places cut) (at_end z).0 (at_end z).1) e
      (judged sql is_sql conditions_of script script_good 32 (without_places cut) (all_take (short_len 0 false ps) ps real))

  -- no batch is too long

  same_cut : behind ≡ [] → cut ≡ ps
  same_cut e = sym (append-nil cut) ∙ ap (λ z. cut ++ z) (sym e) ∙ cut_and

  any_short : behind ≡ [] → (i : ℕ) → AreShort (take i ps)
  any_short e i = subst (λ z. has_long 0 false (take i z) ≡ false) (same_cut e) (prefix_short 0 false i ps)

  whole_fault : behind ≡ [] → (s : ParseFault) (at : ℕ) → Breaks script text s at → BreaksScript text s at
  whole_fault e s at (others, f, i, place, j) =
      (others, f, i, place, j, subst (λ z. AreShort (take i z)) (same_ok ps others (tokens_of text) scanned f) (any_short e i))

  whole_answers : behind ≡ [] → (r : Result B SqlFault) → AnswersText view 16777216 script text r → AnswersScript view text r
  whole_answers e (Ok x) (h, others, f, t) =
      (h, others, f, t, subst AreShort (same_ok ps others (tokens_of text) scanned f) (subst AreShort (same_cut e) cut_short))
  whole_answers e (Err fault.TooLong) h = inl h
  whole_answers e (Err (fault.Token at)) h = h
  whole_answers e (Err (fault.Literal at)) h = h
  whole_answers e (Err fault.Name) h = h
  whole_answers e (Err (fault.Syntax at)) (h, b) = (h, whole_fault e stop.Syntax at b)
  whole_answers e (Err fault.Nesting) (h, at, b) = (h, at, whole_fault e stop.Nesting at b)
  whole_answers e (Err fault.TooMany) (h, at, b) = (h, at, whole_fault e stop.TooMany at b)
  whole_answers e (Err fault.Memory) h = tt

  -- a fault before the first batch that is too long closes

  module _ (p : Placed) (left : List Placed) (here : drop n cut ≡ p ∷ left) where
    inside : n ≤ length cut
    inside = in_range n cut p left here

    here_all : drop n ps ≡ p ∷ (left ++ behind)
    here_all = ap (drop n) (sym cut_and) ∙ drop-append-le n cut behind inside ∙ ap (λ z. z ++ behind) here

    taken_short : AreShort (take n ps)
    taken_short =
        subst AreShort (sym (take-append-le n cut behind inside) ∙ ap (take n) cut_and) (prefix_short 0 false n ps)

    split_all : (front : List Token) → without_places cut ≡ front ++ without_places (p ∷ left) → without_places ps ≡ front ++ without_places (drop n ps)
    split_all front e =
        ap without_places (sym cut_and) ∙ map-append (λ (q : Placed). q.token) cut behind
        ∙ ap (λ z. z ++ without_places behind) e ∙ append_assoc front (without_places (p ∷ left)) (without_places behind)
        ∙ ap (λ z. front ++ z) (sym (map-append (λ (q : Placed). q.token) (p ∷ left) behind))
        ∙ ap (λ z. front ++ without_places z) (sym here_all)

    cut_fault : (s : ParseFault) → FaultsAt conditions_of 32 script (without_places cut) s (without_places (p ∷ left)) → BreaksScript text s p.at
    cut_fault s (front, e, begins, stops) = (
      ps,
      scanned,
      n,
      ap (λ z. token_offset z (length text)) (sym here_all),
      (
        front,
        split_all front e,
        begins,
        subst (λ z. StopsAt conditions_of 32 script front s (without_places z)) (sym here_all) (moved s front p.token (without_places left) (without_places (left ++ behind)) stops),
      ),
      taken_short,
    )

  -- the first batch that is too long

  begins_found : (r : Result (List Batch) ParseFault) → read (reader conditions_of 32) script (without_places cut) ≡ (r, []) → Begins conditions_of true 32 script (without_places cut)
  begins_found (Ok v) e = ([], v, subst (λ z. IsText conditions_of true 32 script z v) (sym (append-nil (without_places cut))) (judged_cut (Ok v, []) e))
  begins_found (Err s) e = of_fault (judged_cut (Err s, []) e)
    where
      of_fault : FaultsAt conditions_of 32 script (without_places cut) s [] → Begins conditions_of true 32 script (without_places cut)
      of_fault (front, f, begins, stops) = subst (Begins conditions_of true 32 script) (sym (f ∙ append-nil front)) begins

  long_fault : (q : Placed) (rest : List Placed) → behind ≡ q ∷ rest → Begins conditions_of true 32 script (without_places cut) → HasLongBatch text
  long_fault q rest e begins = (ps, scanned, cut, rest, q, sym cut_and ∙ ap (λ z. cut ++ z) e, begins, cut_short, next_long 0 false ps q rest e)

  cut_answers : (q : Placed) (rest : List Placed) → behind ≡ q ∷ rest → (found : Result B ParseError) (left : List Placed) → drop n cut ≡ left
      → ReadsAndLeaves view (read (reader conditions_of 32) script (without_places cut)) found (without_places left) → AnswersScript view text (ended_script false found left (length text))
  cut_answers q rest e (Err Memory) left h f = tt
  cut_answers q rest e (Ok x) [] h f = inr (fits, long_fault q rest e (begins_found (Ok (view x)) f))
  cut_answers q rest e (Ok x) (p ∷ left) h f = (fits, cut_fault p left h stop.Syntax (judged_cut _ f))
  cut_answers q rest e (Err (Fault s)) [] h f = inr (fits, long_fault q rest e (begins_found (Err s) f))
  cut_answers q rest e (Err (Fault stop.Syntax)) (p ∷ left) h f = (fits, cut_fault p left h stop.Syntax (judged_cut _ f))
  cut_answers q rest e (Err (Fault stop.Nesting)) (p ∷ left) h f = (fits, p.at, cut_fault p left h stop.Nesting (judged_cut _ f))
  cut_answers q rest e (Err (Fault stop.TooMany)) (p ∷ left) h f = (fits, p.at, cut_fault p left h stop.TooMany (judged_cut _ f))

  -- all together

  ended_whole : (found : Result B ParseError) (left : List Placed) (end : ℕ) → ended_script true found left end ≡ expect_end found left end
  ended_whole (Ok x) left end = refl
  ended_whole (Err Memory) left end = refl
  ended_whole (Err (Fault s)) left end = refl

  pub script_answers : (found : Result B ParseError) (left : List Placed) (tail : List Placed) → behind ≡ tail → drop n cut ≡ left
      → ReadsAndLeaves view (read (reader conditions_of 32) script (without_places cut)) found (without_places left)
      → AnswersScript view text (ended_script (is_none tail) found left (length text))
  script_answers found left [] e h f =
      subst (AnswersScript view text) (sym (ended_whole found left (length text)))
      (whole_answers e _ (answers view script script_good 16777216 text ps n fits scanned real found left
      (subst (λ z. drop n z ≡ left) (same_cut e) h) (subst (λ z. ReadsAndLeaves view (read (reader conditions_of 32) script (without_places z)) found (without_places left)) (same_cut e) f)))
  script_answers found left (q ∷ rest) e h f = cut_answers q rest e found left h f

  pub script_accepts : (found : Result B ParseError) (left : List Placed) (tail : List Placed) → behind ≡ tail
      → ReadsAndLeaves view (read (reader conditions_of 32) script (without_places cut)) found (without_places left)
      → (batches : List Batch) → IsScript text batches → Accepts view (ended_script (is_none tail) found left (length text)) batches
  script_accepts found left tail e f batches (g, others, h, t, short) =
      let same : others ≡ ps = same_ok others ps (tokens_of text) h scanned in
      let none : behind ≡ [] = all_short 0 false ps (subst AreShort same short) in
      subst (λ z. Accepts view (ended_script (is_none z) found left (length text)) batches) (sym none ∙ e)
      (subst (λ z. Accepts view z batches) (sym (ended_whole found left (length text)))
      (accepts view script script_good 16777216 text ps n fits scanned real found left
      (subst (λ z. ReadsAndLeaves view (read (reader conditions_of 32) script (without_places z)) found (without_places left)) (same_cut none) f) batches (g, others, h, t)))

-- the steps of the loop that looks for the first batch that is too long

at_place : (xs : List Lexeme) (i : ℕ) (d : Lexeme) → AllByRecursion (λ p. p.at < 2 ^ 63) (map placed_of xs) → i < length xs → (slice_index_or xs i d).at < 2 ^ 63
at_place [] i d h k = absurd (omega arith)
at_place (x ∷ xs) zero d h k = h.0
at_place (x ∷ xs) (suc i) d h k = at_place xs i d h.1 (omega arith)

pub place_fits : (xs : List Lexeme) (i : ℕ) (d : Lexeme) → AllByRecursion (λ p. p.at < 2 ^ 63) (map placed_of xs) → i < length xs → Fits w64 ((slice_index_or xs i d).at + 1)
place_fits xs i d h k = let below = at_place xs i d h k in omega arith

take_placed : (m : ℕ) (list : List Lexeme) → map placed_of (take m list) ≡ take m (map placed_of list)
take_placed zero list = refl
take_placed (suc m) [] = refl
take_placed (suc m) (x ∷ list) = ap (λ z. placed_of x ∷ z) (take_placed m list)

none_placed : (list : List Lexeme) → (length list == 0) ≡ is_none (map placed_of list)
none_placed [] = refl
none_placed (x ∷ list) = by_value (length (x ∷ list) == 0) refl
  where
    by_value : (b : Bool) → (length (x ∷ list) == 0) ≡ b → (length (x ∷ list) == 0) ≡ false
    by_value true e = let none : suc (length list) ≡ 0 = eqb-true (length (x ∷ list)) 0 e in absurd (omega arith)
    by_value false e = e

-- a lapse of the tokens is the script's
pub script_lapsed : (text : List ℕ) (lapse : LexFault) → length text ≤ 16777216 → Scans (tokens_of text) (Err lapse) → HasScriptFault text (of_tokens lapse)
script_lapsed text lex.Memory fits scan = tt
script_lapsed text (lex.At lapse.Token at) fits scan = (fits, scan)
script_lapsed text (lex.At lapse.Literal at) fits scan = (fits, scan)
script_lapsed text (lex.At lapse.Name at) fits scan = (fits, at, scan)

-- the parser from its start to what it left
pub whole_script : {B : Type 0} (view : B → List Batch) (text bytes : List ℕ) (list short long left : List Lexeme) (m : ℕ) (is_whole : Bool) (old new : Parser)
    (found : Result B ParseError) (r : Result B SqlFault) → bytes ≡ text → length bytes ≤ 16777216 → tokens_of bytes ≡ Ok (map placed_of list)
    → m ≡ short_len 0 false (map placed_of list) → short ≡ take m list → long ≡ drop m list → is_whole ≡ (length long == 0)
    → old.list.now ≡ short → old.place ≡ 0 → old.levels ≡ 32 → Reads view script old found new → new.list.now ≡ old.list.now → left ≡ drop new.place new.list.now
    → r ≡ ended_script is_whole found (map placed_of left) (length bytes)
    → AnswersScript view text r × ((batches : List Batch) → IsScript text batches → Accepts view r batches)
whole_script {B} view text bytes list short long left m is_whole old new found r same fits scan at_m is_short is_long is_is_whole begins at levels reads stays left_is result_is = (
  subst (AnswersScript view text) (sym is_ended) (script_answers view text ps new.place fits_so scanned real found (drop new.place cut_ps) (map placed_of long) behind_is refl finds),
  λ v t. subst (λ z. Accepts view z v) (sym is_ended) (script_accepts view text ps new.place fits_so scanned real found (drop new.place cut_ps) (map placed_of long) behind_is finds v t),
)
  where
    ps : List Placed
    ps = map placed_of list

    cut_ps : List Placed
    cut_ps = take (short_len 0 false ps) ps

    scanned : tokens_of text ≡ Ok ps
    scanned = subst (λ z. tokens_of z ≡ Ok ps) same scan

    fits_so : length text ≤ 16777216
    fits_so = subst (λ z. length z ≤ 16777216) same fits

    real : AllByRecursion IsToken (without_places ps)
    real = tokens_real text ps scanned

    cut_is : map placed_of short ≡ cut_ps
    cut_is = ap (map placed_of) is_short ∙ take_placed m list ∙ ap (λ z. take z ps) at_m

    behind_is : drop (short_len 0 false ps) ps ≡ map placed_of long
    behind_is = sym (ap (map placed_of) is_long ∙ sym (drop_placed m list) ∙ ap (λ z. drop z ps) at_m)

    at_start : left_of old ≡ without_places cut_ps
    at_start = ap (λ z. map token_of (drop z old.list.now)) at ∙ ap (map token_of) begins ∙ sym (unplaced_is short) ∙ ap without_places cut_is

    left_placed : map placed_of (drop new.place new.list.now) ≡ drop new.place cut_ps
    left_placed = ap (λ z. map placed_of (drop new.place z)) (stays ∙ begins) ∙ sym (drop_placed new.place short) ∙ ap (drop new.place) cut_is

    at_stop : left_of new ≡ without_places (drop new.place cut_ps)
    at_stop = sym (unplaced_is (drop new.place new.list.now)) ∙ ap without_places left_placed

    finds : ReadsAndLeaves view (read (reader conditions_of 32) script (without_places cut_ps)) found (without_places (drop new.place cut_ps))
    finds =
        subst (λ z. ReadsAndLeaves view (read (reader conditions_of 32) script (without_places cut_ps)) found z) at_stop
        (subst (λ z. ReadsAndLeaves view (read (reader conditions_of 32) script z) found (left_of new)) at_start
        (subst (λ z. ReadsAndLeaves view (read (reader conditions_of z) script (left_of old)) found (left_of new)) levels reads))

    is_ended : r ≡ ended_script (is_none (map placed_of long)) found (drop new.place cut_ps) (length text)
    is_ended =
        result_is ∙ ap (λ z. ended_script z found (map placed_of left) (length bytes)) (is_is_whole ∙ none_placed long)
        ∙ ap (λ z. ended_script (is_none (map placed_of long)) found z (length bytes)) (ap (map placed_of) left_is ∙ left_placed)
        ∙ ap (λ z. ended_script (is_none (map placed_of long)) found (drop new.place cut_ps) (length z)) same
