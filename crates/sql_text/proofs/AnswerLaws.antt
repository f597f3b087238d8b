-- What the parser found in the tokens of a text answers for the text.
use Rattle.std.proofs.Common.{◌≡◌, ℕ, zero, suc, min, arith, ◌≤◌, true, List, [], ◌∷◌, length, drop, map, Result, Ok, Err, refl, sym, ap, ◌∙◌, subst}
use Rattle.std.specs.List.{AllByRecursion}
use Rattle.grammar.specs.Rule.{Rule}
use Rattle.grammar.specs.Text.{IsText, FaultsAt, Judges}
use Rattle.grammar.specs.Checks.{is_good}
use Rattle.grammar.specs.Reading.{Found, read, reader, at_end}
use Rattle.grammar.specs.declared.ParseFault.{ParseFault}
use Rattle.grammar.specs.declared.ParseFault.TheVariants as stop
use Rattle.grammar.proofs.WholeReading.{judged, parsed}
use Rattle.sql_tokens.specs.declared.lexemes.TokenFault.TheVariants as lapse
use Rattle.sql_tokens.specs.declared.lexemes.LexFault.{LexFault}
use Rattle.sql_tokens.specs.declared.lexemes.LexFault.TheVariants as lex
use Rattle.sql_tokens.proofs.Alone.{tokens_real}
use Rattle.sql_tokens.specs.declared.lexemes.Lexeme.{Lexeme}
use Rattle.sql_tokens.specs.Lex.{Token, Placed, tokens_of, token_of, placed_of, Scans}
use Rattle.sql_text.specs.declared.faults.SqlFault.{SqlFault}
use Rattle.sql_text.specs.declared.parse_error.ParseError.{ParseError}
use Rattle.sql_text.specs.declared.parse_error.ParseError.TheVariants.{Memory, Fault}
use Rattle.sql_text.specs.declared.parser.Parser.{Parser}
use Rattle.sql_text.specs.Faults.{of_tokens}
use Rattle.sql_text.specs.Tokens.{sql, IsToken}
use Rattle.sql_text.specs.Parsing.{ReadsAndLeaves, Reads, left_of}
use Rattle.sql_text.specs.Queries.{conditions_of}
use Rattle.sql_text.specs.Texts.{without_places, IsTextOf, token_offset, Breaks, HasFault, AnswersText, Accepts, expect_end}
use Rattle.sql_text.proofs.Good.{is_sql}

pub unplaced_is : (list : List Lexeme) → without_places (map placed_of list) ≡ map token_of list
unplaced_is [] = refl
unplaced_is (x ∷ list) = ap (λ z. token_of x ∷ z) (unplaced_is list)

-- one value or fault of the tokens is no other
pub same_ok : {A E : Type 0} (x y : A) (r : Result A E) → r ≡ Ok x → r ≡ Ok y → x ≡ y
same_ok x y r e f = cc

ok_is_no_err : {T A : Type 0} (v : A) (s : ParseFault) (left : List T) (r : Found T A) → r ≡ (Err s, left) → r ≡ (Ok v, []) → ⊥
ok_is_no_err v s left r e f = let h : Err s ≡ Ok v = ap (λ z. z.0) (sym e ∙ f) in cc

same_value : {T A : Type 0} (u v : A) (r : Found T A) → r ≡ (Ok u, []) → r ≡ (Ok v, []) → u ≡ v
same_value u v r e f = let h : Ok u ≡ Ok v = ap (λ z. z.0) (sym e ∙ f) in cc

module _ {A B : Type 0} (view : B → A) (start : Rule sql A) (good : is_good conditions_of start ≡ true) (most : ℕ) (text : List ℕ) (ps : List Placed) (n : ℕ)
    (fits : length text ≤ most) (scanned : tokens_of text ≡ Ok ps) (real : AllByRecursion IsToken (without_places ps)) where
  answer_judged : (r : Found Token A) → read (reader conditions_of 32) start (without_places ps) ≡ r → Judges conditions_of 32 start (without_places ps) (at_end r).0 (at_end r).1
  answer_judged r e =
      subst (λ z. Judges conditions_of 32 start (without_places ps) (at_end z).0 (at_end z).1) e (judged sql is_sql conditions_of start good 32 (without_places ps) real)

  breaks : (s : ParseFault) → FaultsAt conditions_of 32 start (without_places ps) s (without_places (drop n ps)) → Breaks start text s (token_offset (drop n ps) (length text))
  breaks s j = (ps, scanned, n, refl, j)

  -- with tokens left behind a value the first of them is the fault
  ended_ok : (x : B) (left : List Placed) → drop n ps ≡ left → read (reader conditions_of 32) start (without_places ps) ≡ (Ok (view x), without_places left) → AnswersText view most start text (expect_end (Ok x) left (length text))
  ended_ok x [] e h = (fits, ps, scanned, answer_judged _ h)
  ended_ok x (p ∷ left) e h = (
    fits,
    subst (λ z. Breaks start text stop.Syntax (token_offset z (length text))) e
        (breaks stop.Syntax (subst (λ z. FaultsAt conditions_of 32 start (without_places ps) stop.Syntax (without_places z)) (sym e) (answer_judged _ h))),
  )

  ended_fault : (s : ParseFault) (left : List Placed) → drop n ps ≡ left → read (reader conditions_of 32) start (without_places ps) ≡ (Err s, without_places left)
      → AnswersText view most start text (expect_end {B = B} (Err (Fault s)) left (length text))
  ended_fault stop.Syntax left e h = (fits, subst (λ z. Breaks start text stop.Syntax (token_offset z (length text))) e (breaks stop.Syntax (subst (λ z. FaultsAt conditions_of 32 start (without_places ps) stop.Syntax (without_places z)) (sym e) (answer_judged _ h))))
  ended_fault stop.Nesting left e h = (fits, _, breaks stop.Nesting (subst (λ z. FaultsAt conditions_of 32 start (without_places ps) stop.Nesting (without_places z)) (sym e) (answer_judged _ h)))
  ended_fault stop.TooMany left e h = (fits, _, breaks stop.TooMany (subst (λ z. FaultsAt conditions_of 32 start (without_places ps) stop.TooMany (without_places z)) (sym e) (answer_judged _ h)))

  pub answers : (found : Result B ParseError) (left : List Placed) → drop n ps ≡ left → ReadsAndLeaves view (read (reader conditions_of 32) start (without_places ps)) found (without_places left)
      → AnswersText view most start text (expect_end found left (length text))
  answers (Ok x) left e h = ended_ok x left e h
  answers (Err Memory) left e h = tt
  answers (Err (Fault s)) left e h = ended_fault s left e h

  parses : (v : A) → IsTextOf most start text v → at_end (read (reader conditions_of 32) start (without_places ps)) ≡ (Ok v, [])
  parses v (_, others, f, s) =
      parsed sql is_sql conditions_of start good 32 (without_places ps) v (subst (λ z. IsText conditions_of true 32 start (without_places z) v) (same_ok others ps (tokens_of text) f scanned) s)

  accepts_ok : (x : B) (left : List Placed) (v : A) → at_end (Ok (view x), without_places left) ≡ (Ok v, []) → Accepts view (expect_end (Ok x) left (length text)) v
  accepts_ok x [] v e = same_value (view x) v _ refl e
  accepts_ok x (p ∷ left) v e = ok_is_no_err v stop.Syntax (without_places (p ∷ left)) _ refl e

  accepts_fault : (s : ParseFault) (left : List Placed) (v : A) → at_end {A = A} (Err s, without_places left) ≡ (Ok v, []) → Accepts view (expect_end {B = B} (Err (Fault s)) left (length text)) v
  accepts_fault s left v e = absurd (ok_is_no_err v s (without_places left) _ refl e)

  pub accepts : (found : Result B ParseError) (left : List Placed) → ReadsAndLeaves view (read (reader conditions_of 32) start (without_places ps)) found (without_places left)
      → (v : A) → IsTextOf most start text v → Accepts view (expect_end found left (length text)) v
  accepts (Ok x) left h v t = accepts_ok x left v (ap at_end (sym h) ∙ parses v t)
  accepts (Err Memory) left h v t = tt
  accepts (Err (Fault s)) left h v t = accepts_fault s left v (ap at_end (sym h) ∙ parses v t)

-- past its end a list has nothing
pub drop_all : {X : Type 0} (n : ℕ) (xs : List X) → drop (min n (length xs)) xs ≡ drop n xs
drop_all zero xs = let e : min 0 (length xs) ≡ 0 = omega arith in ap (λ z. drop z xs) e
drop_all (suc n) [] = let e : min (suc n) 0 ≡ 0 = omega arith in ap (λ z. drop z []) e
drop_all (suc n) (x ∷ xs) = let e : min (suc n) (suc (length xs)) ≡ suc (min n (length xs)) = omega arith in ap (λ z. drop z (x ∷ xs)) e ∙ drop_all n xs

pub drop_placed : (n : ℕ) (list : List Lexeme) → drop n (map placed_of list) ≡ map placed_of (drop n list)
drop_placed zero list = refl
drop_placed (suc n) [] = refl
drop_placed (suc n) (x ∷ list) = drop_placed n list

-- a lapse of the tokens is the text's
pub lapsed : {A : Type 0} (start : Rule sql A) (most : ℕ) (text : List ℕ) (lapse : LexFault) → length text ≤ most → Scans (tokens_of text) (Err lapse) → HasFault most start text (of_tokens lapse)
lapsed start most text lex.Memory fits scan = tt
lapsed start most text (lex.At lapse.Token at) fits scan = (fits, scan)
lapsed start most text (lex.At lapse.Literal at) fits scan = (fits, scan)
lapsed start most text (lex.At lapse.Name at) fits scan = (fits, at, scan)

-- the parser from its start to what it left
pub whole : {A B : Type 0} (view : B → A) (start : Rule sql A) → is_good conditions_of start ≡ true → (most : ℕ) (text bytes : List ℕ) (list left : List Lexeme) (old new : Parser)
    (found : Result B ParseError) (r : Result B SqlFault) → bytes ≡ text → length bytes ≤ most → tokens_of bytes ≡ Ok (map placed_of list)
    → old.list.now ≡ list → old.place ≡ 0 → old.levels ≡ 32 → Reads view start old found new → new.list.now ≡ old.list.now → left ≡ drop new.place new.list.now
    → r ≡ expect_end found (map placed_of left) (length bytes)
    → AnswersText view most start text r × ((v : A) → IsTextOf most start text v → Accepts view r v)
whole {A} {B} view start good most text bytes list left old new found r same fits scan begins at levels reads stays left_is result_is = (
  subst (AnswersText view most start text) (sym is_ended) (answers view start good most text ps new.place fits_so scanned real found (drop new.place ps) refl finds),
  λ v t. subst (λ z. Accepts view z v) (sym is_ended) (accepts view start good most text ps new.place fits_so scanned real found (drop new.place ps) finds v t),
)
  where
    ps : List Placed
    ps = map placed_of list

    scanned : tokens_of text ≡ Ok ps
    scanned = subst (λ z. tokens_of z ≡ Ok ps) same scan

    fits_so : length text ≤ most
    fits_so = subst (λ z. length z ≤ most) same fits

    real : AllByRecursion IsToken (without_places ps)
    real = tokens_real text ps scanned

    at_start : left_of old ≡ without_places ps
    at_start = ap (λ z. map token_of (drop z old.list.now)) at ∙ ap (map token_of) begins ∙ sym (unplaced_is list)

    here : new.list.now ≡ list
    here = stays ∙ begins

    at_end : left_of new ≡ without_places (drop new.place ps)
    at_end = ap (λ z. map token_of (drop new.place z)) here ∙ sym (unplaced_is (drop new.place list)) ∙ ap without_places (sym (drop_placed new.place list))

    finds : ReadsAndLeaves view (read (reader conditions_of 32) start (without_places ps)) found (without_places (drop new.place ps))
    finds =
        subst (λ z. ReadsAndLeaves view (read (reader conditions_of 32) start (without_places ps)) found z) at_end
        (subst (λ z. ReadsAndLeaves view (read (reader conditions_of 32) start z) found (left_of new)) at_start
        (subst (λ z. ReadsAndLeaves view (read (reader conditions_of z) start (left_of old)) found (left_of new)) levels reads))

    is_ended : r ≡ expect_end found (drop new.place ps) (length text)
    is_ended =
        result_is ∙ ap (λ z. expect_end found z (length bytes)) (ap (map placed_of) (left_is ∙ ap (drop new.place) here) ∙ sym (drop_placed new.place list))
        ∙ ap (λ z. expect_end found (drop new.place ps) (length z)) same
