-- A first part, then a repetition of parts q of at most so many in all, as a loop reads it. `view`
-- is what a part of the program is.
use Rattle.std.proofs.Common.{Result, ◌≡◌, ℕ, zero, suc, ◌+◌, ◌-◌, ◌≤◌, ◌<◌, true, false, cond, List, [], ◌∷◌, ◌++◌, length, map, Option, Some, Ok, Err, refl, sym, ap, ◌∙◌, subst, arith, append_assoc}
use Rattle.std.proofs.lemmas.List.{append-nil, map-append, length-append}
use Rattle.grammar.specs.Rule.{Rule, both, many, means}
use Rattle.grammar.specs.Checks.{is_nullable, first}
use Rattle.grammar.specs.Reading.{Found, begins, and_then, is_full, one_less, read, reader}
use Rattle.grammar.specs.declared.ParseFault.{ParseFault}
use Rattle.grammar.specs.declared.ParseFault.TheVariants.{TooMany}
use Rattle.grammar.proofs.Shorter.{Shortens, round, many_step, solid_shorter}
use Rattle.sql_tokens.specs.Lex.{Token}
use Rattle.sql_text.specs.declared.parse_error.ParseError.{ParseError}
use Rattle.sql_text.specs.declared.parse_error.ParseError.TheVariants.{Memory, Fault}
use Rattle.sql_text.specs.Parsing.{ReadsAndLeaves, Appends}
use Rattle.std.specs.Prelude.{Vec}
use Rattle.std.specs.Global.{Global}
use Rattle.sql_text.specs.Tokens.{sql}
use Rattle.sql_text.specs.Queries.{conditions_of}
use Rattle.sql_text.proofs.Rounds.{with_front}

-- { q }, at most so often, of what is left
unfoldable pub many_of : {A : Type 0} → Option ℕ → Rule sql A → ℕ → List Token → Found Token (List A)
many_of most q levels left = read (reader conditions_of levels) (many most q) left

front_one : {A : Type 0} (front : List A) (v : A) (r : Found Token (List A)) → with_front front (and_then r (λ vs end. (Ok (v ∷ vs), end))) ≡ with_front (front ++ v ∷ []) r
front_one front v (Ok vs, left) = ap (λ z. (Ok z, left)) (sym (append_assoc front (v ∷ []) vs))
front_one front v (Err s, left) = refl

-- p, then q any number of times or at most so many
abbrev pub first_and : {A : Type 0} → Option ℕ → Rule sql A → Rule sql A → Rule sql (List A)
first_and most p q = means (λ x. x.0 ∷ x.1) (both p (many most q))

module _ {A B : Type 0} (view : B → A) (q : Rule sql A) (solid : is_nullable q ≡ false) where
  step : (most : Option ℕ) (levels : ℕ) (left : List Token) → read (reader conditions_of levels) (many most q) left
      ≡ cond (begins sql (first q) left) (cond (is_full most) (Err TooMany, left) (round (reader conditions_of levels) most q left)) (Ok [], left)
  step most levels left = many_step sql (reader conditions_of levels) q (λ ts. solid_shorter sql conditions_of levels q solid ts) most left

  stop_step : (most : Option ℕ) (levels : ℕ) (left : List Token) → begins sql (first q) left ≡ false → many_of most q levels left ≡ (Ok [], left)
  unfolding many_of
  stop_step most levels left b = step most levels left ∙ rw b refl

  full_step : (most : Option ℕ) (levels : ℕ) (left : List Token) → begins sql (first q) left ≡ true → is_full most ≡ true → many_of most q levels left ≡ (Err TooMany, left)
  unfolding many_of
  full_step most levels left b e = step most levels left ∙ rw (b, e) refl

  fail_step : (most : Option ℕ) (levels : ℕ) (s : ParseFault) (left rest : List Token) → is_full most ≡ false → begins sql (first q) left ≡ true
      → read (reader conditions_of levels) q left ≡ (Err s, rest) → many_of most q levels left ≡ (Err s, rest)
  unfolding many_of
  fail_step most levels s left rest room b h = step most levels left ∙ rw (b, room, h) refl

  -- no further part
  pub stops : (most : Option ℕ) (levels : ℕ) (front : List B) (left : List Token) → begins sql (first q) left ≡ false
      → with_front (map view front) (many_of most q levels left) ≡ (Ok (map view front), left)
  stops most levels front left b = ap (with_front (map view front)) (stop_step most levels left b) ∙ ap (λ z. (Ok z, left)) (append-nil (map view front))

  -- one part too many
  pub overfull : (most : Option ℕ) (levels : ℕ) (front : List B) (left : List Token) → begins sql (first q) left ≡ true → is_full most ≡ true
      → with_front (map view front) (many_of most q levels left) ≡ (Err TooMany, left)
  overfull most levels front left b e = ap (with_front (map view front)) (full_step most levels left b e)

  turn_at : (most : Option ℕ) (levels : ℕ) (front : List B) (x : B) (left rest : List Token) → is_full most ≡ false → begins sql (first q) left ≡ true
      → read (reader conditions_of levels) q left ≡ (Ok (view x), rest)
      → with_front (map view front) (many_of most q levels left) ≡ with_front (map view (front ++ x ∷ [])) (many_of (one_less most) q levels rest)
  unfolding many_of
  turn_at most levels front x left rest room b h =
      ap (with_front (map view front)) (step most levels left ∙ rw (b, room, h) refl)
      ∙ front_one (map view front) (view x) (read (reader conditions_of levels) (many (one_less most) q) rest)
      ∙ ap (λ z. with_front z (read (reader conditions_of levels) (many (one_less most) q) rest)) (sym (map-append view front (x ∷ [])))

  -- one turn
  pub turn : (most more : Option ℕ) (levels m n : ℕ) (front next : List B) (x : B) (left rest : List Token) → m ≡ levels → n ≡ m → is_full most ≡ false → more ≡ one_less most
      → begins sql (first q) left ≡ true → read (reader conditions_of m) q left ≡ (Ok (view x), rest) → next ≡ front ++ x ∷ []
      → with_front (map view next) (many_of more q n rest) ≡ with_front (map view front) (many_of most q levels left)
  turn most more levels m n front next x left rest e f room fewer b h k =
      ap (λ z. with_front (map view z) (many_of more q n rest)) k
      ∙ ap (λ z. with_front (map view (front ++ x ∷ [])) (many_of more q z rest)) (f ∙ e)
      ∙ ap (λ z. with_front (map view (front ++ x ∷ [])) (many_of z q levels rest)) fewer
      ∙ sym (turn_at most levels front x left rest room b (subst (λ z. read (reader conditions_of z) q left ≡ (Ok (view x), rest)) e h))

  -- a turn whose part fails
  pub turn_fails : {C D : Type 0} (other : D → C) (most : Option ℕ) (levels m : ℕ) (front : List B) (left rest : List Token) (halt : ParseError) (whole : Found Token C)
      (of_parts : Found Token (List A) → Found Token C) → ((s : ParseFault) → of_parts (Err s, rest) ≡ (Err s, rest)) → m ≡ levels → is_full most ≡ false → begins sql (first q) left ≡ true
      → whole ≡ of_parts (with_front (map view front) (many_of most q levels left))
      → ReadsAndLeaves view (read (reader conditions_of m) q left) (Err halt) rest → ReadsAndLeaves other whole (Err halt) rest
  turn_fails other most levels m front left rest Memory whole of_parts keeps e room b k h = tt
  turn_fails other most levels m front left rest (Fault s) whole of_parts keeps e room b k h =
      k ∙ ap (λ z. of_parts (with_front (map view front) z)) (fail_step most levels s left rest room b (subst (λ z. read (reader conditions_of z) q left ≡ (Err s, rest)) e h)) ∙ keeps s

  -- a turn takes tokens
  pub fewer : (m : ℕ) (left : List Token) (x : B) (rest : List Token) → read (reader conditions_of m) q left ≡ (Ok (view x), rest) → length rest < length left
  fewer m left x rest h = let one : length rest + 1 ≤ length left = subst (Shortens 1 left) h (solid_shorter sql conditions_of m q solid left) in omega arith

module _ {A B : Type 0} (view : B → A) (most : Option ℕ) (p q : Rule sql A) where
  cons_front : (v : A) (r : Found Token (List A))
      → and_then {A = A × List A} {B = List A} (and_then {A = List A} {B = A × List A} r (λ vs end. (Ok (v, vs), end))) (λ x end. (Ok (x.0 ∷ x.1), end)) ≡ with_front (v ∷ []) r
  cons_front v (Ok vs, end) = refl
  cons_front v (Err s, end) = refl

  -- the first part
  pub begun : (levels n : ℕ) (left rest : List Token) (x : B) (none some : List B) → n ≡ levels → read (reader conditions_of levels) p left ≡ (Ok (view x), rest)
      → none ≡ [] → some ≡ none ++ x ∷ [] → read (reader conditions_of levels) (first_and most p q) left ≡ with_front (map view some) (many_of most q n rest)
  unfolding many_of
  begun levels n left rest x none some e h i k =
      rw h (cons_front (view x) (read (reader conditions_of levels) (many most q) rest))
      ∙ ap (λ z. with_front (view x ∷ []) (read (reader conditions_of z) (many most q) rest)) (sym e)
      ∙ ap (λ z. with_front (map view z) (read (reader conditions_of n) (many most q) rest)) (sym (k ∙ ap (λ z. z ++ x ∷ []) i))

  pub begun_fails : {C D : Type 0} (other : D → C) (levels : ℕ) (left rest : List Token) (halt : ParseError) (whole : Found Token C) (of_parts : Found Token (List A) → Found Token C)
      → ((s : ParseFault) → of_parts (Err s, rest) ≡ (Err s, rest)) → whole ≡ of_parts (read (reader conditions_of levels) (first_and most p q) left)
      → ReadsAndLeaves view (read (reader conditions_of levels) p left) (Err halt) rest → ReadsAndLeaves other whole (Err halt) rest
  begun_fails other levels left rest Memory whole of_parts keeps k h = tt
  begun_fails other levels left rest (Fault s) whole of_parts keeps k h = k ∙ ap of_parts (rw h refl) ∙ keeps s

-- how many more there may be

pub has_room : (most n : ℕ) → n < most → is_full (Some (most - n)) ≡ false
has_room most n h = go (most - n) refl
  where
    go : (k : ℕ) → most - n ≡ k → is_full (Some k) ≡ false
    go zero e = absurd (omega arith)
    go (suc k) e = refl

pub one_fewer : {B : Type 0} (most : ℕ) (front next : List B) (x : B) → next ≡ front ++ x ∷ [] → length front < most → Some (most - length next) ≡ one_less (Some (most - length front))
one_fewer most front next x e h = go (most - length front) refl
  where
    longer : length next ≡ length front + 1
    longer = ap length e ∙ length-append front (x ∷ [])

    go : (k : ℕ) → most - length front ≡ k → Some (most - length next) ≡ one_less (Some k)
    go zero f = absurd (omega arith)
    go (suc k) f = let fewer : most - length next ≡ k = omega (arith, longer) in ap Some fewer

pub no_room : (most n : ℕ) → n ≡ most → is_full (Some (most - n)) ≡ true
no_room most n h = let e : most - n ≡ 0 = omega arith in rw e refl

-- the same where a part is put behind the others as it was read

pub push_parsed_len : {B : Type 0} (front : List B) (part : Result B ParseError) (list : Vec B Global) → Appends front part (Ok list) → length list.items ≡ length front + 1
push_parsed_len front (Ok x) list k = ap length k ∙ length-append front (x ∷ [])
push_parsed_len front (Err halt) list k = absurd k

module _ {A B : Type 0} (view : B → A) (q : Rule sql A) (solid : is_nullable q ≡ false) where
  pub turn_in : (most levels m n : ℕ) (front : List B) (part : Result B ParseError) (list : Vec B Global) (left rest : List Token) → m ≡ levels → n ≡ m → length front < most
      → begins sql (first q) left ≡ true → ReadsAndLeaves view (read (reader conditions_of m) q left) part rest → Appends front part (Ok list)
      → with_front (map view list.items) (many_of (Some (most - length list.items)) q n rest) ≡ with_front (map view front) (many_of (Some (most - length front)) q levels left)
  turn_in most levels m n front (Ok x) list left rest e f room b h k =
      turn view q solid (Some (most - length front)) (Some (most - length list.items)) levels m n front list.items x left rest e f
      (has_room most (length front) room) (one_fewer most front list.items x k room) b h k
  turn_in most levels m n front (Err halt) list left rest e f room b h k = absurd k

  pub turn_stops : {C D : Type 0} (other : D → C) (most levels m : ℕ) (front : List B) (part : Result B ParseError) (left rest : List Token) (halt : ParseError) (whole : Found Token C)
      (of_parts : Found Token (List A) → Found Token C) → ((s : ParseFault) → of_parts (Err s, rest) ≡ (Err s, rest)) → m ≡ levels → length front < most → begins sql (first q) left ≡ true
      → whole ≡ of_parts (with_front (map view front) (many_of (Some (most - length front)) q levels left))
      → ReadsAndLeaves view (read (reader conditions_of m) q left) part rest → Appends front part (Err halt) → ReadsAndLeaves other whole (Err halt) rest
  turn_stops other most levels m front (Ok x) left rest halt whole of_parts keeps e room b w h k = subst (λ z. ReadsAndLeaves other whole (Err z) rest) (sym k) tt
  turn_stops other most levels m front (Err why) left rest halt whole of_parts keeps e room b w h k =
      subst (λ z. ReadsAndLeaves other whole (Err z) rest) (sym k)
      (turn_fails view q solid other (Some (most - length front)) levels m front left rest why whole of_parts keeps e (has_room most (length front) room) b w h)

  pub fewer_in : (m : ℕ) (front : List B) (part : Result B ParseError) (list : Vec B Global) (left rest : List Token) → ReadsAndLeaves view (read (reader conditions_of m) q left) part rest
      → Appends front part (Ok list) → length rest < length left
  fewer_in m front (Ok x) list left rest h k = fewer view q solid m left x rest h
  fewer_in m front (Err halt) list left rest h k = absurd k

module _ {A B : Type 0} (view : B → A) (most : Option ℕ) (p q : Rule sql A) where
  pub begun_in : (levels n : ℕ) (left rest : List Token) (none : List B) (part : Result B ParseError) (list : Vec B Global) → n ≡ levels
      → ReadsAndLeaves view (read (reader conditions_of levels) p left) part rest → none ≡ [] → Appends none part (Ok list)
      → read (reader conditions_of levels) (first_and most p q) left ≡ with_front (map view list.items) (many_of most q n rest)
  begun_in levels n left rest none (Ok x) list e h i k = begun view most p q levels n left rest x none list.items e h i k
  begun_in levels n left rest none (Err halt) list e h i k = absurd k

  pub begun_stops : {C D : Type 0} (other : D → C) (levels : ℕ) (left rest : List Token) (none : List B) (part : Result B ParseError) (halt : ParseError) (whole : Found Token C)
      (of_parts : Found Token (List A) → Found Token C) → ((s : ParseFault) → of_parts (Err s, rest) ≡ (Err s, rest)) → whole ≡ of_parts (read (reader conditions_of levels) (first_and most p q) left)
      → ReadsAndLeaves view (read (reader conditions_of levels) p left) part rest → Appends none part (Err halt) → ReadsAndLeaves other whole (Err halt) rest
  begun_stops other levels left rest none (Ok x) halt whole of_parts keeps w h k = subst (λ z. ReadsAndLeaves other whole (Err z) rest) (sym k) tt
  begun_stops other levels left rest none (Err why) halt whole of_parts keeps w h k =
      subst (λ z. ReadsAndLeaves other whole (Err z) rest) (sym k) (begun_fails view most p q other levels left rest why whole of_parts keeps w h)
