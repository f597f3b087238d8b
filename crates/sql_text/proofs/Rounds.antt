-- A repetition of parts behind separators, as a loop reads it.
use Rattle.std.proofs.Common.{Result, ◌≡◌, ℕ, ◌+◌, ◌≤◌, ◌<◌, true, false, cond, List, [], ◌∷◌, ◌++◌, length, Option, Ok, Err, refl, sym, ap, ◌∙◌, subst, arith, append_assoc}
use Rattle.grammar.specs.Rule.{Rule, many}
use Rattle.grammar.specs.Checks.{is_nullable, first}
use Rattle.grammar.specs.Reading.{Found, begins, take_token, and_then, is_full, one_less, read, reader}
use Rattle.grammar.specs.declared.ParseFault.{ParseFault}
use Rattle.grammar.specs.declared.ParseFault.TheVariants.{TooMany}
use Rattle.grammar.proofs.Shorter.{Shortens, round, many_step, solid_shorter, shortens_taken, shorter, nested_shorter, least}
use Rattle.sql_tokens.specs.declared.kinds.TokenKind.{TokenKind}
use Rattle.sql_tokens.specs.Lex.{Token}
use Rattle.std.specs.Prelude.{map}
use Rattle.std.proofs.lemmas.List.{append-nil, map-append, length-append}
use Rattle.sql_text.specs.declared.parse_error.ParseError.{ParseError}
use Rattle.sql_text.specs.declared.parse_error.ParseError.TheVariants.{Memory, Fault}
use Rattle.sql_text.specs.Parsing.{ReadsAndLeaves, Appends}
use Rattle.std.specs.Prelude.{Vec, OnOk}
use Rattle.std.specs.Global.{Global}
use Rattle.sql_text.specs.Tokens.{sql}
use Rattle.sql_text.specs.Rules.{before, list_of}
use Rattle.sql_text.specs.Queries.{conditions_of}

-- { kind p }, at most so often, of what is left
unfoldable pub more_of : {A : Type 0} → Option ℕ → TokenKind → Rule sql A → ℕ → List Token → Found Token (List A)
more_of most kind p levels left = read (reader conditions_of levels) (many most (before kind p)) left

-- parts that were read, in front of those that are read next
abbrev pub with_front : {A : Type 0} → List A → Found Token (List A) → Found Token (List A)
with_front front (Ok vs, left) = (Ok (front ++ vs), left)
with_front front (Err s, left) = (Err s, left)

pub front_none : {A : Type 0} (r : Found Token (List A)) → with_front [] r ≡ r
front_none (Ok vs, left) = refl
front_none (Err s, left) = refl

front_one : {A : Type 0} (front : List A) (v : A) (r : Found Token (List A)) → with_front front (and_then r (λ vs end. (Ok (v ∷ vs), end))) ≡ with_front (front ++ v ∷ []) r
front_one front v (Ok vs, left) = ap (λ z. (Ok z, left)) (sym (append_assoc front (v ∷ []) vs))
front_one front v (Err s, left) = refl

module _ {A : Type 0} (most : Option ℕ) (kind : TokenKind) (p : Rule sql A) (levels : ℕ) (left : List Token) where
  step : read (reader conditions_of levels) (many most (before kind p)) left
      ≡ cond (begins sql (kind ∷ []) left) (cond (is_full most) (Err TooMany, left) (round (reader conditions_of levels) most (before kind p) left)) (Ok [], left)
  unfolding before
  step = many_step sql (reader conditions_of levels) (before kind p) (λ ts. solid_shorter sql conditions_of levels (before kind p) refl ts) most left

  pub more_stop : begins sql (kind ∷ []) left ≡ false → more_of most kind p levels left ≡ (Ok [], left)
  unfolding more_of
  more_stop e = step ∙ rw e refl

  pub more_full : begins sql (kind ∷ []) left ≡ true → is_full most ≡ true → more_of most kind p levels left ≡ (Err TooMany, left)
  unfolding more_of
  more_full e f = step ∙ rw (e, f) refl

  pub more_go : (t : Token) (mid : List Token) (v : A) (rest : List Token) → begins sql (kind ∷ []) left ≡ true → is_full most ≡ false
      → take_token sql kind left ≡ (Ok t, mid) → read (reader conditions_of levels) p mid ≡ (Ok v, rest)
      → (front : List A) → with_front front (more_of most kind p levels left) ≡ with_front (front ++ v ∷ []) (more_of (one_less most) kind p levels rest)
  unfolding more_of before
  more_go t mid v rest e f g h front = ap (with_front front) (step ∙ rw (e, f, g, h) refl) ∙ front_one front v (read (reader conditions_of levels) (many (one_less most) (before kind p)) rest)

  pub more_fail : (t : Token) (mid : List Token) (s : ParseFault) (rest : List Token) → begins sql (kind ∷ []) left ≡ true → is_full most ≡ false
      → take_token sql kind left ≡ (Ok t, mid) → read (reader conditions_of levels) p mid ≡ (Err s, rest) → more_of most kind p levels left ≡ (Err s, rest)
  unfolding more_of before
  more_fail t mid s rest e f g h = step ∙ rw (e, f, g, h) refl

-- the first part, then the others
pub listed_is : {A : Type 0} (most : Option ℕ) (kind : TokenKind) (p : Rule sql A) (levels : ℕ) (left : List Token) (v : A) (rest : List Token)
    → read (reader conditions_of levels) p left ≡ (Ok v, rest)
    → read (reader conditions_of levels) (list_of most kind p) left ≡ with_front (v ∷ []) (more_of most kind p levels rest)
unfolding list_of more_of
listed_is {A} most kind p levels left v rest e = rw e (go (read (reader conditions_of levels) (many most (before kind p)) rest))
  where
    go : (r : Found Token (List A)) → and_then {A = A × List A} {B = List A} (and_then {A = List A} {B = A × List A} r (λ vs end. (Ok (v, vs), end))) (λ x end. (Ok (x.0 ∷ x.1), end)) ≡ with_front (v ∷ []) r
    go (Ok vs, end) = refl
    go (Err s, end) = refl

pub listed_fails : {A : Type 0} (most : Option ℕ) (kind : TokenKind) (p : Rule sql A) (levels : ℕ) (left : List Token) (s : ParseFault) (rest : List Token)
    → read (reader conditions_of levels) p left ≡ (Err s, rest) → read (reader conditions_of levels) (list_of most kind p) left ≡ (Err s, rest)
unfolding list_of
listed_fails most kind p levels left s rest e = rw e refl

-- the same in the words of a loop: `view` is what a part of the program is, `levels` are those at
-- the loop's begin

next_front : {A B : Type 0} (view : B → A) (front next : List B) (x : B) → next ≡ front ++ x ∷ [] → map view next ≡ map view front ++ view x ∷ []
next_front view front next x e = ap (map view) e ∙ map-append view front (x ∷ [])

module _ {A B : Type 0} (view : B → A) (most : Option ℕ) (kind : TokenKind) (p : Rule sql A) where
  -- one turn
  pub turn : (levels m n : ℕ) (front next : List B) (x : B) (left : List Token) (t : Token) (mid rest : List Token) → m ≡ levels → n ≡ m → is_full most ≡ false
      → begins sql (kind ∷ []) left ≡ true → take_token sql kind left ≡ (Ok t, mid) → read (reader conditions_of m) p mid ≡ (Ok (view x), rest) → next ≡ front ++ x ∷ []
      → with_front (map view next) (more_of (one_less most) kind p n rest) ≡ with_front (map view front) (more_of most kind p levels left)
  turn levels m n front next x left t mid rest e f room b g h k =
      let same : n ≡ levels = f ∙ e in
      ap (λ z. with_front z (more_of (one_less most) kind p n rest)) (next_front view front next x k)
      ∙ ap (λ z. with_front (map view front ++ view x ∷ []) (more_of (one_less most) kind p z rest)) same
      ∙ sym (more_go most kind p levels left t mid (view x) rest b room g (subst (λ z. read (reader conditions_of z) p mid ≡ (Ok (view x), rest)) e h) (map view front))

  -- a turn whose part fails
  pub turn_fails : {C D : Type 0} (other : D → C) (levels m : ℕ) (front : List B) (left : List Token) (t : Token) (mid rest : List Token) (halt : ParseError) (whole : Found Token C)
      (of_parts : Found Token (List A) → Found Token C) → ((s : ParseFault) → of_parts (Err s, rest) ≡ (Err s, rest)) → m ≡ levels → is_full most ≡ false
      → begins sql (kind ∷ []) left ≡ true → take_token sql kind left ≡ (Ok t, mid) → whole ≡ of_parts (with_front (map view front) (more_of most kind p levels left))
      → ReadsAndLeaves view (read (reader conditions_of m) p mid) (Err halt) rest → ReadsAndLeaves other whole (Err halt) rest
  turn_fails other levels m front left t mid rest Memory whole of_parts keeps e room b g k h = tt
  turn_fails other levels m front left t mid rest (Fault s) whole of_parts keeps e room b g k h =
      k ∙ ap (λ z. of_parts (with_front (map view front) z)) (more_fail most kind p levels left t mid s rest b room g (subst (λ z. read (reader conditions_of z) p mid ≡ (Err s, rest)) e h)) ∙ keeps s

  -- the first part, in the loop's words
  pub begun : (levels n : ℕ) (left rest : List Token) (x : B) (none first : List B) → n ≡ levels → read (reader conditions_of levels) p left ≡ (Ok (view x), rest)
      → none ≡ [] → first ≡ none ++ x ∷ [] → read (reader conditions_of levels) (list_of most kind p) left ≡ with_front (map view first) (more_of most kind p n rest)
  begun levels n left rest x none first e h i k =
      listed_is most kind p levels left (view x) rest h
      ∙ ap (λ z. with_front (view x ∷ []) (more_of most kind p z rest)) (sym e)
      ∙ ap (λ z. with_front (map view z) (more_of most kind p n rest)) (sym (k ∙ ap (λ z. z ++ x ∷ []) i))

  pub begun_fails : {C D : Type 0} (other : D → C) (levels : ℕ) (left rest : List Token) (halt : ParseError) (whole : Found Token C) (of_parts : Found Token (List A) → Found Token C)
      → ((s : ParseFault) → of_parts (Err s, rest) ≡ (Err s, rest)) → whole ≡ of_parts (read (reader conditions_of levels) (list_of most kind p) left)
      → ReadsAndLeaves view (read (reader conditions_of levels) p left) (Err halt) rest → ReadsAndLeaves other whole (Err halt) rest
  begun_fails other levels left rest Memory whole of_parts keeps k h = tt
  begun_fails other levels left rest (Fault s) whole of_parts keeps k h = k ∙ ap of_parts (listed_fails most kind p levels left s rest h) ∙ keeps s

-- the same where a part is put behind the others as it was read

-- what stays where the part was read
pub kept : {B : Type 0} {P : Type 0} (front : List B) (part : Result B ParseError) (list : Vec B Global) → Appends front part (Ok list) → OnOk part P → P
kept front (Ok x) list k h = h
kept front (Err halt) list k h = absurd k

pub some_in : {B : Type 0} (front : List B) (part : Result B ParseError) (list : Vec B Global) → Appends front part (Ok list) → 0 < length list.items
some_in front (Ok x) list k = let e = ap length k ∙ length-append front (x ∷ []) in omega arith
some_in front (Err halt) list k = absurd k

module _ {A B : Type 0} (view : B → A) (most : Option ℕ) (kind : TokenKind) (p : Rule sql A) where
  pub turn_in : (levels m n : ℕ) (front : List B) (part : Result B ParseError) (list : Vec B Global) (left : List Token) (t : Token) (mid rest : List Token) → m ≡ levels → OnOk part (n ≡ m) → is_full most ≡ false
      → begins sql (kind ∷ []) left ≡ true → take_token sql kind left ≡ (Ok t, mid) → ReadsAndLeaves view (read (reader conditions_of m) p mid) part rest → Appends front part (Ok list)
      → with_front (map view list.items) (more_of (one_less most) kind p n rest) ≡ with_front (map view front) (more_of most kind p levels left)
  turn_in levels m n front (Ok x) list left t mid rest e f room b g h k = turn view most kind p levels m n front list.items x left t mid rest e f room b g h k
  turn_in levels m n front (Err halt) list left t mid rest e f room b g h k = absurd k

  pub turn_stops : {C D : Type 0} (other : D → C) (levels m : ℕ) (front : List B) (part : Result B ParseError) (left : List Token) (t : Token) (mid rest : List Token) (halt : ParseError) (whole : Found Token C)
      (of_parts : Found Token (List A) → Found Token C) → ((s : ParseFault) → of_parts (Err s, rest) ≡ (Err s, rest)) → m ≡ levels → is_full most ≡ false
      → begins sql (kind ∷ []) left ≡ true → take_token sql kind left ≡ (Ok t, mid) → whole ≡ of_parts (with_front (map view front) (more_of most kind p levels left))
      → ReadsAndLeaves view (read (reader conditions_of m) p mid) part rest → Appends front part (Err halt) → ReadsAndLeaves other whole (Err halt) rest
  turn_stops other levels m front (Ok x) left t mid rest halt whole of_parts keeps e room b g w h k = subst (λ z. ReadsAndLeaves other whole (Err z) rest) (sym k) tt
  turn_stops other levels m front (Err why) left t mid rest halt whole of_parts keeps e room b g w h k =
      subst (λ z. ReadsAndLeaves other whole (Err z) rest) (sym k) (turn_fails view most kind p other levels m front left t mid rest why whole of_parts keeps e room b g w h)

  pub begun_in : (levels n : ℕ) (left rest : List Token) (none : List B) (part : Result B ParseError) (list : Vec B Global) → OnOk part (n ≡ levels) → ReadsAndLeaves view (read (reader conditions_of levels) p left) part rest
      → none ≡ [] → Appends none part (Ok list) → read (reader conditions_of levels) (list_of most kind p) left ≡ with_front (map view list.items) (more_of most kind p n rest)
  begun_in levels n left rest none (Ok x) list e h i k = begun view most kind p levels n left rest x none list.items e h i k
  begun_in levels n left rest none (Err halt) list e h i k = absurd k

  pub begun_stops : {C D : Type 0} (other : D → C) (levels : ℕ) (left rest : List Token) (none : List B) (part : Result B ParseError) (halt : ParseError) (whole : Found Token C)
      (of_parts : Found Token (List A) → Found Token C) → ((s : ParseFault) → of_parts (Err s, rest) ≡ (Err s, rest)) → whole ≡ of_parts (read (reader conditions_of levels) (list_of most kind p) left)
      → ReadsAndLeaves view (read (reader conditions_of levels) p left) part rest → Appends none part (Err halt) → ReadsAndLeaves other whole (Err halt) rest
  begun_stops other levels left rest none (Ok x) halt whole of_parts keeps w h k = subst (λ z. ReadsAndLeaves other whole (Err z) rest) (sym k) tt
  begun_stops other levels left rest none (Err why) halt whole of_parts keeps w h k =
      subst (λ z. ReadsAndLeaves other whole (Err z) rest) (sym k) (begun_fails view most kind p other levels left rest why whole of_parts keeps w h)

-- no further part
pub stopped : {A B : Type 0} (view : B → A) (most : Option ℕ) (kind : TokenKind) (p : Rule sql A) (levels : ℕ) (front : List B) (left : List Token)
    → begins sql (kind ∷ []) left ≡ false → with_front (map view front) (more_of most kind p levels left) ≡ (Ok (map view front), left)
stopped view most kind p levels front left b = ap (with_front (map view front)) (more_stop most kind p levels left b) ∙ ap (λ z. (Ok z, left)) (append-nil (map view front))

-- one part too many
pub overfull : {A B : Type 0} (view : B → A) (most : Option ℕ) (kind : TokenKind) (p : Rule sql A) (levels : ℕ) (front : List B) (left : List Token)
    → begins sql (kind ∷ []) left ≡ true → is_full most ≡ true → with_front (map view front) (more_of most kind p levels left) ≡ (Err TooMany, left)
overfull view most kind p levels front left b e = ap (with_front (map view front)) (more_full most kind p levels left b e)

-- a turn takes tokens
pub fewer : {A : Type 0} (p : Rule sql A) (kind : TokenKind) (m : ℕ) (left : List Token) (t : Token) (mid : List Token) (v : A) (rest : List Token)
    → take_token sql kind left ≡ (Ok t, mid) → read (reader conditions_of m) p mid ≡ (Ok v, rest) → length rest < length left
fewer p kind m left t mid v rest e h =
    let one : length mid + 1 ≤ length left = subst (Shortens 1 left) e (shortens_taken sql (reader conditions_of m) (nested_shorter sql conditions_of m) kind left) in
    let part : length rest + least (is_nullable p) ≤ length mid = subst (Shortens (least (is_nullable p)) mid) h (shorter sql (reader conditions_of m) (nested_shorter sql conditions_of m) p mid) in
    omega arith

pub fewer_in : {A B : Type 0} (view : B → A) (p : Rule sql A) (kind : TokenKind) (m : ℕ) (front : List B) (part : Result B ParseError) (list : Vec B Global) (left : List Token) (t : Token) (mid rest : List Token)
    → take_token sql kind left ≡ (Ok t, mid) → ReadsAndLeaves view (read (reader conditions_of m) p mid) part rest → Appends front part (Ok list) → length rest < length left
fewer_in view p kind m front (Ok x) list left t mid rest e h k = fewer p kind m left t mid (view x) rest e h
fewer_in view p kind m front (Err halt) list left t mid rest e h k = absurd k
