-- Reading a condition's parts, in the words of what each step found.
use Rattle.std.proofs.Common.{◌≡◌, ℕ, ◌+◌, Bool, true, false, List, [], ◌∷◌, None, Result, Ok, Err, refl, sym, ap, ◌∙◌, subst, add-one}
use Rattle.grammar.specs.Reading.{Found, begins, take_token, and_then, read, reader}
use Rattle.grammar.specs.declared.ParseFault.{ParseFault}
use Rattle.grammar.specs.declared.ParseFault.TheVariants.{Nesting}
use Rattle.sql_tokens.specs.declared.kinds.TokenKind.{TokenKind}
use Rattle.sql_tokens.specs.declared.kinds.TokenKind.TheVariants as k
use Rattle.sql_tokens.specs.Kinds.{same_kind}
use Rattle.sql_tokens.proofs.KindLemmas.{same_kind_true, same_kind_self}
use Rattle.std.specs.Prelude.{◌||◌}
use Rattle.sql_tokens.specs.Lex.{Token}
use Rattle.std.specs.Prelude.{Box, IfOk}
use Rattle.std.specs.Global.{Global}
use Rattle.vo_spec.specs.declared.queries.Cmp.{Cmp}
use Rattle.vo_spec.specs.declared.queries.Operand.{Operand}
use Rattle.vo_spec.specs.declared.queries.Ref.{Ref}
use Rattle.vo_spec.specs.declared.queries.Cond
use Rattle.vo_spec.specs.declared.queries.Cond.{Cond, fold-roll-Cond}
use Rattle.vo_spec.specs.Conditions.{Condition, negated, test, comparison, null_test, condition_of}
use Rattle.sql_text.specs.declared.parse_error.ParseError.{ParseError}
use Rattle.sql_text.specs.declared.parse_error.ParseError.TheVariants.{Memory, Fault}
use Rattle.sql_text.specs.Parsing.{first_of, ReadsAndLeaves}
use Rattle.sql_text.specs.Tokens.{sql, Nested, whole, primary}
use Rattle.sql_text.specs.Rules.{followed_by, list_of}
use Rattle.sql_text.proofs.Firsts.{first_null_clause}
use Rattle.sql_text.specs.Queries.{reference, operator, operand, null_clause, test_end, name_test, prim, conj, disj, all_of, any_of, conditions_of}

or_false : (a : Bool) → (a || false) ≡ true → a ≡ true
or_false true e = refl
or_false false e = e

-- with no level left, the token that opens one is the fault
too_deep : (kind : TokenKind) (n : Nested) (left : List Token) → begins sql (kind ∷ []) left ≡ true
    → and_then (take_token sql kind left) (reader conditions_of 0 n) ≡ (Err Nesting, left)
too_deep kind n [] e = absurd (cc)
too_deep kind n (t ∷ ts) e =
    let same : kind ≡ t.kind = same_kind_true kind t.kind (or_false (same_kind kind t.kind) e) in
    let f : same_kind t.kind kind ≡ true = subst (λ z. same_kind t.kind z ≡ true) (sym same) (same_kind_self t.kind) in
    rw f refl

-- a level deeper, the rule of what stands there is read
opened : (kind : TokenKind) (n : Nested) (left : List Token) (levels m : ℕ) (t : Token) (mid : List Token) → m + 1 ≡ levels → take_token sql kind left ≡ (Ok t, mid)
    → and_then (take_token sql kind left) (reader conditions_of levels n) ≡ read (reader conditions_of m) (conditions_of.rule n) mid
opened kind n left levels m t mid e f = subst (λ z. and_then (take_token sql kind left) (reader conditions_of z n) ≡ read (reader conditions_of m) (conditions_of.rule n) mid) (sym (add-one m) ∙ e) (rw f refl)

-- a fault that comes of another, or the end of memory
pub passed_on : {A B C D : Type 0} (view : B → A) (other : D → C) (found : Found Token A) (next : Found Token C) (halt : ParseError) (left : List Token)
    → ((s : ParseFault) → found ≡ (Err s, left) → next ≡ (Err s, left)) → ReadsAndLeaves view found (Err halt) left → ReadsAndLeaves other next (Err halt) left
passed_on view other found next Memory left f h = tt
passed_on view other found next (Fault s) left f h = f s h

-- a test, by what stands behind its reference

module _ (levels : ℕ) (left mid end : List Token) (r : Ref) where
  pub null_read : (is_not : Bool) → read (reader conditions_of levels) reference left ≡ (Ok r, mid) → begins sql (k.Is ∷ []) mid ≡ true
      → read (reader conditions_of levels) null_clause mid ≡ (Ok is_not, end) → read (reader conditions_of levels) name_test left ≡ (Ok (test (null_test r is_not)), end)
  unfolding name_test test_end
  null_read is_not e b f = rw (e, first_null_clause, b, f) refl

  pub comparison_read : (rest : List Token) (op : Cmp) (right : Operand) → read (reader conditions_of levels) reference left ≡ (Ok r, mid) → begins sql (k.Is ∷ []) mid ≡ false
      → read (reader conditions_of levels) operator mid ≡ (Ok op, rest) → read (reader conditions_of levels) operand rest ≡ (Ok right, end)
      → read (reader conditions_of levels) name_test left ≡ (Ok (test (comparison r op right)), end)
  unfolding name_test test_end
  comparison_read rest op right e b f g = rw (e, first_null_clause, b, f, g) refl

module _ (levels : ℕ) (left : List Token) where
  pub not_deep : begins sql (k.Not ∷ []) left ≡ true → levels ≡ 0 → read (reader conditions_of levels) prim left ≡ (Err Nesting, left)
  unfolding prim
  not_deep b f = subst (λ z. read (reader conditions_of z) prim left ≡ (Err Nesting, left)) (sym f) (rw (b, too_deep k.Not primary left b) refl)

  module _ (m : ℕ) (t : Token) (mid : List Token) (fewer : m + 1 ≡ levels) where
    pub not_done : (v : Condition) (rest : List Token) → begins sql (k.Not ∷ []) left ≡ true
        → take_token sql k.Not left ≡ (Ok t, mid) → read (reader conditions_of m) prim mid ≡ (Ok v, rest) → read (reader conditions_of levels) prim left ≡ (Ok (negated v), rest)
    unfolding prim conditions_of
    not_done v rest b f h = rw (b, opened k.Not primary left levels m t mid fewer f, h) refl

    not_fault : (s : ParseFault) (rest : List Token) → begins sql (k.Not ∷ []) left ≡ true
        → take_token sql k.Not left ≡ (Ok t, mid) → read (reader conditions_of m) prim mid ≡ (Err s, rest) → read (reader conditions_of levels) prim left ≡ (Err s, rest)
    unfolding prim conditions_of
    not_fault s rest b f h = rw (b, opened k.Not primary left levels m t mid fewer f, h) refl

    pub not_fails : (halt : ParseError) (rest : List Token) → begins sql (k.Not ∷ []) left ≡ true → take_token sql k.Not left ≡ (Ok t, mid)
        → ReadsAndLeaves {B = Cond} condition_of (read (reader conditions_of m) prim mid) (Err halt) rest → ReadsAndLeaves {B = Cond} condition_of (read (reader conditions_of levels) prim left) (Err halt) rest
    not_fails halt rest b f h = passed_on condition_of condition_of (read (reader conditions_of m) prim mid) _ halt rest (λ s e. not_fault s rest b f e) h

    paren_done : (v : Condition) (rest : List Token) (u : Token) (end : List Token) → begins sql (k.Not ∷ []) left ≡ false → begins sql (k.LeftParen ∷ []) left ≡ true
        → take_token sql k.LeftParen left ≡ (Ok t, mid) → read (reader conditions_of m) disj mid ≡ (Ok v, rest) → take_token sql k.RightParen rest ≡ (Ok u, end)
        → read (reader conditions_of levels) prim left ≡ (Ok v, end)
    unfolding prim conditions_of followed_by
    paren_done v rest u end a b f h i = rw (a, b, opened k.LeftParen whole left levels m t mid fewer f, h, i) refl

    paren_left_open : (v : Condition) (rest : List Token) (s : ParseFault) (end : List Token) → begins sql (k.Not ∷ []) left ≡ false → begins sql (k.LeftParen ∷ []) left ≡ true
        → take_token sql k.LeftParen left ≡ (Ok t, mid) → read (reader conditions_of m) disj mid ≡ (Ok v, rest) → take_token sql k.RightParen rest ≡ (Err s, end)
        → read (reader conditions_of levels) prim left ≡ (Err s, end)
    unfolding prim conditions_of followed_by
    paren_left_open v rest s end a b f h i = rw (a, b, opened k.LeftParen whole left levels m t mid fewer f, h, i) refl

    pub paren_closed : (inner : Cond) (rest : List Token) (found : Result Cond ParseError) (end : List Token) → begins sql (k.Not ∷ []) left ≡ false → begins sql (k.LeftParen ∷ []) left ≡ true
        → take_token sql k.LeftParen left ≡ (Ok t, mid) → read (reader conditions_of m) disj mid ≡ (Ok (condition_of inner), rest)
        → ReadsAndLeaves {B = Cond} (λ x. first_of rest) (take_token sql k.RightParen rest) found end → IfOk found (λ x. x ≡ inner)
        → ReadsAndLeaves {B = Cond} condition_of (read (reader conditions_of levels) prim left) found end
    paren_closed inner rest (Ok x) end a b f h i same = paren_done (condition_of inner) rest (first_of rest) end a b f h i ∙ ap (λ z. (Ok (condition_of z), end)) (sym same)
    paren_closed inner rest (Err Memory) end a b f h i same = tt
    paren_closed inner rest (Err (Fault s)) end a b f h i same = paren_left_open (condition_of inner) rest s end a b f h i

    paren_fault : (s : ParseFault) (rest : List Token) → begins sql (k.Not ∷ []) left ≡ false → begins sql (k.LeftParen ∷ []) left ≡ true
        → take_token sql k.LeftParen left ≡ (Ok t, mid) → read (reader conditions_of m) disj mid ≡ (Err s, rest) → read (reader conditions_of levels) prim left ≡ (Err s, rest)
    unfolding prim conditions_of followed_by
    paren_fault s rest a b f h = rw (a, b, opened k.LeftParen whole left levels m t mid fewer f, h) refl

    pub paren_fails : (halt : ParseError) (rest : List Token) → begins sql (k.Not ∷ []) left ≡ false → begins sql (k.LeftParen ∷ []) left ≡ true → take_token sql k.LeftParen left ≡ (Ok t, mid)
        → ReadsAndLeaves {B = Cond} condition_of (read (reader conditions_of m) disj mid) (Err halt) rest → ReadsAndLeaves {B = Cond} condition_of (read (reader conditions_of levels) prim left) (Err halt) rest
    paren_fails halt rest a b f h = passed_on condition_of condition_of (read (reader conditions_of m) disj mid) _ halt rest (λ s e. paren_fault s rest a b f e) h

  pub paren_deep : begins sql (k.Not ∷ []) left ≡ false → begins sql (k.LeftParen ∷ []) left ≡ true → levels ≡ 0 → read (reader conditions_of levels) prim left ≡ (Err Nesting, left)
  unfolding prim followed_by
  paren_deep a b f = subst (λ z. read (reader conditions_of z) prim left ≡ (Err Nesting, left)) (sym f) (rw (a, b, too_deep k.LeftParen whole left b) refl)

  pub test_is : begins sql (k.Not ∷ []) left ≡ false → begins sql (k.LeftParen ∷ []) left ≡ false → read (reader conditions_of levels) prim left ≡ read (reader conditions_of levels) name_test left
  unfolding prim followed_by
  test_is a b = rw (a, b) refl

pub ruleset prims = (not_deep, not_done, not_fails, paren_closed, paren_fails, paren_deep, test_is)

pub conj_is : (levels : ℕ) (left : List Token) → read (reader conditions_of levels) conj left ≡ and_then (read (reader conditions_of levels) (list_of None k.And prim) left) (λ vs end. (Ok (all_of vs), end))
unfolding conj
conj_is levels left = refl

pub disj_is : (levels : ℕ) (left : List Token) → read (reader conditions_of levels) disj left ≡ and_then (read (reader conditions_of levels) (list_of None k.Or conj) left) (λ vs end. (Ok (any_of vs), end))
unfolding disj
disj_is levels left = refl

-- a condition is seen part by part
pub not_is : (part : Box Cond Global) → condition_of (Cond.TheVariants.Not part) ≡ negated (condition_of part.value)
not_is part = ap condition_of (sym (Cond.TheVariants.rolls-Not part)) ∙ search fold-roll-Cond

pub test_seen : (r : Ref) (op : Cmp) (right : Operand) → condition_of (Cond.TheVariants.Test r op right) ≡ test (comparison r op right)
test_seen r op right = ap condition_of (sym (Cond.TheVariants.rolls-Test r op right)) ∙ search fold-roll-Cond

pub null_test_seen : (r : Ref) (is_not : Bool) → condition_of (Cond.TheVariants.IsNull r is_not) ≡ test (null_test r is_not)
null_test_seen r is_not = ap condition_of (sym (Cond.TheVariants.rolls-IsNull r is_not)) ∙ search fold-roll-Cond
