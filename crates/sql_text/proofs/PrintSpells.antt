-- What is printed is spelled by the rules of the grammar, with the value that was printed.
use Rattle.std.proofs.Common.{◌≡◌, ℕ, zero, suc, ◌≤◌, max, Bool, true, false, cond, ℤ, pos, List, [], ◌∷◌, ◌++◌, length, drop, Option, Some, None, refl, sym, ap, ◌∙◌, subst, inl, inr, arith, append_assoc}
use Rattle.std.specs.Prelude.{flat_map, nat_lt, int_le, ◌&&◌, IfSome}
use Rattle.std.proofs.lemmas.Bool.{le-leb}
use Rattle.std.specs.Option.{option_map_or}
use Rattle.std.specs.List.{AllByRecursion}
use Rattle.std.proofs.lemmas.List.{append-nil}
use Rattle.grammar.specs.Rule.{Rule, token, both, either, inside}
use Rattle.grammar.specs.Text.{Repeats, Spells, NestsIn, IsText}
use Rattle.sql_tokens.specs.declared.kinds.TokenKind.{TokenKind}
use Rattle.sql_tokens.specs.declared.kinds.TokenKind.TheVariants as k
use Rattle.sql_tokens.specs.Kinds.{spelling}
use Rattle.sql_tokens.specs.Lex.{Token, token_at, integer_kind}
use Rattle.vo_spec.specs.declared.values.Value.{Value}
use Rattle.vo_spec.specs.declared.values.Value.TheVariants as value
use Rattle.vo_spec.specs.declared.queries.Ref.{Ref}
use Rattle.vo_spec.specs.declared.queries.Source.{Source}
use Rattle.vo_spec.specs.declared.queries.Join.{Join}
use Rattle.vo_spec.specs.declared.queries.Items.{Items}
use Rattle.vo_spec.specs.declared.queries.Items.TheVariants as items_of
use Rattle.vo_spec.specs.declared.queries.Cmp.{Cmp}
use Rattle.vo_spec.specs.declared.queries.Cmp.TheVariants as cmp
use Rattle.vo_spec.specs.declared.queries.Operand.{Operand}
use Rattle.vo_spec.specs.declared.queries.Operand.TheVariants as operand_of
use Rattle.vo_spec.specs.Values.{FitsValue}
use Rattle.vo_spec.specs.Conditions.{every, some, negated, test, none, more, comparison, null_test, NameTest, Condition, Conditions, conditions, Query}
use Rattle.sql_text.specs.Tokens.{sql, IsToken, whole}
use Rattle.sql_text.specs.Rules as rule
use Rattle.sql_text.specs.Queries as query
use Rattle.sql_text.specs.Queries.{conditions_of}
use Rattle.sql_text.specs.Printing.{word, name_token, integer_token, literal_token, separate_by, terminate_by, parens, reference_tokens, source_tokens, operator, operand_tokens, null_tokens, test_tokens, is_enclosed, parenthesize, condition_tokens, parts_tokens, items_tokens, join_tokens, where_tokens, limit_tokens, query_tokens}
use Rattle.sql_text.specs.Spellable.{FreeName, SpellableRef, SpellableSource, SpellableOperand, SpellableTest, HasTwo, SpellableCondition, SpellableParts, deeper, levels_of, levels_in, SpellableItems, SpellableJoin, SpellableLimit, SpellableQuery}
use Rattle.sql_text.proofs.TokenSounds.{and_true}
use Rattle.sql_text.proofs.PrintTokens.{name_folded, name_is, unsigned_is, integer_is, quoted_is, unquoted_again}

-- keywords and symbols are tokens
pub word_is : (kind : TokenKind) → nat_lt 0 (length (spelling kind)) ≡ true → IsToken (word kind)
unfolding token_at
word_is k.Select e = refl
word_is k.From e = refl
word_is k.Where e = refl
word_is k.As e = refl
word_is k.Inner e = refl
word_is k.Join e = refl
word_is k.On e = refl
word_is k.And e = refl
word_is k.Or e = refl
word_is k.Not e = refl
word_is k.True e = refl
word_is k.False e = refl
word_is k.Create e = refl
word_is k.Table e = refl
word_is k.Primary e = refl
word_is k.Key e = refl
word_is k.Drop e = refl
word_is k.Insert e = refl
word_is k.Into e = refl
word_is k.Values e = refl
word_is k.Update e = refl
word_is k.Set e = refl
word_is k.Delete e = refl
word_is k.Commit e = refl
word_is k.Bigint e = refl
word_is k.Text e = refl
word_is k.Boolean e = refl
word_is k.Null e = refl
word_is k.Is e = refl
word_is k.Index e = refl
word_is k.Count e = refl
word_is k.Sum e = refl
word_is k.Limit e = refl
word_is k.LeftParen e = refl
word_is k.RightParen e = refl
word_is k.Comma e = refl
word_is k.Semicolon e = refl
word_is k.Dot e = refl
word_is k.Star e = refl
word_is k.Equal e = refl
word_is k.NotEqual e = refl
word_is k.Less e = refl
word_is k.LessEqual e = refl
word_is k.Greater e = refl
word_is k.GreaterEqual e = refl
word_is k.Name e = absurd (cc)
word_is k.Integer e = absurd (cc)
word_is k.RowCount e = absurd (cc)
word_is k.Quoted e = absurd (cc)

-- a text of the rule with at most so many levels inside it
abbrev pub Text : {A : Type 0} → ℕ → Rule sql A → List Token → A → Type 0
Text n p ts v = Spells (NestsIn conditions_of true n) true p ts v

-- The ways to build rules.

pub spell_before : {A : Type 0} (n : ℕ) (kind : TokenKind) (p : Rule sql A) (ts : List Token) (v : A) → IsToken (word kind) → Text n p ts v
    → Text n (rule.before kind p) (word kind ∷ ts) v
unfolding rule.before
spell_before n kind p ts v real s = ((word kind, v), (word kind ∷ [], ts, refl, (real, refl, refl), s), refl)

pub spell_closed : {A : Type 0} (n : ℕ) (p : Rule sql A) (kind : TokenKind) (ts : List Token) (v : A) → IsToken (word kind) → Text n p ts v
    → Text n (rule.followed_by p kind) (ts ++ word kind ∷ []) v
unfolding rule.followed_by
spell_closed n p kind ts v real s = ((v, word kind), (ts, word kind ∷ [], refl, s, (real, refl, refl)), refl)

pub spell_parens : {A : Type 0} (n : ℕ) (p : Rule sql A) (ts : List Token) (v : A) → Text n p ts v → Text n (rule.in_parens p) (parens ts) v
unfolding rule.in_parens
spell_parens n p ts v s =
    spell_before n k.LeftParen (rule.followed_by p k.RightParen) (ts ++ word k.RightParen ∷ []) v (word_is k.LeftParen refl) (spell_closed n p k.RightParen ts v (word_is k.RightParen refl) s)

pub spell_some : {A : Type 0} (n : ℕ) (p : Rule sql A) (ts : List Token) (v : A) → Text n p ts v → Text n (rule.optional p) ts (Some v)
unfolding rule.optional
spell_some n p ts v s = inl (v, s, refl)

pub spell_none : {A : Type 0} (n : ℕ) (p : Rule sql A) → Text n (rule.optional p) [] None
unfolding rule.optional
spell_none n p = inr (refl, refl)

repeated : {A : Type 0} (n : ℕ) (p : Rule sql A) (tokens : A → List Token) (Fits : A → Type 0) → ((v : A) → Fits v → Text n p (tokens v) v)
    → (vs : List A) → AllByRecursion Fits vs → Repeats (Text n p) (flat_map tokens vs) vs
repeated n p tokens Fits f [] h = refl
repeated n p tokens Fits f (v ∷ vs) h = (tokens v, flat_map tokens vs, refl, f v h.0, repeated n p tokens Fits f vs h.1)

pub spell_listed : {A : Type 0} (n most : ℕ) (kind : TokenKind) (p : Rule sql A) (tokens : A → List Token) (Fits : A → Type 0) → IsToken (word kind)
    → ((v : A) → Fits v → Text n p (tokens v) v)
    → (vs : List A) → (1 ≤ length vs) × (length vs ≤ suc most) × AllByRecursion Fits vs → Text n (rule.list_of (Some most) kind p) (separate_by kind tokens vs) vs
unfolding rule.list_of
spell_listed n most kind p tokens Fits real f [] h = absurd (omega (arith, h.0))
spell_listed n most kind p tokens Fits real f (v ∷ vs) h = (
  (v, vs),
  (
    tokens v,
    flat_map (λ y. word kind ∷ tokens y) vs,
    refl,
    f v h.2.0,
    (omega (arith, h.1), repeated n (rule.before kind p) (λ y. word kind ∷ tokens y) Fits (λ y g. spell_before n kind p (tokens y) y real (f y g)) vs h.2.1),
  ),
  refl,
)

pub spell_ended : {A : Type 0} (n most : ℕ) (p : Rule sql A) (kind : TokenKind) (tokens : A → List Token) (Fits : A → Type 0) → IsToken (word kind)
    → ((v : A) → Fits v → Text n p (tokens v) v)
    → (vs : List A) → (1 ≤ length vs) × (length vs ≤ suc most) × AllByRecursion Fits vs → Text n (rule.list_to_end (Some most) p kind) (terminate_by kind tokens vs) vs
unfolding rule.list_to_end
spell_ended n most p kind tokens Fits real f [] h = absurd (omega (arith, h.0))
spell_ended n most p kind tokens Fits real f (v ∷ vs) h = (
  (v, vs),
  (
    tokens v ++ word kind ∷ [],
    terminate_by kind tokens vs,
    refl,
    spell_closed n p kind (tokens v) v real (f v h.2.0),
    (omega (arith, h.1), repeated n (rule.followed_by p kind) (λ y. tokens y ++ word kind ∷ []) Fits (λ y g. spell_closed n p kind (tokens y) y real (f y g)) vs h.2.1),
  ),
  refl,
)

-- Names, literals, references.

pub spell_name : (n : ℕ) (v : List ℕ) → FreeName v → Text n query.name (name_token v ∷ []) v
unfolding query.name
spell_name n v h = (name_token v, (name_is v h.0 h.1, refl, refl), name_folded v h.0)

spell_integer : (n : ℕ) (z : ℤ) → IsToken (integer_token z) → Text n query.literal (integer_token z ∷ []) (value.Int z)
unfolding query.literal
spell_integer n z real = by_rows (int_le (pos 1) z && int_le z (pos 4294967295)) refl
  where
    by_rows : (b : Bool) → (int_le (pos 1) z && int_le z (pos 4294967295)) ≡ b → Text n query.literal (integer_token z ∷ []) (value.Int z)
    by_rows true e = inr (inl (integer_token z, (real, ap (λ b. cond b k.RowCount k.Integer) e, refl), refl))
    by_rows false e = inl (integer_token z, (real, ap (λ b. cond b k.RowCount k.Integer) e, refl), refl)

pub spell_literal : (n : ℕ) (v : Value) → FitsValue v → Text n query.literal (literal_token v ∷ []) v
unfolding query.literal
spell_literal n (value.Int z) h = spell_integer n z (integer_is z h)
spell_literal n (value.Text s) h = inr (inr (inl (literal_token (value.Text s), (quoted_is s h, refl, refl), ap (λ z. value.Text z) (unquoted_again s))))
spell_literal n (value.Bool true) h = inr (inr (inr (inl (word k.True, (word_is k.True refl, refl, refl), refl))))
spell_literal n (value.Bool false) h = inr (inr (inr (inr (inl (word k.False, (word_is k.False refl, refl, refl), refl)))))
spell_literal n value.Null h = inr (inr (inr (inr (inr (word k.Null, (word_is k.Null refl, refl, refl), refl)))))

by_qualifier : (n : ℕ) (q : Option (List ℕ)) (c : List ℕ) → IfSome q FreeName → FreeName c
    → Text n query.reference (reference_tokens (record { qualifier = q; column = c })) (record { qualifier = q; column = c })
unfolding query.reference
by_qualifier n None c h f = ((c, None), (name_token c ∷ [], [], refl, spell_name n c f, spell_none n (rule.before k.Dot query.name)), refl)
by_qualifier n (Some q) c h f = (
  (q, Some c),
  (
    name_token q ∷ [],
    word k.Dot ∷ name_token c ∷ [],
    refl,
    spell_name n q h,
    spell_some n (rule.before k.Dot query.name) (word k.Dot ∷ name_token c ∷ []) c
        (spell_before n k.Dot query.name (name_token c ∷ []) c (word_is k.Dot refl) (spell_name n c f)),
  ),
  refl,
)

pub spell_ref : (n : ℕ) (r : Ref) → SpellableRef r → Text n query.reference (reference_tokens r) r
spell_ref n r h = by_qualifier n r.qualifier r.column h.0 h.1

pub spell_source : (n : ℕ) (s : Source) → SpellableSource s → Text n query.source (source_tokens s) s
unfolding query.source
spell_source n s h = (
  (s.table, Some s.alias),
  (
    name_token s.table ∷ [],
    word k.As ∷ name_token s.alias ∷ [],
    refl,
    spell_name n s.table h.0,
    spell_some n (either (rule.before k.As query.name) query.name) (word k.As ∷ name_token s.alias ∷ []) s.alias
        (inl (spell_before n k.As query.name (name_token s.alias ∷ []) s.alias (word_is k.As refl) (spell_name n s.alias h.1))),
  ),
  refl,
)

-- Tests.

spell_operator : (n : ℕ) (op : Cmp) → Text n query.operator (word (operator op) ∷ []) op
unfolding query.operator
spell_operator n cmp.Eq = inl (word k.Equal, (word_is k.Equal refl, refl, refl), refl)
spell_operator n cmp.Ne = inr (inl (word k.NotEqual, (word_is k.NotEqual refl, refl, refl), refl))
spell_operator n cmp.Lt = inr (inr (inl (word k.Less, (word_is k.Less refl, refl, refl), refl)))
spell_operator n cmp.Le = inr (inr (inr (inl (word k.LessEqual, (word_is k.LessEqual refl, refl, refl), refl))))
spell_operator n cmp.Gt = inr (inr (inr (inr (inl (word k.Greater, (word_is k.Greater refl, refl, refl), refl)))))
spell_operator n cmp.Ge = inr (inr (inr (inr (inr (word k.GreaterEqual, (word_is k.GreaterEqual refl, refl, refl), refl)))))

spell_operand : (n : ℕ) (v : Operand) → SpellableOperand v → Text n query.operand (operand_tokens v) v
unfolding query.operand
spell_operand n (operand_of.Ref r) h = inl (r, spell_ref n r h, refl)
spell_operand n (operand_of.Literal v) h = inr (v, spell_literal n v h, refl)

spell_null : (n : ℕ) (is_not : Bool) → Text n query.null_clause (null_tokens is_not) is_not
unfolding query.null_clause rule.flag
spell_null n true =
    spell_before n k.Is _ _ true (word_is k.Is refl)
    (spell_closed n _ k.Null (word k.Not ∷ []) true (word_is k.Null refl) (inl (word k.Not, (word_is k.Not refl, refl, refl), refl)))
spell_null n false =
    spell_before n k.Is _ _ false (word_is k.Is refl)
    (spell_closed n _ k.Null [] false (word_is k.Null refl) (inr (refl, refl)))

spell_test : (n : ℕ) (t : NameTest) → SpellableTest t → Text n query.prim (test_tokens t) (test t)
unfolding query.prim query.name_test query.test_end
spell_test n (comparison left op right) h = inr (inr (
  (left, λ r. comparison r op right),
  (
    reference_tokens left,
    word (operator op) ∷ operand_tokens right,
    refl,
    spell_ref n left h.0,
    inr ((op, right), (word (operator op) ∷ [], operand_tokens right, refl, spell_operator n op, spell_operand n right h.1), refl),
  ),
  refl,
))
spell_test n (null_test left is_not) h = inr (inr (
  (left, λ r. null_test r is_not),
  (reference_tokens left, null_tokens is_not, refl, spell_ref n left h, inl (is_not, spell_null n is_not, refl)),
  refl,
))

-- Levels.

in_level : (P : ℕ → Type 0) (n l : ℕ) → suc l ≤ n → ((m : ℕ) → l ≤ m → P (suc m)) → P n
in_level P zero l d f = absurd (omega arith)
in_level P (suc m) l d f = f m (omega arith)

not_level : (m : ℕ) (ts : List Token) (c : Condition) → Text m query.prim ts c → Text (suc m) query.prim (word k.Not ∷ ts) (negated c)
unfolding query.prim conditions_of
not_level m ts c s = inl (c, (word k.Not, ts, word_is k.Not refl, refl, refl, s), refl)

parens_level : (m : ℕ) (ts : List Token) (c : Condition) → Text m query.disj ts c → Text (suc m) query.prim (parens ts) c
unfolding query.prim conditions_of
parens_level m ts c s =
    inr (inl (spell_closed (suc m) (inside k.LeftParen whole) k.RightParen (word k.LeftParen ∷ ts) c (word_is k.RightParen refl) (word k.LeftParen, ts, word_is k.LeftParen refl, refl, refl, s)))

-- AND and OR of one part, and of more.

one_prim : (n : ℕ) (ts : List Token) (c : Condition) → Text n query.prim ts c → Text n query.conj ts c
unfolding query.conj rule.list_of
one_prim n ts c s = (c ∷ [], ((c, []), (ts, [], sym (append-nil ts), s, (tt, refl)), refl), refl)

one_conj : (n : ℕ) (ts : List Token) (c : Condition) → Text n query.conj ts c → Text n query.disj ts c
unfolding query.disj rule.list_of
one_conj n ts c s = (c ∷ [], ((c, []), (ts, [], sym (append-nil ts), s, (tt, refl)), refl), refl)

list_of : Conditions → List Condition
list_of none = []
list_of (more c cs) = c ∷ list_of cs

conditions_list : (cs : Conditions) → cs ≡ conditions (list_of cs)
unfolding list_of
conditions_list none = refl
conditions_list (more c cs) = ap (more c) (conditions_list cs)

-- the parts of an AND or an OR, each by this rule
Each : ℕ → Rule sql Condition → TokenKind → Conditions → Type 0
Each n p in_word none = Unit {0}
Each n p in_word (more c cs) = Text n p (parenthesize (is_enclosed in_word c) (condition_tokens c)) c × Each n p in_word cs

repeated_parts : (n : ℕ) (p : Rule sql Condition) (in_word : TokenKind) → IsToken (word in_word) → (cs : Conditions) → Each n p in_word cs
    → Repeats (Text n (rule.before in_word p)) (parts_tokens in_word cs) (list_of cs)
unfolding list_of Each
repeated_parts n p in_word real none h = refl
repeated_parts n p in_word real (more c cs) h = (
  word in_word ∷ parenthesize (is_enclosed in_word c) (condition_tokens c),
  parts_tokens in_word cs,
  refl,
  spell_before n in_word p (parenthesize (is_enclosed in_word c) (condition_tokens c)) c real h.0,
  repeated_parts n p in_word real cs h.1,
)

listed_parts : (n : ℕ) (p : Rule sql Condition) (in_word : TokenKind) → IsToken (word in_word) → (c : Condition) (cs : Conditions) → Each n p in_word (more c cs)
    → Text n (rule.list_of None in_word p) (drop 1 (parts_tokens in_word (more c cs))) (c ∷ list_of cs)
unfolding rule.list_of Each
listed_parts n p in_word real c cs h = (
  (c, list_of cs),
  (parenthesize (is_enclosed in_word c) (condition_tokens c), parts_tokens in_word cs, refl, h.0, (tt, repeated_parts n p in_word real cs h.1)),
  refl,
)

joined_all : (n : ℕ) (cs : Conditions) → HasTwo cs → Each n query.prim k.And cs → Text n query.conj (drop 1 (parts_tokens k.And cs)) (every cs)
unfolding query.conj list_of
joined_all n none two h = absurd two
joined_all n (more c none) two h = absurd two
joined_all n (more c (more d cs)) two h =
    (c ∷ d ∷ list_of cs, listed_parts n query.prim k.And (word_is k.And refl) c (more d cs) h, ap every (conditions_list (more c (more d cs))))

joined_any : (n : ℕ) (cs : Conditions) → HasTwo cs → Each n query.conj k.Or cs → Text n query.disj (drop 1 (parts_tokens k.Or cs)) (some cs)
unfolding query.disj list_of
joined_any n none two h = absurd two
joined_any n (more c none) two h = absurd two
joined_any n (more c (more d cs)) two h =
    (c ∷ d ∷ list_of cs, listed_parts n query.conj k.Or (word_is k.Or refl) c (more d cs) h, ap some (conditions_list (more c (more d cs))))

not_as_and : (c : Condition) → is_enclosed k.And c ≡ is_enclosed k.Not c
not_as_and (every cs) = refl
not_as_and (some cs) = refl
not_as_and (negated c) = refl
not_as_and (test t) = refl

-- a part of an AND or a NOT, and of an OR

abbrev Tight : ℕ → Condition → Type 0
Tight n c = Text n query.prim (parenthesize (is_enclosed k.And c) (condition_tokens c)) c

abbrev Loose : ℕ → Condition → Type 0
Loose n c = Text n query.conj (parenthesize (is_enclosed k.Or c) (condition_tokens c)) c

tight_every : (n : ℕ) (cs : Conditions) → HasTwo cs → suc (levels_in k.And cs) ≤ n → ((m : ℕ) → levels_in k.And cs ≤ m → Each m query.prim k.And cs) → Tight n (every cs)
tight_every n cs two d parts = in_level (λ n. Tight n (every cs)) n (levels_in k.And cs) d (λ m e. parens_level m _ (every cs) (one_conj m _ (every cs) (joined_all m cs two (parts m e))))

tight_some : (n : ℕ) (cs : Conditions) → HasTwo cs → suc (levels_in k.Or cs) ≤ n → ((m : ℕ) → levels_in k.Or cs ≤ m → Each m query.conj k.Or cs) → Tight n (some cs)
tight_some n cs two d parts = in_level (λ n. Tight n (some cs)) n (levels_in k.Or cs) d (λ m e. parens_level m _ (some cs) (joined_any m cs two (parts m e)))

tight_not : (n : ℕ) (c : Condition) → suc (deeper (is_enclosed k.Not c) (levels_of c)) ≤ n → ((m : ℕ) → deeper (is_enclosed k.And c) (levels_of c) ≤ m → Tight m c) → Tight n (negated c)
tight_not n c d part =
    in_level (λ n. Tight n (negated c)) n (deeper (is_enclosed k.Not c) (levels_of c)) d
    (λ m e. not_level m _ c (subst (λ b. Text m query.prim (parenthesize b (condition_tokens c)) c) (not_as_and c) (part m (subst (λ b. deeper b (levels_of c) ≤ m) (sym (not_as_and c)) e))))

first_most : (a b n : ℕ) → max a b ≤ n → a ≤ n
first_most a b n h = omega arith

other_most : (a b n : ℕ) → max a b ≤ n → b ≤ n
other_most a b n h = omega arith

mutual
  unfolding Each

  tight : (c : Condition) → SpellableCondition c → (n : ℕ) → deeper (is_enclosed k.And c) (levels_of c) ≤ n → Tight n c
  tight (every cs) h n d = tight_every n cs h.0 d (all_parts cs h.1)
  tight (some cs) h n d = tight_some n cs h.0 d (any_parts cs h.1)
  tight (negated c) h n d = tight_not n c d (tight c h)
  tight (test t) h n d = spell_test n t h

  loose : (c : Condition) → SpellableCondition c → (n : ℕ) → deeper (is_enclosed k.Or c) (levels_of c) ≤ n → Loose n c
  loose (every cs) h n d = joined_all n cs h.0 (all_parts cs h.1 n d)
  loose (some cs) h n d = one_prim n _ (some cs) (tight_some n cs h.0 d (any_parts cs h.1))
  loose (negated c) h n d = one_prim n _ (negated c) (tight_not n c d (tight c h))
  loose (test t) h n d = one_prim n _ (test t) (spell_test n t h)

  all_parts : (cs : Conditions) → SpellableParts cs → (n : ℕ) → levels_in k.And cs ≤ n → Each n query.prim k.And cs
  all_parts none h n d = tt
  all_parts (more c cs) h n d = (tight c h.0 n (first_most _ _ n d), all_parts cs h.1 n (other_most _ _ n d))

  any_parts : (cs : Conditions) → SpellableParts cs → (n : ℕ) → levels_in k.Or cs ≤ n → Each n query.conj k.Or cs
  any_parts none h n d = tt
  any_parts (more c cs) h n d = (loose c h.0 n (first_most _ _ n d), any_parts cs h.1 n (other_most _ _ n d))

pub spell_condition : (n : ℕ) (c : Condition) → SpellableCondition c → levels_of c ≤ n → Text n query.disj (condition_tokens c) c
spell_condition n (every cs) h d = one_conj n _ (every cs) (loose (every cs) h n d)
spell_condition n (some cs) h d = joined_any n cs h.0 (any_parts cs h.1 n d)
spell_condition n (negated c) h d = one_conj n _ (negated c) (loose (negated c) h n d)
spell_condition n (test t) h d = one_conj n _ (test t) (loose (test t) h n d)

-- Queries.

spell_items : (n : ℕ) (v : Items) → SpellableItems v → Text n query.items (items_tokens v) v
unfolding query.items
spell_items n items_of.All h = inl (word k.Star, (word_is k.Star refl, refl, refl), refl)
spell_items n (items_of.Refs refs) h = inr (refs, spell_listed n 63 k.Comma query.reference reference_tokens SpellableRef (word_is k.Comma refl) (spell_ref n) refs h, refl)

spell_join : (n : ℕ) (j : Join) → SpellableJoin j → Text n query.join (join_tokens j) j
unfolding query.join query.on_clause
spell_join n j h =
    let other : Text n (rule.before k.Equal query.reference) (word k.Equal ∷ reference_tokens j.right_ref) j.right_ref =
    spell_before n k.Equal query.reference (reference_tokens j.right_ref) j.right_ref (word_is k.Equal refl) (spell_ref n j.right_ref h.2) in
    let refs : Text n (rule.before k.On (both query.reference (rule.before k.Equal query.reference))) (word k.On ∷ reference_tokens j.left_ref ++ word k.Equal ∷ reference_tokens j.right_ref) (j.left_ref, j.right_ref) =
    spell_before n k.On (both query.reference (rule.before k.Equal query.reference)) _ (j.left_ref, j.right_ref) (word_is k.On refl)
    (reference_tokens j.left_ref, word k.Equal ∷ reference_tokens j.right_ref, refl, spell_ref n j.left_ref h.1, other) in (
      (None, (j.right, (j.left_ref, j.right_ref))),
      (
        [],
        join_tokens j,
        refl,
        spell_none n (token k.Inner),
        spell_before n k.Join (both query.source (rule.before k.On (both query.reference (rule.before k.Equal query.reference)))) _ (j.right, (j.left_ref, j.right_ref)) (word_is k.Join refl)
            (source_tokens j.right, word k.On ∷ reference_tokens j.left_ref ++ word k.Equal ∷ reference_tokens j.right_ref, refl, spell_source n j.right h.0, refs),
      ),
      refl,
    )

spell_where : (n : ℕ) (o : Option Condition) → IfSome o (λ c. SpellableCondition c × (levels_of c ≤ n)) → Text n (rule.optional (rule.before k.Where query.disj)) (option_map_or where_tokens o []) o
spell_where n None h = spell_none n (rule.before k.Where query.disj)
spell_where n (Some c) h =
    spell_some n (rule.before k.Where query.disj) (where_tokens c) c (spell_before n k.Where query.disj (condition_tokens c) c (word_is k.Where refl) (spell_condition n c h.0 h.1))

row_count_kind : (rows : ℕ) → 1 ≤ rows → rows ≤ 4294967295 → integer_kind (pos rows) ≡ k.RowCount
row_count_kind rows least most = ap (λ b. cond b k.RowCount k.Integer) (and_true _ _ (le-leb 1 rows least) (le-leb rows 4294967295 most))

spell_limit : (n rows : ℕ) → 1 ≤ rows → rows ≤ 4294967295 → Text n query.limit_clause (limit_tokens rows) rows
unfolding query.limit_clause
spell_limit n rows least most =
    spell_before n k.Limit _ (integer_token (pos rows) ∷ []) rows (word_is k.Limit refl)
    (integer_token (pos rows), (unsigned_is rows (omega arith), row_count_kind rows least most, refl), omega arith)

spell_clauses : (n : ℕ) (j : Option Join) (c : Option Condition) (rows : Option ℕ) → IfSome j SpellableJoin → IfSome c (λ c. SpellableCondition c × (levels_of c ≤ n)) → SpellableLimit j rows
    → Text n query.clauses (option_map_or join_tokens j [] ++ option_map_or where_tokens c [] ++ option_map_or limit_tokens rows []) (j, c, rows)
unfolding query.clauses query.joined_clauses query.single_clauses
spell_clauses n None c None h g f =
    inr ((c, None), (option_map_or where_tokens c [], [], refl, spell_where n c g, spell_none n query.limit_clause), refl)
spell_clauses n None c (Some rows) h g f =
    inr ((c, Some rows), (option_map_or where_tokens c [], limit_tokens rows, refl, spell_where n c g, spell_some n query.limit_clause (limit_tokens rows) rows (spell_limit n rows f.0 f.1)), refl)
spell_clauses n (Some j) c None h g f =
    inl ((j, c), (join_tokens j, option_map_or where_tokens c [], append-nil (join_tokens j ++ option_map_or where_tokens c []), spell_join n j h, spell_where n c g), refl)
spell_clauses n (Some j) c (Some rows) h g f = absurd f

query_from : (q : Query) (items source joins condition limit : List Token) → Text 32 query.items items q.items → Text 32 query.source source q.left
    → Text 32 query.clauses (joins ++ condition ++ limit) (q.join, q.condition, q.limit)
    → Text 32 query.query (word k.Select ∷ items ++ word k.From ∷ source ++ joins ++ condition ++ limit) q
unfolding query.query query.clauses_to_end
query_from q items source joins condition limit i s c =
    let front : List Token = (word k.Select ∷ items) ++ (word k.From ∷ source) in
    let clauses : List Token = joins ++ condition ++ limit in (
      (q.items, (q.left, (q.join, q.condition, q.limit))),
      (
        word k.Select ∷ items,
        (word k.From ∷ source) ++ clauses,
        ap (λ z. z ++ limit) (append_assoc front joins condition) ∙ append_assoc front (joins ++ condition) limit
            ∙ append_assoc (word k.Select ∷ items) (word k.From ∷ source) clauses,
        spell_before 32 k.Select query.items items q.items (word_is k.Select refl) i,
        (
          word k.From ∷ source,
          clauses,
          refl,
          spell_before 32 k.From query.source source q.left (word_is k.From refl) s,
          (((q.join, q.condition, q.limit), None), (clauses, [], sym (append-nil clauses), c, spell_none 32 (token k.Semicolon)), refl),
        ),
      ),
      refl,
    )

pub spell_query : (q : Query) → SpellableQuery q → IsText conditions_of true 32 query.query (query_tokens q) q
spell_query q h =
    query_from q (items_tokens q.items) (source_tokens q.left) (option_map_or join_tokens q.join []) (option_map_or where_tokens q.condition []) (option_map_or limit_tokens q.limit [])
    (spell_items 32 q.items h.items) (spell_source 32 q.left h.left) (spell_clauses 32 q.join q.condition q.limit h.join h.condition h.limit)
