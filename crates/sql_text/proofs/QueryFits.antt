-- The query of a text can be printed, and the numbers that it compares with have 64 bits with a
-- sign.
use Rattle.std.proofs.Common.{ℕ, zero, suc, true, List, [], ◌∷◌, Option, Some, None, sym, subst, inl, inr, Result, Ok, Err, IfOk}
use Rattle.std.specs.Prelude.{IfSome}
use Rattle.std.specs.Option.{option_map_or}
use Rattle.std.specs.List.{AllByRecursion}
use Rattle.grammar.specs.Rule.{Rule, either}
use Rattle.grammar.specs.Text.{NestsIn}
use Rattle.sql_tokens.specs.declared.kinds.TokenKind.{TokenKind}
use Rattle.sql_tokens.specs.declared.kinds.TokenKind.TheVariants as k
use Rattle.sql_tokens.specs.Lex.{Token}
use Rattle.sql_tokens.proofs.Alone.{tokens_real}
use Rattle.vo_spec.specs.declared.values.Value.{Value}
use Rattle.vo_spec.specs.declared.values.Value.TheVariants as value
use Rattle.vo_spec.specs.declared.queries.Ref.{Ref}
use Rattle.vo_spec.specs.declared.queries.Source.{Source}
use Rattle.vo_spec.specs.declared.queries.Join.{Join}
use Rattle.vo_spec.specs.declared.queries.Items.{Items}
use Rattle.vo_spec.specs.declared.queries.Operand.{Operand}
use Rattle.vo_spec.specs.declared.queries.Operand.TheVariants as operand_of
use Rattle.vo_spec.specs.declared.queries.QueryText.{QueryText}
use Rattle.sql_text.specs.declared.faults.SqlFault.{SqlFault}
use Rattle.vo_spec.specs.Names.{FitsName}
use Rattle.vo_spec.specs.Values.{FitsValue, IsInRange}
use Rattle.vo_spec.specs.Conditions.{every, some, negated, test, none, more, comparison, null_test, NameTest, Condition, Conditions, conditions, sides, of_tests_in, comparisons, Query, query_of, FitsOperand, FitsQuery}
use Rattle.sql_text.specs.Tokens.{sql, Nested, whole, primary}
use Rattle.sql_text.specs.Rules.{before, followed_by, optional}
use Rattle.sql_text.specs.Queries.{name, reference, ref_of, source, source_of, operand, test_end, name_test, prim, conj, disj, all_of, any_of, conditions_of, items, on_clause, join, joined_clauses, single_clauses, clauses, clauses_to_end, query}
use Rattle.sql_text.specs.Texts.{without_places, IsTextOf, AnswersText}
use Rattle.sql_text.specs.Printable.{PrintableRef, PrintableSource, PrintableItems, PrintableJoin, PrintableOperand, PrintableTest, tests_of, PrintableQuery}
use Rattle.sql_text.proofs.Made.{Made, made, of_before, of_listed, all_both, all_parts, all_mapped}
use Rattle.sql_text.proofs.NameLaws.{named_fits, literal_fits}
use Rattle.sql_text.proofs.TokenSounds.{AreUtf8, IsSound}
use Rattle.sql_text.proofs.BatchFits.{all_sound}

abbrev AreTests : List NameTest → Type 0
AreTests tests = AllByRecursion PrintableTest tests

abbrev FitsCondition : Condition → Type 0
FitsCondition c = AreTests (tests_of c)

abbrev MadeFit : {A : Type 0} → Rule sql A → A → Type 0
MadeFit p v = Made IsSound FitsCondition p v

behind : {A : Type 0} (kind : TokenKind) (p : Rule sql A) (v : A) → MadeFit (before kind p) v → MadeFit p v
behind kind p v m = of_before IsSound FitsCondition kind p v m

-- References and sources.

qualified : (first : List ℕ) (o : Option (List ℕ)) → FitsName first → MadeFit (optional (before k.Dot name)) o → PrintableRef (ref_of first o)
unfolding optional
qualified first o f (inl (column, m, e)) = subst (λ z. PrintableRef (ref_of first z)) (sym e) (f, named_fits FitsCondition column (behind k.Dot name column m))
qualified first o f (inr e) = subst (λ z. PrintableRef (ref_of first z)) (sym e) (tt, f)

ref_fits : (r : Ref) → MadeFit reference r → PrintableRef r
unfolding reference
ref_fits r (x, (m, o), e) = subst PrintableRef (sym e) (qualified x.0 x.1 (named_fits FitsCondition x.0 m) o)

aliased : (table : List ℕ) (o : Option (List ℕ)) → FitsName table → MadeFit (optional (either (before k.As name) name)) o → PrintableSource (source_of table o)
unfolding optional
aliased table o f (inl (alias, inl m, e)) = subst (λ z. PrintableSource (source_of table z)) (sym e) (f, named_fits FitsCondition alias (behind k.As name alias m))
aliased table o f (inl (alias, inr m, e)) = subst (λ z. PrintableSource (source_of table z)) (sym e) (f, named_fits FitsCondition alias m)
aliased table o f (inr e) = subst (λ z. PrintableSource (source_of table z)) (sym e) (f, f)

source_fits : (s : Source) → MadeFit source s → PrintableSource s
unfolding source
source_fits s (x, (m, o), e) = subst PrintableSource (sym e) (aliased x.0 x.1 (named_fits FitsCondition x.0 m) o)

-- Conditions.

operand_fits : (v : Operand) → MadeFit operand v → PrintableOperand v
unfolding operand
operand_fits v (inl (r, m, e)) = subst PrintableOperand (sym e) (ref_fits r m)
operand_fits v (inr (x, m, e)) = subst PrintableOperand (sym e) (literal_fits FitsCondition x m)

end_fits : (left : Ref) (end : Ref → NameTest) → PrintableRef left → MadeFit test_end end → PrintableTest (end left)
unfolding test_end
end_fits left end f (inl (is_not, _, e)) = subst (λ z. PrintableTest (z left)) (sym e) f
end_fits left end f (inr (x, (o, m), e)) = subst (λ z. PrintableTest (z left)) (sym e) (f, operand_fits x.1 m)

test_fits : (c : Condition) → MadeFit name_test c → FitsCondition c
unfolding name_test
test_fits c (x, (r, m), e) = subst FitsCondition (sym e) (end_fits x.0 x.1 (ref_fits x.0 r) m, tt)

prim_fits : (c : Condition) → MadeFit prim c → FitsCondition c
unfolding prim followed_by
prim_fits c (inl (part, m, e)) = subst FitsCondition (sym e) m
prim_fits c (inr (inl (x, (m, _), e))) = subst FitsCondition (sym e) m
prim_fits c (inr (inr m)) = test_fits c m

parts_fit : (cs : List Condition) → AllByRecursion FitsCondition cs → AreTests (of_tests_in (λ t. t ∷ []) (conditions cs))
parts_fit [] h = tt
parts_fit (c ∷ cs) h = all_both _ (tests_of c) (of_tests_in (λ t. t ∷ []) (conditions cs)) h.0 (parts_fit cs h.1)

all_fits : (cs : List Condition) → AllByRecursion FitsCondition cs → FitsCondition (all_of cs)
all_fits [] h = tt
all_fits (c ∷ []) h = h.0
all_fits (c ∷ d ∷ cs) h = parts_fit (c ∷ d ∷ cs) h

any_fits : (cs : List Condition) → AllByRecursion FitsCondition cs → FitsCondition (any_of cs)
any_fits [] h = tt
any_fits (c ∷ []) h = h.0
any_fits (c ∷ d ∷ cs) h = parts_fit (c ∷ d ∷ cs) h

conj_fits : (c : Condition) → MadeFit conj c → FitsCondition c
unfolding conj
conj_fits c (parts, m, e) =
    subst FitsCondition (sym e) (all_fits parts (all_mapped (MadeFit prim) FitsCondition parts (λ v h. prim_fits v h) (of_listed IsSound FitsCondition None k.And prim parts m)))

disj_fits : (c : Condition) → MadeFit disj c → FitsCondition c
unfolding disj
disj_fits c (parts, m, e) =
    subst FitsCondition (sym e) (any_fits parts (all_mapped (MadeFit conj) FitsCondition parts (λ v h. conj_fits v h) (of_listed IsSound FitsCondition None k.Or conj parts m)))

nested : (levels : ℕ) (n : Nested) (ts : List Token) (c : Condition) → NestsIn conditions_of true levels n ts c → AllByRecursion IsSound ts → FitsCondition c
unfolding conditions_of
nested zero n ts c s h = absurd s
nested (suc m) whole ts c s h = disj_fits c (made IsSound FitsCondition (NestsIn conditions_of true m) (nested m) disj ts c s h)
nested (suc m) primary ts c s h = prim_fits c (made IsSound FitsCondition (NestsIn conditions_of true m) (nested m) prim ts c s h)

where_fits : (o : Option Condition) → MadeFit (optional (before k.Where disj)) o → AreTests (option_map_or tests_of o [])
unfolding optional
where_fits o (inl (c, m, e)) =
    subst (λ z. AreTests (option_map_or tests_of z [])) (sym e) (disj_fits c (of_before IsSound FitsCondition k.Where disj c m))
where_fits o (inr e) = subst (λ z. AreTests (option_map_or tests_of z [])) (sym e) tt

-- Queries.

items_fit : (v : Items) → MadeFit items v → PrintableItems v
unfolding items
items_fit v (inl (t, _, e)) = subst PrintableItems (sym e) tt
items_fit v (inr (refs, m, e)) =
    subst PrintableItems (sym e) (all_mapped (MadeFit reference) PrintableRef refs (λ r h. ref_fits r h) (of_listed IsSound FitsCondition (Some 63) k.Comma reference refs m))

join_fits : (j : Join) → MadeFit join j → PrintableJoin j
unfolding join on_clause
join_fits j (x, (_, m), e) =
    let parts = behind k.Join _ x.1 m in
    let refs = behind k.On _ x.1.1 parts.1 in
    subst PrintableJoin (sym e) (source_fits x.1.0 parts.0, ref_fits x.1.1.0 refs.0, ref_fits x.1.1.1 (behind k.Equal reference x.1.1.1 refs.1))

abbrev FitClauses : Option Join × Option Condition × Option ℕ → Type 0
FitClauses x = IfSome x.0 PrintableJoin × AreTests (option_map_or tests_of x.1 [])

clauses_fit : (x : Option Join × Option Condition × Option ℕ) → MadeFit clauses x → FitClauses x
unfolding clauses joined_clauses single_clauses
clauses_fit x (inl (y, (j, c), e)) = subst FitClauses (sym e) (join_fits y.0 j, where_fits y.1 c)
clauses_fit x (inr (y, (c, _), e)) = subst FitClauses (sym e) (tt, where_fits y.0 c)

query_end_fits : (x : Option Join × Option Condition × Option ℕ) → MadeFit clauses_to_end x → FitClauses x
unfolding clauses_to_end
query_end_fits x (y, (c, _), e) = subst FitClauses (sym e) (clauses_fit y.0 c)

made_fits : (q : Query) → MadeFit query q → PrintableQuery q
unfolding query
made_fits q (x, (i, (s, c)), e) =
    let fit = query_end_fits x.1.1 c in
    subst PrintableQuery (sym e) (record {
      items = items_fit x.0 (behind k.Select items x.0 i);
      left = source_fits x.1.0 (behind k.From source x.1.0 s);
      join = fit.0;
      tests = fit.1;
    })

-- the query of a text can be printed
pub query_fits : (most : ℕ) (text : List ℕ) (q : Query) → AreUtf8 text → IsTextOf most query text q → PrintableQuery q
query_fits most text q utf8 (_, ps, scanned, s) =
    made_fits q (made IsSound FitsCondition (NestsIn conditions_of true 32) (nested 32) query (without_places ps) q s (all_sound ps (tokens_real text ps scanned) (utf8 ps scanned)))

pub answer_printable : (most : ℕ) (text : List ℕ) (r : Result QueryText SqlFault) → AreUtf8 text → AnswersText query_of most query text r → IfOk r (λ q. PrintableQuery (query_of q))
answer_printable most text (Ok q) utf8 h = query_fits most text (query_of q) utf8 h
answer_printable most text (Err e) utf8 h = tt

-- Numbers.

in_range : (v : Value) → FitsValue v → IsInRange v
in_range (value.Int z) h = h
in_range (value.Text s) h = tt
in_range (value.Bool b) h = tt
in_range value.Null h = tt

side_fits : (o : Operand) → PrintableOperand o → FitsOperand o
side_fits (operand_of.Ref r) h = tt
side_fits (operand_of.Literal v) h = in_range v h

abbrev AreInRange : List (Ref × Operand) → Type 0
AreInRange pairs = AllByRecursion (λ (c : Ref × Operand). FitsOperand c.1) pairs

test_in_range : (t : NameTest) → PrintableTest t → AreInRange (sides t)
test_in_range (comparison left op right) h = (side_fits right h.1, tt)
test_in_range (null_test left is_not) h = tt

mutual
  condition_in_range : (c : Condition) → AreTests (tests_of c) → AreInRange (comparisons c)
  condition_in_range (every cs) h = parts_in_range cs h
  condition_in_range (some cs) h = parts_in_range cs h
  condition_in_range (negated c) h = condition_in_range c h
  condition_in_range (test t) h = test_in_range t h.0

  parts_in_range : (cs : Conditions) → AreTests (of_tests_in (λ t. t ∷ []) cs) → AreInRange (of_tests_in sides cs)
  parts_in_range none h = tt
  parts_in_range (more c cs) h =
      let parts = all_parts PrintableTest (tests_of c) (of_tests_in (λ t. t ∷ []) cs) h in
      all_both _ (comparisons c) (of_tests_in sides cs) (condition_in_range c parts.0) (parts_in_range cs parts.1)

where_in_range : (o : Option Condition) → AreTests (option_map_or tests_of o []) → AreInRange (option_map_or comparisons o [])
where_in_range None h = tt
where_in_range (Some c) h = condition_in_range c h

-- a query that can be printed compares with numbers in range
pub printable_fits : (q : Query) → PrintableQuery q → FitsQuery q
printable_fits q h = where_in_range q.condition h.tests

pub answer_fits : (r : Result QueryText SqlFault) → IfOk r (λ q. PrintableQuery (query_of q)) → IfOk r (λ q. FitsQuery (query_of q))
answer_fits (Ok q) h = printable_fits (query_of q) h
answer_fits (Err e) h = tt
