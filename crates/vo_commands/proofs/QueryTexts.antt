-- A text that is a query has a byte at least.
use Rattle.std.proofs.Common.{◌≡◌, ◌≢◌, ℕ, ◌≤◌, true, List, [], ◌∷◌, ◌++◌, length, Ok, sym, ap, ◌∙◌, arith}
use Rattle.grammar.specs.Text.{IsText}
use Rattle.sql_tokens.specs.Lex.{Token, Placed, tokens_of, tokens_from}
use Rattle.sql_text.specs.Limits.{max_nesting}
use Rattle.sql_text.specs.Queries.{conditions_of, query}
use Rattle.sql_text.specs.Rules.{before}
use Rattle.sql_text.specs.Texts.{without_places}
use Rattle.vo_spec.specs.Conditions.{Query}
use Rattle.vo_commands.specs.Texts.{IsQueryText}

one_more : {A : Type 0} (x : A) (xs ys : List A) → [] ≡ ((x ∷ []) ++ xs) ++ ys → ⊥
one_more x xs ys e = cc

-- the first token of a query is SELECT
select_first : (ts : List Token) (q : Query) → IsText conditions_of true max_nesting query ts q → ts ≢ []
unfolding query before
select_first ts q text none =
    let whole = text.1 in
    let select = whole.3.1 in
    one_more whole.3.0.0 select.1 whole.1 (sym none ∙ whole.2 ∙ ap (λ xs. xs ++ whole.1) (select.2 ∙ ap (λ xs. xs ++ select.1) select.3.2))

no_tokens : (ps : List Placed) → tokens_of [] ≡ Ok ps → ps ≡ []
unfolding tokens_from
no_tokens ps e = cc

pub has_byte : (text : List ℕ) (q : Query) → IsQueryText text q → 1 ≤ length text
has_byte [] q is = absurd (select_first (without_places is.1) q is.3 (ap without_places (no_tokens is.1 is.2)))
has_byte (b ∷ bytes) q is = omega arith
