-- The kinds that named rules begin with.
use Rattle.std.proofs.Common.{◌≡◌, refl, Bool, List, [], ◌∷◌, true, false}
use Rattle.std.specs.Prelude.{◌||◌}
use Rattle.grammar.specs.Checks.{first}
use Rattle.grammar.specs.Reading.{begins}
use Rattle.sql_tokens.specs.declared.kinds.TokenKind.TheVariants as k
use Rattle.sql_tokens.specs.Kinds.{same_kind}
use Rattle.sql_tokens.specs.Lex.{Token}
use Rattle.sql_text.specs.Tokens.{sql}
use Rattle.sql_text.specs.Rules.{before, optional}
use Rattle.sql_text.specs.Queries.{name, reference, null_clause, join, limit_clause, joined_clauses}
use Rattle.sql_text.specs.Commands.{create, drop_table, insert, update, delete, command}

pub first_name : first name ≡ k.Name ∷ []
unfolding name
first_name = refl

pub first_reference : first reference ≡ k.Name ∷ []
unfolding name reference optional before
first_reference = refl

pub first_null_clause : first null_clause ≡ k.Is ∷ []
unfolding null_clause before
first_null_clause = refl

or_two : (a b : Bool) → (a || (b || false)) ≡ (a || false || (b || false))
or_two true b = refl
or_two false b = refl

pub first_alias : (left : List Token) → begins sql (k.As ∷ k.Name ∷ []) left ≡ (begins sql (k.As ∷ []) left || begins sql (k.Name ∷ []) left)
first_alias [] = refl
first_alias (t ∷ left) = or_two (same_kind k.As t.kind) (same_kind k.Name t.kind)

pub first_joined : (left : List Token) → begins sql (first joined_clauses) left ≡ (begins sql (k.Inner ∷ []) left || begins sql (k.Join ∷ []) left)
unfolding joined_clauses join optional before
first_joined [] = refl
first_joined (t ∷ left) = or_two (same_kind k.Inner t.kind) (same_kind k.Join t.kind)

pub first_limit : first limit_clause ≡ k.Limit ∷ []
unfolding limit_clause before
first_limit = refl

-- the kinds that commands begin with
pub first_create : first create ≡ k.Create ∷ []
unfolding create before
first_create = refl

pub first_drop : first drop_table ≡ k.Drop ∷ []
unfolding drop_table before
first_drop = refl

pub first_insert : first insert ≡ k.Insert ∷ []
unfolding insert before
first_insert = refl

pub first_update : first update ≡ k.Update ∷ []
unfolding update before
first_update = refl

pub first_delete : first delete ≡ k.Delete ∷ []
unfolding delete before
first_delete = refl

pub ruleset first_commands = (first_create, first_drop, first_insert, first_update, first_delete)

or_five : (a b c d e : Bool) → (a || (b || (c || (d || (e || false))))) ≡ (a || false || (b || false) || (c || false) || (d || false) || (e || false))
or_five true b c d e = refl
or_five false true c d e = refl
or_five false false true d e = refl
or_five false false false true e = refl
or_five false false false false true = refl
or_five false false false false false = refl

pub first_command : (left : List Token) → begins sql (first command) left
    ≡ (begins sql (k.Create ∷ []) left || begins sql (k.Drop ∷ []) left || begins sql (k.Insert ∷ []) left || begins sql (k.Update ∷ []) left || begins sql (k.Delete ∷ []) left)
unfolding command create drop_table insert update delete before
first_command [] = refl
first_command (t ∷ left) = or_five (same_kind k.Create t.kind) (same_kind k.Drop t.kind) (same_kind k.Insert t.kind) (same_kind k.Update t.kind) (same_kind k.Delete t.kind)
