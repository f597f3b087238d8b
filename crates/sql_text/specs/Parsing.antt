-- What a method of the parser does: it reads a rule from the tokens that are left.
use Rattle.std.specs.Prelude.{◌≡◌, List, [], ◌∷◌, drop, map, pos, Result, Ok, Err, ◌++◌, Vec}
use Rattle.std.specs.Global.{Global}
use Rattle.grammar.specs.Rule.{Rule}
use Rattle.grammar.specs.Reading.{Found, read, reader}
use Rattle.sql_tokens.specs.declared.kinds.TokenKind.TheVariants as k
use Rattle.sql_tokens.specs.Lex.{Token, token_of}
use Rattle.sql_text.specs.declared.parser.Parser.{Parser}
use Rattle.sql_text.specs.declared.parse_error.ParseError.{ParseError}
use Rattle.sql_text.specs.declared.parse_error.ParseError.TheVariants.{Memory, Fault}
use Rattle.sql_text.specs.Tokens.{sql}
use Rattle.sql_text.specs.Queries.{conditions_of}

-- the tokens that are left
abbrev pub left_of : Parser → List Token
left_of p = map token_of (drop p.place p.list.now)

-- the next of the tokens that are left; where none is, this is of no matter
abbrev pub first_of : List Token → Token
first_of [] = record { kind = k.Name; text = []; number = pos 0 }
first_of (t ∷ left) = t

-- the value or the fault is what was found, and what is left is left; memory may end
abbrev pub ReadsAndLeaves : {A B : Type 0} → (B → A) → Found Token A → Result B ParseError
    → List Token → Type 0
ReadsAndLeaves view found (Ok x) left = found ≡ (Ok (view x), left)
ReadsAndLeaves view found (Err Memory) left = Unit {0}
ReadsAndLeaves view found (Err (Fault stop)) left = found ≡ (Err stop, left)

-- the method reads this rule with the levels that are left
abbrev pub Reads : {A B : Type 0} → (B → A) → Rule sql A → Parser → Result B ParseError
    → Parser → Type 0
Reads view rule old result new =
    ReadsAndLeaves view (read (reader conditions_of old.levels) rule (left_of old)) result
    (left_of new)

-- the method leaves the levels that may still be opened
abbrev pub KeepsLevels : Parser → Parser → Type 0
KeepsLevels old new = new.levels ≡ old.levels

-- the method leaves the list of tokens, whichever of them it takes
abbrev pub KeepsTokens : Parser → Parser → Type 0
KeepsTokens old new = new.list.now ≡ old.list.now

-- the list with the part that was read at its end, or the halt
abbrev pub Appends : {T : Type 0} → List T → Result T ParseError
    → Result (Vec T Global) ParseError → Type 0
Appends front (Ok x) (Ok list) = list.items ≡ front ++ x ∷ []
Appends front (Ok x) (Err halt) = halt ≡ Memory
Appends front (Err why) (Ok list) = ⊥
Appends front (Err why) (Err halt) = halt ≡ why
