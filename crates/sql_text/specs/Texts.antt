-- Whole texts: what they are, and which fault comes first.
use Rattle.std.specs.Prelude.{◌≡◌, ℕ, ◌≤◌, ◌<◌, true, List, [], ◌∷◌, length, drop, map, Result, Ok, Err}
use Rattle.grammar.specs.Rule.{Rule}
use Rattle.grammar.specs.Text.{IsText, FaultsAt}
use Rattle.grammar.specs.declared.ParseFault.{ParseFault}
use Rattle.grammar.specs.declared.ParseFault.TheVariants as stop
use Rattle.sql_tokens.specs.declared.lexemes.TokenFault.TheVariants as lapse
use Rattle.sql_tokens.specs.Lex.{Token, Placed, tokens_of}
use Rattle.sql_text.specs.declared.faults.SqlFault.{SqlFault}
use Rattle.sql_text.specs.declared.faults.SqlFault.TheVariants as fault
use Rattle.sql_text.specs.declared.parse_error.ParseError.{ParseError}
use Rattle.sql_text.specs.declared.parse_error.ParseError.TheVariants.{Memory, Fault}
use Rattle.sql_text.specs.Limits.{max_nesting}
use Rattle.sql_text.specs.Tokens.{sql}
use Rattle.sql_text.specs.Queries.{conditions_of}

abbrev pub without_places : List Placed → List Token
without_places ps = map (λ p. p.token) ps

-- a text of at most so many bytes that the rule derives, and its value
abbrev pub IsTextOf : {A : Type 0} → ℕ → Rule sql A → List ℕ → A → Type 0
IsTextOf most start text v =
    (length text ≤ most) × (ps : List Placed) × (tokens_of text ≡ Ok ps)
    × IsText conditions_of true max_nesting start (without_places ps) v

-- the place of the first of these tokens, or the text's end
abbrev pub token_offset : List Placed → ℕ → ℕ
token_offset [] end = end
token_offset (p ∷ _) end = p.at

-- the text's tokens have this fault, at this place
abbrev pub Breaks : {A : Type 0} → Rule sql A → List ℕ → ParseFault → ℕ → Type 0
Breaks start text s at =
    (ps : List Placed) × (tokens_of text ≡ Ok ps)
    × (n : ℕ) × (at ≡ token_offset (drop n ps) (length text))
    × FaultsAt conditions_of max_nesting start (without_places ps) s (without_places (drop n ps))

-- when each fault comes: the length first, then the first token that is none, then the first token
-- that the rule can't go on with
abbrev pub HasFault : {A : Type 0} → ℕ → Rule sql A → List ℕ → SqlFault → Type 0
HasFault most start text fault.TooLong = most < length text
HasFault most start text (fault.Token at) = (length text ≤ most)
    × (tokens_of text ≡ Err (lapse.Token, at))
HasFault most start text (fault.Literal at) = (length text ≤ most)
    × (tokens_of text ≡ Err (lapse.Literal, at))
HasFault most start text fault.Name = (length text ≤ most) × (at : ℕ)
    × (tokens_of text ≡ Err (lapse.Name, at))
HasFault most start text (fault.Syntax at) = (length text ≤ most) × Breaks start text stop.Syntax at
HasFault most start text fault.Nesting = (length text ≤ most) × (at : ℕ)
    × Breaks start text stop.Nesting at
HasFault most start text fault.TooMany = (length text ≤ most) × (at : ℕ)
    × Breaks start text stop.TooMany at
HasFault most start text fault.Memory = Unit {0}

-- the text's value or its first fault
abbrev pub AnswersText : {A B : Type 0} → (B → A) → ℕ → Rule sql A → List ℕ → Result B SqlFault
    → Type 0
AnswersText view most start text (Ok x) = IsTextOf most start text (view x)
AnswersText view most start text (Err fault) = HasFault most start text fault

-- this value, unless memory ends
abbrev pub Accepts : {A B : Type 0} → (B → A) → Result B SqlFault → A → Type 0
Accepts view (Ok x) v = view x ≡ v
Accepts view (Err fault.Memory) v = Unit {0}
Accepts view (Err _) v = ⊥

-- the answer by what the parser found, and the tokens that it left
abbrev pub expect_end : {B : Type 0} → Result B ParseError → List Placed → ℕ → Result B SqlFault
expect_end (Ok x) [] end = Ok x
expect_end (Ok x) (p ∷ _) end = Err (fault.Syntax p.at)
expect_end (Err Memory) left end = Err fault.Memory
expect_end (Err (Fault stop.Syntax)) left end = Err (fault.Syntax (token_offset left end))
expect_end (Err (Fault stop.Nesting)) left end = Err fault.Nesting
expect_end (Err (Fault stop.TooMany)) left end = Err fault.TooMany
