-- Whole scripts: what they are, and which fault comes first.
use Rattle.std.specs.Prelude.{◌≡◌, ℕ, ◌+◌, ◌-◌, ◌≤◌, ◌<◌, suc, Bool, true, false, ◌&&◌, ◌||◌, nat_lt, if◌then◌else◌, List, [], ◌∷◌, ◌++◌, length, take, drop, Result, Ok, Err, ◌⊎◌}
use Rattle.grammar.specs.Text.{IsText, Begins, FaultsAt}
use Rattle.grammar.specs.declared.ParseFault.{ParseFault}
use Rattle.grammar.specs.declared.ParseFault.TheVariants as stop
use Rattle.sql_tokens.specs.declared.kinds.TokenKind.TheVariants as k
use Rattle.sql_tokens.specs.declared.lexemes.TokenFault.TheVariants as lapse
use Rattle.sql_tokens.specs.Kinds.{same_kind}
use Rattle.sql_tokens.specs.Lex.{Placed, tokens_of}
use Rattle.vo_spec.specs.declared.tables.Batch.{Batch}
use Rattle.sql_text.specs.declared.faults.SqlFault.{SqlFault}
use Rattle.sql_text.specs.declared.faults.SqlFault.TheVariants as fault
use Rattle.sql_text.specs.declared.parse_error.ParseError.{ParseError}
use Rattle.sql_text.specs.declared.parse_error.ParseError.TheVariants as halt
use Rattle.sql_text.specs.Limits.{max_nesting, max_script_bytes, max_sql_bytes}
use Rattle.sql_text.specs.Queries.{conditions_of}
use Rattle.sql_text.specs.Commands.{script}
use Rattle.sql_text.specs.Texts.{without_places, token_offset, expect_end}

-- this token is the `;` of a COMMIT, which stands before it if `committed`
abbrev pub closes : Bool → Placed → Bool
closes committed p = committed && same_kind p.token.kind k.Semicolon

abbrev pub commits : Placed → Bool
commits p = same_kind p.token.kind k.Commit

-- some batch has a text of more than 65,536 bytes, from the end of the `;` of the COMMIT before it,
-- at first `start`, to its own COMMIT's `;`
abbrev pub has_long : ℕ → Bool → List Placed → Bool
has_long start committed [] = false
has_long start committed (p ∷ ps) =
    if closes committed p
    then nat_lt max_sql_bytes (p.at - start) || has_long (p.at + 1) false ps
    else has_long start (commits p) ps

-- no batch that is closed in these tokens of a script is too long
abbrev pub AreShort : List Placed → Type 0
AreShort ps = has_long 0 false ps ≡ false

-- the text is a script of these batches
abbrev pub IsScript : List ℕ → List Batch → Type 0
IsScript text batches =
    (length text ≤ max_script_bytes) × (ps : List Placed) × (tokens_of text ≡ Ok ps)
    × IsText conditions_of true max_nesting script (without_places ps) batches × AreShort ps

-- the text's tokens have this fault, at this place, and no batch is too long before it
abbrev pub BreaksScript : List ℕ → ParseFault → ℕ → Type 0
BreaksScript text s at =
    (ps : List Placed) × (tokens_of text ≡ Ok ps)
    × (n : ℕ) × (at ≡ token_offset (drop n ps) (length text))
    × FaultsAt conditions_of max_nesting script (without_places ps) s (without_places (drop n ps))
    × AreShort (take n ps)

-- the tokens before some `;` begin a script, and that one closes the first batch that is too long
abbrev pub HasLongBatch : List ℕ → Type 0
HasLongBatch text =
    (ps : List Placed) × (tokens_of text ≡ Ok ps) × (front rest : List Placed) × (p : Placed)
    × (ps ≡ front ++ p ∷ rest)
    × Begins conditions_of true max_nesting script (without_places front) × AreShort front
    × (has_long 0 false (front ++ p ∷ []) ≡ true)

-- when each fault comes: the length first, then the first token that is none, then what comes first
-- of a token that no script goes on with and the end of a batch that is too long
abbrev pub HasScriptFault : List ℕ → SqlFault → Type 0
HasScriptFault text fault.TooLong = (max_script_bytes < length text)
    ⊎ ((length text ≤ max_script_bytes) × HasLongBatch text)
HasScriptFault text (fault.Token at) = (length text ≤ max_script_bytes)
    × (tokens_of text ≡ Err (lapse.Token, at))
HasScriptFault text (fault.Literal at) = (length text ≤ max_script_bytes)
    × (tokens_of text ≡ Err (lapse.Literal, at))
HasScriptFault text fault.Name = (length text ≤ max_script_bytes) × (at : ℕ)
    × (tokens_of text ≡ Err (lapse.Name, at))
HasScriptFault text (fault.Syntax at) = (length text ≤ max_script_bytes)
    × BreaksScript text stop.Syntax at
HasScriptFault text fault.Nesting = (length text ≤ max_script_bytes) × (at : ℕ)
    × BreaksScript text stop.Nesting at
HasScriptFault text fault.TooMany = (length text ≤ max_script_bytes) × (at : ℕ)
    × BreaksScript text stop.TooMany at
HasScriptFault text fault.Memory = Unit {0}

-- the script's batches or its first fault
abbrev pub AnswersScript : {B : Type 0} → (B → List Batch) → List ℕ → Result B SqlFault → Type 0
AnswersScript view text (Ok x) = IsScript text (view x)
AnswersScript view text (Err fault) = HasScriptFault text fault

-- how many tokens stand before the first `;` that closes a batch of too many bytes
abbrev pub short_len : ℕ → Bool → List Placed → ℕ
short_len start committed [] = 0
short_len start committed (p ∷ ps) =
    if closes committed p
    then (if nat_lt max_sql_bytes (p.at - start) then 0 else suc (short_len (p.at + 1) false ps))
    else suc (short_len start (commits p) ps)

-- the answer by what was found in the tokens before the first `;` that closes a batch of too many
-- bytes, which are all tokens if `is_whole`
abbrev pub ended_script : {B : Type 0} → Bool → Result B ParseError → List Placed → ℕ
    → Result B SqlFault
ended_script is_whole (Err halt.Memory) left end = Err fault.Memory
ended_script false found [] end = Err fault.TooLong
ended_script false found (p ∷ left) end = expect_end found (p ∷ left) end
ended_script true found left end = expect_end found left end
