-- The tokens of a text. Each is the longest that begins where it begins; blanks separate them.
use Rattle.std.specs.Prelude.{ℕ, zero, suc, ◌+◌, ◌-◌, Bool, false, not, ◌&&◌, ◌||◌, ◌==◌, nat_le, nat_lt, if◌then◌else◌, List, [], ◌∷◌, length, take, drop, slice_index, Option, Some, None, option_map, Result, Ok, Err, ℤ, pos, neg_ℤ, ◌≡◌, ◌^◌, int_le, map, Vec}
use Rattle.std.specs.Global.{Global}
use Rattle.std.specs.List.{prefix_len, list_all}
use Rattle.std.specs.Char.{is_ascii_alphabetic, is_ascii_digit}
use Rattle.std.specs.Str.Parse.{digits_value}
use Rattle.vo_spec.specs.Names.{max_name}
use Rattle.vo_spec.specs.Values.{max_text}
use Rattle.sql_tokens.specs.declared.kinds.TokenKind.{TokenKind}
use Rattle.sql_tokens.specs.declared.kinds.TokenKind.TheVariants as k
use Rattle.sql_tokens.specs.declared.lexemes.TokenFault.{TokenFault}
use Rattle.sql_tokens.specs.declared.lexemes.TokenFault.TheVariants as lapse
use Rattle.sql_tokens.specs.declared.lexemes.Lexeme.{Lexeme}
use Rattle.sql_tokens.specs.declared.lexemes.LexFault.{LexFault}
use Rattle.sql_tokens.specs.declared.lexemes.LexFault.TheVariants.{Memory, At}
use Rattle.sql_tokens.specs.Kinds.{spelling, keyword}

-- a token: its bytes in the text, and the number where it is an integer, else 0
pub record Token : Type 0 where
  pub kind : TokenKind
  pub text : List ℕ
  pub number : ℤ

-- a token with the place of its first byte
pub record Placed : Type 0 where
  pub token : Token
  pub at : ℕ

abbrev pub is_blank : ℕ → Bool
is_blank b = b == 32 || b == 9 || b == 13 || b == 10

-- a letter or `_`
abbrev pub is_letter : ℕ → Bool
is_letter b = is_ascii_alphabetic b || b == 95

abbrev pub is_word_byte : ℕ → Bool
is_word_byte b = is_letter b || is_ascii_digit b

-- a reserved word, or a name that is not too long
abbrev pub keyword_or_name : Option TokenKind → List ℕ → Result Token TokenFault
keyword_or_name (Some kind) word = Ok (record { kind = kind; text = word; number = pos 0 })
keyword_or_name None word = if nat_le (length word) max_name
    then Ok (record { kind = k.Name; text = word; number = pos 0 }) else Err lapse.Name

-- the digits behind a minus, if there is one
abbrev pub digits : List ℕ → List ℕ
digits text = if slice_index text 0 == 45 then drop 1 text else text

-- the number, if it has 64 bits with a sign
abbrev pub integer_value : List ℕ → Option ℤ
integer_value text =
    let size = digits_value 10 (digits text) in
    if slice_index text 0 == 45
    then (if nat_le size (2 ^ 63) then Some (neg_ℤ (pos size)) else None)
    else (if nat_lt size (2 ^ 63) then Some (pos size) else None)

-- how many rows LIMIT takes at most
abbrev pub max_row_count : ℕ
max_row_count = 4294967295

-- an integer that may stand behind LIMIT is of a kind of its own
abbrev pub integer_kind : ℤ → TokenKind
integer_kind number = if int_le (pos 1) number && int_le number (pos max_row_count)
    then k.RowCount else k.Integer

abbrev pub integer : Option ℤ → List ℕ → Result Token TokenFault
integer None text = Err lapse.Literal
integer (Some number) text = Ok
    (record { kind = integer_kind number; text = text; number = number })

-- how many bytes a quoted text goes on for behind its first quote, where `second` says that the
-- byte before was a quote that may be its last; two quotes stand for one
abbrev pub closing_len : Bool → List ℕ → Option ℕ
closing_len second [] = if second then Some 0 else None
closing_len second (b ∷ bytes) = if second && not (b == 39) then Some 0
    else option_map suc (closing_len (not second && b == 39) bytes)

-- the bytes that stand between the quotes, one for two quotes
abbrev pub single_quotes : Bool → List ℕ → List ℕ
single_quotes second [] = []
single_quotes second (b ∷ bytes) = if second && b == 39 then single_quotes false bytes
    else b ∷ single_quotes (b == 39) bytes

-- what a quoted text stands for
abbrev pub quoted_value : List ℕ → List ℕ
quoted_value text = single_quotes false (take (length text - 2) (drop 1 text))

-- it stands for at most 1,024 bytes, and has none below 20 hex
abbrev pub fits_text : List ℕ → Bool
fits_text text = nat_le (length (quoted_value text)) max_text && list_all (λ b. nat_le 32 b) text

abbrev pub string_token : Option ℕ → List ℕ → Result Token TokenFault
string_token None bytes = Err lapse.Token
string_token (Some len) bytes =
    let text = take (suc len) bytes in
    if fits_text text then Ok (record { kind = k.Quoted; text = text; number = pos 0 })
    else Err lapse.Literal

-- the symbol that these two bytes begin with
abbrev pub symbol : ℕ → ℕ → Option TokenKind
symbol a b =
    if a == 40 then Some k.LeftParen
    else (if a == 41 then Some k.RightParen
    else (if a == 44 then Some k.Comma else (if a == 59 then Some k.Semicolon
    else (if a == 46 then Some k.Dot
    else (if a == 42 then Some k.Star else (if a == 61 then Some k.Equal
    else (if a == 60 then Some (if b == 62 then k.NotEqual
    else (if b == 61 then k.LessEqual else k.Less))
    else (if a == 62 then Some (if b == 61 then k.GreaterEqual else k.Greater)
    else (if a == 33 && b == 61 then Some k.NotEqual else None)))))))))

abbrev pub symbolic : Option TokenKind → List ℕ → Result Token TokenFault
symbolic None bytes = Err lapse.Token
symbolic (Some kind) bytes = Ok
    (record { kind = kind; text = take (length (spelling kind)) bytes; number = pos 0 })

-- the token that a text begins with, which is not empty and begins with no blank
unfoldable pub token_at : List ℕ → Result Token TokenFault
token_at bytes =
    let first = slice_index bytes 0 in
    let second = slice_index bytes 1 in
    if is_letter first then (let word = take (prefix_len is_word_byte bytes) bytes in
    keyword_or_name (keyword word) word)
    else (if is_ascii_digit first then (let text = take (prefix_len is_ascii_digit bytes) bytes in
    integer (integer_value text) text)
    else (if first == 45 && is_ascii_digit second then
    (let text = take (1 + prefix_len is_ascii_digit (drop 1 bytes)) bytes in
    integer (integer_value text) text)
    else (if first == 39 then string_token (closing_len false (drop 1 bytes)) bytes
    else symbolic (symbol first second) bytes)))

abbrev pub then_tokens : Placed → Result (List Placed) (TokenFault × ℕ)
    → Result (List Placed) (TokenFault × ℕ)
then_tokens p (Ok ps) = Ok (p ∷ ps)
then_tokens p (Err e) = Err e

abbrev pub at_place : ℕ → Result Token TokenFault → (ℕ → Result (List Placed) (TokenFault × ℕ))
    → Result (List Placed) (TokenFault × ℕ)
at_place at (Ok token) others = then_tokens (record { token = token; at = at })
    (others (length token.text - 1))
at_place at (Err lapse) others = Err (lapse, at)

-- the tokens of what stands from place `at` on, or the first lapse with its place; the first
-- `within` bytes are still of the token before
unfoldable pub tokens_from : ℕ → ℕ → List ℕ → Result (List Placed) (TokenFault × ℕ)
tokens_from at within [] = Ok []
tokens_from at (suc within) (b ∷ bytes) = tokens_from (at + 1) within bytes
tokens_from at zero (b ∷ bytes) = if is_blank b then tokens_from (at + 1) 0 bytes
    else at_place at (token_at (b ∷ bytes)) (λ within. tokens_from (at + 1) within bytes)

-- the tokens of a text, or its first lapse with its place
abbrev pub tokens_of : List ℕ → Result (List Placed) (TokenFault × ℕ)
tokens_of text = tokens_from 0 0 text

-- what a program's lexeme is

abbrev pub token_of : Lexeme → Token
token_of x = record { kind = x.kind; text = x.text.now; number = x.number }

abbrev pub placed_of : Lexeme → Placed
placed_of x = record { token = token_of x; at = x.at }

-- the lexeme that was read is this token
abbrev pub ReadsToken : Result Lexeme TokenFault → Result Token TokenFault → Type 0
ReadsToken (Ok x) token = token ≡ Ok (token_of x)
ReadsToken (Err lapse) token = token ≡ Err lapse

-- the list has these tokens, or the fault is theirs; memory may end
abbrev pub Scans : Result (List Placed) (TokenFault × ℕ)
    → Result (Vec Lexeme Global) LexFault → Type 0
Scans tokens (Ok list) = tokens ≡ Ok (map placed_of list.items)
Scans tokens (Err Memory) = Unit {0}
Scans tokens (Err (At lapse at)) = tokens ≡ Err (lapse, at)
