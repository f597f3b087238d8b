-- Reading from the front of bytes: what stands there, and the bytes after it.
use Rattle.std.specs.Prelude.{ℕ, not, ◌==◌, nat_lt, nat_le, if◌then◌else◌, List, [], ◌∷◌, length, take, drop, Option, Some, None, Result, Ok, Err}
use Rattle.std.specs.Int.{w64, cast_signed}
use Rattle.std.specs.List.{list_all}
use Rattle.std.specs.Str.{is_utf8}
use Rattle.vo_spec.specs.declared.values.Value.{Value}
use Rattle.vo_spec.specs.declared.values.Value.TheVariants.{Null, Int, Text, Bool as Truth}
use Rattle.vo_spec.specs.declared.values.Kind.{Kind}
use Rattle.vo_spec.specs.declared.values.Kind.TheVariants as kind
use Rattle.vo_spec.specs.Firsts.{first_of, unless}
use Rattle.vo_spec.specs.Bytes.{u16_of, u32_of, u64_of}
use Rattle.vo_spec.specs.Values.{max_text}
use Rattle.vo_spec.specs.Tables.{max_key}
use Rattle.row_bytes.specs.declared.fault.FormFault.{FormFault}
use Rattle.row_bytes.specs.declared.fault.FormFault.TheVariants.{Short, Tag, Length, NotUtf8, Control}

-- so many bytes
unfoldable pub bytes_at : ℕ → List ℕ → Option (List ℕ × List ℕ)
bytes_at count bytes =
    if nat_lt (length bytes) count then None else Some (take count bytes, drop count bytes)

unfoldable pub byte_at : List ℕ → Option (ℕ × List ℕ)
byte_at [] = None
byte_at (byte ∷ bytes) = Some (byte, bytes)

-- the number that the first bytes spell, so many of them
abbrev pub number_at : ℕ → (List ℕ → ℕ) → List ℕ → Option (ℕ × List ℕ)
number_at count number bytes =
    if nat_lt (length bytes) count then None else Some (number (take count bytes), drop count bytes)

unfoldable pub u16_at : List ℕ → Option (ℕ × List ℕ)
u16_at bytes = number_at 2 u16_of bytes

unfoldable pub u32_at : List ℕ → Option (ℕ × List ℕ)
u32_at bytes = number_at 4 u32_of bytes

unfoldable pub u64_at : List ℕ → Option (ℕ × List ℕ)
u64_at bytes = number_at 8 u64_of bytes

-- Values.

-- what is wrong with a text of at most so many bytes
abbrev pub text_fault : ℕ → List ℕ → Option FormFault
text_fault most text = first_of
    ((nat_lt most (length text), Length)
    ∷ (not (is_utf8 text), NotUtf8)
    ∷ (not (list_all (nat_le 32) text), Control)
    ∷ [])

unfoldable pub int_at : List ℕ → Result (Value × List ℕ) FormFault
int_at bytes =
    if nat_lt (length bytes) 8 then Err Short
    else Ok (Int (cast_signed w64 (u64_of (take 8 bytes))), drop 8 bytes)

-- a text behind its length
unfoldable pub text_at : List ℕ → Result (Value × List ℕ) FormFault
text_at bytes =
    let count = u16_of (take 2 bytes) in
    let rest = drop 2 bytes in
    if nat_lt (length bytes) 2 then Err Short
    else if nat_lt (length rest) count then Err Short
    else unless (text_fault max_text (take count rest)) (Text (take count rest), drop count rest)

unfoldable pub bool_at : List ℕ → Result (Value × List ℕ) FormFault
bool_at [] = Err Short
bool_at (byte ∷ bytes) = if nat_lt byte 2 then Ok (Truth (byte == 1), bytes) else Err Tag

-- a value behind the byte that says its kind, or NULL, which is that byte alone; or the first fault
unfoldable pub value_at : List ℕ → Result (Value × List ℕ) FormFault
value_at [] = Err Short
value_at (byte ∷ bytes) =
    if byte == 0 then Ok (Null, bytes)
    else if byte == 1 then int_at bytes
    else if byte == 2 then text_at bytes
    else if byte == 3 then bool_at bytes
    else Err Tag

-- what is wrong with the bytes of a stored key of this kind
abbrev pub key_fault : Kind → List ℕ → Option FormFault
key_fault kind.Bool key = Some Tag
key_fault kind.Int key = if length key == 8 then None else Some Length
key_fault kind.Text key = text_fault max_key key
