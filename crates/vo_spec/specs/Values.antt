-- Values of columns: their kinds, bytes and order, and the keys that they give.
use Rattle.std.specs.Prelude.{◌≡◌, ℕ, ℤ, ◌^◌, pos, ◌+ℤ◌, ◌-ℤ◌, Bool, ◌&&◌, ◌||◌, true, false, List, [], ◌∷◌, length, nat_le, nat_lt, ◌==◌, IsTrue, FitsSigned}
use Rattle.std.specs.Int.{w64, from_bool, cast_unsigned}
use Rattle.std.specs.List.{list_all}
use Rattle.std.specs.declared.cmp.Ordering.{Ordering}
use Rattle.std.specs.Ordering.{nat_cmp, int_cmp, bool_cmp, is_lt}
use Rattle.std.specs.Cmp.Lexicographic.{slice_cmp}
use Rattle.std.specs.Str.{is_utf8}
use Rattle.vo_spec.specs.declared.values.Kind.{Kind}
use Rattle.vo_spec.specs.declared.values.Kind.TheVariants as kind
use Rattle.vo_spec.specs.declared.values.Value.{Value}
use Rattle.vo_spec.specs.declared.values.Value.TheVariants.{Int, Text, Bool as Truth, Null}
use Rattle.vo_spec.specs.Bytes.{u64_bytes, u64_of, string}

-- the byte that stands for a kind
abbrev pub type_byte : Kind → ℕ
type_byte kind.Int = 1
type_byte kind.Text = 2
type_byte kind.Bool = 3

abbrev pub same_kind : Kind → Kind → Bool
same_kind a b = type_byte a == type_byte b

-- the value that is absent
abbrev pub is_null : Value → Bool
is_null Null = true
is_null (Int z) = false
is_null (Text s) = false
is_null (Truth b) = false

-- the byte that a value's bytes begin with: its kind's, and 0 for NULL
abbrev pub value_tag : Value → ℕ
value_tag Null = 0
value_tag (Int z) = 1
value_tag (Text s) = 2
value_tag (Truth b) = 3

-- whether the value is of the kind; NULL is of each
abbrev pub is_of_kind : Kind → Value → Bool
is_of_kind k v = is_null v || type_byte k == value_tag v

abbrev pub value_bytes : Value → List ℕ
value_bytes Null = 0 ∷ []
value_bytes (Int z) = 1 ∷ u64_bytes (cast_unsigned w64 z)
value_bytes (Text s) = 2 ∷ string s
value_bytes (Truth b) = 3 ∷ from_bool b ∷ []

-- how many bytes a text may have
abbrev pub max_text : ℕ
max_text = 1024

-- a text that a column may hold: UTF-8, with no control character below 20 hex
abbrev pub is_text : List ℕ → Bool
is_text s = nat_le (length s) max_text && is_utf8 s && list_all (nat_le 32) s

abbrev pub FitsValue : Value → Type 0
FitsValue Null = Unit {0}
FitsValue (Int z) = FitsSigned w64 z
FitsValue (Text s) = IsTrue (is_text s)
FitsValue (Truth b) = Unit {0}

-- the bytes that order the values of one kind: a number's with the sign bit flipped, a text's own.
-- NULL is no key, and has none of them.
abbrev pub key_of : Value → List ℕ
key_of Null = []
key_of (Int z) = u64_bytes (cast_unsigned w64 (z +ℤ pos (2 ^ 63)))
key_of (Text s) = s
key_of (Truth b) = from_bool b ∷ []

-- a number of 64 bits with a sign; other values have no such limit
abbrev pub IsInRange : Value → Type 0
IsInRange Null = Unit {0}
IsInRange (Int z) = FitsSigned w64 z
IsInRange (Text s) = Unit {0}
IsInRange (Truth b) = Unit {0}

-- the bytes are the key of a value of this kind, and no BOOLEAN is a key
abbrev pub IsKeyOf : Kind → List ℕ → Type 0
IsKeyOf kind.Int key = (z : ℤ) × FitsSigned w64 z × (key ≡ key_of (Int z))
IsKeyOf kind.Text key = Unit {0}
IsKeyOf kind.Bool key = ⊥

abbrev pub value_of_key : Kind → List ℕ → Value
value_of_key kind.Int key = Int (pos (u64_of key) -ℤ pos (2 ^ 63))
value_of_key kind.Text key = Text key
value_of_key kind.Bool key = Truth (nat_lt 0 (length key))

abbrev pub key_cmp : List ℕ → List ℕ → Ordering
key_cmp = slice_cmp nat_cmp

abbrev pub key_lt : List ℕ → List ℕ → Bool
key_lt a b = is_lt (key_cmp a b)

-- The order of a kind: numbers, texts by their bytes, FALSE before TRUE. Values of two kinds, and
-- NULL with any, are compared nowhere; they go by the bytes that they begin with.
abbrev pub value_cmp : Value → Value → Ordering
value_cmp (Int a) (Int b) = int_cmp a b
value_cmp (Text a) (Text b) = slice_cmp nat_cmp a b
value_cmp (Truth a) (Truth b) = bool_cmp a b
value_cmp a b = nat_cmp (value_tag a) (value_tag b)
