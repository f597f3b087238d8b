-- Fields of byte formats: what reading gives of strings and names behind their lengths, and of so
-- many things in a row; and what a call that reads leaves.
use Rattle.std.specs.Prelude.{◌≡◌, ℕ, zero, suc, ◌-◌, Bool, true, false, ◌&&◌, ◌==◌, nat_le, nat_lt, List, [], ◌∷◌, ◌++◌, length, if◌then◌else◌, Option, Some, None, Result, Ok, Err, bytes_eq}
use Rattle.vo_spec.specs.declared.values.Kind.{Kind}
use Rattle.vo_spec.specs.declared.values.Kind.TheVariants as kind
use Rattle.vo_spec.specs.declared.tables.Column.{Column}
use Rattle.vo_spec.specs.Names.{is_name}
use Rattle.vo_spec.specs.Batches.{max_columns}
use Rattle.row_bytes.specs.declared.read_fault.ReadFault.{ReadFault}
use Rattle.row_bytes.specs.declared.read_fault.ReadFault.TheVariants.{BadForm, Memory}
use Rattle.row_bytes.specs.Reading.{byte_at, bytes_at, u16_at, u32_at}

-- what the next step makes of what was read
infixl 10 ◌>>=◌
abbrev pub ◌>>=◌ : {A B : Type 0} → Option A → (A → Option B) → Option B
None >>= next = None
(Some found) >>= next = next found

-- the value, where the test holds
abbrev pub where_true : {A : Type 0} → Bool → A → Option A
where_true test value = if test then Some value else None

-- A call took from the old bytes what reading gives, and left the new ones; or reading gives
-- nothing, and nothing was taken.
abbrev pub Found : {X A : Type 0} → (X → A) → Option X → List ℕ → List ℕ → Option (A × List ℕ)
    → Type 0
Found view None old new read = (read ≡ None) × (new ≡ old)
Found view (Some x) old new read = read ≡ Some (view x, new)

-- the same of a call that takes memory: where that runs out, nothing was taken either
abbrev pub FoundOr : {X A : Type 0} → (X → A) → Result X ReadFault → List ℕ → List ℕ
    → Option (A × List ℕ) → Type 0
FoundOr view (Ok x) old new read = read ≡ Some (view x, new)
FoundOr view (Err BadForm) old new read = (read ≡ None) × (new ≡ old)
FoundOr view (Err Memory) old new read = new ≡ old

-- a call gives what is read of all the bytes, or says that nothing is, unless memory ran out
abbrev pub ReadsAs : {X A : Type 0} → (X → A) → Result X ReadFault → Option A → Type 0
ReadsAs view (Ok x) read = read ≡ Some (view x)
ReadsAs view (Err BadForm) read = read ≡ None
ReadsAs view (Err Memory) read = Unit {0}

-- things in front of those that are read
abbrev pub with_front : {A : Type 0} → List A → Option (List A × List ℕ) → Option (List A × List ℕ)
with_front front None = None
with_front front (Some others) = Some (front ++ others.0, others.1)

-- bytes behind their length, which is one byte, two or four
unfoldable pub short_string_at : List ℕ → Option (List ℕ × List ℕ)
short_string_at bytes = byte_at bytes >>= λ count. bytes_at count.0 count.1

unfoldable pub string_at : List ℕ → Option (List ℕ × List ℕ)
string_at bytes = u16_at bytes >>= λ count. bytes_at count.0 count.1

unfoldable pub block_at : List ℕ → Option (List ℕ × List ℕ)
block_at bytes = u32_at bytes >>= λ count. bytes_at count.0 count.1

-- a name behind its length
unfoldable pub name_at : List ℕ → Option (List ℕ × List ℕ)
name_at bytes = short_string_at bytes >>= λ name. where_true (is_name name.0) name

-- these very bytes
unfoldable pub word_at : List ℕ → List ℕ → Option (List ℕ × List ℕ)
word_at word bytes =
    bytes_at (length word) bytes >>= λ found. where_true (bytes_eq found.0 word) found

-- so many in a row, each as this reads it
abbrev pub times : {A : Type 0} → (List ℕ → Option (A × List ℕ)) → ℕ → List ℕ
    → Option (List A × List ℕ)
times read zero bytes = Some ([], bytes)
times read (suc count) bytes = read bytes >>= λ first. times read count first.1 >>=
    λ others. Some (first.0 ∷ others.0, others.1)

-- what is read of all the bytes, with none left
abbrev pub whole : {A : Type 0} → Option (A × List ℕ) → Option A
whole None = None
whole (Some (value, [])) = Some value
whole (Some (value, byte ∷ bytes)) = None

-- Columns.

abbrev pub kind_of_byte : ℕ → Option Kind
kind_of_byte byte =
    if byte == 1 then Some kind.Int
    else if byte == 2 then Some kind.Text
    else if byte == 3 then Some kind.Bool
    else None

unfoldable pub kind_at : List ℕ → Option (Kind × List ℕ)
kind_at bytes = byte_at bytes >>= λ byte. kind_of_byte byte.0 >>= λ k. Some (k, byte.1)

-- a column's kind, and whether the column is nullable, which the highest bit says
abbrev pub type_of_byte : ℕ → Option (Kind × Bool)
type_of_byte byte =
    if nat_lt byte 128 then kind_of_byte byte >>= (λ k. Some (k, false))
    else kind_of_byte (byte - 128) >>= (λ k. Some (k, true))

unfoldable pub type_at : List ℕ → Option ((Kind × Bool) × List ℕ)
type_at bytes = byte_at bytes >>= λ byte. type_of_byte byte.0 >>= λ of. Some (of, byte.1)

-- a name, and the byte of a kind, which also says whether the column is nullable
unfoldable pub column_at : List ℕ → Option (Column × List ℕ)
column_at bytes = name_at bytes >>= λ name. type_at name.1 >>=
    λ of. Some (record { name = name.0; kind = of.0.0; nullable = of.0.1 }, of.1)

-- a byte that says how many there are, 1 to 32
unfoldable pub count_at : List ℕ → Option (ℕ × List ℕ)
count_at bytes = byte_at bytes >>=
    λ count. where_true (nat_le 1 count.0 && nat_le count.0 max_columns) count

unfoldable pub columns_at : List ℕ → Option (List Column × List ℕ)
columns_at bytes = count_at bytes >>= λ count. times column_at count.0 count.1
