-- What passes for an index key, as its bytes are asked for it.
use Rattle.std.proofs.Common.{◌≡◌, ℕ, zero, suc, ◌+◌, ◌-◌, ◌<◌, ◌≤◌, Bool, true, false, List, [], ◌∷◌, ◌++◌, length, take, drop, min, refl, arith}
use Rattle.std.specs.Prelude.{◌&&◌, ◌==◌, bytes_eq, slice_get}
use Rattle.std.specs.Option.{option_map_or}
use Rattle.std.proofs.lemmas.Bool.{eq-eqb, le-leb, lt-leb}
use Rattle.std.proofs.lemmas.List.{length-drop, length-take}
use Rattle.std.proofs.lemmas.Slice.Eq.{bytes_eq-Decides}
use Rattle.vo_spec.specs.declared.values.Kind.{Kind}
use Rattle.vo_spec.specs.declared.values.Kind.TheVariants as kind
use Rattle.vo_spec.specs.Tables.{max_key}
use Rattle.vo_spec.specs.Checks.{is_key_of}
use Rattle.index_laws.specs.Indexes.{indexed_value, primary_key, value_length, is_value_key, is_index_key}

abbrev pub has_zero_at : List ℕ → ℕ → Bool
has_zero_at bytes place = option_map_or (λ b. b == 0) (slice_get bytes place) false

same_bytes : (bytes : List ℕ) → bytes_eq bytes bytes ≡ true
same_bytes bytes = (bytes_eq-Decides bytes bytes).1 refl

-- the bytes are a front, a zero and a rest exactly where a zero stands behind the front
zero_behind : (bytes : List ℕ) (place : ℕ)
    → bytes_eq bytes (take place bytes ++ 0 ∷ drop (suc place) bytes) ≡ has_zero_at bytes place
zero_behind [] zero = refl
zero_behind [] (suc n) = refl
zero_behind (b ∷ bs) zero = rw (same_bytes bs) (and_true (b == 0))
  where
    and_true : (t : Bool) → (t && true) ≡ t
    and_true true = refl
    and_true false = refl
zero_behind (b ∷ bs) (suc n) = rw (eq-eqb b b refl) (zero_behind bs n)

zero_there : (bytes : List ℕ) (place : ℕ)
    → bytes_eq bytes (take place bytes ++ 0 ∷ drop (place + 1) bytes) ≡ has_zero_at bytes place
zero_there bytes place =
    let next : place + 1 ≡ suc place = omega arith in
    rw next (zero_behind bytes place)

-- of bytes that are no longer than a key, a value's are as those of a row's key
same_test : (k : Kind) (bytes : List ℕ) → length bytes ≤ max_key
    → is_value_key k bytes ≡ is_key_of k bytes
same_test kind.Int bytes short = refl
same_test kind.Text bytes short = rw (le-leb (length bytes) max_key short) refl
same_test kind.Bool bytes short = refl

pub as_asked : (k key_kind : Kind) (bytes : List ℕ) → length bytes ≤ max_key
    → is_index_key k key_kind bytes ≡ (is_key_of k (indexed_value k bytes)
    && has_zero_at bytes (value_length k bytes) && is_key_of key_kind (primary_key k bytes))
as_asked k key_kind bytes short =
    let front : length (indexed_value k bytes) ≡ min (value_length k bytes) (length bytes) =
    length-take (value_length k bytes) bytes in
    let rest : length (primary_key k bytes) ≡ length bytes - (value_length k bytes + 1) =
    length-drop (value_length k bytes + 1) bytes in
    rw (
      le-leb (length bytes) max_key short,
      same_test k (indexed_value k bytes) (omega arith),
      zero_there bytes (value_length k bytes),
      same_test key_kind (primary_key k bytes) (omega arith),
    ) refl

pub too_long : (k key_kind : Kind) (bytes : List ℕ) → max_key < length bytes
    → is_index_key k key_kind bytes ≡ false
too_long k key_kind bytes long = rw (lt-leb (length bytes) max_key long) refl
