-- Index keys: how they compare with bounds, and that they are split back.
use Rattle.std.proofs.Common.{◌≡◌, ℕ, suc, ◌+◌, ◌-◌, ◌<◌, ◌≤◌, Bool, true, false, List, [], ◌∷◌, ◌++◌, length, take, drop, Ordering, inl, inr, refl, sym, ap, ◌∙◌, arith}
use Rattle.std.specs.Int.{w64}
use Rattle.std.specs.Prelude.{ℤ, FitsSigned, ◌&&◌, ◌==◌, not, nat_le, bytes_eq}
use Rattle.std.specs.List.{AllByRecursion, list_all, position_or_len}
use Rattle.std.specs.declared.cmp.Ordering.TheVariants.{Less, Equal, Greater}
use Rattle.std.specs.Ordering.{nat_cmp, ordering_then, is_lt, is_eq, is_le, is_gt, is_ge}
use Rattle.std.specs.Str.{is_utf8}
use Rattle.std.proofs.lemmas.List.{length-drop}
use Rattle.std.proofs.Math.Seq.{take-append_seam, drop-append-add}
use Rattle.std.specs.Cmp.{nat_cmp_is}
use Rattle.std.proofs.lemmas.Bool.{and_parts, le-leb, leb-true, cases_Bool, eqb-true}
use Rattle.std.proofs.lemmas.Slice.Eq.{bytes_eq-Decides}
use Rattle.vo_spec.specs.declared.values.Kind.{Kind}
use Rattle.vo_spec.specs.declared.values.Kind.TheVariants as kind
use Rattle.vo_spec.specs.declared.values.Value.{Value}
use Rattle.vo_spec.specs.declared.values.Value.TheVariants.{Int, Text, Bool as Truth, Null}
use Rattle.vo_spec.specs.declared.queries.Cmp.{Cmp}
use Rattle.vo_spec.specs.declared.queries.Cmp.TheVariants as cmp
use Rattle.vo_spec.specs.Values.{key_of, key_cmp, key_lt, value_cmp, value_of_key, is_text, max_text}
use Rattle.vo_spec.specs.Tables.{max_key}
use Rattle.vo_spec.specs.Checks.{is_key_of}
use Rattle.vo_spec.specs.Conditions.{compares}
use Rattle.vo_spec.specs.Scans.{in_interval}
use Rattle.vo_laws.proofs.ValueOrder.{number_length, integer_back, keys_in_order}
use Rattle.index_laws.specs.Indexes.{index_key, index_keys_that, has_bounds, value_length, indexed_value, primary_key, is_value_key, is_index_key, IsIndexable}

-- A value that an index may have is a number or a text, and two of one kind are both the one or the
-- other.

by_kind : (P : Kind → Value → Type 0)
    → ((z : ℤ) → FitsSigned w64 z → P kind.Int (Int z))
    → ((s : List ℕ) → is_text s ≡ true → P kind.Text (Text s))
    → (k : Kind) (v : Value) → IsIndexable k v → P k v
by_kind P number text kind.Int (Int z) f = number z f
by_kind P number text kind.Int (Text s) f = absurd f
by_kind P number text kind.Int (Truth b) f = absurd f
by_kind P number text kind.Int Null f = absurd f
by_kind P number text kind.Text (Int z) f = absurd f
by_kind P number text kind.Text (Text s) f = text s f
by_kind P number text kind.Text (Truth b) f = absurd f
by_kind P number text kind.Text Null f = absurd f
by_kind P number text kind.Bool v f = absurd f

two_by_kind : (P : Kind → Value → Value → Type 0)
    → ((y z : ℤ) → FitsSigned w64 y → FitsSigned w64 z → P kind.Int (Int y) (Int z))
    → ((s t : List ℕ) → is_text s ≡ true → is_text t ≡ true → P kind.Text (Text s) (Text t))
    → (k : Kind) (v w : Value) → IsIndexable k v → IsIndexable k w → P k v w
two_by_kind P numbers texts k v w f = by_kind (λ k v. IsIndexable k w → P k v w)
    (λ y e. number y e w) (λ s e. text s e w) k v f
  where
    number : (y : ℤ) → FitsSigned w64 y → (w : Value) → IsIndexable kind.Int w
        → P kind.Int (Int y) w
    number y e (Int z) g = numbers y z e g
    number y e (Text s) g = absurd g
    number y e (Truth b) g = absurd g
    number y e Null g = absurd g

    text : (s : List ℕ) → is_text s ≡ true → (w : Value) → IsIndexable kind.Text w
        → P kind.Text (Text s) w
    text s e (Int z) g = absurd g
    text s e (Text t) g = texts s t e g
    text s e (Truth b) g = absurd g
    text s e Null g = absurd g

-- Where one of two value keys ends before the other, the other goes on with a byte above 1, as no
-- bound does.

abbrev GoesOnHigh : List ℕ → List ℕ → Type 0
GoesOnHigh [] [] = Unit {0}
GoesOnHigh [] (b ∷ bs) = 1 < b
GoesOnHigh (a ∷ cs) [] = 1 < a
GoesOnHigh (a ∷ cs) (b ∷ bs) = GoesOnHigh cs bs

goes_on_by_length : (cs bs : List ℕ) → length cs ≡ length bs → GoesOnHigh cs bs
goes_on_by_length [] [] e = tt
goes_on_by_length [] (b ∷ bs) e = absurd (omega arith)
goes_on_by_length (a ∷ cs) [] e = absurd (omega arith)
goes_on_by_length (a ∷ cs) (b ∷ bs) e = goes_on_by_length cs bs (omega arith)

abbrev AreHigh : List ℕ → Type 0
AreHigh = AllByRecursion (λ b. 1 < b)

goes_on_by_bytes : (cs bs : List ℕ) → AreHigh cs → AreHigh bs → GoesOnHigh cs bs
goes_on_by_bytes [] [] h k = tt
goes_on_by_bytes [] (b ∷ bs) h k = k.0
goes_on_by_bytes (a ∷ cs) [] h k = h.0
goes_on_by_bytes (a ∷ cs) (b ∷ bs) h k = goes_on_by_bytes cs bs h.1 k.1

high_bytes : (s : List ℕ) → list_all (nat_le 32) s ≡ true → AreHigh s
high_bytes [] e = tt
high_bytes (b ∷ s) e = let both = and_parts (nat_le 32 b) (list_all (nat_le 32) s) e in
    let low : 32 ≤ b = leb-true 32 b both.0 in
    (omega arith, high_bytes s both.1)

text_high : (s : List ℕ) → is_text s ≡ true → AreHigh s
text_high s e =
    high_bytes s (and_parts (nat_le (length s) max_text && is_utf8 s) (list_all (nat_le 32) s) e).1

values_go_on : (k : Kind) (v w : Value) → IsIndexable k v → IsIndexable k w
    → GoesOnHigh (key_of v) (key_of w)
values_go_on = two_by_kind (λ k v w. GoesOnHigh (key_of v) (key_of w))
    (λ y z f g. goes_on_by_length (key_of (Int y)) (key_of (Int z))
    (number_length _ ∙ sym (number_length _)))
    (λ s t f g. goes_on_by_bytes s t (text_high s f) (text_high t g))

-- An index key compares with a bound as the values do, and where these are one, as what is behind.

then_associates : (a b c : Ordering)
    → ordering_then a (ordering_then b c) ≡ ordering_then (ordering_then a b) c
then_associates Less b c = refl
then_associates Equal b c = refl
then_associates Greater b c = refl

bound_cmp : (cs bs key : List ℕ) (end : ℕ) → end ≤ 1 → GoesOnHigh cs bs
    → key_cmp (index_key cs key) (bs ++ end ∷ [])
    ≡ ordering_then (key_cmp cs bs) (key_cmp (0 ∷ key) (end ∷ []))
bound_cmp [] [] key end small high = refl
bound_cmp [] (b ∷ bs) key end small high = rw (sym (nat_cmp_is 0 b Less (omega arith))) refl
bound_cmp (a ∷ cs) [] key end small high = rw (sym (nat_cmp_is a end Greater (omega arith))) refl
bound_cmp (a ∷ cs) (b ∷ bs) key end small high =
    ap (ordering_then (nat_cmp a b)) (bound_cmp cs bs key end small high)
    ∙ then_associates (nat_cmp a b) (key_cmp cs bs) (key_cmp (0 ∷ key) (end ∷ []))

-- what is behind a value's key is not below its start, and below its end
at_start : (key : List ℕ) → is_lt (key_cmp (0 ∷ key) (0 ∷ [])) ≡ false
at_start [] = refl
at_start (b ∷ key) = refl

from_start : (o rest : Ordering) → is_lt rest ≡ false → is_lt (ordering_then o rest) ≡ is_lt o
from_start Less rest e = refl
from_start Equal rest e = e
from_start Greater rest e = refl

to_end : (o : Ordering) → is_lt (ordering_then o Less) ≡ is_le o
to_end Less = refl
to_end Equal = refl
to_end Greater = refl

module _ (cs bs key : List ℕ) (high : GoesOnHigh cs bs) where
  below_start : key_lt (index_key cs key) (bs ++ 0 ∷ []) ≡ is_lt (key_cmp cs bs)
  below_start = ap is_lt (bound_cmp cs bs key 0 (omega arith) high)
      ∙ from_start (key_cmp cs bs) (key_cmp (0 ∷ key) (0 ∷ [])) (at_start key)

  below_end : key_lt (index_key cs key) (bs ++ 1 ∷ []) ≡ is_le (key_cmp cs bs)
  below_end = ap is_lt (bound_cmp cs bs key 1 (omega arith) high) ∙ to_end (key_cmp cs bs)

  bounds_have : (op : Cmp) → has_bounds op ≡ true
      → in_interval (index_keys_that op bs) (index_key cs key) ≡ compares op (key_cmp cs bs)
  bounds_have cmp.Eq h = rw (below_start, below_end) (step (key_cmp cs bs))
    where
      step : (o : Ordering) → (not (is_lt o) && is_le o) ≡ is_eq o
      step Less = refl
      step Equal = refl
      step Greater = refl
  bounds_have cmp.Ne h = absurd (cc)
  bounds_have cmp.Lt h = below_start
  bounds_have cmp.Le h = below_end
  bounds_have cmp.Gt h = rw below_end (step (key_cmp cs bs))
    where
      step : (o : Ordering) → (not (is_le o) && true) ≡ is_gt o
      step Less = refl
      step Equal = refl
      step Greater = refl
  bounds_have cmp.Ge h = rw below_start (step (key_cmp cs bs))
    where
      step : (o : Ordering) → (not (is_lt o) && true) ≡ is_ge o
      step Less = refl
      step Equal = refl
      step Greater = refl

-- A value is that of its key, and two compare as their keys do.

value_back : (k : Kind) (v : Value) → IsIndexable k v → value_of_key k (key_of v) ≡ v
value_back = by_kind (λ k v. value_of_key k (key_of v) ≡ v) integer_back (λ s f. refl)

values_in_order : (k : Kind) (v w : Value) → IsIndexable k v → IsIndexable k w
    → value_cmp v w ≡ key_cmp (key_of v) (key_of w)
values_in_order = two_by_kind (λ k v w. value_cmp v w ≡ key_cmp (key_of v) (key_of w))
    (λ y z f g. ap (λ v. value_cmp v (Int z)) (sym (integer_back y f))
    ∙ keys_in_order kind.Int (key_of (Int y)) (Int z) (y, f, refl) refl refl g)
    (λ s t f g. refl)

pub bounds_compare : (k : Kind) (op : Cmp) (v w : Value) (key : List ℕ) → has_bounds op ≡ true
    → IsIndexable k v → IsIndexable k w
    → in_interval (index_keys_that op (key_of w)) (index_key (key_of v) key)
    ≡ compares op (value_cmp v w)
bounds_compare k op v w key h f g =
    bounds_have (key_of v) (key_of w) key (values_go_on k v w f g) op h
    ∙ ap (compares op) (sym (values_in_order k v w f g))

-- Index keys are split back.

text_ends : (s key : List ℕ) → AreHigh s
    → position_or_len (λ b. b == 0) (index_key s key) ≡ length s
text_ends [] key h = refl
text_ends (b ∷ s) key h =
    let next : 1 + length s ≡ suc (length s) = omega arith in
    rw (not_zero b h.0, text_ends s key h.1) next
  where
    not_zero : (b : ℕ) → 1 < b → (b == 0) ≡ false
    not_zero b lt = elim (cases_Bool (b == 0)) [
      | inl e ↦ (let none : b ≡ 0 = eqb-true b 0 e in absurd (omega arith))
      | inr e ↦ e
    ]

value_ends : (k : Kind) (v : Value) (key : List ℕ) → IsIndexable k v
    → value_length k (index_key (key_of v) key) ≡ length (key_of v)
value_ends k v key = by_kind (λ k v. value_length k (index_key (key_of v) key) ≡ length (key_of v))
    (λ z f. sym (number_length _)) (λ s f. text_ends s key (text_high s f)) k v

pub value_split : (k : Kind) (v : Value) (key : List ℕ) → IsIndexable k v
    → indexed_value k (index_key (key_of v) key) ≡ key_of v
value_split k v key f = ap (λ n. take n (index_key (key_of v) key)) (value_ends k v key f)
    ∙ take-append_seam (key_of v) (0 ∷ key)

pub key_split : (k : Kind) (v : Value) (key : List ℕ) → IsIndexable k v
    → primary_key k (index_key (key_of v) key) ≡ key
key_split k v key f = ap (λ n. drop (n + 1) (index_key (key_of v) key)) (value_ends k v key f)
    ∙ drop-append-add (key_of v) (0 ∷ key) 1

-- what an index key passes: its length, its value, that it is made of its parts, and the row's key
record IndexKeyParts (k key_kind : Kind) (bytes : List ℕ) : Type 0 where
  short : length bytes ≤ max_key
  same : bytes ≡ index_key (indexed_value k bytes) (primary_key k bytes)
  row_key : is_value_key key_kind (primary_key k bytes) ≡ true

index_key_parts : (k key_kind : Kind) (bytes : List ℕ) → is_index_key k key_kind bytes ≡ true
    → IndexKeyParts k key_kind bytes
index_key_parts k key_kind bytes e =
    let short : Bool = nat_le (length bytes) max_key in
    let value : Bool = is_value_key k (indexed_value k bytes) in
    let whole : List ℕ = index_key (indexed_value k bytes) (primary_key k bytes) in
    let row_key : Bool = is_value_key key_kind (primary_key k bytes) in
    let front = and_parts (short && value && bytes_eq bytes whole) row_key e in
    let sized = and_parts (short && value) (bytes_eq bytes whole) front.0 in
    record {
      short = leb-true (length bytes) max_key (and_parts short value sized.0).0;
      same = (bytes_eq-Decides bytes whole).0 sized.1;
      row_key = front.1;
    }

pub key_whole : (k key_kind : Kind) (bytes : List ℕ) → is_index_key k key_kind bytes ≡ true
    → bytes ≡ index_key (indexed_value k bytes) (primary_key k bytes)
key_whole k key_kind bytes e = (index_key_parts k key_kind bytes e).same

is_row_key : (k : Kind) (key : List ℕ) → length key ≤ max_key → is_value_key k key ≡ true
    → is_key_of k key ≡ true
is_row_key kind.Int key short e = e
is_row_key kind.Text key short e = rw (le-leb (length key) max_key short, e) refl
is_row_key kind.Bool key short e = e

pub key_of_row : (k key_kind : Kind) (bytes : List ℕ) → is_index_key k key_kind bytes ≡ true
    → is_key_of key_kind (primary_key k bytes) ≡ true
key_of_row k key_kind bytes e =
    let parts = index_key_parts k key_kind bytes e in
    let all : length bytes ≤ max_key = parts.short in
    let dropped : length (primary_key k bytes) ≡ length bytes - (value_length k bytes + 1) =
    length-drop (value_length k bytes + 1) bytes in
    let short : length (primary_key k bytes) ≤ max_key = omega arith in
    is_row_key key_kind (primary_key k bytes) short parts.row_key

pub value_read : (k : Kind) (v : Value) (key : List ℕ) → IsIndexable k v
    → value_of_key k (indexed_value k (index_key (key_of v) key)) ≡ v
value_read k v key f = ap (value_of_key k) (value_split k v key f) ∙ value_back k v f
