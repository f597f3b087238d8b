-- Laws of readers: what one reads is spelled so and fits, and what fits and is spelled is read.
use Rattle.std.proofs.Common.{◌≡◌, ℕ, zero, suc, ◌+◌, ◌-◌, ◌≤◌, if◌then◌else◌, Bool, true, false, ◌&&◌, eqb, leb, ltb, List, [], ◌∷◌, ◌++◌, length, take, drop, Option, Some, None, Result, Ok, Err, refl, sym, ap, subst, ◌∙◌, append_assoc, arith, inl, inr}
use Rattle.std.specs.List.{AllByRecursion, flat_map}
use Rattle.std.specs.Result.{result_ok}
use Rattle.std.proofs.lemmas.Bool.{eqb-true, ltb-false, le-ltb, leb-true, le-leb}
use Rattle.std.proofs.lemmas.List.{take_at, drop_at, take-append-drop, length-append, length-take}
use Rattle.vo_spec.specs.declared.values.Kind.{Kind}
use Rattle.vo_spec.specs.declared.values.Kind.TheVariants as kind
use Rattle.vo_spec.specs.declared.values.Value.{Value}
use Rattle.vo_spec.specs.declared.tables.Column.{Column}
use Rattle.vo_spec.specs.Bytes.{IsBytes, short_string}
use Rattle.vo_spec.specs.Names.{is_name, FitsName}
use Rattle.vo_spec.specs.Values.{type_byte, value_bytes, FitsValue}
use Rattle.vo_spec.specs.Batches.{list_bytes, column_type, column_bytes, FitCounted, FitsColumn, max_columns}
use Rattle.row_bytes.specs.declared.fault.FormFault.{FormFault}
use Rattle.row_bytes.specs.Reading.{byte_at, bytes_at, value_at}
use Rattle.row_bytes.specs.Fields.{◌>>=◌, where_true, short_string_at, name_at, kind_of_byte, type_of_byte, type_at, column_at, count_at, times}
use Rattle.row_bytes.proofs.Readers.{IsBytes-rest, IsBytes-drop, IsBytes-after, chosen}
use Rattle.row_bytes.proofs.ValueLaws.{value_encodes, value_read}
use Rattle.batch_format.specs.BatchReading.{Reader, any_value_at}

-- what was in front, and what is behind it
pub record Took (bytes text rest : List ℕ) : Type 0 where
  pub parts : bytes ≡ text ++ rest
  pub behind : IsBytes rest

pub record IsReader {A : Type 0} (read : Reader A) (encoding : A → List ℕ) (Fits : A → Type 0) : Type 0 where
  pub found : (bytes : List ℕ) (x : A) (rest : List ℕ) → IsBytes bytes → read bytes ≡ Some (x, rest) → Took bytes (encoding x) rest × Fits x
  pub again : (x : A) (rest : List ℕ) → Fits x → read (encoding x ++ rest) ≡ Some (x, rest)

-- Steps.

pub some_is : {A : Type 0} (x y : A) → Some x ≡ Some y → x ≡ y
some_is x y e = cc

pub bound : {A B : Type 0} (o : Option A) (next : A → Option B) (y : B) → (o >>= next) ≡ Some y → (x : A) × (o ≡ Some x) × (next x ≡ Some y)
bound None next y e = absurd cc
bound (Some x) next y e = (x, refl, e)

pub tested : {A : Type 0} (b : Bool) (x y : A) → where_true b x ≡ Some y → (b ≡ true) × (x ≡ y)
tested true x y e = (refl, cc)
tested false x y e = absurd cc

pub took_then : (a x b y c : List ℕ) → Took a x b → Took b y c → Took a (x ++ y) c
took_then a x b y c p q = record { parts = p.parts ∙ ap (λ (t : List ℕ). x ++ t) q.parts ∙ sym (append_assoc x y c); behind = q.behind }

pub all_true : (a b : Bool) → (a && b) ≡ true → (a ≡ true) × (b ≡ true)
all_true true b e = (refl, e)
all_true false b e = absurd cc

pub no_some : {A : Type 0} (x : A) → None ≡ Some x → ⊥
no_some x e = cc

-- Names.

short_found : (bytes text rest : List ℕ) → IsBytes bytes → short_string_at bytes ≡ Some (text, rest) → Took bytes (short_string text) rest
unfolding short_string_at byte_at bytes_at
short_found [] text rest fits e = absurd cc
short_found (count ∷ bytes) text rest fits e =
    elim (chosen (ltb (length bytes) count) None (Some (take count bytes, drop count bytes)) (Some (text, rest)) e) [
      | inl a ↦ absurd (no_some (text, rest) a.1)
      | inr a ↦
          let long : count ≤ length bytes = ltb-false _ _ a.0 in
          let len : length (take count bytes) ≡ count = omega (arith, length-take count bytes) in
          let is : (take count bytes, drop count bytes) ≡ (text, rest) = some_is (take count bytes, drop count bytes) (text, rest) a.1 in
          subst (λ (p : List ℕ × List ℕ). Took (count ∷ bytes) (short_string p.0) p.1) is
          (record {
            parts = ap (λ (t : List ℕ). count ∷ t) (sym (take-append-drop count bytes)) ∙ ap (λ (n : ℕ). n ∷ take count bytes ++ drop count bytes) (sym len);
            behind = IsBytes-drop count bytes (IsBytes-rest count bytes fits);
          })
    ]

short_again : (text rest : List ℕ) → short_string_at (short_string text ++ rest) ≡ Some (text, rest)
unfolding short_string_at byte_at bytes_at
short_again text rest =
    let long : ltb (length (text ++ rest)) (length text) ≡ false = le-ltb _ _ (omega (arith, length-append text rest)) in
    rw (long, take_at text rest (length text) refl, drop_at text rest (length text) refl) refl

name_found : (bytes name rest : List ℕ) → IsBytes bytes → name_at bytes ≡ Some (name, rest) → Took bytes (short_string name) rest × FitsName name
unfolding name_at
name_found bytes name rest fits e =
    let b = bound (short_string_at bytes) (λ name. where_true (is_name name.0) name) (name, rest) e in
    let t = tested (is_name b.0.0) b.0 (name, rest) b.2 in
    subst (λ (p : List ℕ × List ℕ). Took bytes (short_string p.0) p.1 × FitsName p.0) t.1 (short_found bytes b.0.0 b.0.1 fits b.1, t.0)

name_again : (name rest : List ℕ) → FitsName name → name_at (short_string name ++ rest) ≡ Some (name, rest)
unfolding name_at
name_again name rest fits = rw (short_again name rest, fits) refl

pub names_read : IsReader name_at short_string FitsName
names_read = record { found = name_found; again = name_again }

-- Kinds and columns.

kind_encoded : (byte : ℕ) (k : Kind) → kind_of_byte byte ≡ Some k → byte ≡ type_byte k
kind_encoded byte k e =
    elim (chosen (eqb byte 1) (Some kind.Int) _ (Some k) e) [
      | inl a ↦ eqb-true byte 1 a.0 ∙ ap type_byte (some_is kind.Int k a.1)
      | inr a ↦ elim (chosen (eqb byte 2) (Some kind.Text) _ (Some k) a.1) [
        | inl b ↦ eqb-true byte 2 b.0 ∙ ap type_byte (some_is kind.Text k b.1)
        | inr b ↦ elim (chosen (eqb byte 3) (Some kind.Bool) None (Some k) b.1) [
          | inl c ↦ eqb-true byte 3 c.0 ∙ ap type_byte (some_is kind.Bool k c.1)
          | inr c ↦ absurd (no_some k c.1)
        ]
      ]
    ]

kind_read : (k : Kind) → kind_of_byte (type_byte k) ≡ Some k
kind_read kind.Int = refl
kind_read kind.Text = refl
kind_read kind.Bool = refl

-- what a column has behind its name
abbrev Type_of : Type 0
Type_of = Kind × Bool

abbrev byte_of : Type_of → ℕ
byte_of of = if of.1 then 128 + type_byte of.0 else type_byte of.0

with_mark : (byte : ℕ) (nullable : Bool) (of : Type_of) → (kind_of_byte byte >>= λ k. Some (k, nullable)) ≡ Some of → (byte ≡ type_byte of.0) × (nullable ≡ of.1)
with_mark byte nullable of e =
    let b = bound (kind_of_byte byte) (λ k. Some (k, nullable)) of e in
    let is : (b.0, nullable) ≡ of = some_is (b.0, nullable) of b.2 in
    (kind_encoded byte b.0 b.1 ∙ ap (λ (p : Type_of). type_byte p.0) is, ap (λ (p : Type_of). p.1) is)

type_encoded : (byte : ℕ) (of : Type_of) → type_of_byte byte ≡ Some of → byte ≡ byte_of of
type_encoded byte of e =
    elim (chosen (ltb byte 128) (kind_of_byte byte >>= λ k. Some (k, false)) _ (Some of) e) [
      | inl a ↦ let is = with_mark byte false of a.1 in rw (sym is.1) is.0
      | inr a ↦
          let is = with_mark (byte - 128) true of a.1 in
          let high : 128 ≤ byte = ltb-false byte 128 a.0 in
          rw (sym is.1) (omega (arith, is.0))
    ]

type_read : (of : Type_of) → type_of_byte (byte_of of) ≡ Some of
type_read (kind.Int, true) = refl
type_read (kind.Text, true) = refl
type_read (kind.Bool, true) = refl
type_read (kind.Int, false) = refl
type_read (kind.Text, false) = refl
type_read (kind.Bool, false) = refl

type_found : (bytes : List ℕ) (of : Type_of) (rest : List ℕ) → IsBytes bytes → type_at bytes ≡ Some (of, rest) → Took bytes (byte_of of ∷ []) rest
unfolding type_at byte_at
type_found [] of rest fits e = absurd cc
type_found (byte ∷ bytes) of rest fits e =
    let b = bound (type_of_byte byte) (λ of. Some (of, bytes)) (of, rest) e in
    let is : (b.0, bytes) ≡ (of, rest) = some_is (b.0, bytes) (of, rest) b.2 in
    subst (λ (p : Type_of × List ℕ). Took (byte ∷ bytes) (byte_of p.0 ∷ []) p.1) is
    (record { parts = ap (λ (n : ℕ). n ∷ bytes) (type_encoded byte b.0 b.1); behind = IsBytes-rest byte bytes fits })

type_again : (of : Type_of) (rest : List ℕ) → type_at (byte_of of ∷ [] ++ rest) ≡ Some (of, rest)
unfolding type_at byte_at
type_again of rest = rw (type_read of) refl

abbrev column_made : List ℕ → Type_of → Column
column_made name of = record { name = name; kind = of.0; nullable = of.1 }

column_found : (bytes : List ℕ) (c : Column) (rest : List ℕ) → IsBytes bytes → column_at bytes ≡ Some (c, rest) → Took bytes (column_bytes c) rest × FitsColumn c
unfolding column_at
column_found bytes c rest fits e =
    let a = bound (name_at bytes) (λ name. type_at name.1 >>= λ of. Some (column_made name.0 of.0, of.1)) (c, rest) e in
    let b = bound (type_at a.0.1) (λ of. Some (column_made a.0.0 of.0, of.1)) (c, rest) a.2 in
    let n = name_found bytes a.0.0 a.0.1 fits a.1 in
    let k = type_found a.0.1 b.0.0 b.0.1 n.0.behind b.1 in
    let made : Column × List ℕ = (column_made a.0.0 b.0.0, b.0.1) in
    subst (λ (p : Column × List ℕ). Took bytes (column_bytes p.0) p.1 × FitsColumn p.0) (some_is made (c, rest) b.2)
    (took_then bytes (short_string a.0.0) a.0.1 (byte_of b.0.0 ∷ []) b.0.1 n.0 k, n.1)

column_again : (c : Column) (rest : List ℕ) → FitsColumn c → column_at (column_bytes c ++ rest) ≡ Some (c, rest)
unfolding column_at
column_again c rest fits =
    ap column_at (append_assoc (short_string c.name) (column_type c ∷ []) rest)
    ∙ rw (name_again c.name (column_type c ∷ [] ++ rest) fits, type_again (c.kind, c.nullable) rest) refl

pub columns_are_read : IsReader column_at column_bytes FitsColumn
columns_are_read = record { found = column_found; again = column_again }

-- Values.

result_some : (r : Result (Value × List ℕ) FormFault) (x : Value × List ℕ) → result_ok r ≡ Some x → r ≡ Ok x
result_some (Ok y) x e = cc
result_some (Err fault) x e = absurd cc

any_value_found : (bytes : List ℕ) (v : Value) (rest : List ℕ) → IsBytes bytes → any_value_at bytes ≡ Some (v, rest) → Took bytes (value_bytes v) rest × FitsValue v
unfolding any_value_at
any_value_found bytes v rest fits e =
    let s = value_encodes bytes v rest fits (result_some (value_at bytes) (v, rest) e) in
    (record { parts = s.parts; behind = IsBytes-after (value_bytes v) rest bytes s.parts fits }, s.fits)

any_value_again : (v : Value) (rest : List ℕ) → FitsValue v → any_value_at (value_bytes v ++ rest) ≡ Some (v, rest)
unfolding any_value_at
any_value_again v rest fits = rw (value_read v rest fits) refl

pub values_read : IsReader any_value_at value_bytes FitsValue
values_read = record { found = any_value_found; again = any_value_again }

-- So many in a row.

module _ {A : Type 0} (read : Reader A) (encoding : A → List ℕ) (Fits : A → Type 0) (law : IsReader read encoding Fits) where
  pub times_found : (count : ℕ) (bytes : List ℕ) (xs : List A) (rest : List ℕ) → IsBytes bytes → times read count bytes ≡ Some (xs, rest)
      → Took bytes (flat_map encoding xs) rest × (length xs ≡ count) × AllByRecursion Fits xs
  times_found zero bytes xs rest fits e =
      subst (λ (p : List A × List ℕ). Took bytes (flat_map encoding p.0) p.1 × (length p.0 ≡ 0) × AllByRecursion Fits p.0) (some_is ([], bytes) (xs, rest) e)
      (record { parts = refl; behind = fits }, refl, tt)
  times_found (suc count) bytes xs rest fits e =
      let a = bound (read bytes) (λ first. times read count first.1 >>= λ others. Some (first.0 ∷ others.0, others.1)) (xs, rest) e in
      let b = bound (times read count a.0.1) (λ others. Some (a.0.0 ∷ others.0, others.1)) (xs, rest) a.2 in
      let first = law.found bytes a.0.0 a.0.1 fits a.1 in
      let others = times_found count a.0.1 b.0.0 b.0.1 first.0.behind b.1 in
      let made : List A × List ℕ = (a.0.0 ∷ b.0.0, b.0.1) in
      subst (λ (p : List A × List ℕ). Took bytes (flat_map encoding p.0) p.1 × (length p.0 ≡ suc count) × AllByRecursion Fits p.0) (some_is made (xs, rest) b.2)
      (took_then bytes (encoding a.0.0) a.0.1 (flat_map encoding b.0.0) b.0.1 first.0 others.0, ap suc others.1, (first.1, others.2))

  pub times_again : (xs : List A) (rest : List ℕ) → AllByRecursion Fits xs → times read (length xs) (flat_map encoding xs ++ rest) ≡ Some (xs, rest)
  times_again [] rest fits = refl
  times_again (x ∷ xs) rest fits =
      ap (times read (suc (length xs))) (append_assoc (encoding x) (flat_map encoding xs) rest)
      ∙ rw (law.again x (flat_map encoding xs ++ rest) fits.0, times_again xs rest fits.1) refl

  -- behind a byte that says how many
  abbrev pub many_at : Reader (List A)
  many_at bytes = count_at bytes >>= λ count. times read count.0 count.1

  many_found : (bytes : List ℕ) (xs : List A) (rest : List ℕ) → IsBytes bytes → many_at bytes ≡ Some (xs, rest) → Took bytes (list_bytes encoding xs) rest × FitCounted Fits xs
  unfolding count_at byte_at
  many_found [] xs rest fits e = absurd cc
  many_found (count ∷ bytes) xs rest fits e =
      let a = bound (where_true (leb 1 count && leb count max_columns) (count, bytes)) (λ count. times read count.0 count.1) (xs, rest) e in
      let t = tested (leb 1 count && leb count max_columns) (count, bytes) a.0 a.1 in
      let both = all_true (leb 1 count) (leb count max_columns) t.0 in
      let is : times read count bytes ≡ Some (xs, rest) = ap (λ (p : ℕ × List ℕ). times read p.0 p.1) t.1 ∙ a.2 in
      let f = times_found count bytes xs rest (IsBytes-rest count bytes fits) is in
      let low : 1 ≤ length xs = omega (arith, leb-true 1 count both.0, f.1) in
      let high : length xs ≤ max_columns = omega (arith, leb-true count max_columns both.1, f.1) in
      (record { parts = ap (λ (n : ℕ). n ∷ bytes) (sym f.1) ∙ ap (λ (t : List ℕ). length xs ∷ t) f.0.parts; behind = f.0.behind }, (low, high, f.2))

  many_again : (xs : List A) (rest : List ℕ) → FitCounted Fits xs → many_at (list_bytes encoding xs ++ rest) ≡ Some (xs, rest)
  unfolding count_at byte_at
  many_again xs rest fits = rw (le-leb 1 (length xs) fits.0, le-leb (length xs) max_columns fits.1, times_again xs rest fits.2) refl

  pub many_read : IsReader many_at (list_bytes encoding) (FitCounted Fits)
  many_read = record { found = many_found; again = many_again }

-- Things in turn.

pub next_found : {A B : Type 0} {read : Reader A} {encoding : A → List ℕ} {Fits : A → Type 0} → IsReader read encoding Fits → (next : A → Reader B) (bytes : List ℕ) (y : B × List ℕ) → IsBytes bytes
    → (read bytes >>= λ x. next x.0 x.1) ≡ Some y → (x : A) × (rest : List ℕ) × Took bytes (encoding x) rest × Fits x × (next x rest ≡ Some y)
next_found {read = read} law next bytes y fits e =
    let b = bound (read bytes) (λ x. next x.0 x.1) y e in
    let f = law.found bytes b.0.0 b.0.1 fits b.1 in
    (b.0.0, b.0.1, f.0, f.1, b.2)

pub next_again : {A B : Type 0} {read : Reader A} {encoding : A → List ℕ} {Fits : A → Type 0} → IsReader read encoding Fits → (next : A → Reader B) (x : A) (rest : List ℕ) → Fits x
    → (read (encoding x ++ rest) >>= λ x. next x.0 x.1) ≡ next x rest
next_again law next x rest fits = rw (law.again x rest fits) refl
