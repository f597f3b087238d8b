-- How many bytes a catalog has at most that is read, whatever the bytes are.
use Rattle.std.proofs.Common.{◌≡◌, ℕ, zero, suc, ◌+◌, ◌*◌, ◌<◌, ◌≤◌, Bool, ◌&&◌, ltb, leb, List, [], ◌∷◌, length, take, drop, Option, Some, None, refl, sym, ap, ◌∙◌, arith, inl, inr}
use Rattle.std.specs.Prelude.{if◌then◌else◌}
use Rattle.std.proofs.lemmas.Bool.{cases_Bool, ltb-false, leb-true}
use Rattle.std.proofs.lemmas.List.{length-drop, length-take-le}
use Rattle.vo_spec.specs.declared.records.Catalog.{Catalog}
use Rattle.vo_spec.specs.declared.records.Magic.{Magic}
use Rattle.vo_spec.specs.Bytes.{u16_of, u64_of}
use Rattle.vo_spec.specs.Batches.{max_columns}
use Rattle.vo_spec.specs.Names.{is_name}
use Rattle.vo_spec.specs.Tables.{max_tables}
use Rattle.row_bytes.specs.Reading.{byte_at, bytes_at, u16_at, u64_at}
use Rattle.row_bytes.specs.Fields.{◌>>=◌, where_true, short_string_at, name_at, type_of_byte, type_at, column_at, count_at, columns_at, times, whole}
use Rattle.batch_format.specs.BatchReading.{Reader}
use Rattle.batch_format.proofs.Fitting.{name_is_short}
use Rattle.batch_format.proofs.ReaderLaws.{bound, some_is, tested, no_some, all_true}
use Rattle.vo_spec.specs.Records.{are_rising, magic_of, max_catalog}
use Rattle.version_record.specs.Reading.{schema_at, catalog_table_at, names_of, catalog_at, catalog_of_record, same_magic}
use Rattle.version_record.proofs.RecordLaws.{whole_is}
use Rattle.reply_stream.proofs.Locals.{seen_at}

-- what is read takes at most so many bytes
abbrev TakesUpTo : {A : Type 0} → Reader A → ℕ → Type 0
TakesUpTo {A} read most = (bytes : List ℕ) (x : A) (rest : List ℕ) → read bytes ≡ Some (x, rest) → length bytes ≤ most + length rest

seen_takes : {A : Type 0} (n : ℕ) (see : List ℕ → A) → TakesUpTo (seen_at n see) n
seen_takes {A} n see bytes x rest e =
    elim (cases_Bool (ltb (length bytes) n)) [
      | inl t ↦ absurd (no_some (x, rest) (sym (ap (λ (t : Bool). let o : Option (A × List ℕ) = if t then None else Some (see (take n bytes), drop n bytes) in o) t) ∙ e))
      | inr f ↦
          let made : A × List ℕ = (see (take n bytes), drop n bytes) in
          let is : made ≡ (x, rest) = some_is made (x, rest) (sym (ap (λ (t : Bool). let o : Option (A × List ℕ) = if t then None else Some made in o) f) ∙ e) in
          omega (arith, ap (λ (p : A × List ℕ). length p.1) is, length-drop n bytes, ltb-false (length bytes) n f)
    ]

then_takes : {A B : Type 0} (f : Reader A) (g : A → Reader B) (n m : ℕ) → TakesUpTo f n → ((x : A) → TakesUpTo (g x) m) → TakesUpTo (λ bytes. f bytes >>= λ x. g x.0 x.1) (n + m)
then_takes f g n m first second bytes y rest e =
    let all = bound (f bytes) (λ x. g x.0 x.1) (y, rest) e in
    omega (arith, first bytes all.0.0 all.0.1 all.1, second all.0.0 all.0.1 y rest all.2)

made_takes : {A : Type 0} (x : A) → TakesUpTo (λ bytes. let o : Option (A × List ℕ) = Some (x, bytes) in o) 0
made_takes {A} x bytes y rest e =
    let made : A × List ℕ = (x, bytes) in
    omega (arith, ap (λ (p : A × List ℕ). length p.1) (some_is made (y, rest) e))

tested_takes : {A : Type 0} (test : Bool) (x : A) → TakesUpTo (λ bytes. where_true test (let made : A × List ℕ = (x, bytes) in made)) 0
tested_takes {A} test x bytes y rest e =
    let made : A × List ℕ = (x, bytes) in
    omega (arith, ap (λ (p : A × List ℕ). length p.1) (tested test made (y, rest) e).1)

times_takes : {A : Type 0} (read : Reader A) (most n : ℕ) → TakesUpTo read most → TakesUpTo (times read n) (n * most)
times_takes {A} read most zero takes bytes xs rest e =
    let made : List A × List ℕ = ([], bytes) in
    omega (arith, ap (λ (p : List A × List ℕ). length p.1) (some_is made (xs, rest) e))
times_takes {A} read most (suc n) takes bytes xs rest e =
    let a = bound (read bytes) (λ first. times read n first.1 >>= λ others. Some (first.0 ∷ others.0, others.1)) (xs, rest) e in
    let b = bound (times read n a.0.1) (λ others. Some (a.0.0 ∷ others.0, others.1)) (xs, rest) a.2 in
    let made : List A × List ℕ = (a.0.0 ∷ b.0.0, b.0.1) in
    let first : length bytes ≤ most + length a.0.1 = takes bytes a.0.0 a.0.1 a.1 in
    let others : length a.0.1 ≤ n * most + length b.0.1 = times_takes read most n takes a.0.1 b.0.0 b.0.1 b.1 in
    let product : suc n * most ≡ most + n * most = grind arith in
    omega (arith, first, others, product, ap (λ (p : List A × List ℕ). length p.1) (some_is made (xs, rest) b.2))

-- Fields.

byte_takes : TakesUpTo byte_at 1
unfolding byte_at
byte_takes [] x rest e = absurd cc
byte_takes (byte ∷ bytes) x rest e =
    let made : ℕ × List ℕ = (byte, bytes) in
    omega (arith, ap (λ (p : ℕ × List ℕ). length p.1) (some_is made (x, rest) e))

bytes_takes : (n : ℕ) → TakesUpTo (bytes_at n) n
unfolding bytes_at
bytes_takes n = seen_takes n (λ bytes. bytes)

u16_takes : TakesUpTo u16_at 2
unfolding u16_at
u16_takes = seen_takes 2 u16_of

u64_takes : TakesUpTo u64_at 8
unfolding u64_at
u64_takes = seen_takes 8 u64_of

bytes_length : (n : ℕ) (bytes x rest : List ℕ) → bytes_at n bytes ≡ Some (x, rest) → length x ≡ n
unfolding bytes_at
bytes_length n bytes x rest e =
    elim (cases_Bool (ltb (length bytes) n)) [
      | inl t ↦ absurd (no_some (x, rest) (sym (ap (λ (t : Bool). let o : Option (List ℕ × List ℕ) = if t then None else Some (take n bytes, drop n bytes) in o) t) ∙ e))
      | inr f ↦
          let made : List ℕ × List ℕ = (take n bytes, drop n bytes) in
          let is : made ≡ (x, rest) = some_is made (x, rest) (sym (ap (λ (t : Bool). let o : Option (List ℕ × List ℕ) = if t then None else Some made in o) f) ∙ e) in
          sym (ap (λ (p : List ℕ × List ℕ). length p.0) is) ∙ length-take-le n bytes (ltb-false (length bytes) n f)
    ]

name_takes : TakesUpTo name_at 64
unfolding name_at short_string_at
name_takes bytes name rest e =
    let a = bound (byte_at bytes >>= λ count. bytes_at count.0 count.1) (λ name. where_true (is_name name.0) name) (name, rest) e in
    let t = tested (is_name a.0.0) a.0 (name, rest) a.2 in
    let b = bound (byte_at bytes) (λ count. bytes_at count.0 count.1) a.0 a.1 in
    let short : length a.0.0 ≤ 63 = name_is_short a.0.0 t.0 in
    omega (arith, byte_takes bytes b.0.0 b.0.1 b.1, bytes_takes b.0.0 b.0.1 a.0.0 a.0.1 b.2, bytes_length b.0.0 b.0.1 a.0.0 a.0.1 b.2, short, ap (λ (p : List ℕ × List ℕ). length p.1) t.1)

type_takes : TakesUpTo type_at 1
unfolding type_at
type_takes bytes of rest e =
    let a = bound (byte_at bytes) (λ byte. type_of_byte byte.0 >>= λ of. Some (of, byte.1)) (of, rest) e in
    let b = bound (type_of_byte a.0.0) (λ of. Some (of, a.0.1)) (of, rest) a.2 in
    omega (arith, byte_takes bytes a.0.0 a.0.1 a.1, made_takes b.0 a.0.1 of rest b.2)

column_takes : TakesUpTo column_at 65
unfolding column_at
column_takes = then_takes name_at _ 64 1 name_takes (λ name. then_takes type_at _ 1 0 type_takes (λ of. made_takes _))

columns_takes : TakesUpTo columns_at 2081
unfolding columns_at count_at
columns_takes bytes columns rest e =
    let a = bound (byte_at bytes >>= λ count. where_true (leb 1 count.0 && leb count.0 max_columns) count) (λ count. times column_at count.0 count.1) (columns, rest) e in
    let b = bound (byte_at bytes) (λ count. where_true (leb 1 count.0 && leb count.0 max_columns) count) a.0 a.1 in
    let t = tested (leb 1 b.0.0 && leb b.0.0 max_columns) b.0 a.0 b.2 in
    let few : b.0.0 ≤ max_columns = leb-true b.0.0 max_columns (all_true (leb 1 b.0.0) (leb b.0.0 max_columns) t.0).1 in
    omega (arith, byte_takes bytes b.0.0 b.0.1 b.1, times_takes column_at 65 a.0.0 column_takes a.0.1 columns rest a.2, few, ap (λ (p : ℕ × List ℕ). p.0) t.1, ap (λ (p : ℕ × List ℕ). length p.1) t.1)

schema_takes : TakesUpTo schema_at 2082
unfolding schema_at
schema_takes = then_takes columns_at _ 2081 1 columns_takes (λ columns. then_takes byte_at _ 1 0 byte_takes (λ key. tested_takes _ _))

table_takes : TakesUpTo catalog_table_at 2186
unfolding catalog_table_at
table_takes =
    then_takes name_at _ 64 2122 name_takes
    (λ name. then_takes schema_at _ 2082 40 schema_takes
    (λ schema. then_takes u64_at _ 8 32 u64_takes
    (λ rows. then_takes (bytes_at 32) _ 32 0 (bytes_takes 32) (λ root. tested_takes _ _))))

catalog_takes : TakesUpTo catalog_at max_catalog
unfolding catalog_at
catalog_takes bytes catalog rest e =
    let a = bound (u16_at bytes) (λ count. where_true (leb count.0 max_tables) count >>= λ count. times catalog_table_at count.0 count.1 >>= λ tables. where_true (are_rising (names_of tables.0)) (record { tables = tables.0 }, tables.1)) (catalog, rest) e in
    let b = bound (where_true (leb a.0.0 max_tables) a.0) (λ count. times catalog_table_at count.0 count.1 >>= λ tables. where_true (are_rising (names_of tables.0)) (record { tables = tables.0 }, tables.1)) (catalog, rest) a.2 in
    let t = tested (leb a.0.0 max_tables) a.0 b.0 b.1 in
    let d = bound (times catalog_table_at b.0.0 b.0.1) (λ tables. where_true (are_rising (names_of tables.0)) (record { tables = tables.0 }, tables.1)) (catalog, rest) b.2 in
    let few : a.0.0 ≤ max_tables = leb-true a.0.0 max_tables t.0 in
    let last = tested_takes (are_rising (names_of d.0.0)) (record { tables = d.0.0 }) d.0.1 catalog rest d.2 in
    omega (arith, u16_takes bytes a.0.0 a.0.1 a.1, times_takes catalog_table_at 2186 b.0.0 table_takes b.0.1 d.0.0 d.0.1 d.1, few, last, ap (λ (p : ℕ × List ℕ). p.0) t.1, ap (λ (p : ℕ × List ℕ). length p.1) t.1)

none_of : (o : Option Catalog) → ((c : Catalog) → o ≡ Some c → ⊥) → o ≡ None
none_of None none = refl
none_of (Some c) none = absurd (none c refl)

too_long_for_catalog : (bytes : List ℕ) → max_catalog < length bytes → whole (catalog_at bytes) ≡ None
too_long_for_catalog bytes long =
    none_of (whole (catalog_at bytes)) (λ c e. omega (arith, long, catalog_takes bytes c [] (whole_is (catalog_at bytes) c e)))

pub too_long_for_record : (magic : Magic) (bytes : List ℕ) → max_catalog < length bytes → catalog_of_record magic bytes ≡ None
unfolding catalog_of_record
too_long_for_record magic bytes long =
    ap (λ (o : Option Catalog). o >>= λ c. where_true (same_magic magic (magic_of c)) c) (too_long_for_catalog bytes long)
