-- A catalog that is read is spelled so, and what is spelled so is read.
use Rattle.std.proofs.Common.{◌≡◌, ℕ, ◌^◌, Bool, true, not, ◌&&◌, leb, ltb, List, [], ◌∷◌, ◌++◌, length, map, Option, Some, Result, Ok, Err, refl, sym, ap, subst, ◌∙◌, append_assoc, append-nil, arith}
use Rattle.std.specs.Prelude.{IfOk}
use Rattle.std.specs.List.{flat_map}
use Rattle.std.proofs.lemmas.Bool.{ltb-true, lt-ltb, leb-true, le-leb}
use Rattle.vo_spec.specs.declared.values.Kind.TheVariants as kind
use Rattle.vo_spec.specs.declared.tables.Column.{Column}
use Rattle.vo_spec.specs.declared.tables.Schema.{Schema}
use Rattle.vo_spec.specs.declared.records.CatalogTable.{CatalogTable}
use Rattle.vo_spec.specs.declared.records.Catalog.{Catalog}
use Rattle.vo_spec.specs.declared.records.Magic.{Magic}
use Rattle.vo_spec.specs.declared.records.Magic.TheVariants.{Vrec, Vrc2}
use Rattle.vo_spec.specs.Bytes.{IsBytes, u16_bytes, u64_bytes, short_string}
use Rattle.vo_spec.specs.Values.{same_kind}
use Rattle.vo_spec.specs.Tables.{column_at, has_twice, max_tables}
use Rattle.vo_spec.specs.Batches.{FitCounted, FitsColumn, list_bytes, column_bytes}
use Rattle.vo_spec.specs.Records.{catalog_table_bytes, catalog_bytes, are_rising, magic_of, FitsSchema, FitsCatalogTable, FitsCatalog, IsCatalog}
use Rattle.row_bytes.specs.declared.read_fault.ReadFault.{ReadFault}
use Rattle.row_bytes.specs.Reading.{byte_at, bytes_at, u16_at, u64_at}
use Rattle.row_bytes.specs.Fields.{◌>>=◌, where_true, times, whole, ReadsAs}
use Rattle.row_bytes.proofs.Readers.{IsBytes-rest}
use Rattle.batch_format.specs.BatchReading.{Reader}
use Rattle.batch_format.proofs.ReaderLaws.{Took, IsReader, some_is, bound, tested, took_then, all_true, names_read, next_found, next_again, times_found, times_again}
use Rattle.batch_format.proofs.BatchLaws.{columns_law, u16_found, u16_read}
use Rattle.version_record.specs.Reading.{schema_at, catalog_table_at, catalog_at, catalog_of_record, is_schema, names_of, same_magic}
use Rattle.version_record.proofs.RecordLaws.{bytes_read, u64s_read, whole_is}

-- One byte.

abbrev one_byte : ℕ → List ℕ
one_byte byte = byte ∷ []

abbrev Any : ℕ → Type 0
Any byte = Unit {0}

byte_found : (bytes : List ℕ) (byte : ℕ) (rest : List ℕ) → IsBytes bytes → byte_at bytes ≡ Some (byte, rest) → Took bytes (one_byte byte) rest × Any byte
unfolding byte_at
byte_found [] byte rest fits e = absurd cc
byte_found (first ∷ bytes) byte rest fits e =
    subst (λ (p : ℕ × List ℕ). Took (first ∷ bytes) (one_byte p.0) p.1 × Any p.0) (some_is (first, bytes) (byte, rest) e)
    (record { parts = refl; behind = IsBytes-rest first bytes fits }, tt)

byte_again : (byte : ℕ) (rest : List ℕ) → Any byte → byte_at (one_byte byte ++ rest) ≡ Some (byte, rest)
unfolding byte_at
byte_again byte rest any = refl

byte_law : IsReader byte_at one_byte Any
byte_law = record { found = byte_found; again = byte_again }

-- Schemas.

abbrev schema_of : List Column → ℕ → Schema
schema_of columns key = record { columns = columns; key = key }

abbrev schema_bytes : Schema → List ℕ
schema_bytes s = list_bytes column_bytes s.columns ++ one_byte s.key

abbrev schema_at_end : List Column → ℕ → Reader Schema
schema_at_end columns key rest = where_true (is_schema (schema_of columns key)) (schema_of columns key, rest)

abbrev key_of : List Column → Reader Schema
key_of columns bytes = byte_at bytes >>= λ key. schema_at_end columns key.0 key.1

schema_fits : (s : Schema) → FitCounted FitsColumn s.columns → is_schema s ≡ true → FitsSchema s
schema_fits s columns e =
    let once : Bool = not (has_twice (map (λ (c : Column). c.name) s.columns)) in
    let within : Bool = ltb s.key (length s.columns) in
    let no_truth : Bool = not (same_kind (column_at s.columns s.key).kind kind.Bool) in
    let given = all_true (once && within && no_truth) (not (column_at s.columns s.key).nullable) e in
    let both = all_true (once && within) no_truth given.0 in
    let first = all_true once within both.0 in
    record { columns = columns; once = first.0; key_in = ltb-true s.key (length s.columns) first.1; key_kind = both.1; key_given = given.1 }

schema_is : (s : Schema) → FitsSchema s → is_schema s ≡ true
schema_is s fits = rw (fits.once, lt-ltb s.key (length s.columns) fits.key_in, fits.key_kind, fits.key_given) refl

schema_found : (bytes : List ℕ) (s : Schema) (rest : List ℕ) → IsBytes bytes → schema_at bytes ≡ Some (s, rest) → Took bytes (schema_bytes s) rest × FitsSchema s
unfolding schema_at
schema_found bytes s rest fits e =
    let y : Schema × List ℕ = (s, rest) in
    let cs = next_found columns_law key_of bytes y fits e in
    let k = next_found byte_law (schema_at_end cs.0) cs.1 y cs.2.behind cs.4 in
    let t = tested (is_schema (schema_of cs.0 k.0)) (schema_of cs.0 k.0, k.1) y k.4 in
    subst (λ (p : Schema × List ℕ). Took bytes (schema_bytes p.0) p.1 × FitsSchema p.0) t.1
    (took_then bytes (list_bytes column_bytes cs.0) cs.1 (one_byte k.0) k.1 cs.2 k.2, schema_fits (schema_of cs.0 k.0) cs.3 t.0)

schema_again : (s : Schema) (rest : List ℕ) → FitsSchema s → schema_at (schema_bytes s ++ rest) ≡ Some (s, rest)
unfolding schema_at
schema_again s rest fits =
    ap schema_at (append_assoc (list_bytes column_bytes s.columns) (one_byte s.key) rest)
    ∙ next_again columns_law key_of s.columns (one_byte s.key ++ rest) fits.columns
    ∙ next_again byte_law (schema_at_end s.columns) s.key rest tt
    ∙ rw (schema_is s fits) refl

schemas_read : IsReader schema_at schema_bytes FitsSchema
schemas_read = record { found = schema_found; again = schema_again }

-- Tables.

abbrev table_of : List ℕ → Schema → ℕ → List ℕ → CatalogTable
table_of name schema rows root = record { name = name; schema = schema; rows = rows; root = root }

abbrev few_rows : List ℕ → Schema → ℕ → List ℕ → Reader CatalogTable
few_rows name schema rows root rest = where_true (ltb rows (2 ^ 32)) (table_of name schema rows root, rest)

abbrev root_of : List ℕ → Schema → ℕ → Reader CatalogTable
root_of name schema rows bytes = bytes_at 32 bytes >>= λ root. few_rows name schema rows root.0 root.1

abbrev rows_of : List ℕ → Schema → Reader CatalogTable
rows_of name schema bytes = u64_at bytes >>= λ rows. root_of name schema rows.0 rows.1

abbrev schema_behind : List ℕ → Reader CatalogTable
schema_behind name bytes = schema_at bytes >>= λ schema. rows_of name schema.0 schema.1

-- the key's byte in front of the number of rows
regrouped : (name : List ℕ) (s : Schema) (rows root : List ℕ) → short_string name ++ schema_bytes s ++ rows ++ root ≡ short_string name ++ list_bytes column_bytes s.columns ++ s.key ∷ rows ++ root
regrouped name s rows root =
    ap (λ (t : List ℕ). t ++ rows ++ root) (sym (append_assoc (short_string name) (list_bytes column_bytes s.columns) (one_byte s.key)))
    ∙ ap (λ (t : List ℕ). t ++ root) (append_assoc (short_string name ++ list_bytes column_bytes s.columns) (one_byte s.key) rows)

Encoded : List ℕ → CatalogTable × List ℕ → Type 0
Encoded bytes p = Took bytes (catalog_table_bytes p.0) p.1 × FitsCatalogTable p.0

table_found : (bytes : List ℕ) (t : CatalogTable) (rest : List ℕ) → IsBytes bytes → catalog_table_at bytes ≡ Some (t, rest) → Took bytes (catalog_table_bytes t) rest × FitsCatalogTable t
unfolding catalog_table_at Encoded
table_found bytes t rest fits e =
    let y : CatalogTable × List ℕ = (t, rest) in
    let n = next_found names_read schema_behind bytes y fits e in
    let s = next_found schemas_read (rows_of n.0) n.1 y n.2.behind n.4 in
    let r = next_found u64s_read (root_of n.0 s.0) s.1 y s.2.behind s.4 in
    let d = next_found (bytes_read 32) (few_rows n.0 s.0 r.0) r.1 y r.2.behind r.4 in
    let few = tested (ltb r.0 (2 ^ 32)) (table_of n.0 s.0 r.0 d.0, d.1) y d.4 in
    let ns = took_then bytes (short_string n.0) n.1 (schema_bytes s.0) s.1 n.2 s.2 in
    let nsr = took_then bytes (short_string n.0 ++ schema_bytes s.0) s.1 (u64_bytes r.0) r.1 ns r.2 in
    let all = took_then bytes (short_string n.0 ++ schema_bytes s.0 ++ u64_bytes r.0) r.1 d.0 d.1 nsr d.2 in
    let encoded : Took bytes (catalog_table_bytes (table_of n.0 s.0 r.0 d.0)) d.1 = subst (λ (x : List ℕ). Took bytes x d.1) (regrouped n.0 s.0 (u64_bytes r.0) d.0) all in
    subst (Encoded bytes) few.1 (encoded, record { name = n.3; schema = s.3; rows = ltb-true r.0 (2 ^ 32) few.0; root = d.3 })

table_again : (t : CatalogTable) (rest : List ℕ) → FitsCatalogTable t → catalog_table_at (catalog_table_bytes t ++ rest) ≡ Some (t, rest)
unfolding catalog_table_at
table_again t rest fits =
    ap (λ (x : List ℕ). catalog_table_at (x ++ rest)) (sym (regrouped t.name t.schema (u64_bytes t.rows) t.root))
    ∙ ap catalog_table_at (append_assoc (short_string t.name ++ schema_bytes t.schema ++ u64_bytes t.rows) t.root rest
    ∙ append_assoc (short_string t.name ++ schema_bytes t.schema) (u64_bytes t.rows) (t.root ++ rest)
    ∙ append_assoc (short_string t.name) (schema_bytes t.schema) (u64_bytes t.rows ++ (t.root ++ rest)))
    ∙ next_again names_read schema_behind t.name (schema_bytes t.schema ++ (u64_bytes t.rows ++ (t.root ++ rest))) fits.name
    ∙ next_again schemas_read (rows_of t.name) t.schema (u64_bytes t.rows ++ (t.root ++ rest)) fits.schema
    ∙ next_again u64s_read (root_of t.name t.schema) t.rows (t.root ++ rest) (omega (arith, fits.rows))
    ∙ next_again (bytes_read 32) (few_rows t.name t.schema t.rows) t.root rest fits.root
    ∙ rw (lt-ltb t.rows (2 ^ 32) fits.rows) refl

tables_law : IsReader catalog_table_at catalog_table_bytes FitsCatalogTable
tables_law = record { found = table_found; again = table_again }

-- Catalogs.

abbrev catalog_of : List CatalogTable → Catalog
catalog_of tables = record { tables = tables }

abbrev rising : List CatalogTable × List ℕ → Option (Catalog × List ℕ)
rising tables = where_true (are_rising (names_of tables.0)) (catalog_of tables.0, tables.1)

abbrev tables_of : ℕ × List ℕ → Option (Catalog × List ℕ)
tables_of count = times catalog_table_at count.0 count.1 >>= rising

abbrev counted_tables : ℕ × List ℕ → Option (Catalog × List ℕ)
counted_tables count = where_true (leb count.0 max_tables) count >>= tables_of

IsEncoded : List ℕ → Catalog × List ℕ → Type 0
IsEncoded bytes p = (bytes ≡ catalog_bytes p.0 ++ p.1) × FitsCatalog p.0

catalog_found : (bytes : List ℕ) (c : Catalog) (rest : List ℕ) → IsBytes bytes → catalog_at bytes ≡ Some (c, rest) → (bytes ≡ catalog_bytes c ++ rest) × FitsCatalog c
unfolding catalog_at catalog_bytes IsEncoded
catalog_found bytes c rest fits e =
    let y : Catalog × List ℕ = (c, rest) in
    let a = bound (u16_at bytes) counted_tables y e in
    let n = u16_found bytes a.0.0 a.0.1 fits a.1 in
    let b = bound (where_true (leb a.0.0 max_tables) a.0) tables_of y a.2 in
    let few = tested (leb a.0.0 max_tables) a.0 b.0 b.1 in
    let read : times catalog_table_at a.0.0 a.0.1 >>= rising ≡ Some y = ap tables_of few.1 ∙ b.2 in
    let d = bound (times catalog_table_at a.0.0 a.0.1) rising y read in
    let f = times_found catalog_table_at catalog_table_bytes FitsCatalogTable tables_law a.0.0 a.0.1 d.0.0 d.0.1 n.behind d.1 in
    let last = tested (are_rising (names_of d.0.0)) (catalog_of d.0.0, d.0.1) y d.2 in
    let parts = (took_then bytes (u16_bytes a.0.0) a.0.1 (flat_map catalog_table_bytes d.0.0) d.0.1 n f.0).parts in
    let encoded : bytes ≡ catalog_bytes (catalog_of d.0.0) ++ d.0.1 = parts ∙ ap (λ (k : ℕ). u16_bytes k ++ flat_map catalog_table_bytes d.0.0 ++ d.0.1) (sym f.1) in
    subst (IsEncoded bytes) last.1
    (encoded, record { count = omega (arith, leb-true a.0.0 max_tables few.0, f.1); each = f.2; rising = last.0 })

catalog_again : (c : Catalog) (rest : List ℕ) → FitsCatalog c → catalog_at (catalog_bytes c ++ rest) ≡ Some (c, rest)
unfolding catalog_at catalog_bytes
catalog_again c rest fits =
    ap catalog_at (append_assoc (u16_bytes (length c.tables)) (flat_map catalog_table_bytes c.tables) rest)
    ∙ rw (
      u16_read (length c.tables) (flat_map catalog_table_bytes c.tables ++ rest) (omega (arith, fits.count)),
      le-leb (length c.tables) max_tables fits.count,
      times_again catalog_table_at catalog_table_bytes FitsCatalogTable tables_law c.tables rest fits.each,
      fits.rising,
    ) refl

-- What the calls ensure.

pub is_catalog : (bytes : List ℕ) (r : Result Catalog ReadFault) → IsBytes bytes → ReadsAs (λ (c : Catalog). c) r (whole (catalog_at bytes)) → IfOk r (λ catalog. IsCatalog bytes catalog)
is_catalog bytes (Ok catalog) fits read =
    let f = catalog_found bytes catalog [] fits (whole_is (catalog_at bytes) catalog read) in
    record { fits = f.1; encoded = f.0 ∙ append-nil (catalog_bytes catalog) }
is_catalog bytes (Err fault) fits read = tt

pub is_read : (bytes : List ℕ) (r : Result Catalog ReadFault) (c : Catalog) → ReadsAs (λ (c : Catalog). c) r (whole (catalog_at bytes)) → IsCatalog bytes c → ReadsAs (λ (c : Catalog). c) r (Some c)
is_read bytes r c read is =
    subst (ReadsAs (λ (c : Catalog). c) r)
    (ap (λ (t : List ℕ). whole (catalog_at t)) (is.encoded ∙ sym (append-nil (catalog_bytes c))) ∙ ap whole (catalog_again c [] is.fits))
    read

-- Of catalogs whose records begin so.

same_is : (a b : Magic) → same_magic a b ≡ true → a ≡ b
same_is Vrec Vrec e = refl
same_is Vrec Vrc2 e = absurd cc
same_is Vrc2 Vrec e = absurd cc
same_is Vrc2 Vrc2 e = refl

same_self : (a : Magic) → same_magic a a ≡ true
same_self Vrec = refl
same_self Vrc2 = refl

abbrev with_magic : Magic → Catalog → Option Catalog
with_magic magic c = where_true (same_magic magic (magic_of c)) c

pub of_record_found : (magic : Magic) (bytes : List ℕ) (c : Catalog) → IsBytes bytes → catalog_of_record magic bytes ≡ Some c → IsCatalog bytes c × (magic ≡ magic_of c)
unfolding catalog_of_record
of_record_found magic bytes c fits e =
    let a = bound (whole (catalog_at bytes)) (with_magic magic) c e in
    let t = tested (same_magic magic (magic_of a.0)) a.0 c a.2 in
    let f = catalog_found bytes a.0 [] fits (whole_is (catalog_at bytes) a.0 a.1) in
    subst (λ (c : Catalog). IsCatalog bytes c × (magic ≡ magic_of c)) t.1
    (record { fits = f.1; encoded = f.0 ∙ append-nil (catalog_bytes a.0) }, same_is magic (magic_of a.0) t.0)

pub of_record_again : (c : Catalog) → FitsCatalog c → catalog_of_record (magic_of c) (catalog_bytes c) ≡ Some c
unfolding catalog_of_record
of_record_again c fits =
    let read : whole (catalog_at (catalog_bytes c)) ≡ Some c = ap (λ (t : List ℕ). whole (catalog_at t)) (sym (append-nil (catalog_bytes c))) ∙ ap whole (catalog_again c [] fits) in
    ap (λ (o : Option Catalog). o >>= with_magic (magic_of c)) read ∙ rw (same_self (magic_of c)) refl
