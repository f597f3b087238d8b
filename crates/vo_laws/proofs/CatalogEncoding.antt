-- Catalogs that fit are told from their bytes, so two of them with one digest give two strings with
-- one digest.
use Rattle.std.proofs.Common.{◌≡◌, ◌≢◌, ℕ, ◌+◌, ◌<◌, ◌≤◌, Bool, true, false, cond, List, [], ◌∷◌, ◌++◌, length, refl, sym, ap, ◌∙◌, append_assoc, append-nil, arith}
use Rattle.std.specs.Prelude.{flat_map}
use Rattle.std.specs.List.{AllByRecursion}
use Rattle.std.proofs.lemmas.Bool.{eq-eqb}
use Rattle.vo_spec.specs.declared.values.Kind.{Kind}
use Rattle.vo_spec.specs.declared.values.Kind.TheVariants as kind
use Rattle.vo_spec.specs.declared.tables.Column.{Column}
use Rattle.vo_spec.specs.declared.records.CatalogTable.{CatalogTable}
use Rattle.vo_spec.specs.declared.records.Catalog.{Catalog}
use Rattle.vo_spec.specs.Collides.{Collides}
use Rattle.vo_spec.specs.Bytes.{u64_bytes, short_string}
use Rattle.vo_spec.specs.Values.{type_byte}
use Rattle.vo_spec.specs.Tables.{max_tables}
use Rattle.vo_spec.specs.Batches.{list_bytes, column_bytes, column_type}
use Rattle.vo_spec.specs.Records.{catalog_table_bytes, catalog_bytes, catalog_digest, FitsCatalogTable, FitsCatalog}
use Rattle.vo_laws.proofs.ConditionLaws.{same_kind_is}
use Rattle.vo_laws.proofs.ToldBytes.{same_pieces, Told, list_told, u16_told, u64_told}

short_told : (a b r s : List ℕ) → short_string a ++ r ≡ short_string b ++ s → (a ≡ b) × (r ≡ s)
short_told a b r s e =
    let len : length a ≡ length b = cc in
    let others : a ++ r ≡ b ++ s = cc in
    same_pieces a b r s len others

-- Catalogs.

kind_told : (a b : Kind) → type_byte a ≡ type_byte b → a ≡ b
kind_told a b e = sym (same_kind_is a b (eq-eqb (type_byte a) (type_byte b) e))

type_small : (k : Kind) → type_byte k < 128
type_small kind.Int = omega arith
type_small kind.Text = omega arith
type_small kind.Bool = omega arith

type_told : (k l : Kind) (m n : Bool) → cond m (128 + type_byte k) (type_byte k) ≡ cond n (128 + type_byte l) (type_byte l) → (k ≡ l) × (m ≡ n)
type_told k l true true e = (kind_told k l (omega arith), refl)
type_told k l true false e = let small : type_byte l < 128 = type_small l in absurd (omega arith)
type_told k l false true e = let small : type_byte k < 128 = type_small k in absurd (omega arith)
type_told k l false false e = (kind_told k l e, refl)

abbrev Anything : Column → Type 0
Anything c = Unit {0}

abbrev column : List ℕ → Kind → Bool → Column
column name kind nullable = record { name = name; kind = kind; nullable = nullable }

same_column : (a b : List ℕ) (k l : Kind) (m n : Bool) → a ≡ b → k ≡ l → m ≡ n → column a k m ≡ column b l n
same_column a b k l m n e f g = rw (e, f, g) refl

column_told : Told column_bytes Anything
column_told c d r s c_fits d_fits e =
    let p = short_told c.name d.name (column_type c ∷ r) (column_type d ∷ s)
    (sym (append_assoc (short_string c.name) (column_type c ∷ []) r) ∙ e ∙ append_assoc (short_string d.name) (column_type d ∷ []) s) in
    let byte : column_type c ≡ column_type d = cc in
    let behind : r ≡ s = cc in
    let types = type_told c.kind d.kind c.nullable d.nullable byte in
    (same_column c.name d.name c.kind d.kind c.nullable d.nullable p.0 types.0 types.1, behind)

no_limits : (cs : List Column) → AllByRecursion Anything cs
no_limits [] = tt
no_limits (c ∷ cs) = (tt, no_limits cs)

columns_told : (cs ds : List Column) (r s : List ℕ) → list_bytes column_bytes cs ++ r ≡ list_bytes column_bytes ds ++ s → (cs ≡ ds) × (r ≡ s)
columns_told cs ds r s e =
    let len : length cs ≡ length ds = cc in
    let others : flat_map column_bytes cs ++ r ≡ flat_map column_bytes ds ++ s = cc in
    list_told column_bytes Anything column_told cs ds r s (no_limits cs) (no_limits ds) len others

regrouped : (a b : List ℕ) (k : ℕ) (u d rest : List ℕ) → (a ++ b ++ k ∷ u ++ d) ++ rest ≡ a ++ (b ++ (k ∷ (u ++ (d ++ rest))))
regrouped a b k u d rest = append_assoc (a ++ b ++ k ∷ u) d rest ∙ append_assoc (a ++ b) (k ∷ u) (d ++ rest) ∙ append_assoc a b (k ∷ (u ++ (d ++ rest)))

abbrev table : List ℕ → List Column → ℕ → ℕ → List ℕ → CatalogTable
table name columns key rows root = record { name = name; schema = record { columns = columns; key = key }; rows = rows; root = root }

same_table : (m n : List ℕ) (cs ds : List Column) (j k x y : ℕ) (p q : List ℕ) → m ≡ n → cs ≡ ds → j ≡ k → x ≡ y → p ≡ q → table m cs j x p ≡ table n ds k y q
same_table m n cs ds j k x y p q a b c d e = rw (a, b, c, d, e) refl

table_told : Told catalog_table_bytes FitsCatalogTable
table_told t u r s t_fits u_fits e =
    let name = short_told t.name u.name _ _ (sym (regrouped (short_string t.name) (list_bytes column_bytes t.schema.columns) t.schema.key (u64_bytes t.rows) t.root r)
    ∙ e ∙ regrouped (short_string u.name) (list_bytes column_bytes u.schema.columns) u.schema.key (u64_bytes u.rows) u.root s) in
    let columns = columns_told t.schema.columns u.schema.columns (t.schema.key ∷ (u64_bytes t.rows ++ (t.root ++ r))) (u.schema.key ∷ (u64_bytes u.rows ++ (u.root ++ s))) name.1 in
    let key : t.schema.key ≡ u.schema.key = cc in
    let behind : u64_bytes t.rows ++ (t.root ++ r) ≡ u64_bytes u.rows ++ (u.root ++ s) = cc in
    let rows = u64_told t.rows u.rows (t.root ++ r) (u.root ++ s) (omega (arith, t_fits.rows)) (omega (arith, u_fits.rows)) behind in
    let root = same_pieces t.root u.root r s (t_fits.root ∙ sym u_fits.root) rows.1 in
    (same_table t.name u.name t.schema.columns u.schema.columns t.schema.key u.schema.key t.rows u.rows t.root u.root name.0 columns.0 key rows.0 root.0, root.1)

abbrev catalog : List CatalogTable → Catalog
catalog tables = record { tables = tables }

pub catalog_told : (a b : Catalog) → FitsCatalog a → FitsCatalog b → catalog_bytes a ≡ catalog_bytes b → a ≡ b
unfolding catalog_bytes
catalog_told a b a_fits b_fits e =
    let few : length a.tables ≤ max_tables = a_fits.count in
    let few_too : length b.tables ≤ max_tables = b_fits.count in
    let count = u16_told (length a.tables) (length b.tables) (flat_map catalog_table_bytes a.tables) (flat_map catalog_table_bytes b.tables) (omega arith) (omega arith) e in
    let tables = list_told catalog_table_bytes FitsCatalogTable table_told a.tables b.tables [] [] a_fits.each b_fits.each count.0
    (append-nil (flat_map catalog_table_bytes a.tables) ∙ count.1 ∙ sym (append-nil (flat_map catalog_table_bytes b.tables))) in
    ap catalog tables.0

pub catalogs_collide : (a b : Catalog) → FitsCatalog a → FitsCatalog b → a ≢ b → catalog_digest a ≡ catalog_digest b → Collides (5 ∷ catalog_bytes a) (5 ∷ catalog_bytes b)
unfolding catalog_digest
catalogs_collide a b a_fits b_fits other same = record { differ = λ e. let bytes : catalog_bytes a ≡ catalog_bytes b = cc in other (catalog_told a b a_fits b_fits bytes); agree = same }
