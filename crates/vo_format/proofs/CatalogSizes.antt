-- A catalog has few bytes.
use Rattle.std.proofs.Common.{◌≡◌, ℕ, suc, ◌+◌, ◌*◌, ◌^◌, ◌<◌, ◌≤◌, List, [], ◌∷◌, ◌++◌, length, arith}
use Rattle.std.specs.List.{AllByRecursion, flat_map}
use Rattle.std.proofs.lemmas.List.{length-append}
use Rattle.vo_spec.specs.declared.tables.Column.{Column}
use Rattle.vo_spec.specs.declared.records.CatalogTable.{CatalogTable}
use Rattle.vo_spec.specs.declared.records.Catalog.{Catalog}
use Rattle.vo_spec.specs.Bytes.{u16_bytes, u64_bytes, short_string}
use Rattle.vo_spec.specs.Batches.{FitsColumn, list_bytes, column_bytes, column_type}
use Rattle.vo_spec.specs.Records.{catalog_table_bytes, catalog_bytes, FitsCatalogTable, FitsCatalog}
use Rattle.row_bytes.proofs.ValueLaws.{u16_length, u64_length}
use Rattle.batch_format.proofs.Fitting.{name_is_short}

pieces_short : {A : Type 0} (Fits : A → Type 0) (encode : A → List ℕ) (most : ℕ) → ((x : A) → Fits x → length (encode x) ≤ most)
    → (xs : List A) → AllByRecursion Fits xs → length (flat_map encode xs) ≤ length xs * most
pieces_short Fits encode most each [] fits = omega arith
pieces_short Fits encode most each (x ∷ xs) fits =
    let rest : length (flat_map encode xs) ≤ length xs * most = pieces_short Fits encode most each xs fits.1 in
    let first : length (encode x) ≤ most = each x fits.0 in
    let both : length (encode x ++ flat_map encode xs) ≡ length (encode x) + length (flat_map encode xs) = length-append (encode x) (flat_map encode xs) in
    let product : suc (length xs) * most ≡ most + length xs * most = grind arith in
    omega (arith, rest, first, both, product)

column_short : (c : Column) → FitsColumn c → length (column_bytes c) ≤ 65
column_short c fits =
    let name : length c.name ≤ 63 = name_is_short c.name fits in
    omega (arith, name, length-append (short_string c.name) (column_type c ∷ []))

columns_short : (cs : List Column) → length cs ≤ 32 → AllByRecursion FitsColumn cs → length (list_bytes column_bytes cs) ≤ 2081
columns_short cs few fits =
    let all : length (flat_map column_bytes cs) ≤ length cs * 65 = pieces_short FitsColumn column_bytes 65 column_short cs fits in
    omega (arith, all, few)

table_short : (t : CatalogTable) → FitsCatalogTable t → length (catalog_table_bytes t) ≤ 2186
table_short t fits =
    let name : length t.name ≤ 63 = name_is_short t.name fits.name in
    let columns : length (list_bytes column_bytes t.schema.columns) ≤ 2081 = columns_short t.schema.columns fits.schema.columns.1 fits.schema.columns.2 in
    let front = short_string t.name ++ list_bytes column_bytes t.schema.columns in
    let one : length front ≡ length (short_string t.name) + length (list_bytes column_bytes t.schema.columns) = length-append (short_string t.name) (list_bytes column_bytes t.schema.columns) in
    let two : length (front ++ t.schema.key ∷ u64_bytes t.rows) ≡ length front + length (t.schema.key ∷ u64_bytes t.rows) = length-append front (t.schema.key ∷ u64_bytes t.rows) in
    let all : length (catalog_table_bytes t) ≡ length (front ++ t.schema.key ∷ u64_bytes t.rows) + length t.root = length-append (front ++ t.schema.key ∷ u64_bytes t.rows) t.root in
    omega (arith, name, columns, one, two, all, u64_length t.rows, fits.root)

pub catalog_is_short : (c : Catalog) → FitsCatalog c → length (catalog_bytes c) < 2 ^ 32
unfolding catalog_bytes
catalog_is_short c fits =
    let all : length (flat_map catalog_table_bytes c.tables) ≤ length c.tables * 2186 =
    pieces_short FitsCatalogTable catalog_table_bytes 2186 table_short c.tables fits.each in
    omega (arith, all, fits.count, length-append (u16_bytes (length c.tables)) (flat_map catalog_table_bytes c.tables), u16_length (length c.tables))
