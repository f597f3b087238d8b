-- A command on rows that the catalog doesn't refuse can be followed on its table's tree.
use Rattle.std.proofs.Common.{◌≡◌, ℕ, zero, suc, ◌+◌, ◌-◌, ◌^◌, ◌<◌, Bool, true, false, cond, not, List, [], ◌∷◌, Some, None, map, length, refl, sym, ap, ◌∙◌, arith}
use Rattle.std.specs.Prelude.{bytes_eq, slice_get}
use Rattle.vo_spec.specs.declared.values.Row.{Row}
use Rattle.vo_spec.specs.declared.values.Value.{Value}
use Rattle.vo_spec.specs.declared.tables.Table.{Table}
use Rattle.vo_spec.specs.declared.tables.Command.{Command}
use Rattle.vo_spec.specs.declared.tables.Command.TheVariants.{Create, Drop, Insert, Update, Delete}
use Rattle.vo_spec.specs.declared.records.CatalogTable.{CatalogTable}
use Rattle.vo_spec.specs.Batches.{FitsCommand}
use Rattle.vo_spec.specs.Fits.{FitsRow}
use Rattle.vo_spec.specs.Tables.{table_header_of, refusal, row_of, table_named}
use Rattle.vo_spec.specs.Records.{FitsCatalogTable}
use Rattle.vo_laws.proofs.CommandLaws.{insertable, row_fits}
use Rattle.table_list.specs.TableHeaders.{command_name}
use Rattle.owner_roots.specs.Next.{table_header, table_number}
use Rattle.owner_roots.specs.Working.{FitCatalog, IsReady}
use Rattle.owner_roots.proofs.PlaceLaws.{get_next}
use Rattle.owner_roots.proofs.CatalogLaws.{each_at}

-- A plain table with as many rows.

abbrev any_rows : ℕ → List Row
any_rows zero = []
any_rows (suc n) = record { key = []; cells = [] } ∷ any_rows n

how_many : (n : ℕ) → length (any_rows n) ≡ n
how_many zero = refl
how_many (suc n) = ap suc (how_many n)

abbrev plain : CatalogTable → Table
plain t = record { name = t.name; schema = t.schema; rows = any_rows t.rows }

table_headers_plain : (tables : List CatalogTable) → map table_header_of (map plain tables) ≡ map table_header tables
table_headers_plain [] = refl
table_headers_plain (t ∷ tables) =
    ap (λ n. record { name = t.name; schema = t.schema; count = n } ∷ map table_header_of (map plain tables)) (how_many t.rows)
    ∙ ap (λ hs. table_header t ∷ hs) (table_headers_plain tables)

named_plain : (name : List ℕ) (tables : List CatalogTable) (t : CatalogTable) → slice_get tables (table_number name tables) ≡ Some t
    → table_named name (map plain tables) ≡ Some (plain t)
named_plain name [] t e = absurd (cc)
named_plain name (s ∷ tables) t e = step (bytes_eq s.name name) e (named_plain name tables t)
  where
    step : (b : Bool) → slice_get (s ∷ tables) (cond (not b) (1 + table_number name tables) 0) ≡ Some t
        → (slice_get tables (table_number name tables) ≡ Some t → table_named name (map plain tables) ≡ Some (plain t))
        → cond b (Some (plain s)) (table_named name (map plain tables)) ≡ Some (plain t)
    step true f rest = let same : s ≡ t = cc in ap (λ (z : CatalogTable). Some (plain z)) same
    step false f rest = rest (sym (get_next s tables (table_number name tables)) ∙ f)

insert_ready : (name : List ℕ) (values : List Value) (tables : List CatalogTable) (t : CatalogTable) → FitCatalog tables → FitsCommand (Insert name values)
    → refusal (Insert name values) (map table_header tables) ≡ None → slice_get tables (table_number name tables) ≡ Some t → IsReady (Insert name values) t
unfolding FitsCommand
insert_ready name values tables t within fits e found =
    let allowed : refusal (Insert name values) (map table_header_of (map plain tables)) ≡ None = ap (refusal (Insert name values)) (table_headers_plain tables) ∙ e in
    let insertion = insertable name values (map plain tables) allowed (plain t) (named_plain name tables t found) in
    let table : FitsCatalogTable t = each_at FitsCatalogTable tables (table_number name tables) t found within.each in
    let row : FitsRow (row_of t.schema values) = row_fits (plain t) values table.schema fits.1 insertion in
    let few : length (any_rows t.rows) < 2 ^ 32 - 1 = insertion.room in
    (row, omega (arith, how_many t.rows))

pub ready : (c : Command) (tables : List CatalogTable) (t : CatalogTable) → FitCatalog tables → FitsCommand c
    → refusal c (map table_header tables) ≡ None → slice_get tables (table_number (command_name c) tables) ≡ Some t → IsReady c t
unfolding FitsCommand
ready (Create name columns key) tables t within fits e found = (tt, tt)
ready (Drop name) tables t within fits e found = (tt, tt)
ready (Insert name values) tables t within fits e found = insert_ready name values tables t within fits e found
ready (Update name sets column value) tables t within fits e found =
    ((fits.1.2, (each_at FitsCatalogTable tables (table_number name tables) t found within.each).schema.columns.1), tt)
ready (Delete name column value) tables t within fits e found = (tt, tt)
