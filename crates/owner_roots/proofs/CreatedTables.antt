-- A table that is made, by the laws of plain tables: those of the same names, without rows.
use Rattle.std.proofs.Common.{◌≡◌, ℕ, suc, ◌+◌, ◌≤◌, Bool, true, false, cond, not, List, [], ◌∷◌, Some, None, map, length, refl, sym, ap, ◌∙◌, subst, arith}
use Rattle.std.specs.Prelude.{bytes_eq, insert, is_some, nat_le}
use Rattle.std.proofs.lemmas.List.{length-map}
use Rattle.vo_spec.specs.declared.tables.Column.{Column}
use Rattle.vo_spec.specs.declared.tables.Table.{Table}
use Rattle.vo_spec.specs.declared.tables.Command.{Command}
use Rattle.vo_spec.specs.declared.tables.Command.TheVariants.{Create}
use Rattle.vo_spec.specs.declared.tables.CommandFault.TheVariants.{TableExists, TooManyTables, BadSchema}
use Rattle.vo_spec.specs.declared.records.CatalogTable.{CatalogTable}
use Rattle.vo_spec.specs.Firsts.{first_of}
use Rattle.vo_spec.specs.Values.{key_lt}
use Rattle.vo_spec.specs.Batches.{FitsCommand}
use Rattle.vo_spec.specs.Tables.{table_header_of, table_header_named, refusal, put_table, max_tables, column_number, is_bad_schema}
use Rattle.vo_spec.specs.Records.{FitsCatalogTable}
use Rattle.vo_spec.specs.Representation.{AreRising}
use Rattle.vo_spec.specs.Parts.{leaf}
use Rattle.vo_laws.proofs.CommandLaws.{created_fit}
use Rattle.vo_laws.specs.FittingTables.{FitTables, FitsTable}
use Rattle.vo_laws.specs.FittingTables.{names_of as plain_names}
use Rattle.vo_laws.proofs.ListLaws.{each_weaker, each_map}
use Rattle.owner_roots.specs.Next.{table_header, place_for, new_table}
use Rattle.owner_roots.specs.Working.{FitCatalog, names_of}
use Rattle.owner_roots.proofs.CatalogLaws.{each_inserted}
use Rattle.owner_roots.proofs.DigestLengths.{digest_length}

abbrev bare : CatalogTable → Table
bare t = record { name = t.name; schema = t.schema; rows = [] }

names_bare : (tables : List CatalogTable) → names_of tables ≡ plain_names (map bare tables)
names_bare [] = refl
names_bare (t ∷ tables) = ap (λ names. t.name ∷ names) (names_bare tables)

bare_fits : (t : CatalogTable) → FitsCatalogTable t → FitsTable (bare t)
bare_fits t fits = record { name = fits.name; schema = fits.schema; rows = tt; kinds = tt; count = omega arith }

bare_fit : (tables : List CatalogTable) → FitCatalog tables → FitTables (map bare tables)
bare_fit tables fits = record {
  each = each_map FitsTable bare tables (each_weaker FitsCatalogTable (λ t. FitsTable (bare t)) bare_fits tables fits.each);
  rising = subst AreRising (names_bare tables) fits.rising;
  count = subst (λ n. n ≤ max_tables) (sym (length-map tables bare)) fits.count;
}

suc_is : (n : ℕ) → 1 + n ≡ suc n
suc_is n = omega arith

-- where it goes
names_put : (t : CatalogTable) (tables : List CatalogTable) → names_of (insert tables (place_for t.name tables) t) ≡ plain_names (put_table (bare t) (map bare tables))
names_put t [] = refl
names_put t (u ∷ tables) = step (key_lt t.name u.name) (names_put t tables)
  where
    at : ℕ
    at = place_for t.name tables

    step : (b : Bool) → names_of (insert tables at t) ≡ plain_names (put_table (bare t) (map bare tables))
        → names_of (insert (u ∷ tables) (cond (not b) (1 + at) 0) t) ≡ plain_names (cond b (bare t ∷ bare u ∷ map bare tables) (bare u ∷ put_table (bare t) (map bare tables)))
    step true e = ap (λ names. t.name ∷ u.name ∷ names) (names_bare tables)
    step false e = ap (λ n. names_of (insert (u ∷ tables) n t)) (suc_is at) ∙ ap (λ names. u.name ∷ names) e

-- a CREATE is refused by names and numbers alone
named_bare : (name : List ℕ) (tables : List CatalogTable) → is_some (table_header_named name (map table_header tables)) ≡ is_some (table_header_named name (map table_header_of (map bare tables)))
named_bare name [] = refl
named_bare name (t ∷ tables) = step (bytes_eq t.name name) (named_bare name tables)
  where
    step : (b : Bool) → is_some (table_header_named name (map table_header tables)) ≡ is_some (table_header_named name (map table_header_of (map bare tables)))
        → is_some (cond b (Some (table_header t)) (table_header_named name (map table_header tables))) ≡ is_some (cond b (Some (table_header_of (bare t))) (table_header_named name (map table_header_of (map bare tables))))
    step true e = refl
    step false e = e

many_bare : (tables : List CatalogTable) → length (map table_header tables) ≡ length (map table_header_of (map bare tables))
many_bare tables = length-map tables table_header ∙ sym (length-map tables bare) ∙ sym (length-map (map bare tables) table_header_of)

refusal_bare : (name : List ℕ) (columns : List Column) (key : List ℕ) (tables : List CatalogTable)
    → refusal (Create name columns key) (map table_header tables) ≡ refusal (Create name columns key) (map table_header_of (map bare tables))
refusal_bare name columns key tables =
    ap (λ b. first_of ((b, TableExists) ∷ (nat_le max_tables (length (map table_header tables)), TooManyTables) ∷ (is_bad_schema columns key, BadSchema) ∷ [])) (named_bare name tables)
    ∙ ap (λ n. first_of ((is_some (table_header_named name (map table_header_of (map bare tables))), TableExists) ∷ (nat_le max_tables n, TooManyTables) ∷ (is_bad_schema columns key, BadSchema) ∷ [])) (many_bare tables)

-- where there are no tables it is refused by its schema alone
allowed_alone : (name : List ℕ) (columns : List Column) (key : List ℕ) (tables : List CatalogTable) → refusal (Create name columns key) (map table_header tables) ≡ None
    → refusal (Create name columns key) [] ≡ None
allowed_alone name columns key tables e = step (is_some (table_header_named name (map table_header tables))) (nat_le max_tables (length (map table_header tables))) e
  where
    step : (a b : Bool) → first_of ((a, TableExists) ∷ (b, TooManyTables) ∷ (is_bad_schema columns key, BadSchema) ∷ []) ≡ None
        → first_of ((false, TableExists) ∷ (false, TooManyTables) ∷ (is_bad_schema columns key, BadSchema) ∷ []) ≡ None
    step true b f = absurd (cc)
    step false true f = absurd (cc)
    step false false f = f

made_fits : (name : List ℕ) (columns : List Column) (key : List ℕ) (tables : List CatalogTable) → FitsCommand (Create name columns key)
    → refusal (Create name columns key) (map table_header tables) ≡ None → FitsCatalogTable (new_table name columns key)
made_fits name columns key tables fits e =
    let no : FitTables [] = record { each = tt; rising = tt; count = omega arith } in
    let one : FitsTable (record { name = name; schema = record { columns = columns; key = column_number columns key }; rows = [] }) =
    (created_fit name columns key [] fits (allowed_alone name columns key tables e) no).each.0 in
    record { name = one.name; schema = one.schema; rows = omega arith; root = digest_length (leaf []) (omega arith, (λ k d lt. absurd (omega arith))) }

pub inserted_fit : (name : List ℕ) (columns : List Column) (key : List ℕ) (tables : List CatalogTable) → FitsCommand (Create name columns key)
    → refusal (Create name columns key) (map table_header tables) ≡ None → FitCatalog tables
    → FitCatalog (insert tables (place_for name tables) (new_table name columns key))
inserted_fit name columns key tables fits e before =
    let made = new_table name columns key in
    let new = insert tables (place_for name tables) made in
    let plain : FitTables (put_table (bare made) (map bare tables)) =
    created_fit name columns key (map bare tables) fits (sym (refusal_bare name columns key tables) ∙ e) (bare_fit tables before) in
    let same : names_of new ≡ plain_names (put_table (bare made) (map bare tables)) = names_put made tables in
    let many : length new ≡ length (put_table (bare made) (map bare tables)) =
    sym (length-map new (λ (t : CatalogTable). t.name)) ∙ ap length same ∙ length-map (put_table (bare made) (map bare tables)) (λ (t : Table). t.name) in
    record {
      count = subst (λ n. n ≤ max_tables) (sym many) plain.count;
      each = each_inserted FitsCatalogTable tables (place_for name tables) made (made_fits name columns key tables fits e) before.each;
      rising = subst AreRising (sym same) plain.rising;
    }

-- the same of a command and its place
pub inserted_so : (c : Command) (name : List ℕ) (columns : List Column) (key : List ℕ) (tables new : List CatalogTable) (place : ℕ) (t : CatalogTable)
    → c ≡ Create name columns key → FitsCommand c → refusal c (map table_header tables) ≡ None → FitCatalog tables
    → place ≡ place_for name tables → t ≡ new_table name columns key → new ≡ insert tables place t → FitCatalog new
inserted_so c name columns key tables new place t is fits e before at made new_is =
    let good = inserted_fit name columns key tables (subst FitsCommand is fits) (ap (λ x. refusal x (map table_header tables)) (sym is) ∙ e) before in
    subst FitCatalog (sym (new_is ∙ ap (λ i. insert tables i t) at ∙ ap (insert tables (place_for name tables)) made)) good
