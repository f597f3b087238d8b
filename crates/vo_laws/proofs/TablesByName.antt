-- Trees of tables by their names, and the tables' headers.
use Rattle.std.proofs.Common.{◌≡◌, ℕ, Bool, true, false, cond, List, [], ◌∷◌, Some, length, map, refl, ap, ◌∙◌, arith}
use Rattle.std.specs.Prelude.{find, bytes_eq}
use Rattle.std.specs.Option.{option_map_or}
use Rattle.std.specs.List.{AllByRecursion}
use Rattle.std.proofs.lemmas.List.{length-map}
use Rattle.vo_spec.specs.declared.values.Row.{Row}
use Rattle.vo_spec.specs.declared.tables.Table.{Table}
use Rattle.vo_spec.specs.Values.{IsKeyOf}
use Rattle.vo_spec.specs.Tables.{TableHeader, table_header_of, table_header_named, rows_named}
use Rattle.vo_spec.specs.Results.{no_schema}
use Rattle.vo_spec.specs.Records.{table_headers}
use Rattle.vo_spec.specs.Parts.{leaf, entries}
use Rattle.vo_spec.specs.Cells.{whole_entry}
use Rattle.vo_spec.specs.Representation.{Represents}
use Rattle.vo_spec.specs.Checks.{key_kind}
use Rattle.vo_spec.specs.Honest.{Stored, RepresentsTable, RepresentTables, catalog_of, stored_tree}

pub one_table_header : (s : Stored) (t : Table) → RepresentsTable s t
    → record { name = s.name; schema = s.schema; count = length (entries s.tree) } ≡ table_header_of t
one_table_header s t z =
    let count : length (entries s.tree) ≡ length t.rows = ap length z.stands.rows_are ∙ length-map t.rows whole_entry in
    rw (z.name, z.schema, count) refl

pub same_table_headers : (stored : List Stored) (tables : List Table) → RepresentTables stored tables → table_headers (catalog_of stored) ≡ map table_header_of tables
same_table_headers [] [] z = refl
same_table_headers [] (t ∷ tables) z = absurd z
same_table_headers (s ∷ stored) [] z = absurd z
same_table_headers (s ∷ stored) (t ∷ tables) z = rw (one_table_header s t z.0, same_table_headers stored tables z.1) refl

pub nothing_stands : Represents (leaf []) []
nothing_stands = record { tree = record { height = 0; shape = (refl, omega arith, omega arith, tt); rising = tt }; rows_are = refl }

pub named_stands : (name : List ℕ) (stored : List Stored) (tables : List Table) → RepresentTables stored tables → Represents (stored_tree stored name) (rows_named name tables)
named_stands name [] [] z = nothing_stands
named_stands name [] (t ∷ tables) z = absurd z
named_stands name (s ∷ stored) [] z = absurd z
named_stands name (s ∷ stored) (t ∷ tables) z =
    step (bytes_eq s.name name) (bytes_eq t.name name) (ap (λ n. bytes_eq n name) z.0.name) (named_stands name stored tables z.1)
  where
    step : (b c : Bool) → b ≡ c → Represents (stored_tree stored name) (rows_named name tables)
        → Represents (option_map_or (λ (x : Stored). x.tree) (cond b (Some s) (find (λ (x : Stored). bytes_eq x.name name) stored)) (leaf []))
        (option_map_or (λ (x : Table). x.rows) (cond c (Some t) (find (λ (x : Table). bytes_eq x.name name) tables)) [])
    step true true e more = z.0.stands
    step true false e more = absurd (cc)
    step false true e more = absurd (cc)
    step false false e more = more

-- the keys of a table's rows, by the table's name
pub named_keys : (name : List ℕ) (stored : List Stored) (tables : List Table) → RepresentTables stored tables
    → AllByRecursion (λ (row : Row). IsKeyOf (key_kind (option_map_or (λ (h : TableHeader). h.schema) (table_header_named name (map table_header_of tables)) no_schema)) row.key) (rows_named name tables)
named_keys name [] [] z = tt
named_keys name [] (t ∷ tables) z = absurd z
named_keys name (s ∷ stored) [] z = absurd z
named_keys name (s ∷ stored) (t ∷ tables) z = step (bytes_eq t.name name) (named_keys name stored tables z.1)
  where
    step : (b : Bool)
        → AllByRecursion (λ (row : Row). IsKeyOf (key_kind (option_map_or (λ (h : TableHeader). h.schema) (table_header_named name (map table_header_of tables)) no_schema)) row.key) (rows_named name tables)
        → AllByRecursion (λ (row : Row). IsKeyOf (key_kind (option_map_or (λ (h : TableHeader). h.schema) (cond b (Some (table_header_of t)) (table_header_named name (map table_header_of tables))) no_schema)) row.key)
        (option_map_or (λ (x : Table). x.rows) (cond b (Some t) (find (λ (x : Table). bytes_eq x.name name) tables)) [])
    step true more = z.0.keys
    step false more = more
