-- Plain tables by name, and their table headers.
use Rattle.std.proofs.Common.{◌≡◌, ℕ, Bool, true, false, cond, List, [], ◌∷◌, map, Option, Some, refl}
use Rattle.std.specs.Prelude.{option_map, bytes_eq}
use Rattle.vo_spec.specs.declared.tables.Table.{Table}
use Rattle.vo_spec.specs.Tables.{TableHeader, table_header_of, table_header_named, table_named}

table_header_step : (b : Bool) (t : Table) (o : Option TableHeader) (p : Option Table) → o ≡ option_map table_header_of p
    → cond b (Some (table_header_of t)) o ≡ option_map table_header_of (cond b (Some t) p)
table_header_step true t o p e = refl
table_header_step false t o p e = e

pub table_header_by_name : (name : List ℕ) (tables : List Table) → table_header_named name (map table_header_of tables) ≡ option_map table_header_of (table_named name tables)
table_header_by_name name [] = refl
table_header_by_name name (t ∷ tables) = table_header_step (bytes_eq t.name name) t _ _ (table_header_by_name name tables)
