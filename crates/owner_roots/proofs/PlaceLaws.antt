-- What stands at the place of a name among a catalog's tables.
use Rattle.std.proofs.Common.{◌≡◌, ℕ, zero, suc, ◌+◌, ◌≤◌, Bool, true, false, cond, not, List, [], ◌∷◌, Some, None, map, length, refl, ap, sym, ◌∙◌, arith}
use Rattle.std.specs.Prelude.{bytes_eq, slice_get, option_map}
use Rattle.vo_spec.specs.declared.records.CatalogTable.{CatalogTable}
use Rattle.vo_spec.specs.Tables.{table_header_named}
use Rattle.owner_roots.specs.Next.{table_header, table_number}

suc_is : (n : ℕ) → 1 + n ≡ suc n
suc_is n = omega arith

pub get_next : {X : Type 0} (x : X) (xs : List X) (n : ℕ) → slice_get (x ∷ xs) (1 + n) ≡ slice_get xs n
get_next x xs n = ap (slice_get (x ∷ xs)) (suc_is n)

pub table_header_there : (name : List ℕ) (tables : List CatalogTable)
    → table_header_named name (map table_header tables) ≡ option_map table_header (slice_get tables (table_number name tables))
table_header_there name [] = refl
table_header_there name (t ∷ tables) = step (bytes_eq t.name name) (table_header_there name tables)
  where
    step : (b : Bool) → table_header_named name (map table_header tables) ≡ option_map table_header (slice_get tables (table_number name tables))
        → cond b (Some (table_header t)) (table_header_named name (map table_header tables)) ≡ option_map table_header (slice_get (t ∷ tables) (cond (not b) (1 + table_number name tables) 0))
    step true e = refl
    step false e = e ∙ ap (option_map table_header) (sym (get_next t tables (table_number name tables)))

pub none_past : {X : Type 0} (xs : List X) (i : ℕ) → length xs ≤ i → slice_get xs i ≡ None
none_past [] i h = refl
none_past (x ∷ xs) zero h = absurd (omega arith)
none_past (x ∷ xs) (suc i) h = none_past xs i (omega arith)
