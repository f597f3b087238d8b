-- The next roots of an owner that holds roots alone: what a batch and the proofs of its commands
-- make of them, or the first of the tests that refuses it.
use Rattle.std.specs.Prelude.{◌≡◌, ◌⊎◌, ℕ, ◌+◌, not, List, [], ◌∷◌, map, drop, remove, insert, slice_get, slice_set, bytes_eq, Option, Some, None, Result, Ok, Err}
use Rattle.std.specs.Option.{option_map_or}
use Rattle.std.specs.Result.{result_map_both}
use Rattle.std.specs.List.{position_or_len}
use Rattle.vo_spec.specs.declared.tables.Column.{Column}
use Rattle.vo_spec.specs.declared.tables.Command.{Command}
use Rattle.vo_spec.specs.declared.tables.Command.TheVariants.{Create, Drop}
use Rattle.vo_spec.specs.declared.records.CatalogTable.{CatalogTable}
use Rattle.vo_spec.specs.Firsts.{first_of, unless, and_then}
use Rattle.vo_spec.specs.Values.{key_lt}
use Rattle.vo_spec.specs.Tables.{TableHeader, column_number, refusal}
use Rattle.vo_spec.specs.Parts.{leaf}
use Rattle.vo_spec.specs.Trees.{RowTree, digest}
use Rattle.vo_spec.specs.Replies.{AreProofs}
use Rattle.vo_spec.specs.Honest.{row_refusal}
use Rattle.table_list.specs.TableHeaders.{command_name}
use Rattle.mb_update.specs.declared.ops.Op.{Op}
use Rattle.update_proof.specs.Proving.{update_is_missing, update_has_surplus}
use Rattle.owner_roots.specs.declared.owner_fault.OwnerFault.{OwnerFault}
use Rattle.owner_roots.specs.declared.owner_fault.OwnerFault.TheVariants as fault
use Rattle.owner_roots.specs.declared.roots.Roots.{Roots}
use Rattle.row_works.specs.Operations.{operation, changed_tree, changed_count}
use Rattle.owner_roots.specs.Forms.{has_schema_form}

-- Tables by their names.

abbrev pub table_header : CatalogTable → TableHeader
table_header t = record { name = t.name; schema = t.schema; count = t.rows }

-- the number of the table of this name, or else how many there are
abbrev pub table_number : List ℕ → List CatalogTable → ℕ
table_number name tables = position_or_len (λ (t : CatalogTable). bytes_eq t.name name) tables

-- the number of the first table of a greater name, or else how many there are
abbrev pub place_for : List ℕ → List CatalogTable → ℕ
place_for name tables = position_or_len (λ (t : CatalogTable). key_lt name t.name) tables

-- the table that a CREATE makes: its tree is a leaf of no entries
abbrev pub new_table : List ℕ → List Column → List ℕ → CatalogTable
new_table name columns key = record {
  name = name;
  schema = record { columns = columns; key = column_number columns key };
  rows = 0;
  root = digest (leaf []);
}

-- A command on rows.

-- the first test that refuses a tree as the proof of a change of a table, for the command of this
-- number
abbrev pub proof_fault : ℕ → CatalogTable → Op → RowTree → Option OwnerFault
proof_fault index t op p = first_of
    ((not (has_schema_form t.schema p), fault.ProofForm index)
    ∷ (not (bytes_eq t.root (digest p)), fault.ProofRoot index t.root (digest p))
    ∷ (update_is_missing op p, fault.ProofMissing index)
    ∷ (update_has_surplus op p, fault.ProofSurplus index)
    ∷ [])

-- the table with the root and the row count that a change gives
abbrev pub with_root : CatalogTable → Op → RowTree → CatalogTable
with_root t op changed = record {
  name = t.name;
  schema = t.schema;
  rows = changed_count op t.rows;
  root = digest changed;
}

-- the table after a change of the tree of its proof, or the refusal that the proof shows
abbrev pub table_by_change : ℕ → CatalogTable → Op → RowTree → Result CatalogTable OwnerFault
table_by_change index t op p =
    result_map_both (with_root t op) (λ why. fault.Command index (row_refusal why))
    (changed_tree op p)

-- the table after a change, by the first of the trees
abbrev pub table_after : ℕ → CatalogTable → Op → List RowTree → Result CatalogTable OwnerFault
table_after index t op [] = Err (fault.ProofMissing index)
table_after index t op (p ∷ ps) =
    and_then (table_by_change index t op) (unless (proof_fault index t op p) p)

-- the tables with one changed, whose number this is
abbrev pub tables_with : ℕ → List CatalogTable → Result CatalogTable OwnerFault
    → Result (List CatalogTable) OwnerFault
tables_with place tables = result_map_both (slice_set tables place) (λ why. why)

-- a table by the change that a command on rows is
abbrev pub table_by_command : ℕ → Command → List RowTree → CatalogTable
    → Result CatalogTable OwnerFault
table_by_command index c trees t =
    option_map_or (λ op. table_after index t op trees) (operation t.schema c) (Ok t)

abbrev pub rows_changed : ℕ → Command → List RowTree → List CatalogTable
    → Result (List CatalogTable) OwnerFault
rows_changed index c trees tables =
    let place = table_number (command_name c) tables in
    option_map_or (λ t. tables_with place tables (table_by_command index c trees t))
    (slice_get tables place) (Ok tables)

-- Commands.

-- a command that the catalog doesn't refuse
abbrev pub tables_changed : ℕ → Command → List RowTree → List CatalogTable
    → Result (List CatalogTable) OwnerFault
tables_changed index (Create name columns key) trees tables =
    Ok (insert tables (place_for name tables) (new_table name columns key))
tables_changed index (Drop name) trees tables = Ok (remove tables (table_number name tables))
tables_changed index c trees tables = rows_changed index c trees tables

abbrev pub catalog_fault : ℕ → Command → List CatalogTable → Option OwnerFault
catalog_fault index c tables =
    option_map_or (λ why. Some (fault.Command index why)) (refusal c (map table_header tables)) None

-- the tables after the command of this number, by the trees that are left, or the first test that
-- refuses it
unfoldable pub catalog_after : ℕ → Command → List RowTree → List CatalogTable
    → Result (List CatalogTable) OwnerFault
catalog_after index c trees tables =
    and_then (tables_changed index c trees) (unless (catalog_fault index c tables) tables)

-- how many trees a command takes: one, if it is on rows
abbrev pub trees_taken : Command → ℕ
trees_taken (Create name columns key) = 0
trees_taken (Drop name) = 0
trees_taken _ = 1

-- the tables after commands in order, the first of them that of this number; no tree may be left
-- over
abbrev pub tables_from : ℕ → List Command → List RowTree → List CatalogTable
    → Result (List CatalogTable) OwnerFault
tables_from index [] [] tables = Ok tables
tables_from index [] (p ∷ ps) tables = Err (fault.ProofSurplus index)
tables_from index (c ∷ cs) trees tables =
    and_then (tables_from (index + 1) cs (drop (trees_taken c) trees))
    (catalog_after index c trees tables)

-- Roots.

abbrev pub roots_with : ℕ → List CatalogTable → Roots
roots_with version tables = record { version = version; catalog = record { tables = tables } }

-- the roots after a batch, by its proofs
unfoldable pub next_roots : Roots → List Command → List RowTree → Result Roots OwnerFault
next_roots roots commands trees =
    result_map_both (roots_with (roots.version + 1)) (λ why. why)
    (tables_from 0 commands trees roots.catalog.tables)

-- The roots after a batch whose proofs these bytes are, or the first test that refuses it. Want of
-- memory is no answer of this.
unfoldable pub NextOf : Roots → List Command → List ℕ → Result Roots OwnerFault → Type 0
NextOf roots commands bytes answer =
    (((trees : List RowTree) → AreProofs bytes trees → ⊥) × (answer ≡ Err (fault.ProofForm 0)))
    ⊎ ((trees : List RowTree) × AreProofs bytes trees × (answer ≡ next_roots roots commands trees))
