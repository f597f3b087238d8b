-- What a call on trees says of plain tables for which these stand.
use Rattle.std.specs.Prelude.{◌≡◌, ℕ, List, length, Result, Ok, Err}
use Rattle.vo_spec.specs.declared.tables.Table.{Table}
use Rattle.vo_spec.specs.declared.tables.CommandFault.{CommandFault}
use Rattle.vo_spec.specs.declared.records.CatalogTable.{CatalogTable}
use Rattle.vo_spec.specs.Parts.{entries}
use Rattle.vo_spec.specs.Trees.{digest}
use Rattle.vo_spec.specs.Representation.{rows_in}
use Rattle.vo_spec.specs.Honest.{Stored, RepresentTables}
use Rattle.vo_laws.specs.FittingTables.{FitTables}
use Rattle.table_list.specs.declared.fault.BatchFault.{BatchFault}
use Rattle.table_list.specs.declared.fault.BatchFault.TheVariants.{Command, Memory}

-- the trees stand for what the commands make of the tables
abbrev pub RepresentAfter : List Stored → Result (List Table) (ℕ × CommandFault) → Type 0
RepresentAfter stored (Ok tables) = RepresentTables stored tables × FitTables tables
RepresentAfter stored (Err fault) = ⊥

-- and both are refused for one reason, unless memory ran out
abbrev pub GivesPlain : {X : Type 0} → (X → List Stored) → Result X BatchFault
    → Result (List Table) (ℕ × CommandFault) → Type 0
GivesPlain view (Ok x) answer = RepresentAfter (view x) answer
GivesPlain view (Err Memory) answer = Unit {0}
GivesPlain view (Err (Command index fault)) answer = answer ≡ Err (index, fault)

-- a table as a catalog has it, and with the rows that its tree shows
abbrev pub catalog_table : Stored → CatalogTable
catalog_table s = record {
  name = s.name;
  schema = s.schema;
  rows = length (entries s.tree);
  root = digest s.tree;
}

abbrev pub plain_table : Stored → Table
plain_table s = record { name = s.name; schema = s.schema; rows = rows_in s.tree }
