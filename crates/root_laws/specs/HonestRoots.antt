-- What batches make of the roots of honest trees.
use Rattle.std.specs.Prelude.{ℕ, ◌+◌, List, Result}
use Rattle.std.specs.Result.{result_map_both}
use Rattle.vo_spec.specs.declared.tables.Command.{Command}
use Rattle.vo_spec.specs.declared.tables.CommandFault.{CommandFault}
use Rattle.vo_spec.specs.declared.records.CatalogTable.{CatalogTable}
use Rattle.vo_spec.specs.Honest.{Stored, catalog_of, work}
use Rattle.stored_tables.specs.Working.{work_from}
use Rattle.owner_roots.specs.declared.owner_fault.OwnerFault.{OwnerFault}
use Rattle.owner_roots.specs.declared.owner_fault.OwnerFault.TheVariants.{Command as Refused}
use Rattle.owner_roots.specs.declared.roots.Roots.{Roots}
use Rattle.owner_roots.specs.Owners.{honest_roots}

-- The tables of the catalog after the command of this number, by the trees, or its refusal.
abbrev pub honest_tables_after : ℕ → Command → List Stored → Result (List CatalogTable) OwnerFault
honest_tables_after index c stored =
    result_map_both (λ after. (catalog_of after).tables) (Refused index) (work c stored)

-- The roots after a batch, by the trees, or the refusal of its first refused command.
abbrev pub honest_next_roots : ℕ → List Command → List Stored → Result Roots OwnerFault
honest_next_roots version batch stored =
    result_map_both (honest_roots (version + 1))
    (λ (why : ℕ × CommandFault). Refused why.0 why.1) (work_from 0 batch stored)
