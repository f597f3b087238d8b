-- Batches that an owner with the roots of honest trees has followed to other roots than theirs.
use Rattle.std.specs.Prelude.{◌≡◌, ◌≢◌, ℕ, List, IfOk, Ok}
use Rattle.vo_spec.specs.declared.tables.Command.{Command}
use Rattle.vo_spec.specs.declared.records.CatalogTable.{CatalogTable}
use Rattle.vo_spec.specs.Trees.{RowTree}
use Rattle.vo_spec.specs.Honest.{Stored, catalog_of, work_all}
use Rattle.owner_roots.specs.declared.roots.Roots.{Roots}
use Rattle.owner_roots.specs.Next.{NextOf, catalog_after, tables_from}
use Rattle.owner_roots.specs.Owners.{honest_roots}

-- An owner with the roots of these trees follows the batch, by the proofs that these bytes are; and
-- the batch is refused on these trees, or makes another catalog of them.
pub record IsDeparture (stored : List Stored) (batch : List Command) (proofs : List ℕ)
    : Type 0 where
  pub version : ℕ
  pub after : Roots
  pub followed : NextOf (honest_roots version stored) batch proofs (Ok after)
  pub departs : IfOk (work_all batch stored) (λ honest. after.catalog ≢ catalog_of honest)

-- So it is with the commands that are left, by the trees that are.
pub record DepartBy (trees : List RowTree) (stored : List Stored) (cs : List Command) : Type 0 where
  pub index : ℕ
  pub after : List CatalogTable
  pub followed : tables_from index cs trees (catalog_of stored).tables ≡ Ok after
  pub departs : IfOk (work_all cs stored) (λ honest. after ≢ (catalog_of honest).tables)

-- An owner with the catalog of these trees does not refuse the command.
pub record IsFollowed (trees : List RowTree) (stored : List Stored) (c : Command) : Type 0 where
  pub index : ℕ
  pub after : List CatalogTable
  pub followed : catalog_after index c trees (catalog_of stored).tables ≡ Ok after
