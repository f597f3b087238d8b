-- Tables within the limits of a catalog, and what calls on them give.
use Rattle.std.specs.Prelude.{◌≡◌, ℕ, ◌≤◌, List, map, length, Result, Ok, Err, IfSome}
use Rattle.std.specs.List.{AllByRecursion}
use Rattle.vo_spec.specs.declared.tables.Command.{Command}
use Rattle.vo_spec.specs.declared.records.CatalogTable.{CatalogTable}
use Rattle.vo_spec.specs.Tables.{max_tables}
use Rattle.vo_spec.specs.Records.{FitsCatalogTable}
use Rattle.vo_spec.specs.Representation.{AreRising}
use Rattle.row_works.specs.Operations.{operation}
use Rattle.row_works.specs.Limits.{FitsWork, HasRoom}
use Rattle.owner_roots.specs.declared.owner_fault.OwnerFault.{OwnerFault}
use Rattle.owner_roots.specs.declared.owner_fault.OwnerFault.TheVariants.{Command as Refused, ProofForm, ProofRoot, ProofMissing, ProofSurplus, KeySpent, Memory}

abbrev pub names_of : List CatalogTable → List (List ℕ)
names_of = map (λ (t : CatalogTable). t.name)

-- the limits of a catalog, each name below all that come after it
pub record FitCatalog (tables : List CatalogTable) : Type 0 where
  pub count : length tables ≤ max_tables
  pub each : AllByRecursion FitsCatalogTable tables
  pub rising : AreRising (names_of tables)

-- what a call returned, seen by view, or its fault, unless memory ran out
abbrev pub Gives : {X Y : Type 0} → (X → Y) → Result X OwnerFault → Result Y OwnerFault → Type 0
Gives view (Ok x) answer = answer ≡ Ok (view x)
Gives view (Err Memory) answer = Unit {0}
Gives view (Err (Refused index why)) answer = answer ≡ Err (Refused index why)
Gives view (Err (ProofForm index)) answer = answer ≡ Err (ProofForm index)
Gives view (Err (ProofRoot index want got)) answer = answer ≡ Err (ProofRoot index want got)
Gives view (Err (ProofMissing index)) answer = answer ≡ Err (ProofMissing index)
Gives view (Err (ProofSurplus index)) answer = answer ≡ Err (ProofSurplus index)
Gives view (Err KeySpent) answer = answer ≡ Err KeySpent

-- the table's tree can take the work of the command, by how many rows it has
abbrev pub IsReady : Command → CatalogTable → Type 0
IsReady c t = FitsWork t.schema c × IfSome (operation t.schema c) (λ op. HasRoom op t.rows)
