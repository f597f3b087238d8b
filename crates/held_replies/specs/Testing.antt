-- What the tests of a reply answer.
use Rattle.std.specs.Prelude.{◌≡◌, Bool, List, [], ℕ, map, zip, bytes_eq, if◌then◌else◌, Option, Some, None, Result, Ok, Err, ◌⊎◌}
use Rattle.std.specs.List.{list_any}
use Rattle.vo_spec.specs.declared.checks.CheckFault.{CheckFault}
use Rattle.vo_spec.specs.declared.checks.CheckFault.TheVariants.{WrongRoot, Memory}
use Rattle.vo_spec.specs.declared.records.Record.{Record}
use Rattle.vo_spec.specs.declared.records.Catalog.{Catalog}
use Rattle.vo_spec.specs.declared.records.CatalogTable.{CatalogTable}
use Rattle.vo_spec.specs.declared.needs.Need.{Need}
use Rattle.vo_spec.specs.Replies.{Reply}
use Rattle.vo_spec.specs.Trees.{RowTree}
use Rattle.vo_spec.specs.Pruning.{is_missing, has_surplus}
use Rattle.vo_spec.specs.Checks.{table_named}

-- a call gives the value where the tests find nothing, and else what they find, unless memory ran
-- out
abbrev pub GivesIfPassed : {A : Type 0} → Result A CheckFault → Option CheckFault → A → Type 0
GivesIfPassed (Ok x) found value = (found ≡ None) × (x ≡ value)
GivesIfPassed (Err fault) found value = (fault ≡ Memory) ⊎ (found ≡ Some fault)

-- the same of a call that gives no value
abbrev pub PassesTests : Result (Unit {0}) CheckFault → Option CheckFault → Type 0
PassesTests (Ok done) found = found ≡ None
PassesTests (Err fault) found = (fault ≡ Memory) ⊎ (found ≡ Some fault)

-- The tests of what comes before the trees look at no tree.

abbrev pub bare_reply : Record → List ℕ → Catalog → Reply
bare_reply rec signature catalog =
    record { rec = rec; signature = signature; catalog = catalog; trees = [] }

-- The tests of trees, by the names of the tables that are wanted.

-- the trees that there are, each with its table
abbrev pub with_tables : List (List ℕ) → List CatalogTable → List RowTree
    → List (Option CatalogTable × RowTree)
with_tables names tables trees =
    zip (map (λ name. table_named name (record { tables = tables })) names) trees

-- the digest of a tree is its table's root
abbrev pub digest_fault : CatalogTable → List ℕ → Option CheckFault
digest_fault table got = if bytes_eq table.root got then None
    else Some (WrongRoot table.name table.root got)

-- The tests of trees, each with its needs.

abbrev pub any_missing : List (List Need × RowTree) → Bool
any_missing trees = list_any (λ t. is_missing t.0 t.1) trees

abbrev pub any_surplus : List (List Need × RowTree) → Bool
any_surplus trees = list_any (λ t. has_surplus t.0 t.1) trees
