-- Proofs that are parts of the honest trees, whatever else they are, and what an owner says of
-- such.
use Rattle.std.specs.Prelude.{◌≡◌, ◌⊎◌, ℕ, List, [], ◌∷◌, take, drop, find, bytes_eq, IfSome, IfOk, Result}
use Rattle.std.specs.Result.{IsErrAnd}
use Rattle.std.specs.List.{AllByRecursion}
use Rattle.vo_spec.specs.declared.tables.Command.{Command}
use Rattle.vo_spec.specs.Trees.{RowTree, Prunes}
use Rattle.vo_spec.specs.Honest.{Stored, table_of, work}
use Rattle.owner_roots.specs.declared.owner_fault.OwnerFault.{OwnerFault}
use Rattle.owner_roots.specs.declared.owner_fault.OwnerFault.TheVariants.{ProofForm, ProofMissing, ProofSurplus}
use Rattle.owner_roots.specs.Next.{trees_taken}

-- the part prunes the tree of the table of this name, if there is that table
abbrev pub PrunesTable : List Stored → List ℕ → RowTree → Type 0
PrunesTable stored name p =
    IfSome (find (λ (s : Stored). bytes_eq s.name name) stored) (λ s. Prunes p s.tree)

-- Of the trees that are left, the one that the command takes, if it takes one, prunes that of its
-- table.
abbrev pub TakesPart : Command → List RowTree → List Stored → Type 0
TakesPart c trees stored =
    AllByRecursion (PrunesTable stored (table_of c)) (take (trees_taken c) trees)

-- So it is with each command, on the trees after those before it, up to the first that is refused.
abbrev pub TakeParts : List Command → List RowTree → List Stored → Type 0
TakeParts [] trees stored = Unit {0}
TakeParts (c ∷ cs) trees stored = TakesPart c trees stored
    × IfOk (work c stored) (TakeParts cs (drop (trees_taken c) trees))

-- A proof isn't of its table's form, or it lacks something, or has more than is looked at.
abbrev pub IsProofFault : OwnerFault → Type 0
IsProofFault (ProofForm index) = Unit {0}
IsProofFault (ProofMissing index) = Unit {0}
IsProofFault (ProofSurplus index) = Unit {0}
IsProofFault fault = ⊥

-- The answer is this one, or a proof is refused for what it has open.
abbrev pub IsOrRefusesProof : {A : Type 0} → Result A OwnerFault → Result A OwnerFault → Type 0
IsOrRefusesProof answer honest = (answer ≡ honest) ⊎ IsErrAnd answer IsProofFault
