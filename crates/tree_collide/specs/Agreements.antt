-- What it is to agree, and nodes, rows and cells that have the digests of others.
use Rattle.std.specs.Prelude.{◌≡◌, ℕ, ◌+◌, Bool, true, false, List, [], ◌∷◌, Option, Some, None}
use Rattle.vo_spec.specs.declared.cells.Cell.{Cell}
use Rattle.vo_spec.specs.declared.cells.PartEntry.{PartEntry}
use Rattle.vo_spec.specs.declared.trees.Agreement.{Agreement}
use Rattle.vo_spec.specs.declared.trees.Agreement.TheVariants.{Prunes as Does_prune, Collides as Found}
use Rattle.vo_spec.specs.declared.trees.Twins.{Twins}
use Rattle.vo_spec.specs.declared.trees.Twins.TheVariants as twins
use Rattle.vo_spec.specs.Collides.{Collides}
use Rattle.vo_spec.specs.Cells.{cell_digest, row_digest}
use Rattle.vo_spec.specs.Parts.{stub, leaf, inner, none, more}
use Rattle.vo_spec.specs.Trees.{RowTree, RowTrees, digest}

-- the fact holds exactly where nothing is found; what is found are two different byte strings of
-- one digest, which are as said
abbrev pub HoldsOrCollides : Option (List ℕ × List ℕ) → Type 0 → (List ℕ → List ℕ → Type 0) → Type 0
HoldsOrCollides None fact Are = fact
HoldsOrCollides (Some found) fact Are = (fact → ⊥) × Collides found.0 found.1 × Are found.0 found.1

abbrev pub HoldsOrFound : Agreement → Type 0 → Type 0
HoldsOrFound Does_prune fact = fact
HoldsOrFound (Found found) fact = (fact → ⊥) × Collides found.0 found.1

-- the strings that were found are as said
abbrev pub FoundAre : Agreement → (List ℕ → List ℕ → Type 0) → Type 0
FoundAre Does_prune Are = Unit {0}
FoundAre (Found found) Are = Are found.0 found.1

-- twins are the same only where the one fact holds; else two different byte strings of one digest
-- are found, and the other fact holds
abbrev pub SameOrFound : Twins → Type 0 → Type 0 → Type 0
SameOrFound twins.Same fact other = fact
SameOrFound (twins.Collides found) fact other = other × Collides found.0 found.1

abbrev pub ToldAre : Twins → (List ℕ → List ℕ → Type 0) → Type 0
ToldAre twins.Same Are = Unit {0}
ToldAre (twins.Collides found) Are = Are found.0 found.1

abbrev pub SameCells : ℕ → List Cell → List Cell → Type 0
SameCells column [] [] = Unit {0}
SameCells column [] (d ∷ ds) = ⊥
SameCells column (c ∷ cs) [] = ⊥
SameCells column (c ∷ cs) (d ∷ ds) = (cell_digest column c ≡ cell_digest column d)
    × SameCells (column + 1) cs ds

abbrev pub SameEntries : List PartEntry → List PartEntry → Type 0
SameEntries [] [] = Unit {0}
SameEntries [] (f ∷ fs) = ⊥
SameEntries (e ∷ es) [] = ⊥
SameEntries (e ∷ es) (f ∷ fs) = (e.key ≡ f.key) × (row_digest e.row ≡ row_digest f.row)
    × SameEntries es fs

abbrev pub SameNodes : RowTrees → RowTrees → Type 0
SameNodes none none = Unit {0}
SameNodes none (more n q qs) = ⊥
SameNodes (more m p ps) none = ⊥
SameNodes (more m p ps) (more n q qs) = (digest p ≡ digest q) × SameNodes ps qs

-- open nodes of one kind, with the same keys or separators and the same digests
abbrev pub IsLike : RowTree → RowTree → Type 0
IsLike (leaf es) (leaf fs) = SameEntries es fs
IsLike (inner ss ps) (inner ts qs) = (ss ≡ ts) × SameNodes ps qs
IsLike _ _ = ⊥

abbrev pub is_open : RowTree → Bool
is_open (stub d) = false
is_open (leaf es) = true
is_open (inner ss ps) = true
