-- What two strings of one digest are that show that an owner was fooled.
use Rattle.std.specs.Prelude.{◌≡◌, ◌⊎◌, ℕ, List, [], ◌∷◌, take, drop, find, slice_get, bytes_eq, Some, IsSomeAnd, IsOkAnd}
use Rattle.vo_spec.specs.declared.tables.Command.{Command}
use Rattle.vo_spec.specs.Fits.{FitsPart}
use Rattle.vo_spec.specs.Trees.{RowTree, digest}
use Rattle.vo_spec.specs.Replies.{AreProofs}
use Rattle.vo_spec.specs.Honest.{Stored, table_of, work}
use Rattle.tree_collide.specs.Preimages.{OfStrings, ArePreimages}
use Rattle.owner_roots.specs.Next.{trees_taken}

-- the tree is within its limits and has the digest of the whole tree of this table
pub record HasRoot (stored : List Stored) (name : List ℕ) (tree : RowTree) : Type 0 where
  pub fits : FitsPart tree
  pub table : Stored
  pub found : find (λ s. bytes_eq s.name name) stored ≡ Some table
  pub same : digest tree ≡ digest table.tree

-- The part and the whole tree of this table hash these strings at one place.
abbrev pub AreHashedIn : List Stored → List ℕ → RowTree → OfStrings
AreHashedIn stored name p x y =
    IsSomeAnd (find (λ (s : Stored). bytes_eq s.name name) stored) (λ s. ArePreimages p s.tree x y)

-- So do the tree that the command takes and that of its table.
abbrev pub AreHashedBy : Command → List RowTree → List Stored → OfStrings
AreHashedBy c trees stored x y =
    IsSomeAnd (slice_get (take (trees_taken c) trees) 0)
    (λ p. AreHashedIn stored (table_of c) p x y)

-- So it is with some command of these, on the trees after those before it.
abbrev pub AreHashedInTurn : List Command → List RowTree → List Stored → OfStrings
AreHashedInTurn [] trees stored x y = ⊥
AreHashedInTurn (c ∷ cs) trees stored x y = AreHashedBy c trees stored x y
    ⊎ IsOkAnd (work c stored) (λ after. AreHashedInTurn cs (drop (trees_taken c) trees) after x y)

-- And with some command of the batch, by the trees of the proofs that these bytes are.
abbrev pub AreHashedInBatch : List Command → List ℕ → List Stored → OfStrings
AreHashedInBatch batch proofs stored x y =
    (trees : List RowTree) × AreProofs proofs trees × AreHashedInTurn batch trees stored x y
