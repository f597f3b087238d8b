-- How many entries and children nodes have.
use Rattle.std.specs.Prelude.{◌≡◌, ℕ, ◌+◌, ◌≤◌, length}
use Rattle.vo_spec.specs.Parts.{Part, Parts, stub, leaf, inner, none, more, count}
use Rattle.vo_spec.specs.Fits.{max_fill}

module _ {E M : Type 0} where
  -- each node has no more entries or children than a node has, and a separator between two children
  abbrev mutual
    pub IsShaped : Part E M → Type 0
    IsShaped (stub d) = Unit {0}
    IsShaped (leaf es) = length es ≤ max_fill
    IsShaped (inner ss ps) = (2 ≤ count ps) × (count ps ≤ max_fill) × (length ss + 1 ≡ count ps)
        × AreShaped ps

    pub AreShaped : Parts E M → Type 0
    AreShaped none = Unit {0}
    AreShaped (more m p ps) = IsShaped p × AreShaped ps

  -- how many entries or children
  abbrev pub size_of : Part E M → ℕ
  size_of (stub d) = 0
  size_of (leaf es) = length es
  size_of (inner ss ps) = count ps

  -- an inner node has at least so many children, and a separator between two
  abbrev pub IsLinked : ℕ → Part E M → Type 0
  IsLinked least (stub d) = Unit {0}
  IsLinked least (leaf es) = Unit {0}
  IsLinked least (inner ss ps) = (least ≤ count ps) × (length ss + 1 ≡ count ps)

-- and there are no more entries or children than a node has
pub record IsWithin {E M : Type 0} (least : ℕ) (t : Part E M) : Type 0 where
  pub linked : IsLinked least t
  pub most : size_of t ≤ max_fill
