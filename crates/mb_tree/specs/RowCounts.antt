-- Whole trees, and how many rows they have.
use Rattle.std.specs.Prelude.{◌≡◌, ℕ, length}
use Rattle.vo_spec.specs.Parts.{entries}
use Rattle.vo_spec.specs.Trees.{RowTree, row_family}
use Rattle.vo_spec.specs.Representation.{IsShown, IsTree}
use Rattle.vo_spec.specs.Fits.{FitsPart}

-- of the shape of Merkle B-trees, its keys rising, within the limits, with so many entries, each with
-- every cell shown
pub record IsWhole (t : RowTree) (rows : ℕ) : Type 0 where
  pub tree : IsTree row_family t
  pub fits : FitsPart t
  pub shown : IsShown t
  pub counted : rows ≡ length (entries t)
