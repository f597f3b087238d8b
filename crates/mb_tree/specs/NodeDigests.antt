-- What the nodes of whole trees keep beside what they are.
use Rattle.std.specs.Prelude.{◌≡◌, ℕ, List, Option, IfSome}
use Rattle.vo_spec.specs.declared.values.Value.{Value}
use Rattle.vo_spec.specs.Cells.{row_digest, whole_row}
use Rattle.vo_spec.specs.Trees.{RowTree, digest}
use Rattle.vo_spec.specs.Fits.{FitsCells, FitsPart}
use Rattle.btree.specs.Shapes.{IsWithin}

-- a row's digest
pub record IsHashed (values : List Value) (digest : List ℕ) : Type 0 where
  pub fits : FitsCells values
  pub hashed : digest ≡ row_digest (whole_row values)

-- a tree's digest: who has hashed its nodes knows that what these hold fits
pub record IsHashOf (t : RowTree) (hash : List ℕ) : Type 0 where
  pub fits : FitsPart t
  pub hashed : hash ≡ digest t

-- a node, with its digest where it is kept
pub record IsSubtree (hash : Option (List ℕ)) (t : RowTree) : Type 0 where
  pub within : IsWithin 2 t
  pub hashed : IfSome hash (IsHashOf t)
