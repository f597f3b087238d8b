-- The bytes of part trees in replies and in proofs.
use Rattle.std.specs.Prelude.{ℕ, List, [], ◌∷◌, ◌++◌, length, flat_map}
use Rattle.vo_spec.specs.declared.cells.Cell.{Cell}
use Rattle.vo_spec.specs.declared.cells.Cell.TheVariants.{Shown, Hidden}
use Rattle.vo_spec.specs.declared.cells.RowPart.{RowPart}
use Rattle.vo_spec.specs.declared.cells.RowPart.TheVariants.{Digest as Closed, Cells}
use Rattle.vo_spec.specs.declared.cells.PartEntry.{PartEntry}
use Rattle.vo_spec.specs.Bytes.{string}
use Rattle.vo_spec.specs.Values.{value_bytes}
use Rattle.vo_spec.specs.Parts.{Part, Parts, stub, leaf, inner, none, more, count}
use Rattle.vo_spec.specs.Trees.{RowTree}

-- what a family's trees are spelled with: the first bytes of open nodes, and the bytes of entries
-- and annotations
pub record Encoding (E M : Type 0) : Type 0 where
  pub leaf_byte : ℕ
  pub inner_byte : ℕ
  pub entry : E → List ℕ
  pub annotation : M → List ℕ

module _ {E M : Type 0} (encoding : Encoding E M) where
  abbrev mutual
    pub tree_bytes_by : Part E M → List ℕ
    tree_bytes_by (stub d) = 0 ∷ d
    tree_bytes_by (leaf es) = encoding.leaf_byte ∷ length es ∷ flat_map encoding.entry es
    tree_bytes_by (inner ss ps) = encoding.inner_byte ∷ count ps ∷ flat_map string ss
        ++ trees_bytes_by ps

    pub trees_bytes_by : Parts E M → List ℕ
    trees_bytes_by none = []
    trees_bytes_by (more m p ps) = encoding.annotation m ++ (tree_bytes_by p ++ trees_bytes_by ps)

abbrev pub cell_form : Cell → List ℕ
cell_form (Hidden d) = 0 ∷ d
cell_form (Shown v) = 1 ∷ value_bytes v

abbrev pub row_form : RowPart → List ℕ
row_form (Closed d) = 0 ∷ d
row_form (Cells cells) = 1 ∷ length cells ∷ flat_map cell_form cells

abbrev pub entry_form : PartEntry → List ℕ
entry_form e = string e.key ++ row_form e.row

abbrev pub row_encoding : Encoding PartEntry (Unit {0})
row_encoding = record { leaf_byte = 1; inner_byte = 2; entry = entry_form; annotation = λ _. [] }

abbrev pub tree_bytes : RowTree → List ℕ
tree_bytes = tree_bytes_by row_encoding
