-- What two trees hash at one place: the preimages of two nodes, of two rows or of two attributes;
-- and what two catalogs do.
use Rattle.std.specs.Prelude.{◌≡◌, ◌⊎◌, ℕ, ◌+◌, true, List, ◌∷◌}
use Rattle.vo_spec.specs.declared.cells.Cell.{Cell}
use Rattle.vo_spec.specs.declared.cells.Cell.TheVariants.{Shown}
use Rattle.vo_spec.specs.declared.cells.RowPart.{RowPart}
use Rattle.vo_spec.specs.declared.cells.RowPart.TheVariants.{Cells}
use Rattle.vo_spec.specs.declared.cells.PartEntry.{PartEntry}
use Rattle.vo_spec.specs.declared.records.Catalog.{Catalog}
use Rattle.vo_spec.specs.Cells.{attribute_bytes, row_bytes}
use Rattle.vo_spec.specs.Parts.{leaf, inner, more}
use Rattle.vo_spec.specs.Trees.{RowTree, RowTrees, preimage}
use Rattle.vo_spec.specs.Records.{catalog_bytes}
use Rattle.tree_collide.specs.Agreements.{is_open}

-- a fact about two byte strings, one of each tree
abbrev pub OfStrings : Type 1
OfStrings = List ℕ → List ℕ → Type 0

-- of a column
abbrev pub AttributesOf : ℕ → Cell → Cell → OfStrings
AttributesOf column (Shown v) (Shown w) x y = (x ≡ attribute_bytes column v)
    × (y ≡ attribute_bytes column w)
AttributesOf column _ _ x y = ⊥

-- of some column from this on
abbrev pub AttributesIn : ℕ → List Cell → List Cell → OfStrings
AttributesIn column (c ∷ cs) (d ∷ ds) x y = AttributesOf column c d x y
    ⊎ AttributesIn (column + 1) cs ds x y
AttributesIn column _ _ x y = ⊥

-- of the rows, or of a column of theirs
abbrev pub RowsOf : RowPart → RowPart → OfStrings
RowsOf (Cells cs) (Cells ds) x y = ((x ≡ row_bytes cs) × (y ≡ row_bytes ds))
    ⊎ AttributesIn 0 cs ds x y
RowsOf _ _ x y = ⊥

abbrev pub RowsIn : List PartEntry → List PartEntry → OfStrings
RowsIn (e ∷ es) (f ∷ fs) x y = RowsOf e.row f.row x y ⊎ RowsIn es fs x y
RowsIn _ _ x y = ⊥

abbrev pub NodesOf : RowTree → RowTree → OfStrings
NodesOf p t x y = (is_open p ≡ true) × (is_open t ≡ true) × (x ≡ preimage p) × (y ≡ preimage t)

-- of rows of the two nodes, or of nodes below them
abbrev mutual
  pub BelowNodes : RowTree → RowTree → OfStrings
  BelowNodes (leaf es) (leaf fs) x y = RowsIn es fs x y
  BelowNodes (inner ss ps) (inner ts qs) x y = NodesIn ps qs x y
  BelowNodes _ _ x y = ⊥

  pub NodesIn : RowTrees → RowTrees → OfStrings
  NodesIn (more m p ps) (more n q qs) x y = (NodesOf p q x y ⊎ BelowNodes p q x y)
      ⊎ NodesIn ps qs x y
  NodesIn _ _ x y = ⊥

-- Two nodes that stand at one place of the trees hash these strings, or two rows or attributes
-- there do.
abbrev pub ArePreimages : RowTree → RowTree → OfStrings
ArePreimages p t x y = NodesOf p t x y ⊎ BelowNodes p t x y

-- the same of one pair of the trees
abbrev pub AreOfTrees : List RowTree → List RowTree → OfStrings
AreOfTrees (p ∷ ps) (q ∷ qs) x y = ArePreimages p q x y ⊎ AreOfTrees ps qs x y
AreOfTrees _ _ x y = ⊥

-- what the digests of these catalogs are of
abbrev pub AreCatalogs : Catalog → Catalog → OfStrings
AreCatalogs a b x y = (x ≡ 5 ∷ catalog_bytes a) × (y ≡ 5 ∷ catalog_bytes b)
