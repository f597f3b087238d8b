-- The trees of rows: the first bytes of a leaf are 03 and the count of its entries, those of an
-- inner node 04 and the count of its children. Of a child its parent holds its digest alone.
use Rattle.std.specs.Prelude.{ℕ, List, [], ◌∷◌}
use Rattle.vo_spec.specs.declared.cells.PartEntry.{PartEntry}
use Rattle.vo_spec.specs.Cells.{entry_bytes, EntryPrunes}
use Rattle.vo_spec.specs.Parts.{Part, Parts, none, more, Family, digest_by, preimage_by, PrunesBy}

abbrev pub RowTree : Type 0
RowTree = Part PartEntry (Unit {0})

abbrev pub RowTrees : Type 0
RowTrees = Parts PartEntry (Unit {0})

abbrev pub key_in : PartEntry → List ℕ
key_in e = e.key

abbrev pub row_family : Family PartEntry (Unit {0})
row_family = record {
  leaf_tag = 3;
  inner_tag = 4;
  key = key_in;
  entry_bytes = entry_bytes;
  annotation = λ _. tt;
  annotation_bytes = λ _. [];
}

abbrev pub digest : RowTree → List ℕ
digest = digest_by row_family

abbrev pub preimage : RowTree → List ℕ
preimage = preimage_by row_family

-- the one is the other with some of its subtrees, rows or cells replaced by their digests
abbrev pub Prunes : RowTree → RowTree → Type 0
Prunes = PrunesBy row_family EntryPrunes

-- children as a list
abbrev pub open_parts : List RowTree → RowTrees
open_parts [] = none
open_parts (p ∷ ps) = more tt p (open_parts ps)
