-- Parts of trees as contracts see them.
use Rattle.std.specs.Prelude.{ℕ, List, map}
use Rattle.vo_spec.specs.declared.cells.PartEntry.{PartEntry}
use Rattle.btree.specs.declared.node.Contents.{Contents}
use Rattle.btree.specs.Nodes.{Kid, contents_of}
use Rattle.mb_tree.specs.declared.parts.PartTree.{PartTree}
use Rattle.mb_tree.specs.declared.parts.PartTree.TheVariants.{Stub, Leaf, Inner}
use Rattle.vo_spec.specs.Parts.{stub, leaf, inner}
use Rattle.vo_spec.specs.Trees.{RowTree, RowTrees, open_parts}

abbrev pub part_of : PartTree → RowTree
part_of (Stub d) = stub d
part_of (Leaf es) = leaf es
part_of (Inner separators children) = inner separators children

abbrev pub parts_of : List PartTree → RowTrees
parts_of ps = open_parts (map part_of ps)

-- as a child: its parent holds nothing beside it
abbrev pub part_kid : PartTree → Kid PartEntry (Unit {0})
part_kid p = (tt, part_of p)

-- what a node is to have
abbrev pub part_contents : Contents (List ℕ) PartEntry PartTree → RowTree
part_contents = contents_of (λ k. k) (λ e. e) part_kid
