-- Counted trees as contracts see them.
use Rattle.std.specs.Prelude.{ℕ, List, map}
use Rattle.vo_spec.specs.Parts.{stub, leaf, inner}
use Rattle.btree.specs.declared.node.Contents.{Contents}
use Rattle.btree.specs.Nodes.{parts_from, contents_of}
use Rattle.counted_trees.specs.Counts.{PlainEntry, PlainSubtree, CountedTree, kid}
use Rattle.counted_trees.specs.declared.entry.Entry.{Entry}
use Rattle.counted_trees.specs.declared.entry.NumberKey.{NumberKey}
use Rattle.counted_trees.specs.declared.subtree.Node.{Node}
use Rattle.counted_trees.specs.declared.subtree.Node.TheVariants.{Stub, Leaf, Inner}

abbrev pub key_of : NumberKey → List ℕ
key_of key = key.bytes

abbrev pub entry_of : Entry → PlainEntry
entry_of e = (e.key.bytes, e.value)

abbrev pub tree_of : Node → CountedTree
tree_of (Stub d) = stub d
tree_of (Leaf es) = leaf (map entry_of es.items)
tree_of (Inner separators children) =
    inner (map key_of separators.items) (parts_from (map kid children.items))

-- what a node is to have
abbrev pub counted_contents : Contents NumberKey Entry PlainSubtree → CountedTree
counted_contents = contents_of key_of entry_of kid
