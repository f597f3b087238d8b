-- Whole trees as contracts see them.
use Rattle.std.specs.Prelude.{ℕ, List, map}
use Rattle.vo_spec.specs.declared.cells.PartEntry.{PartEntry}
use Rattle.vo_spec.specs.Cells.{whole_entry}
use Rattle.vo_spec.specs.Parts.{leaf, inner}
use Rattle.vo_spec.specs.Trees.{RowTree, open_parts}
use Rattle.vo_spec.specs.declared.values.Row.{Row}
use Rattle.btree.specs.declared.node.Contents.{Contents}
use Rattle.btree.specs.Nodes.{Kid, contents_of}
use Rattle.mb_tree.specs.declared.subtrees.Node.{Node}
use Rattle.mb_tree.specs.declared.subtrees.Node.TheVariants.{Leaf, Inner}

abbrev pub whole_of : Node → RowTree
whole_of (Leaf es) = leaf (map whole_entry es.items)
whole_of (Inner separators children) = inner separators.items (open_parts children.items)

-- as a child: its parent holds nothing beside it
abbrev pub whole_kid : RowTree → Kid PartEntry (Unit {0})
whole_kid t = (tt, t)

-- what a node is to have
abbrev pub whole_contents : Contents (List ℕ) Row RowTree → RowTree
whole_contents = contents_of (λ k. k) whole_entry whole_kid
