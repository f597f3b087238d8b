use Rattle.std.proofs.Common.{◌≡◌, ◌++◌, map, take, flat_map}
use Rattle.vo_spec.specs.TreeBytes.{tree_bytes}
use Rattle.mb_tree.specs.View.{part_of}
use Rattle.vo_format.proofs.tree_writing.put_trees.Given as goal

abbrev pub invariant-loop-tree : goal.invariant-loop-tree
invariant-loop-tree l = l.out.items ≡ l.fn.out.items ++ flat_map tree_bytes (map part_of (take l.tree-index l.trees))
