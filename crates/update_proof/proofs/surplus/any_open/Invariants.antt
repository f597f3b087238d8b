use Rattle.std.proofs.Common.{◌≡◌, map, drop}
use Rattle.std.specs.List.{list_any}
use Rattle.mb_tree.specs.View.{part_of}
use Rattle.update_proof.specs.OpenParts.{is_open}
use Rattle.update_proof.proofs.surplus.any_open.Given as goal

-- no tree so far is open
abbrev pub invariant-loop-tree : goal.invariant-loop-tree
invariant-loop-tree l = list_any is_open (map part_of (drop l.tree-index l.trees)) ≡ list_any is_open (map part_of l.trees)
