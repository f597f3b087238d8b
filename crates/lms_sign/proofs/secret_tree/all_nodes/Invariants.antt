-- The nodes so far are the last ones of the tree.
use Rattle.std.proofs.Common.{◌≡◌, ◌+◌, length}
use Rattle.vo_spec.specs.SecretTrees.{tree_of}
use Rattle.lms_sign.specs.Kept.{AreNodes}
use Rattle.lms_sign.proofs.secret_tree.all_nodes.Given as goal

abbrev pub invariant-loop-k : goal.invariant-loop-k
invariant-loop-k l = (length l.nodes.items + 1 ≡ l.k) × AreNodes (tree_of l.id l.seed l.fn.ots l.fn.lms) l.nodes.items
