-- The node stands as many levels above the leaf as were gone.
use Rattle.std.proofs.Common.{◌≡◌}
use Rattle.vo_spec.specs.Lms.{climb, path_at}
use Rattle.lms_sign.proofs.tree_verifying.node_above.Given as goal

abbrev pub invariant-loop-level : goal.invariant-loop-level
invariant-loop-level l = l.node ≡ climb l.id l.r (path_at l.fn.ots l.signature) l.leaf l.level
