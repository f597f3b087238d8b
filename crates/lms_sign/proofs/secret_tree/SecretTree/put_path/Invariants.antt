-- Behind the bytes stands the path so far.
use Rattle.std.proofs.Common.{◌≡◌, ◌++◌}
use Rattle.vo_spec.specs.Bytes.{join_pieces}
use Rattle.vo_spec.specs.SecretTrees.{path_node}
use Rattle.lms_sign.proofs.secret_tree.SecretTree.put_path.Given as goal

abbrev pub invariant-loop-level : goal.invariant-loop-level
invariant-loop-level l = l.bytes.items ≡ l.fn.bytes.items ++ join_pieces (path_node l.self l.q) l.level
