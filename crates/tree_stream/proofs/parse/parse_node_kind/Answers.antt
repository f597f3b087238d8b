use Rattle.std.proofs.Common.{◌++◌}
use Rattle.tree_stream.proofs.WholeTokens.{no_node}
use Rattle.tree_stream.proofs.parse.parse_node_kind.Goals as goal

pub returns : goal.returns
returns c = λ child rest. no_node child c.args.first (c.args.rest.now ++ rest) c.if-first-eq0.false c.if-first-eq1.false c.if-first-eq2.false
