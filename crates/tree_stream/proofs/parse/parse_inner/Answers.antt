use Rattle.std.proofs.Common.{◌++◌}
use Rattle.tree_stream.proofs.WholeTokens.{no_inner}
use Rattle.tree_stream.proofs.parse.parse_inner.Goals as goal

pub returns-in-None : goal.returns-in-None
returns-in-None c = λ child rest. no_inner child (c.args.rest.now ++ rest) (c.in-None.ensures rest)
