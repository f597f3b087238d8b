use Rattle.std.proofs.Common.{◌++◌}
use Rattle.tree_stream.proofs.WholeTokens.{no_shown}
use Rattle.tree_stream.proofs.parse.parse_shown.Goals as goal

pub returns-in-None : goal.returns-in-None
returns-in-None c = λ rest. no_shown (c.args.encoding.now ++ rest) (c.in-None.ensures rest)
