use Rattle.std.proofs.Common.{◌++◌}
use Rattle.tree_stream.proofs.WholeTokens.{no_row_begins}
use Rattle.tree_stream.proofs.parse.parse_row_kind.Goals as goal

pub returns : goal.returns
returns c = λ rest. no_row_begins c.args.first (c.args.rest.now ++ rest) c.if-first-eq0.false c.if-first-eq1.false
