use Rattle.std.proofs.Common.{arith}
use Rattle.std.proofs.lemmas.Grind.{common_steps}
use Rattle.tree_stream.proofs.target.cell_kinds.Goals as goal

pub returns-then-columns-key : goal.returns-then-columns-key
returns-then-columns-key c = grind (arith, common_steps)

pub returns : goal.returns
returns c = grind (arith, common_steps)
