use Rattle.std.proofs.Common.{◌∙◌, arith}
use Rattle.std.proofs.lemmas.List.{take_all}
use Rattle.tree_stream.proofs.parse.chunk_in.Goals as goal

pub returns : goal.returns
returns c = c.in-Some.ensures.cases.0 ∙ take_all 32 c.args.bytes.now (omega (arith, c.requires))
