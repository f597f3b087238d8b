use Rattle.std.proofs.Common.{arith}
use Rattle.reply_stream.proofs.laws.lengths_add_up.Goals as goal

pub returns : goal.returns
returns c = λ a b. omega arith
