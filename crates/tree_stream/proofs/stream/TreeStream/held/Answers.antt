use Rattle.std.proofs.Common.{arith}
use Rattle.std.proofs.Math.Nat.{min-le_left}
use Rattle.tree_stream.proofs.HeldLaws.{held_needed}
use Rattle.tree_stream.proofs.stream.TreeStream.held.Goals as goal

pub returns-clause-within : goal.returns-clause-within
returns-clause-within c = λ bytes behind. held_needed c.args.self.now bytes c.saturating_add.result (grind (arith, min-le_left)) behind
