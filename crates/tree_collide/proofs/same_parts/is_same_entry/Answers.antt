use Rattle.std.proofs.Common.{arith}
use Rattle.std.proofs.lemmas.Grind.{common_steps}
use Rattle.tree_collide.proofs.same_parts.is_same_entry.Goals as goal

pub returns-then-is_same_key : goal.returns-then-is_same_key
returns-then-is_same_key c = grind (arith, common_steps)

pub returns-else-is_same_key : goal.returns-else-is_same_key
returns-else-is_same_key c = grind (arith, common_steps)
