use Rattle.std.proofs.Common.{arith}
use Rattle.std.proofs.lemmas.Grind.{elements}
use Rattle.btree.proofs.steps.remaining_with_sibling.Goals as goal

pub returns-then-left-ge-MIN_FILL : goal.returns-then-left-ge-MIN_FILL
returns-then-left-ge-MIN_FILL g c = grind (arith, elements)

pub returns-in-Some : goal.returns-in-Some
returns-in-Some g c = grind (arith, elements)

pub returns-in-Some-2 : goal.returns-in-Some-2
returns-in-Some-2 g c = grind (arith, elements)

pub returns-in-None : goal.returns-in-None
returns-in-None g c = grind (arith, elements)
