use Rattle.std.proofs.Common.{arith}
use Rattle.std.proofs.lemmas.Grind.{common_steps}
use Rattle.sql_text.proofs.texts.expect_end.Goals as goal

pub returns-in-Ok : goal.returns-in-Ok
returns-in-Ok g c = grind (arith, common_steps)

pub returns-in-Ok-2 : goal.returns-in-Ok-2
returns-in-Ok-2 g c = grind (arith, common_steps)

pub returns-in-Err-Memory : goal.returns-in-Err-Memory
returns-in-Err-Memory g c = grind (arith, common_steps)

pub returns-in-Err-Fault-Syntax : goal.returns-in-Err-Fault-Syntax
returns-in-Err-Fault-Syntax g c = grind (arith, common_steps)

pub returns-in-Err-Fault-Nesting : goal.returns-in-Err-Fault-Nesting
returns-in-Err-Fault-Nesting g c = grind (arith, common_steps)

pub returns-in-Err-Fault-TooMany : goal.returns-in-Err-Fault-TooMany
returns-in-Err-Fault-TooMany g c = grind (arith, common_steps)
