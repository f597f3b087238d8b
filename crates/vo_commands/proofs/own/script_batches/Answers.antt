use Rattle.std.proofs.Common.{Bor}
use Rattle.std.specs.Prelude.{List, ℕ}
use Rattle.vo_commands.proofs.OwnSteps.{script_prepared, text_unprepared}
use Rattle.vo_commands.proofs.own.script_batches.Goals as goal

pub returns-in-Ok-clause-known : goal.returns-in-Ok-clause-known
returns-in-Ok-clause-known c =
    λ secret. script_prepared secret c.args.script.now c.in-Ok.text.now c.batches_in.result c.in-Ok.ensures.known c.batches_in.ensures.known

pub returns-in-Err-clause-known : goal.returns-in-Err-clause-known
returns-in-Err-clause-known c =
    λ secret. text_unprepared (λ (t : Bor (List ℕ)). t.now) secret c.args.script.now c.in-Err.stop c.in-Err.ensures.known
