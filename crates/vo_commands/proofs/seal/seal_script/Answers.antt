use Rattle.std.proofs.Common.{Bor}
use Rattle.std.specs.Prelude.{Vec, List, ℕ}
use Rattle.std.specs.Global.{Global}
use Rattle.vo_spec.specs.declared.tables.Batch.{Batch}
use Rattle.vo_commands.proofs.CommandSteps.{script_known, script_stops, text_stops}
use Rattle.vo_commands.proofs.seal.seal_script.Goals as goal

pub returns-in-Err-clause-known : goal.returns-in-Err-clause-known
returns-in-Err-clause-known c = text_stops (λ (t : Bor (List ℕ)). t.now) c.args.key.now c.args.script.now c.in-Err.stop c.in-Err.ensures.known

pub returns-in-Ok-batches_in-clause-known : goal.returns-in-Ok-batches_in-clause-known
returns-in-Ok-batches_in-clause-known c =
    script_known c.args.key.now c.args.script.now c.in-Ok.text.now c.in-Ok-batches_in.batches.items c.journal_report.result c.in-Ok.ensures.known c.in-Ok-batches_in.ensures.known
    (rw c.from_vec.ensures at c.journal_report.ensures.known)

pub returns-in-Err-batches_in-clause-known : goal.returns-in-Err-batches_in-clause-known
returns-in-Err-batches_in-clause-known c =
    script_stops (λ (v : Vec Batch Global). v.items) c.args.key.now c.args.script.now c.in-Ok.text.now c.in-Err-batches_in.stop c.in-Ok.ensures.known c.in-Err-batches_in.ensures.known
