use Rattle.std.specs.Prelude.{Vec}
use Rattle.std.specs.Global.{Global}
use Rattle.vo_spec.specs.declared.tables.Batch.{Batch}
use Rattle.sql_text.specs.Scripts.{IsScript}
use Rattle.vo_commands.specs.Texts.{IsRefusedScript}
use Rattle.vo_commands.proofs.TextSteps.{not_accepted, not_read}
use Rattle.vo_commands.proofs.texts.batches_in.Goals as goal

pub returns-in_ok-stop_after-in-Err-clause-known : goal.returns-in_ok-stop_after-in-Err-clause-known
returns-in_ok-stop_after-in-Err-clause-known c =
    not_read (λ (v : Vec Batch Global). v.items) (IsScript c.args.text.now) (IsRefusedScript c.args.text.now) c.in-Err.fault c.in_ok-stop_after-in-Err.field-0
    (λ output e batches script. not_accepted (λ (v : Vec Batch Global). v.items) c.in-Err.fault output batches e (c.in-Err.ensures.only batches script))
    (λ output e. (c.in-Err.fault, c.in-Err.ensures.found, e)) c.in_ok-stop_after-in-Err.ensures
