use Rattle.vo_spec.specs.Conditions.{query_of}
use Rattle.vo_commands.specs.Texts.{IsQueryText, IsRefusedQuery}
use Rattle.vo_commands.proofs.TextSteps.{not_accepted, not_read}
use Rattle.vo_commands.proofs.texts.query_in.Goals as goal

pub returns-in_ok-stop_after-in-Err : goal.returns-in_ok-stop_after-in-Err
returns-in_ok-stop_after-in-Err c =
    not_read query_of (IsQueryText c.args.text.now) (IsRefusedQuery c.args.text.now) c.in-Err.fault c.in_ok-stop_after-in-Err.field-0
    (λ output e q is. not_accepted query_of c.in-Err.fault output q e (c.in-Err.ensures.only q is))
    (λ output e. (c.in-Err.fault, c.in-Err.ensures.found, e)) c.in_ok-stop_after-in-Err.ensures
