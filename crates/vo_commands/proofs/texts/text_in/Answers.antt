use Rattle.vo_commands.proofs.FileSteps.{text_goes_on, no_text_refused}
use Rattle.vo_commands.proofs.texts.text_in.Goals as goal

pub returns-in-Ok-clause-known : goal.returns-in-Ok-clause-known
returns-in-Ok-clause-known c = text_goes_on c.args.bytes.now c.in-Ok.text.now c.in-Ok.ensures.cases.0 c.in-Ok.ensures.cases.1

pub returns-in_ok-refusal_report-in-Err-clause-known : goal.returns-in_ok-refusal_report-in-Err-clause-known
returns-in_ok-refusal_report-in-Err-clause-known c = no_text_refused c.args.bytes.now _ c.in-Err.ensures.cases.0 c.in_ok-refusal_report-in-Err.ensures
