use Rattle.vo_commands.proofs.FileSteps.{key_goes_on, no_key_refused}
use Rattle.vo_commands.proofs.files.public_key.Goals as goal

pub returns-in-Ok-clause-known : goal.returns-in-Ok-clause-known
returns-in-Ok-clause-known c =
    key_goes_on c.args.bytes.now c.in-Ok.key c.in-Ok.ensures.ok (c.in-Ok.ensures.length, c.in-Ok.ensures.unknown)

pub returns-in_ok-refusal_report-in-Err-clause-known : goal.returns-in_ok-refusal_report-in-Err-clause-known
returns-in_ok-refusal_report-in-Err-clause-known c =
    no_key_refused c.args.bytes.now c.in-Err.field-0 _ (c.in-Err.ensures.length, c.in-Err.ensures.unknown) c.in_ok-refusal_report-in-Err.ensures
