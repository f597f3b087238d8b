use Rattle.row_bytes.proofs.Utf8.{passes, fails}
use Rattle.row_bytes.proofs.text.is_utf8.Goals as goal

pub returns-in-Ok : goal.returns-in-Ok
returns-in-Ok c = passes c.args.text.now c.in-Ok.ensures.cases.1

pub returns-in-Err : goal.returns-in-Err
returns-in-Err c = fails c.args.text.now c.in-Err.ensures.cases.0
