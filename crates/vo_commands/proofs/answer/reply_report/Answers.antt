use Rattle.std.proofs.Common.{Err, ap, inr}
use Rattle.vo_commands.proofs.answer.reply_report.Goals as goal

pub returns-in_ok-report-in-Err-NoVersion-clause-known : goal.returns-in_ok-report-in-Err-NoVersion-clause-known
returns-in_ok-report-in-Err-NoVersion-clause-known c =
    let kept = c.in-Err-NoVersion in
    inr (inr (kept.version, kept.oldest, kept.newest, kept.ensures.lacks _ _ _ (ap Err kept.field-0-is), c.in_ok-report-in-Err-NoVersion.ensures))
