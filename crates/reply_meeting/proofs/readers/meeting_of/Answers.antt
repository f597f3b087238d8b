use Rattle.std.proofs.Common.{◌≡◌, rules}
use Rattle.vo_format.specs.View.{reply_of}
use Rattle.reply_meeting.proofs.Meets.{one_found}
use Rattle.reply_meeting.proofs.readers.meeting_of.Goals as goal

pub returns-in-Some : goal.returns-in-Some
returns-in-Some c =
    let same : c.args.first.now.rec ≡ c.args.second.now.rec = search rules in
    one_found (reply_of c.args.first.now) (reply_of c.args.second.now) c.in-Some.found c.requires.fits c.requires.second_fits same (rw c.in-Some.is at c.in_ok-compare_replies.ensures)
