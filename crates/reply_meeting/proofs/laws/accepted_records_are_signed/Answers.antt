use Rattle.reply_meeting.proofs.AcceptedReplies.{signed}
use Rattle.reply_meeting.proofs.laws.accepted_records_are_signed.Goals as goal

pub returns : goal.returns
returns c = signed
