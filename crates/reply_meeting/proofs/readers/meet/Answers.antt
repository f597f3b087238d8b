use Rattle.std.proofs.Common.{inr}
use Rattle.vo_spec.specs.Conditions.{query_of}
use Rattle.reply_meeting.proofs.Meets.{fault_alone, meeting_alone}
use Rattle.reply_meeting.proofs.readers.meet.Goals as goal

pub returns-in-Ok : goal.returns-in-Ok
returns-in-Ok c = inr (meeting_alone c.args.key.now (query_of c.args.query.now) c.args.first.now c.args.second.now c.in-Ok.met c.in-Ok.ensures)

pub returns-in-Err : goal.returns-in-Err
returns-in-Err c = fault_alone c.args.key.now (query_of c.args.query.now) c.args.first.now c.args.second.now c.in-Err.fault c.in-Err.ensures
