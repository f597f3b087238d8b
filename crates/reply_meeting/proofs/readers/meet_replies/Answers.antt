use Rattle.std.proofs.Common.{inr}
use Rattle.vo_spec.specs.Conditions.{query_of}
use Rattle.vo_format.specs.View.{reply_of}
use Rattle.reply_meeting.specs.declared.meeting.MetReplies.{MetReplies}
use Rattle.reply_meeting.proofs.AcceptedReplies.{has_passed}
use Rattle.reply_meeting.proofs.Meets.{of_fault, first_told, second_told, meeting_told}
use Rattle.reply_meeting.proofs.readers.meet_replies.Goals as goal

pub returns-in-Err : goal.returns-in-Err
returns-in-Err c =
    of_fault MetReplies _ _ (first_told c.args.key.now (query_of c.args.query.now) c.args.first.now c.args.second.now c.in-Err.fault _ c.first_fault.ensures c.in-Err.ensures)

pub returns-in-Err-read_accepted : goal.returns-in-Err-read_accepted
returns-in-Err-read_accepted c =
    of_fault MetReplies _ _ (second_told c.args.key.now (query_of c.args.query.now) c.args.first.now c.args.second.now (reply_of c.in-Ok.reply) c.in-Ok.ensures c.in-Err-read_accepted.fault _
    c.second_fault.ensures c.in-Err-read_accepted.ensures)

pub meeting_of-requires-clause-passed : goal.meeting_of-requires-clause-passed
meeting_of-requires-clause-passed c = has_passed c.args.key.now (query_of c.args.query.now) (reply_of c.in-Ok.reply) c.in-Ok.ensures.passed

pub meeting_of-requires-clause-second_passed : goal.meeting_of-requires-clause-second_passed
meeting_of-requires-clause-second_passed c = has_passed c.args.key.now (query_of c.args.query.now) (reply_of c.in-Ok-read_accepted.reply) c.in-Ok-read_accepted.ensures.passed

pub returns-in-Ok-meeting_of : goal.returns-in-Ok-meeting_of
returns-in-Ok-meeting_of c =
    inr (meeting_told c.args.key.now (query_of c.args.query.now) c.args.first.now c.args.second.now (reply_of c.in-Ok.reply) (reply_of c.in-Ok-read_accepted.reply) c.in-Ok.ensures c.in-Ok-read_accepted.ensures
    c.in-Ok-meeting_of.meeting c.in-Ok-meeting_of.ensures)
