-- Two replies that met, as contracts see them.
use Rattle.std.specs.Prelude.{Result, Ok, Err}
use Rattle.vo_spec.specs.Replies.{Reply}
use Rattle.vo_format.specs.View.{reply_of}
use Rattle.reply_meeting.specs.declared.meeting.Meeting.{Meeting}
use Rattle.reply_meeting.specs.declared.meeting.MetReplies.{MetReplies}
use Rattle.reply_meeting.specs.declared.meeting.MeetFault.{MeetFault}

abbrev pub met_of : Result MetReplies MeetFault → Result (Reply × Reply × Meeting) MeetFault
met_of (Ok met) = Ok (reply_of met.first, reply_of met.second, met.meeting)
met_of (Err fault) = Err fault
