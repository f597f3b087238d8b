use Rattle.vo_spec.specs.Conditions.{query_of}
use Rattle.vo_format.specs.View.{reply_of}
use Rattle.reply_meeting.proofs.AcceptedReplies.{accepted, refused}
use Rattle.reply_meeting.proofs.accepting.read_accepted.Goals as goal

pub returns-in-Ok-judge : goal.returns-in-Ok-judge
returns-in-Ok-judge c = accepted c.args.key.now (query_of c.args.query.now) c.args.bytes.now (reply_of c.in-Ok.reply) c.in-Ok-judge.field-0 c.in-Ok.ensures c.in-Ok-judge.ensures.answers

pub returns : goal.returns
returns c = refused c.args.key.now (query_of c.args.query.now) c.args.bytes.now (reply_of c.in-Ok.reply) c.in-Err-judge.fault c.in-Ok.ensures c.in-Err-judge.ensures.answers
