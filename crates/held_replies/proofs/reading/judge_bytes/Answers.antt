use Rattle.vo_spec.specs.Conditions.{query_of}
use Rattle.held_replies.proofs.Unread.{unread}
use Rattle.held_replies.proofs.reading.judge_bytes.Goals as goal

pub returns-in-Err : goal.returns-in-Err
returns-in-Err c = unread c.args.key.now c.args.least (query_of c.args.query.now) c.args.bytes.now c.in-Err.fault c.in-Err.ensures
