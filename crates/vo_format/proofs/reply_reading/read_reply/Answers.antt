use Rattle.std.proofs.Common.{arith}
use Rattle.vo_format.proofs.ReplyLaws.{is_reply, is_none, reply_is_read}
use Rattle.vo_format.proofs.reply_reading.read_reply.Goals as goal

pub returns-clause-found : goal.returns-clause-found
returns-clause-found c = is_reply c.args.bytes.now c.reply_in.result (λ i. omega (arith, c.type_inv.bytes i)) c.reply_in.ensures

pub returns-clause-bad : goal.returns-clause-bad
returns-clause-bad c = λ bad. is_none c.args.bytes.now c.reply_in.result c.reply_in.ensures bad

pub returns-clause-only : goal.returns-clause-only
returns-clause-only c = λ reply is. reply_is_read c.args.bytes.now c.reply_in.result reply c.reply_in.ensures is
