use Rattle.reply_stream.proofs.PartLaws.{parts_are}
use Rattle.reply_stream.proofs.laws.replies_are_read_in_parts.Goals as goal

pub returns : goal.returns
returns c = parts_are
