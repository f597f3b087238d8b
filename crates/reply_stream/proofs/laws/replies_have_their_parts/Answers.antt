use Rattle.reply_stream.proofs.PartLaws.{parts_again, parts_found}
use Rattle.reply_stream.proofs.laws.replies_have_their_parts.Goals as goal

pub returns-clause-again : goal.returns-clause-again
returns-clause-again c = parts_again

pub returns-clause-only : goal.returns-clause-only
returns-clause-only c = parts_found
