use Rattle.reply_stream.specs.HeadFields.{fields_left}
use Rattle.reply_stream.proofs.head_stream.+feed_fields.Given as goal

abbrev pub decreases-feed_fields : goal.decreases-feed_fields
decreases-feed_fields l = fields_left l.state.now
