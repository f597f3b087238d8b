use Rattle.std.proofs.Common.{◌≡◌, ◌-◌, ◌^◌, arith}
use Rattle.std.specs.Prelude.{min}
use Rattle.std.proofs.lemmas.Grind.{common_steps}
use Rattle.reply_stream.specs.HeadStreams.{held_in}
use Rattle.reply_stream.proofs.HeldHeads.{held_front}
use Rattle.reply_stream.proofs.head_stream.HeadStream.held.Goals as goal

pub returns-clause-front : goal.returns-clause-front
returns-clause-front c = λ none bytes behind few.
    let is : c.saturating_add.result ≡ min (held_in c.args.self.now) (2 ^ 64 - 1) = grind (arith, common_steps) in
    held_front c.args.self.now bytes c.saturating_add.result is none behind few
