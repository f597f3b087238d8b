use Rattle.std.proofs.Common.{[], refl, sym}
use Rattle.std.proofs.Common.{List, ℕ, ◌++◌, ap}
use Rattle.reply_stream.specs.declared.head_state.HeadState.TheVariants.{Front}
use Rattle.reply_stream.specs.Heads.{rest_of_head}
use Rattle.reply_stream.specs.HeadStreams.{head_of}
use Rattle.reply_stream.proofs.head_stream.HeadStream.new.Goals as goal

pub returns-clause-head : goal.returns-clause-head
unfolding head_of rest_of_head
returns-clause-head c = λ bytes. ap (λ (held : List ℕ). rest_of_head Front (held ++ bytes)) c.new.ensures.items

pub returns-clause-behind : goal.returns-clause-behind
returns-clause-behind c = record { taken = []; took = refl; parts = sym c.new.ensures.items }
