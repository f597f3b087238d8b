use Rattle.std.proofs.Common.{arith}
use Rattle.reply_stream.proofs.HeadFronts.{front_took}
use Rattle.std.proofs.Common.{sym, ◌∙◌}
use Rattle.reply_stream.proofs.HeadLaws.{front_step, no_front}
use Rattle.reply_stream.proofs.head_fields.take_front.Goals as goal

pub returns-in-Some-clause-yields : goal.returns-in-Some-clause-yields
returns-in-Some-clause-yields c = record {
  each = λ rest. front_step c.args.token.now rest c.in-Some.rec c.requires (sym c.in-Some.is ∙ c.record_in.ensures);
}

pub returns-in-None-clause-yields : goal.returns-in-None-clause-yields
returns-in-None-clause-yields c = record {
  each = λ rest. no_front c.args.token.now rest c.requires (sym c.in-None.is ∙ c.record_in.ensures);
}

pub returns-in-Some-clause-took : goal.returns-in-Some-clause-took
returns-in-Some-clause-took c = front_took c.args.token.now c.in-Some.rec (λ i. omega (arith, c.type_inv.token i)) (sym c.in-Some.is ∙ c.record_in.ensures)
