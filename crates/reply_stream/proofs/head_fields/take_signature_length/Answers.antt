use Rattle.reply_stream.proofs.HeadFronts.{signature_length_took}
use Rattle.std.proofs.Common.{refl, arith}
use Rattle.reply_stream.proofs.HeadLaws.{signature_length_step, no_signature}
use Rattle.reply_stream.proofs.head_fields.take_signature_length.Goals as goal

pub returns-then-size-gt-MAX_SIGNATURE-clause-yields : goal.returns-then-size-gt-MAX_SIGNATURE-clause-yields
returns-then-size-gt-MAX_SIGNATURE-clause-yields c = record {
  each = λ rest. no_signature c.args.rec c.args.token.now rest c.requires (omega (arith, c.length_in-size.ensures, c.if-size-gt-MAX_SIGNATURE.true));
}

pub returns-clause-yields : goal.returns-clause-yields
returns-clause-yields c = record {
  each = λ rest. signature_length_step c.args.rec c.args.token.now rest _ c.requires refl c.length_in-size.ensures;
}

pub returns-clause-took : goal.returns-clause-took
returns-clause-took c = λ taken took.
    signature_length_took c.args.rec c.length_in-size.result c.args.token.now taken c.requires (λ i. omega (arith, c.type_inv.token i)) c.length_in-size.ensures took
