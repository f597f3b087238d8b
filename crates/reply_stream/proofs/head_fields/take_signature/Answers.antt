use Rattle.reply_stream.proofs.HeadFronts.{signature_took}
use Rattle.std.proofs.Common.{refl, ◌∙◌}
use Rattle.reply_stream.proofs.HeadLaws.{signature_step}
use Rattle.reply_stream.proofs.head_fields.take_signature.Goals as goal

pub returns-clause-yields : goal.returns-clause-yields
returns-clause-yields c = record {
  each = λ rest. signature_step c.args.field _ c.args.token.now rest c.requires c.args.field.within refl
      (c.from_vec-signature.ensures ∙ c.in_ok-from_slice.ensures.items);
}

pub returns-clause-took : goal.returns-clause-took
returns-clause-took c = λ taken took.
    signature_took c.args.field _ c.args.token.now taken c.requires c.args.field.within refl (c.from_vec-signature.ensures ∙ c.in_ok-from_slice.ensures.items) took
