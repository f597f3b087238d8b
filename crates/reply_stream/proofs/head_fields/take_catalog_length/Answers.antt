use Rattle.reply_stream.proofs.HeadFronts.{catalog_length_took}
use Rattle.std.proofs.Common.{refl, arith}
use Rattle.reply_stream.proofs.HeadLaws.{catalog_length_step, no_catalog_length}
use Rattle.reply_stream.proofs.head_fields.take_catalog_length.Goals as goal

pub returns-then-size-gt-MAX_CATALOG-clause-yields : goal.returns-then-size-gt-MAX_CATALOG-clause-yields
returns-then-size-gt-MAX_CATALOG-clause-yields c = record {
  each = λ rest. no_catalog_length c.args.signed c.args.token.now rest c.requires (omega (arith, c.length_in-size.ensures, c.if-size-gt-MAX_CATALOG.true));
}

pub returns-clause-yields : goal.returns-clause-yields
returns-clause-yields c = record {
  each = λ rest. catalog_length_step c.args.signed _ c.args.token.now rest c.requires refl c.length_in-size.ensures;
}

pub returns-clause-took : goal.returns-clause-took
returns-clause-took c = λ taken took.
    catalog_length_took c.args.signed c.length_in-size.result c.args.token.now taken c.requires (λ i. omega (arith, c.type_inv.token i)) c.length_in-size.ensures took
