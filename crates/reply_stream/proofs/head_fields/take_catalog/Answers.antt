use Rattle.std.proofs.Common.{List, ℕ, length, refl, sym, ap, ◌∙◌, arith}
use Rattle.version_record.proofs.CatalogLaws.{of_record_found}
use Rattle.reply_stream.proofs.HeadLaws.{bad_catalog, catalog_step}
use Rattle.reply_stream.proofs.head_fields.take_catalog.Goals as goal

pub invariant_of-result : goal.invariant_of-result
invariant_of-result c =
    let is = of_record_found c.args.field.signed.rec.magic c.args.token.now c.in-Ok.catalog (λ i. omega (arith, c.type_inv.token i)) c.in-Ok.ensures in
    (is.0.fits, sym c.requires ∙ ap (λ (t : List ℕ). length t) is.0.encoded)

pub returns-in-Ok-clause-yields : goal.returns-in-Ok-clause-yields
returns-in-Ok-clause-yields c = record {
  each = λ rest. catalog_step c.args.field _ c.args.token.now rest c.in-Ok.catalog c.requires c.in-Ok.ensures refl;
}

pub returns-in-Err-clause-yields : goal.returns-in-Err-clause-yields
returns-in-Err-clause-yields c = bad_catalog c.after_fault.result c.args.field c.in-Err.fault c.args.token.now c.requires c.in-Err.ensures c.after_fault.ensures.invalid
