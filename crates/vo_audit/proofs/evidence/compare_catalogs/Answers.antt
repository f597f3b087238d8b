use Rattle.std.proofs.Common.{rules, ◌≡◌, ◌≢◌, sym, ap, ◌∙◌}
use Rattle.vo_spec.specs.Records.{catalog_digest}
use Rattle.vo_audit.proofs.FindingLaws.{same_catalog, preimages_collide}
use Rattle.vo_audit.proofs.evidence.compare_catalogs.Goals as goal

pub returns-then-eq : goal.returns-then-eq
returns-then-eq c =
    let same : c.in_ok-first.first.items ≡ c.in_ok-second.second.items = search rules in
    same_catalog c.args.catalog.now _ c.in_ok-kept.kept _ _ c.requires.fits c.in_ok-kept.ensures.fits c.in_ok-kept.ensures.value c.in_ok-first.ensures c.in_ok-second.ensures same

pub new-requires : goal.new-requires
new-requires c =
    let differ : c.in_ok-first.first.items ≢ c.in_ok-second.second.items = search rules in
    preimages_collide c.args.catalog.now c.in_ok-kept.kept _ _ (c.requires.same ∙ ap catalog_digest (sym c.in_ok-kept.ensures.value)) c.in_ok-first.ensures c.in_ok-second.ensures differ
