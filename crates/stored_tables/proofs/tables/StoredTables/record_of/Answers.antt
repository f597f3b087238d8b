use Rattle.std.proofs.Common.{sym, subst}
use Rattle.vo_spec.specs.Records.{FitsCatalog}
use Rattle.vo_spec.specs.Honest.{catalog_of}
use Rattle.stored_tables.specs.View.{stored_in}
use Rattle.stored_tables.proofs.PlainLaws.{standing_catalog}
use Rattle.stored_tables.proofs.tables.StoredTables.record_of.Goals as goal

pub record_of-requires : goal.record_of-requires
record_of-requires c =
    subst (λ tables. FitsCatalog (catalog_of (stored_in tables))) (sym c.as_slice.ensures.value) (standing_catalog _ c.self.invariant)
