use Rattle.std.proofs.Common.{sym, ap, subst, map, ◌∙◌}
use Rattle.vo_spec.specs.Records.{FitsCatalog}
use Rattle.stored_tables.specs.View.{stored_in}
use Rattle.stored_tables.specs.Plain.{catalog_table}
use Rattle.stored_tables.proofs.PlainLaws.{standing_catalog}
use Rattle.stored_tables.proofs.tables.StoredTables.catalog.Goals as goal

pub returns-clause-fits : goal.returns-clause-fits
returns-clause-fits c =
    subst (λ ts. FitsCatalog (record { tables = ts }))
    (sym (c.from_vec.ensures ∙ c.in_ok-catalog_tables.ensures ∙ ap (λ ts. map catalog_table (stored_in ts)) c.as_slice.ensures.value)) (standing_catalog _ c.self.invariant)
