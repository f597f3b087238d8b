use Rattle.std.proofs.Common.{sym, ap, subst, map, ◌∙◌}
use Rattle.vo_spec.specs.Honest.{RepresentTables}
use Rattle.vo_laws.specs.FittingTables.{FitTables}
use Rattle.stored_tables.specs.View.{stored_in}
use Rattle.stored_tables.specs.Plain.{plain_table}
use Rattle.stored_tables.proofs.PlainLaws.{plain_stand, plain_fit}
use Rattle.stored_tables.proofs.tables.StoredTables.tables.Goals as goal

pub returns-clause-stand : goal.returns-clause-stand
returns-clause-stand c =
    rw (← c.self.view_is) (subst (RepresentTables (stored_in c.self.inside.tables.items))
    (sym (c.from_vec.ensures ∙ c.in_ok-plain_tables.ensures ∙ ap (λ ts. map plain_table (stored_in ts)) c.as_slice.ensures.value)) (plain_stand _ c.self.invariant))

pub returns-clause-fit : goal.returns-clause-fit
returns-clause-fit c =
    subst FitTables (sym (c.from_vec.ensures ∙ c.in_ok-plain_tables.ensures ∙ ap (λ ts. map plain_table (stored_in ts)) c.as_slice.ensures.value)) (plain_fit _ c.self.invariant)
