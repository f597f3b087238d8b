use Rattle.std.proofs.Common.{Ok, Err, inr, refl, sym, ap, ◌∙◌, subst}
use Rattle.owner_roots.specs.Working.{FitCatalog}
use Rattle.owner_roots.proofs.CatalogLaws.{of_catalog, as_catalog}
use Rattle.owner_roots.proofs.NextLaws.{next_unread, seen_given, seen_refused}
use Rattle.owner_roots.proofs.roots.Roots.next.Goals as goal

pub returns-in-Err-BadForm-clause-answer : goal.returns-in-Err-BadForm-clause-answer
returns-in-Err-BadForm-clause-answer c =
    inr (next_unread c.args.self.now c.args.batch.now.commands c.args.proofs.now (c.read_proofs.ensures.bad (c.in-Err-BadForm.is ∙ ap Err c.in-Err-BadForm.field-0-is)))

pub apply_commands-requires-clause-within : goal.apply_commands-requires-clause-within
apply_commands-requires-clause-within c =
    subst FitCatalog (sym (c.in_ok-tables.ensures ∙ c.as_slice.ensures)) (of_catalog c.args.self.now.catalog c.requires.catalog)

pub returns-in-Ok-apply_commands-clause-answer : goal.returns-in-Ok-apply_commands-clause-answer
returns-in-Ok-apply_commands-clause-answer c =
    inr (seen_given c.args.self.now c.args.batch.now.commands c.as_slice-2.result.now c.args.proofs.now c.in-Ok.trees.items c.as_slice-3.result.now c.in_ok-tables.tables.items
    c.from_vec.result c.in-Ok.ensures.found c.as_slice-2.ensures c.as_slice-3.ensures.value (c.in_ok-tables.ensures ∙ c.as_slice.ensures)
    (c.in-Ok-apply_commands.ensures.answer ∙ ap Ok (sym c.from_vec.ensures)))

pub returns-in-Ok-apply_commands-clause-fits : goal.returns-in-Ok-apply_commands-clause-fits
returns-in-Ok-apply_commands-clause-fits c = as_catalog c.from_vec.result (subst FitCatalog (sym c.from_vec.ensures) c.in-Ok-apply_commands.ensures.within)

pub returns-clause-answer : goal.returns-clause-answer
returns-clause-answer c =
    seen_refused {X = Unit {0}} (λ _. c.apply_commands.new.tables.items) c.args.self.now c.args.batch.now.commands c.as_slice-2.result.now c.args.proofs.now c.in-Ok.trees.items c.as_slice-3.result.now
    c.in_ok-tables.tables.items c.in-Err.fault (Err c.in-Err.fault) refl c.in-Ok.ensures.found c.as_slice-2.ensures c.as_slice-3.ensures.value (c.in_ok-tables.ensures ∙ c.as_slice.ensures)
    c.in-Err.ensures.answer
