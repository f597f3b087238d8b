use Rattle.std.proofs.Common.{sym, ap, ◌∙◌}
use Rattle.std.specs.Prelude.{option_copied}
use Rattle.lms_forge.proofs.RecordLaws.{other_bytes}
use Rattle.lms_forge.proofs.levels.explain_record.Goals as goal

pub explain_leaf-requires-clause-other : goal.explain_leaf-requires-clause-other
explain_leaf-requires-clause-other c = λ same.
    other_bytes c.args.signed.now c.args.rec.now.version c.args.rec.now c.in-Some.own.now c.requires.absent
    (sym c.record_at.ensures ∙ ap option_copied c.in-Some.is) c.told_to_fit.ensures c.told_to_fit-in-Some.ensures
    (sym c.record_bytes-message.ensures ∙ same ∙ c.record_bytes-released.ensures)
