use Rattle.std.proofs.Common.{sym, ◌∙◌, subst, arith}
use Rattle.std.specs.Prelude.{IfOk}
use Rattle.vo_spec.specs.declared.signatures.Levels.TheVariants.{One, Two}
use Rattle.vo_spec.specs.Records.{record_bytes}
use Rattle.lms_forge.specs.Explaining.{Explains}
use Rattle.lms_forge.specs.Forgeries.{Forgery}
use Rattle.lms_forge.proofs.LevelLaws.{valid_at, leaf_at, one_leaf, one_small, pair_valid_at, forgery_at}
use Rattle.lms_forge.proofs.levels.explain.Goals as goal

pub overflow_cast-leaf : goal.overflow_cast-leaf
overflow_cast-leaf c =
    let small = one_small c.args.key.now (record_bytes c.args.rec.now) c.args.signature.now c.args.rec.now.version (sym c.levels.ensures ∙ c.in-One.is)
    c.requires.valid c.requires.leaf in
    omega arith

pub explain_record-requires-clause-valid : goal.explain_record-requires-clause-valid
explain_record-requires-clause-valid c =
    rw c.tree.ensures
    (valid_at One c.args.key.now (record_bytes c.args.rec.now) c.args.signature.now (sym c.levels.ensures ∙ c.in-One.is) c.requires.valid)

pub explain_record-requires-clause-leaf : goal.explain_record-requires-clause-leaf
explain_record-requires-clause-leaf c =
    one_leaf c.args.key.now (record_bytes c.args.rec.now) c.args.signature.now c.args.rec.now.version (sym c.levels.ensures ∙ c.in-One.is)
    c.requires.valid c.requires.leaf

pub explain_pair-requires-clause-valid : goal.explain_pair-requires-clause-valid
explain_pair-requires-clause-valid c =
    pair_valid_at c.args.key.now (record_bytes c.args.rec.now) c.args.signature.now (sym c.levels.ensures ∙ c.in-Two.is) c.requires.valid

pub explain_pair-requires-clause-leaf : goal.explain_pair-requires-clause-leaf
explain_pair-requires-clause-leaf c =
    leaf_at Two c.args.key.now (record_bytes c.args.rec.now) c.args.signature.now c.args.rec.now.version (sym c.levels.ensures ∙ c.in-Two.is)
    c.requires.valid c.requires.leaf

pub returns-in-One : goal.returns-in-One
returns-in-One c =
    subst (λ (f : Forgery). IfOk c.explain_record.result (Explains f))
    (forgery_at One c.args.key.now c.args.signed.now c.args.rec.now c.args.signature.now (sym c.levels.ensures ∙ c.in-One.is))
    (rw c.tree.ensures at c.explain_record.ensures)

pub returns-in-Two : goal.returns-in-Two
returns-in-Two c =
    subst (λ (f : Forgery). IfOk c.explain_pair.result (Explains f))
    (forgery_at Two c.args.key.now c.args.signed.now c.args.rec.now c.args.signature.now (sym c.levels.ensures ∙ c.in-Two.is))
    c.explain_pair.ensures
