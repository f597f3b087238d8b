use Rattle.std.proofs.Common.{sym, ◌∙◌}
use Rattle.tree_stream.specs.declared.target.Target.{Target}
use Rattle.tree_stream.specs.Findings.{target_of}
use Rattle.tree_stream.proofs.ShapeLaws.{shape_is}
use Rattle.tree_stream.proofs.FindingLaws.{missing_is, surplus_is}
use Rattle.tree_stream.proofs.RowLaws.{seen_is}
use Rattle.tree_stream.proofs.laws.findings_judge_proofs.Goals as goal

pub returns-clause-missing : goal.returns-clause-missing
returns-clause-missing c = λ need schema. missing_is (target_of need schema)

pub returns-clause-surplus : goal.returns-clause-surplus
returns-clause-surplus c = λ need schema. surplus_is (target_of need schema)

pub returns-clause-shape : goal.returns-clause-shape
returns-clause-shape c = shape_is

pub returns-clause-rows : goal.returns-clause-rows
returns-clause-rows c = λ need schema tree fits rises whole exact.
    let target : Target = target_of need schema in
    seen_is target rises tree fits (sym (missing_is target tree fits) ∙ whole) (sym (surplus_is target tree fits) ∙ exact)
