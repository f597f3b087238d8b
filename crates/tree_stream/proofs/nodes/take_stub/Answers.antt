use Rattle.std.proofs.Common.{refl, ◌++◌, ◌∷◌}
use Rattle.tree_stream.specs.Findings.{stub_findings}
use Rattle.tree_stream.proofs.KeepingLaws.{rows_later, same_rows}
use Rattle.vo_spec.specs.Parts.{stub}
use Rattle.tree_stream.proofs.Steps.{yields_then, stub_step}
use Rattle.tree_stream.proofs.nodes.take_stub.Goals as goal

pub returns-clause-yields : goal.returns-clause-yields
returns-clause-yields c =
    yields_then _ _ _ _ c.end_node.ensures.yields (λ rest.
    stub_step c.args.context.now.target c.args.context.now.ancestors.items c.args.context.now.findings c.add_stub.new.findings c.args.visited c.args.digest rest
    c.args.context.now.few c.requires c.add_stub.ensures)

pub returns-clause-stands : goal.returns-clause-stands
returns-clause-stands c = λ bytes below. c.end_node.ensures.stands bytes (stub c.args.digest) below c.requires

pub returns-clause-keeps : goal.returns-clause-keeps
returns-clause-keeps c = λ bytes keeps.
    let context = c.args.context.now in
    c.end_node.ensures.keeps (bytes ++ 0 ∷ c.args.digest)
    (same_rows context.target.interval (bytes ++ 0 ∷ c.args.digest) context.findings c.add_stub.new.findings (stub_findings c.args.visited) c.add_stub.ensures refl
    (rows_later context bytes (0 ∷ c.args.digest) keeps))
