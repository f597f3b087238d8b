use Rattle.std.proofs.Common.{refl, ◌++◌, ◌∷◌, []}
use Rattle.tree_stream.specs.Findings.{open_node_findings}
use Rattle.tree_stream.proofs.KeepingLaws.{rows_later, same_rows}
use Rattle.tree_stream.proofs.PlaceLaws.{leaf_begun}
use Rattle.std.proofs.Common.{◌++◌}
use Rattle.std.proofs.Common.{List, ℕ, ◌∷◌, [], ◌++◌, ap, ◌∙◌}
use Rattle.tree_stream.proofs.Steps.{yields_then, leaf_step}
use Rattle.tree_stream.proofs.nodes.take_leaf.Goals as goal

pub returns-clause-yields : goal.returns-clause-yields
returns-clause-yields c =
    yields_then _ _ _ _ c.next_entry.ensures.yields (λ rest.
    leaf_step c.args.context.now.target c.args.context.now.ancestors.items c.args.context.now.findings c.add_open_node.new.findings c.args.visited c.args.count c.add.new.self rest
    c.args.context.now.few c.requires c.add_open_node.ensures
    (c.add.ensures ∙ ap (λ (h : List ℕ). h ++ 3 ∷ c.args.count ∷ []) c.new-hasher.ensures))

pub returns-clause-stands : goal.returns-clause-stands
returns-clause-stands c = λ bytes below.
    c.next_entry.ensures.stands (bytes ++ 1 ∷ c.args.count ∷ []) (leaf_begun c.args.context.now.ancestors.items c.args.count bytes below c.requires)

pub returns-clause-keeps : goal.returns-clause-keeps
returns-clause-keeps c = λ bytes keeps.
    let context = c.args.context.now in
    c.next_entry.ensures.keeps (bytes ++ 1 ∷ c.args.count ∷ [])
    (same_rows context.target.interval (bytes ++ 1 ∷ c.args.count ∷ []) context.findings c.add_open_node.new.findings (open_node_findings c.args.visited) c.add_open_node.ensures refl
    (rows_later context bytes (1 ∷ c.args.count ∷ []) keeps))
