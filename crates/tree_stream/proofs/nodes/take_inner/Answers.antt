use Rattle.std.proofs.Common.{refl, ◌++◌, ◌∷◌, []}
use Rattle.tree_stream.specs.Findings.{open_node_findings}
use Rattle.tree_stream.proofs.KeepingLaws.{rows_later, same_rows}
use Rattle.std.proofs.Common.{◌≡◌, ℕ, ◌-◌, List, Bool, length, subst, sym, arith}
use Rattle.tree_stream.specs.Positions.{IsInSeparators}
use Rattle.tree_stream.proofs.PlaceLaws.{no_separators}
use Rattle.std.proofs.Common.{List, ℕ, ◌∷◌, [], ◌++◌, ap, ◌∙◌}
use Rattle.tree_stream.proofs.Steps.{yields_then, inner_step}
use Rattle.tree_stream.proofs.nodes.take_inner.Goals as goal

pub returns-clause-yields : goal.returns-clause-yields
returns-clause-yields c =
    yields_then _ _ _ _ c.next_separator.ensures.yields (λ rest.
    inner_step c.args.context.now.target c.args.context.now.ancestors.items c.args.context.now.findings c.add_open_node.new.findings c.args.visited c.args.count c.add.new.self c.new.result.items rest
    c.args.context.now.few c.requires.least c.requires.few c.add_open_node.ensures
    (c.add.ensures ∙ ap (λ (h : List ℕ). h ++ 4 ∷ c.args.count ∷ []) c.new-hasher.ensures) c.new.ensures)

pub returns-clause-stands : goal.returns-clause-stands
returns-clause-stands c = λ bytes below.
    let all : List ℕ = bytes ++ 2 ∷ c.args.count ∷ [] in
    let none : length c.new.result.items ≡ 0 = ap (λ (t : List Bool). length t) c.new.ensures in
    let P : ℕ → Type 0 = λ n. IsInSeparators c.args.context.now.ancestors.items n (c.args.count - 1) all in
    c.next_separator.ensures.stands all (subst P (sym none) (no_separators c.args.context.now.ancestors.items c.args.count (c.args.count - 1) bytes below c.requires.least c.requires.few (omega (arith, c.requires.least))))

pub returns-clause-keeps : goal.returns-clause-keeps
returns-clause-keeps c = λ bytes keeps.
    let context = c.args.context.now in
    c.next_separator.ensures.keeps (bytes ++ 2 ∷ c.args.count ∷ [])
    (same_rows context.target.interval (bytes ++ 2 ∷ c.args.count ∷ []) context.findings c.add_open_node.new.findings (open_node_findings c.args.visited) c.add_open_node.ensures refl
    (rows_later context bytes (2 ∷ c.args.count ∷ []) keeps))
