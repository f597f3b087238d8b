use Rattle.std.proofs.Common.{◌≡◌, ◌≤◌, false, sym, ap, ◌∙◌, arith}
use Rattle.vo_spec.specs.Parts.{leaf, levels, levels_in}
use Rattle.mb_tree.specs.View.{part_of, parts_of}
use Rattle.mb_tree.proofs.PartLaws.{child_falls}
use Rattle.update_proof.specs.Changes.{path_is_missing}
use Rattle.update_proof.proofs.InsertionPaths.{none_lacks}
use Rattle.update_proof.proofs.MissingPaths.{stub_lacks}
use Rattle.update_proof.proofs.SurplusChildren.{past_missing, path_missing}
use Rattle.update_proof.proofs.missing.+lacks_path.Goals as goal

pub lacks_path-returns-in-Stub : goal.lacks_path-returns-in-Stub
lacks_path-returns-in-Stub t c =
    stub_lacks c.args.with_row c.args.key.now _ ∙ ap (λ p. path_is_missing c.args.with_row c.args.key.now (part_of p)) (sym c.in-Stub.is)

pub lacks_path-returns-else-with_row : goal.lacks_path-returns-else-with_row
lacks_path-returns-else-with_row t c =
    c.if-with_row.false
    ∙ sym (none_lacks c.in-Leaf.entries)
    ∙ ap (λ b. path_is_missing b c.args.key.now (leaf c.in-Leaf.entries)) (sym c.if-with_row.false)
    ∙ ap (λ p. path_is_missing c.args.with_row c.args.key.now (part_of p)) (sym c.in-Leaf.is)

pub lacks_path_below-returns-then-place-children : goal.lacks_path_below-returns-then-place-children
lacks_path_below-returns-then-place-children t c =
    past_missing c.args.key.now c.args.separators.now c.args.children.now c.position_above-place.result c.position_above-place.ensures.place c.args.with_row c.if-place-children.true

pub lacks_path_below-lacks_path-requires : goal.lacks_path_below-lacks_path-requires
lacks_path_below-lacks_path-requires t c =
    let falls : levels (part_of c.index-children-place.result) ≤ levels_in (parts_of c.args.children.now) = child_falls _ _ _ c.if-place-children.false c.index-children-place.is in
    (omega arith, tt)

pub lacks_path_below-returns : goal.lacks_path_below-returns
lacks_path_below-returns t c =
    c.lacks_path.ensures
    ∙ path_missing c.args.key.now c.args.separators.now c.args.children.now c.position_above-place.result c.position_above-place.ensures.place c.index-children-place.result c.if-place-children.false c.index-children-place.is c.args.with_row
