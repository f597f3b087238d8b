use Rattle.std.proofs.Common.{map, sym, ap, ◌∙◌}
use Rattle.mb_tree.specs.View.{part_of}
use Rattle.update_proof.specs.OpenParts.{any_open}
use Rattle.update_proof.specs.Proving.{opened_sibling_surplus}
use Rattle.update_proof.proofs.ReplacementPaths.{any_open_list}
use Rattle.update_proof.proofs.surplus.is_open_below.Goals as goal

pub returns-in-Inner : goal.returns-in-Inner
returns-in-Inner c =
    c.any_open.ensures
    ∙ sym (any_open_list (map part_of c.as_slice-in-Inner.result.now))
    ∙ ap any_open c.as_slice-in-Inner.ensures
    ∙ ap (λ p. opened_sibling_surplus (part_of p)) (sym c.in-Inner.is)
