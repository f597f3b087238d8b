use Rattle.std.proofs.Common.{◌+◌, ◌*◌}
use Rattle.vo_spec.specs.Parts.{levels, levels_in}
use Rattle.mb_tree.specs.View.{part_of, parts_of}
use Rattle.update_proof.proofs.surplus.+has_surplus.Given as goal

abbrev pub decreases-has_surplus : goal.decreases-has_surplus
decreases-has_surplus l = 2 * levels (part_of l.tree.now)

abbrev pub decreases-children_have_surplus : goal.decreases-children_have_surplus
decreases-children_have_surplus l = 2 * levels_in (parts_of l.children.now) + 1
