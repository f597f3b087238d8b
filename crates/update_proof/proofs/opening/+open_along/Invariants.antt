use Rattle.std.proofs.Common.{◌+◌, ◌*◌}
use Rattle.vo_spec.specs.Parts.{levels, levels_in}
use Rattle.vo_spec.specs.Trees.{open_parts}
use Rattle.update_proof.proofs.opening.+open_along.Given as goal

abbrev pub decreases-open_along : goal.decreases-open_along
decreases-open_along l = 2 * levels l.subtree.now

abbrev pub decreases-open_children : goal.decreases-open_children
decreases-open_children l = 2 * levels_in (open_parts l.children.now) + 1
