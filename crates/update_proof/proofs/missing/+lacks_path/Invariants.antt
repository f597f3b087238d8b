use Rattle.std.proofs.Common.{◌+◌, ◌*◌}
use Rattle.vo_spec.specs.Parts.{levels, levels_in}
use Rattle.mb_tree.specs.View.{part_of, parts_of}
use Rattle.update_proof.proofs.missing.+lacks_path.Given as goal

abbrev pub decreases-lacks_path : goal.decreases-lacks_path
decreases-lacks_path l = 2 * levels (part_of l.tree.now)

abbrev pub decreases-lacks_path_below : goal.decreases-lacks_path_below
decreases-lacks_path_below l = 2 * levels_in (parts_of l.children.now) + 1
