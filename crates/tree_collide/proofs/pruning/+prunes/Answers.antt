use Rattle.std.proofs.Common.{◌≤◌, arith}
use Rattle.vo_spec.specs.Parts.{levels, levels_in}
use Rattle.mb_tree.specs.View.{part_of, parts_of}
use Rattle.mb_tree.proofs.PartLaws.{child_falls}
use Rattle.tree_collide.proofs.pruning.+prunes.Goals as goal

pub children_prune-prunes-requires : goal.children_prune-prunes-requires
children_prune-prunes-requires t c =
    let falls : levels (part_of c.index-parts-place.result) ≤ levels_in (parts_of c.args.parts.now) = child_falls _ _ _ c.loop-place-test.true c.index-parts-place.is in
    (omega arith, tt)
