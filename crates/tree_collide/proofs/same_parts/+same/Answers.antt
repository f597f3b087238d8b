use Rattle.std.proofs.Common.{◌≤◌, arith}
use Rattle.vo_spec.specs.Parts.{levels, levels_in}
use Rattle.mb_tree.specs.View.{part_of, parts_of}
use Rattle.mb_tree.proofs.PartLaws.{child_falls}
use Rattle.tree_collide.proofs.same_parts.+same.Goals as goal

pub are_all_same-are_same-requires : goal.are_all_same-are_same-requires
are_all_same-are_same-requires t c =
    let falls : levels (part_of c.index-first-place.result) ≤ levels_in (parts_of c.args.first.now) =
    child_falls _ _ _ c.loop-place-test.true c.index-first-place.is in
    (omega arith, tt)
