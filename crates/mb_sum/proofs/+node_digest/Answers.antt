use Rattle.std.proofs.Common.{◌≡◌, ◌≤◌, take, arith}
use Rattle.std.proofs.lemmas.List.{take_all}
use Rattle.vo_spec.specs.Parts.{levels, levels_in}
use Rattle.mb_sum.specs.Views.{part_of, parts_of, part_kid}
use Rattle.mb_sum.proofs.Children.{count_parts_of, child_bytes_from, child_fits, child_falls}
use Rattle.mb_sum.proofs.+node_digest.Goals as goal

pub hashing::inner_digest-node_digest-digest-requires : goal.hashing::inner_digest-node_digest-digest-requires
hashing::inner_digest-node_digest-digest-requires t c =
    let falls : levels (part_of c.child-item.result.tree) ≤ levels_in (parts_of c.args.children.now) = child_falls _ _ _ c.loop-child-test.true c.child-item.is in
    (omega arith, child_fits _ c.requires.fits _ _ c.loop-child-test.true c.child-item.is)

pub hashing::inner_digest-returns : goal.hashing::inner_digest-returns
hashing::inner_digest-returns t c =
    let children = c.args.children.now in
    let all : take c.loop-child.child-index children ≡ children = take_all _ _ c.loop-child-test.false in
    rw (count_parts_of children, child_bytes_from part_kid children) (c.end.ensures _ (rw all at c.loop-child.invariant))
