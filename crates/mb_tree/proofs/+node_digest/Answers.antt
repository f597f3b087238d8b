use Rattle.std.proofs.Common.{◌≡◌, ◌≤◌, take, arith}
use Rattle.std.proofs.lemmas.List.{append-nil, take_all}
use Rattle.vo_spec.specs.Parts.{levels, levels_in}
use Rattle.mb_tree.specs.View.{part_of, parts_of}
use Rattle.mb_tree.proofs.PartLaws.{count_parts_of, child_bytes_parts_of, child_fits, child_falls}
use Rattle.mb_tree.proofs.+node_digest.Goals as goal

pub part_digest::inner_digest-node_digest-requires :
    goal.part_digest::inner_digest-node_digest-requires
part_digest::inner_digest-node_digest-requires t c =
    let falls : levels (part_of c.child-item.result) ≤ levels_in (parts_of c.args.children.now) = child_falls _ _ _ c.loop-child-test.true c.child-item.is in
    (omega arith, child_fits _ c.requires.fits _ _ c.loop-child-test.true c.child-item.is)

pub part_digest::inner_digest-loop-child-init :
    goal.part_digest::inner_digest-loop-child-init
part_digest::inner_digest-loop-child-init t c =
    rw append-nil (c.in-Ok.ensures.value.writes _ c.new-hasher.ensures)

pub part_digest::inner_digest-returns : goal.part_digest::inner_digest-returns
part_digest::inner_digest-returns t c =
    let children = c.args.children.now in
    let all : take c.loop-child.child-index children ≡ children = take_all _ _ c.loop-child-test.false in
    rw (count_parts_of children, child_bytes_parts_of children) (c.end.ensures _ (rw all at c.loop-child.invariant))
