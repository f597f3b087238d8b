use Rattle.std.proofs.Common.{arith}
use Rattle.mb_tree.proofs.SubtreeLaws.{count_open_parts}
use Rattle.mb_tree.proofs.subtrees.Subtree.inner.Goals as goal

pub invariant_of-result : goal.invariant_of-result
invariant_of-result c =
    let counted = count_open_parts c.args.children.items in
    rw c.in_ok-new.ensures.ok (record {
      within = record { linked = (omega arith, omega arith); most = omega arith };
      hashed = tt;
    })
