use Rattle.std.proofs.lemmas.List.{length-map}
use Rattle.mb_tree.proofs.subtrees.Subtree.leaf.Goals as goal

pub invariant_of-result : goal.invariant_of-result
invariant_of-result c =
    rw c.in_ok-new.ensures.ok (record {
      within = record { linked = tt; most = rw length-map c.requires };
      hashed = tt;
    })
