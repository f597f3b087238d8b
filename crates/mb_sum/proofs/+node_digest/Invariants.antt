use Rattle.std.proofs.Common.{◌+◌, ◌*◌, ◌++◌, length, take, flat_map}
use Rattle.vo_spec.specs.Parts.{levels, levels_in, inner_head}
use Rattle.totals_laws.specs.TotalsTrees.{totals_family}
use Rattle.mb_tree.specs.Gathering.{HoldsNode}
use Rattle.mb_sum.specs.Views.{part_of, part_kid, parts_of}
use Rattle.mb_sum.proofs.Children.{kid_bytes}
use Rattle.mb_sum.specs.declared.parts.TotalChild.{TotalChild}
use Rattle.mb_sum.proofs.+node_digest.Given as goal

abbrev pub decreases-parts::PartTotals::node_digest : goal.decreases-parts::PartTotals::node_digest
decreases-parts::PartTotals::node_digest l = 2 * levels (part_of l.self.now)

abbrev pub decreases-hashing::inner_digest : goal.decreases-hashing::inner_digest
decreases-hashing::inner_digest l = 2 * levels_in (parts_of l.children.now) + 1

-- the separators are hashed, and the digests and totals of the children so far
abbrev pub invariant-hashing::inner_digest-loop-child : goal.invariant-hashing::inner_digest-loop-child
invariant-hashing::inner_digest-loop-child l =
    HoldsNode l.hasher (inner_head totals_family l.separators (length l.children) ++ flat_map (λ (c : TotalChild). kid_bytes (part_kid c)) (take l.child-index l.children))
