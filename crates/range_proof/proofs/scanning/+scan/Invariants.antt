use Rattle.std.proofs.Common.{◌≡◌, ◌+◌, ◌*◌, map, drop, None}
use Rattle.std.specs.Option.{option_copied}
use Rattle.vo_spec.specs.Parts.{levels, levels_in}
use Rattle.vo_spec.specs.Scans.{seen_in_each}
use Rattle.mb_tree.specs.RowNodes.{row_kids}
use Rattle.range_proof.specs.Finding.{after}
use Rattle.range_proof.proofs.scanning.+scan.Given as goal

abbrev pub decreases-scan_node : goal.decreases-scan_node
decreases-scan_node g l = 2 * levels (g.N.RowNode.tree l.tree.now)

abbrev pub decreases-scan_children : goal.decreases-scan_children
decreases-scan_children g l = 2 * levels_in (row_kids g.N.RowNode.tree l.children.now) + 1

-- what the children to come give, after what is there, is what all give
abbrev pub invariant-scan_children-loop-place : goal.invariant-scan_children-loop-place
invariant-scan_children-loop-place g l =
    after l.rows.items (seen_in_each l.need (option_copied l.lower) (map g.N.Key.KeyedItem.key (drop l.place l.separators)) (row_kids g.N.RowNode.tree (drop l.place l.children)))
    ≡ after l.fn.rows.items (seen_in_each l.need None (map g.N.Key.KeyedItem.key l.separators) (row_kids g.N.RowNode.tree l.children))
