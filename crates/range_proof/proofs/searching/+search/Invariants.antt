use Rattle.std.proofs.Common.{map, ◌+◌, ◌*◌, ◌<◌, drop, None}
use Rattle.std.specs.Option.{option_copied}
use Rattle.vo_spec.specs.Parts.{levels, levels_in}
use Rattle.mb_tree.specs.RowNodes.{row_kids}
use Rattle.vo_spec.specs.Walks.{walk_in_each}
use Rattle.range_proof.specs.declared.searching.Search.{Search}
use Rattle.range_proof.specs.Searching.{Searches}
use Rattle.range_proof.proofs.searching.+search.Given as goal

abbrev pub decreases-search_node : goal.decreases-search_node
decreases-search_node g l = 2 * levels (g.N.RowNode.tree l.tree.now)

abbrev pub decreases-search_children : goal.decreases-search_children
decreases-search_children g l = 2 * levels_in (row_kids g.N.RowNode.tree l.children.now) + 1

-- what a search of the children to come answers, by what is still wanted, one of all answers
abbrev pub invariant-search_children-loop-place : goal.invariant-search_children-loop-place
invariant-search_children-loop-place g l =
    (0 < l.wanted) × ((r : Search)
    → Searches r (g.T.RowTest.meets l.test) l.wanted (walk_in_each l.need (option_copied l.lower) (map g.N.Key.KeyedItem.key (drop l.place l.separators)) (row_kids g.N.RowNode.tree (drop l.place l.children)))
    → Searches r (g.T.RowTest.meets l.test) l.fn.wanted (walk_in_each l.need None (map g.N.Key.KeyedItem.key l.separators) (row_kids g.N.RowNode.tree l.children)))
