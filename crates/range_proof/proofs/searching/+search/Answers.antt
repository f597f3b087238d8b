use Rattle.std.proofs.Common.{◌≤◌, true, false, arith}
use Rattle.std.specs.Option.{option_copied}
use Rattle.vo_spec.specs.Parts.{levels, levels_in}
use Rattle.mb_tree.specs.RowNodes.{row_kids}
use Rattle.range_proof.proofs.Steps.{kid_falls}
use Rattle.range_proof.proofs.Searches.{visits_as, step_over, step_on, at_visited, at_passed, at_end, search_done}
use Rattle.range_proof.proofs.searching.+search.Goals as goal
use Rattle.range_proof.proofs.searching.+search.Goals.{search_children-then-visits_from+in-Ended, search_children-else-visits_from}

pub search_children-search_node-requires : goal.search_children-search_node-requires
search_children-search_node-requires g t c κs within =
    let falls : levels (g.N.RowNode.tree c.index-children-place.result) ≤ levels_in (row_kids g.N.RowNode.tree c.args.children.now) = kid_falls g.N.RowNode.tree _ _ _ c.loop-place-test.true c.index-children-place.is in
    (omega arith, (within.0, (within.1.0, (within.1.1.0, (within.1.1.1, (c.loop-place.invariant.0, c.requires.columns))))))

pub search_children-returns-in_default : goal.search_children-returns-in_default
search_children-returns-in_default g t c =
    step_over _ _ _ _ _ _ _ (at_visited g.N.Key.KeyedItem.key g.N.RowNode.tree c.args.need.now _ c.args.separators.now _ _ _ c.loop-place-test.true c.index-children-place.is
    (visits_as c.args.need.now _ _ _ _ true c.separator_at-upper.ensures c.visits_from.ensures c.if-visits_from.true)) c.loop-place.invariant.1
    c.search_node.result c.in_default.not-Ended c.search_node.ensures

pub search_children-loop-place-preserved : goal.search_children-loop-place-preserved
search_children-loop-place-preserved g t c =
    elim c.if-visits_from.branch [
      | search_children-then-visits_from+in-Ended w ↦
          rw (w.wanted-is, w.lower-is, c.separator_at-upper.ensures)
          (step_on _ _ _ _ _ _ _ (at_visited g.N.Key.KeyedItem.key g.N.RowNode.tree c.args.need.now _ c.args.separators.now _ _ _ c.loop-place-test.true c.index-children-place.is
          (visits_as c.args.need.now _ _ _ _ true c.separator_at-upper.ensures c.visits_from.ensures w.if-visits_from.true)) c.loop-place.invariant.1
          w.search_node.result w.in-Ended.more w.in-Ended.is w.search_node.ensures)
      | search_children-else-visits_from w ↦
          rw (
            w.wanted-is,
            w.lower-is,
            c.separator_at-upper.ensures,
            ← at_passed g.N.Key.KeyedItem.key g.N.RowNode.tree c.args.need.now (option_copied c.loop-place.lower) c.args.separators.now _ _ _ c.loop-place-test.true c.index-children-place.is
                (visits_as c.args.need.now _ _ _ _ false c.separator_at-upper.ensures c.visits_from.ensures w.if-visits_from.false),
          ) c.loop-place.invariant
    ]

pub search_children-returns : goal.search_children-returns
search_children-returns g t c =
    search_done _ _ _ _ _ (at_end g.N.Key.KeyedItem.key g.N.RowNode.tree c.args.need.now (option_copied c.loop-place.lower) c.args.separators.now _ _ c.loop-place-test.false) c.loop-place.invariant.0 c.loop-place.invariant.1
