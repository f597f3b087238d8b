use Rattle.std.proofs.Common.{◌≡◌, ◌+◌, ◌*◌, ◌||◌, [], ◌∷◌, drop, None}
use Rattle.std.specs.Option.{option_copied}
use Rattle.vo_spec.specs.Parts.{levels, levels_in}
use Rattle.vo_spec.specs.Pruning.{is_missing_in, has_surplus_in, walk_for}
use Rattle.mb_tree.specs.View.{part_of, parts_of}
use Rattle.range_proof.proofs.+judge.Given as goal

abbrev pub decreases-judging::judge_node : goal.decreases-judging::judge_node
decreases-judging::judge_node l = 4 * levels (part_of l.tree.now)

abbrev pub decreases-judging::judge_children : goal.decreases-judging::judge_children
decreases-judging::judge_children l = 4 * levels_in (parts_of l.children.now) + 3

abbrev pub decreases-judging::judge_each : goal.decreases-judging::judge_each
decreases-judging::judge_each l = 4 * levels_in (parts_of l.children.now) + 2

abbrev pub decreases-judge_for_one::judge_for_one : goal.decreases-judge_for_one::judge_for_one
decreases-judge_for_one::judge_for_one l = 4 * levels (part_of l.tree.now)

abbrev pub decreases-judge_for_one::judge_children_for_one : goal.decreases-judge_for_one::judge_children_for_one
decreases-judge_for_one::judge_children_for_one l = 4 * levels_in (parts_of l.children.now) + 2

abbrev pub decreases-judge_for_one::judge_unvisited : goal.decreases-judge_for_one::judge_unvisited
decreases-judge_for_one::judge_unvisited l = 4 * levels (part_of l.child.now) + 1

-- no child so far misses anything, and what is told of them goes for all with those to come
abbrev pub invariant-judging::judge_each-loop-place : goal.invariant-judging::judge_each-loop-place
invariant-judging::judge_each-loop-place l =
    (is_missing_in (walk_for l.needs.all) l.needs.active (option_copied l.lower) (drop l.place l.separators) (parts_of (drop l.place l.children))
    ≡ is_missing_in (walk_for l.needs.all) l.needs.active None l.separators (parts_of l.children))
    × (l.surplus || has_surplus_in (walk_for l.needs.all) l.needs.active (option_copied l.lower) (drop l.place l.separators) (parts_of (drop l.place l.children))
    ≡ has_surplus_in (walk_for l.needs.all) l.needs.active None l.separators (parts_of l.children))

abbrev pub invariant-judge_for_one::judge_children_for_one-loop-place : goal.invariant-judge_for_one::judge_children_for_one-loop-place
invariant-judge_for_one::judge_children_for_one-loop-place l =
    (is_missing_in (walk_for l.needs.all) (l.need ∷ []) (option_copied l.lower) (drop l.place l.separators) (parts_of (drop l.place l.children))
    ≡ is_missing_in (walk_for l.needs.all) (l.need ∷ []) None l.separators (parts_of l.children))
    × (l.surplus || has_surplus_in (walk_for l.needs.all) (l.need ∷ []) (option_copied l.lower) (drop l.place l.separators) (parts_of (drop l.place l.children))
    ≡ has_surplus_in (walk_for l.needs.all) (l.need ∷ []) None l.separators (parts_of l.children))
