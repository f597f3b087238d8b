use Rattle.std.proofs.Common.{◌≡◌, map, drop}
use Rattle.std.specs.List.{AllByRecursion}
use Rattle.vo_spec.specs.Firsts.{first_some}
use Rattle.vo_spec.specs.Fits.{FitsTree}
use Rattle.vo_spec.specs.Checks.{root_fault}
use Rattle.mb_tree.specs.View.{part_of}
use Rattle.query_plan.specs.UsedTables.{lent_name}
use Rattle.held_replies.specs.Testing.{with_tables}
use Rattle.held_replies.proofs.tree_faults.test_roots.Given as goal

-- the trees so far have their roots
abbrev pub invariant-loop-place : goal.invariant-loop-place
invariant-loop-place l =
    (first_some (map root_fault (with_tables (map lent_name (drop l.place l.names)) l.tables (map part_of (drop l.place l.trees))))
    ≡ first_some (map root_fault (with_tables (map lent_name l.names) l.tables (map part_of l.trees))))
    × AllByRecursion FitsTree (map part_of (drop l.place l.trees))
