use Rattle.std.proofs.Common.{◌≡◌, map, drop}
use Rattle.std.specs.List.{list_all}
use Rattle.vo_spec.specs.Checks.{has_table_shape}
use Rattle.mb_tree.specs.View.{part_of}
use Rattle.query_plan.specs.UsedTables.{lent_name}
use Rattle.held_replies.specs.Testing.{with_tables}
use Rattle.held_replies.proofs.tree_faults.have_table_shapes.Given as goal

-- all have their shapes where those to come do
abbrev pub invariant-loop-place : goal.invariant-loop-place
invariant-loop-place l =
    list_all has_table_shape (with_tables (map lent_name (drop l.place l.names)) l.tables (map part_of (drop l.place l.trees)))
    ≡ list_all has_table_shape (with_tables (map lent_name l.names) l.tables (map part_of l.trees))
