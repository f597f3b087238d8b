use Rattle.std.proofs.Common.{◌≡◌, ◌+◌, ◌*◌, drop}
use Rattle.std.specs.List.{list_all}
use Rattle.vo_spec.specs.Parts.{levels, levels_in, entries_in}
use Rattle.mb_tree.specs.View.{part_of, parts_of}
use Rattle.tree_shape.specs.Entries.{entry_has_form}
use Rattle.tree_shape.proofs.entries.+form.Given as goal

abbrev pub decreases-entries_have_form : goal.decreases-entries_have_form
decreases-entries_have_form g l = 2 * levels (part_of l.tree.now)

abbrev pub decreases-children_have_form : goal.decreases-children_have_form
decreases-children_have_form g l = 2 * levels_in (parts_of l.children.now) + 1

-- all have the form where the children to come do
abbrev pub invariant-children_have_form-loop-child : goal.invariant-children_have_form-loop-child
invariant-children_have_form-loop-child g l =
    list_all (entry_has_form g.F.RowForm.row_form l.schema) (entries_in (parts_of (drop l.child-index l.children)))
    ≡ list_all (entry_has_form g.F.RowForm.row_form l.schema) (entries_in (parts_of l.children))
