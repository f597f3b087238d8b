-- Nodes of trees of rows, whole or in part, as they are lent.
use Rattle.std.specs.Prelude.{ℕ, List, map}
use Rattle.vo_spec.specs.declared.cells.PartEntry.{PartEntry}
use Rattle.vo_spec.specs.Trees.{RowTree, RowTrees}
use Rattle.btree.specs.declared.node.NodeView.{NodeView}
use Rattle.btree.specs.Nodes.{Kid, parts_from, view_of}

-- as a child: its parent holds nothing beside it
abbrev pub row_kid : {N : Type 0} → (N → RowTree) → N → Kid PartEntry (Unit {0})
row_kid tree node = (tt, tree node)

abbrev pub row_kids : {N : Type 0} → (N → RowTree) → List N → RowTrees
row_kids tree nodes = parts_from (map (row_kid tree) nodes)

abbrev pub row_view : {K E N : Type 0} → (K → List ℕ) → (E → PartEntry) → (N → RowTree)
    → NodeView K E N → RowTree
row_view key entry tree = view_of key entry (row_kid tree)
