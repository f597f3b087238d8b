-- Open nodes, and rows, that are alike have one preimage.
use Rattle.std.proofs.Common.{◌≡◌, true, List, sym, ◌∙◌}
use Rattle.vo_spec.specs.declared.cells.Cell.{Cell}
use Rattle.vo_spec.specs.Cells.{row_bytes}
use Rattle.vo_spec.specs.Trees.{RowTree, preimage}
use Rattle.tree_collide.specs.Agreements.{is_open}
use Rattle.tree_collide.specs.Alike.{CellsAlike, AreAlike}
use Rattle.tree_collide.proofs.Keeping.{preimage_kept, row_bytes_kept}
use Rattle.tree_collide.proofs.OneTree.{one_cells, one_tree}

pub row_bytes_alike : (cs ds : List Cell) → CellsAlike 0 cs ds → row_bytes cs ≡ row_bytes ds
row_bytes_alike cs ds a =
    let one = one_cells 0 cs ds a in row_bytes_kept cs one.0 one.1 ∙ sym (row_bytes_kept ds one.0 one.2)

pub preimage_alike : (p q : RowTree) → is_open p ≡ true → is_open q ≡ true → AreAlike p q → preimage p ≡ preimage q
preimage_alike p q o u a =
    let one = one_tree p q a in preimage_kept p one.0 o one.1 ∙ sym (preimage_kept q one.0 u one.2)
