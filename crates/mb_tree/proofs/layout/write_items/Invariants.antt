use Rattle.std.proofs.Common.{ℕ, ◌<◌, take, flat_map, get_or}
use Rattle.row_bytes.specs.Writing.{Writes}
use Rattle.mb_tree.proofs.layout.write_items.Given as goal

-- the items so far are written, and they fit
abbrev pub invariant-loop-item : goal.invariant-loop-item
invariant-loop-item g l =
    Writes g.W.ByteSink.HoldsBytes l.initial.writer l.writer (flat_map g.I.NodeItem.bytes (take l.item-index l.items))
    × ((k : ℕ) (d : _) → k < l.item-index → g.I.NodeItem.Fits (get_or l.items k d))
