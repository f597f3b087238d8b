use Rattle.std.proofs.Common.{◌≡◌, ◌++◌, take, map}
use Rattle.tree_stream.specs.Findings.{cell_kind_of}
use Rattle.tree_stream.proofs.target.push_kinds.Given as goal

abbrev pub invariant-loop-column : goal.invariant-loop-column
invariant-loop-column l =
    l.kinds.items
    ≡ l.initial.kinds.items ++ map cell_kind_of (take l.column-index l.columns)
