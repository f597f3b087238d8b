use Rattle.std.proofs.Common.{◌∷◌, length, take}
use Rattle.std.specs.List.{flat_map}
use Rattle.vo_spec.specs.Batches.{column_bytes}
use Rattle.row_bytes.specs.Writing.{Writes}
use Rattle.batch_format.proofs.columns.write_columns.Given as goal

-- the columns so far are written, behind their number
abbrev pub invariant-loop-column : goal.invariant-loop-column
invariant-loop-column g l =
    Writes g.S.ByteSink.HoldsBytes l.fn.sink l.sink (length l.columns ∷ flat_map column_bytes (take l.column-index l.columns))
