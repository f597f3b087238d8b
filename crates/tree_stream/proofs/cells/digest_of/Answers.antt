use Rattle.std.proofs.Common.{sym, ap, ◌∙◌}
use Rattle.vo_spec.specs.Cells.{cell_digest}
use Rattle.tree_stream.specs.declared.parse.CellToken.{CellToken}
use Rattle.tree_stream.specs.Parsing.{cell_of}
use Rattle.tree_stream.proofs.cells.digest_of.Goals as goal

pub returns-in-Hidden : goal.returns-in-Hidden
returns-in-Hidden c = c.new.ensures ∙ ap (λ (cell : CellToken). cell_digest c.args.column (cell_of cell)) (sym c.in-Hidden.is)
