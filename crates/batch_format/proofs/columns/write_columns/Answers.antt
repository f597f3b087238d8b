use Rattle.vo_spec.specs.Batches.{FitsColumn}
use Rattle.batch_format.proofs.Fitting.{item_fits}
use Rattle.batch_format.proofs.columns.write_columns.Goals as goal

pub write_column-requires : goal.write_column-requires
write_column-requires g c = item_fits FitsColumn c.args.columns.now c.loop-column.column-index _ c.requires.2 c.loop-column-test.true c.column-item.is
