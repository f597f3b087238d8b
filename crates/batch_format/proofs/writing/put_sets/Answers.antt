use Rattle.vo_spec.specs.Batches.{FitsSet}
use Rattle.batch_format.proofs.Fitting.{item_fits}
use Rattle.batch_format.proofs.writing.put_sets.Goals as goal

pub put_set-requires : goal.put_set-requires
put_set-requires c = item_fits FitsSet c.args.sets.now c.loop-part.part-index _ c.requires.2 c.loop-part-test.true c.part-item.is
