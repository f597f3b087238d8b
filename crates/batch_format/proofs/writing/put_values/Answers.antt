use Rattle.vo_spec.specs.Values.{FitsValue}
use Rattle.batch_format.proofs.Fitting.{item_fits}
use Rattle.batch_format.proofs.writing.put_values.Goals as goal

pub put_value-requires : goal.put_value-requires
put_value-requires c = item_fits FitsValue c.args.values.now c.loop-value.value-index _ c.requires.2 c.loop-value-test.true c.value-item.is
