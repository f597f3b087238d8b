use Rattle.std.proofs.Common.{arith}
use Rattle.std.proofs.lemmas.Grind.{common_steps}
use Rattle.mb_update.proofs.ChangedCells.{SetSoFar, one_more}
use Rattle.mb_update.proofs.tree_rows.set_values.Goals as goal

pub loop-set-preserved : goal.loop-set-preserved
loop-set-preserved c =
    let far : SetSoFar c.args.sets.now c.loop-set.set-index c.args.values.now.items c.loop-set.values.items = record { value = c.loop-set.invariant.value; fits = c.loop-set.invariant.fits } in
    let m = one_more c.args.sets.now c.loop-set.set-index c.args.values.now.items c.loop-set.values.items _ c.set-item.result c.loop-set-test.true c.set-item.is c.requires.sets far c.in_ok-set_value.ensures in
    record { value = m.value; fits = m.fits }

pub returns-clause-value : goal.returns-clause-value
returns-clause-value c = grind (arith, common_steps)

pub returns-clause-fits : goal.returns-clause-fits
returns-clause-fits c = grind (arith, common_steps)
