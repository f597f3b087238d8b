use Rattle.vo_commands.proofs.OwnSteps.{batches_prepared}
use Rattle.vo_commands.proofs.own.take_batches.Goals as goal

pub returns-clause-known : goal.returns-clause-known
returns-clause-known g c =
    batches_prepared c.args.script.now c.in_ok-bytes.bytes.items c.script_batches.result (g.F.Shelf.contents c.args.files.now) c.in_ok-bytes.ensures.known
    (rw c.deref.ensures.value at c.script_batches.ensures.known)
