use Rattle.std.proofs.Common.{arith}
use Rattle.owner_state.proofs.BatchLoadable.{batch_is_read}
use Rattle.owner_state.proofs.entry_reading.batch_of.Goals as goal

pub returns : goal.returns
returns c = batch_is_read c.args.bytes.now c.read_batch.result (λ i. omega (arith, c.type_inv.bytes i)) c.read_batch.ensures.found c.read_batch.ensures.only
