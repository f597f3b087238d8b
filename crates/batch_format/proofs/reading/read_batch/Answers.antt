use Rattle.std.proofs.Common.{arith}
use Rattle.batch_format.proofs.BatchLaws.{is_batch, is_read}
use Rattle.batch_format.proofs.reading.read_batch.Goals as goal

pub returns-clause-found : goal.returns-clause-found
returns-clause-found c = is_batch c.args.bytes.now c.batch_of.result (λ i. omega (arith, c.type_inv.bytes i)) c.batch_of.ensures

pub returns-clause-only : goal.returns-clause-only
returns-clause-only c = λ commands is. is_read c.args.bytes.now c.batch_of.result commands c.batch_of.ensures is
