use Rattle.std.proofs.Common.{arith}
use Rattle.vo_format.proofs.BatchProofLaws.{are_proofs, are_none, proofs_are_read}
use Rattle.vo_format.proofs.batch_proofs.read_proofs.Goals as goal

pub returns-clause-found : goal.returns-clause-found
returns-clause-found c = are_proofs c.args.bytes.now c.proofs_in.result (λ i. omega (arith, c.type_inv.bytes i)) c.proofs_in.ensures

pub returns-clause-bad : goal.returns-clause-bad
returns-clause-bad c = λ bad trees is. are_none c.args.bytes.now c.proofs_in.result c.proofs_in.ensures bad trees is

pub returns-clause-only : goal.returns-clause-only
returns-clause-only c = λ trees is. proofs_are_read c.args.bytes.now c.proofs_in.result trees c.proofs_in.ensures is
