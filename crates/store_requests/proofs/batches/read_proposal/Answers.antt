use Rattle.std.proofs.Common.{Err, Some, sym, subst, arith}
use Rattle.row_bytes.specs.declared.read_fault.ReadFault.{ReadFault}
use Rattle.batch_format.specs.BatchReading.{BatchRead}
use Rattle.store_requests.proofs.BatchReadings.{batch_read, no_batch}
use Rattle.store_requests.proofs.batches.read_proposal.Goals as goal

pub returns-in-Ok-clause-value : goal.returns-in-Ok-clause-value
returns-in-Ok-clause-value c = sym (batch_read c.args.body.now c.in-Ok.batch.commands c.in-Ok.ensures.found)

pub returns-in-Err-BadForm-clause-value : goal.returns-in-Err-BadForm-clause-value
returns-in-Err-BadForm-clause-value c =
    sym (no_batch c.args.body.now (λ i. omega (arith, c.type_inv.body i))
    (λ commands is. subst (λ (why : ReadFault). BatchRead (Err why) (Some commands)) c.in-Err-BadForm.field-0-is (c.in-Err-BadForm.ensures.only commands is)))
