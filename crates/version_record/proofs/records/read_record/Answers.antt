use Rattle.std.proofs.Common.{◌∙◌, arith}
use Rattle.version_record.proofs.RecordLaws.{is_record, is_read}
use Rattle.version_record.proofs.records.read_record.Goals as goal

pub returns-clause-found : goal.returns-clause-found
returns-clause-found c = is_record c.args.bytes.now c.record_in.result (λ i. omega (arith, c.type_inv.bytes i)) c.record_in.ensures

pub returns-clause-only : goal.returns-clause-only
returns-clause-only c = λ rec is. c.record_in.ensures ∙ is_read c.args.bytes.now rec is
