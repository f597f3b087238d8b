use Rattle.std.proofs.Common.{arith}
use Rattle.row_bytes.proofs.ValueLaws.{is_found, is_taken}
use Rattle.row_bytes.proofs.reading.front_value.Goals as goal

pub returns-clause-found : goal.returns-clause-found
returns-clause-found c = is_found c.args.bytes.now c.value_at.result (λ i. omega (arith, c.type_inv.bytes i)) c.value_at.ensures

pub returns-clause-only : goal.returns-clause-only
returns-clause-only c = λ v rest fits e. is_taken c.args.bytes.now c.value_at.result v rest c.value_at.ensures fits e
