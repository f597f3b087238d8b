use Rattle.row_bytes.proofs.ValueLaws.{one_value}
use Rattle.row_bytes.proofs.reading.one_encoding.Goals as goal

pub returns : goal.returns
returns c = λ v w a b fits fits' e. one_value v w a b fits fits' e
