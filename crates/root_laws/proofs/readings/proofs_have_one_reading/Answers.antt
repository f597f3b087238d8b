use Rattle.root_laws.proofs.OneAnswer.{one_list, one_answer}
use Rattle.root_laws.proofs.readings.proofs_have_one_reading.Goals as goal

pub returns : goal.returns
returns c = record { trees = one_list; answer = one_answer }
