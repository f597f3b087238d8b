use Rattle.mb_update.proofs.RowPruning.{row_agrees, inserted_agrees}
use Rattle.mb_update.proofs.agreement.insertions_agree.Goals as goal

pub returns : goal.returns
returns c = record { row = row_agrees; entry = λ e f p t new prunes. inserted_agrees e f p t new prunes }
