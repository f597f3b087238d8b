use Rattle.mb_update.proofs.RowPruning.{replaced_agrees}
use Rattle.mb_update.proofs.agreement.replacements_agree.Goals as goal

pub returns : goal.returns
returns c = λ key changes. replaced_agrees changes key
