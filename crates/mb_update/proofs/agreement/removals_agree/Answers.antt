use Rattle.mb_update.proofs.RowPruning.{removed_agrees}
use Rattle.mb_update.proofs.agreement.removals_agree.Goals as goal

pub returns : goal.returns
returns c = removed_agrees
