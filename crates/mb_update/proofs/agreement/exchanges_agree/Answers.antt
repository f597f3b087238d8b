use Rattle.mb_update.proofs.RowExchanges.{exchanged_agrees}
use Rattle.mb_update.proofs.agreement.exchanges_agree.Goals as goal

pub returns : goal.returns
returns c = exchanged_agrees
