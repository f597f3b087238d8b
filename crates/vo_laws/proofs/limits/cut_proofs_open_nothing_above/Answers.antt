use Rattle.vo_laws.proofs.OpenNodes.{opens_nothing}
use Rattle.vo_laws.proofs.limits.cut_proofs_open_nothing_above.Goals as goal

pub returns : goal.returns
returns c = opens_nothing
