use Rattle.vo_laws.proofs.OneCut.{one_cut}
use Rattle.vo_laws.proofs.limits.one_walk_cuts_once.Goals as goal

pub returns : goal.returns
returns c = one_cut
