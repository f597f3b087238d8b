use Rattle.vo_laws.proofs.ExactOutcomes.{exact}
use Rattle.vo_laws.proofs.complete_proofs_show_the_result.Goals as goal

pub returns : goal.returns
returns c = exact
