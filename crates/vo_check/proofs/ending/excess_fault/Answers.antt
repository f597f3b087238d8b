use Rattle.std.proofs.Common.{inr, refl}
use Rattle.vo_check.proofs.ending.excess_fault.Goals as goal

pub returns-in_default-clause-fault : goal.returns-in_default-clause-fault
returns-in_default-clause-fault c = inr refl
