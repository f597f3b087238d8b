use Rattle.root_laws.proofs.BatchSteps.{batch_followed}
use Rattle.root_laws.proofs.parts_are_followed.Goals as goal

pub returns : goal.returns
returns c = λ stored version batch trees standing fits parts. batch_followed version batch trees stored fits.each standing parts
