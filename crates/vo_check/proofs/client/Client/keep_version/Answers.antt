use Rattle.std.proofs.Common.{refl}
use Rattle.vo_check.proofs.client.Client.keep_version.Goals as goal

pub returns-in-Ok-clause-least : goal.returns-in-Ok-clause-least
returns-in-Ok-clause-least c = rw c.in-Ok.is refl
