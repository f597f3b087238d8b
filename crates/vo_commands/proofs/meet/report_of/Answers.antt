use Rattle.std.proofs.Common.{Err}
use Rattle.vo_commands.proofs.CommandSteps.{meet_refused}
use Rattle.vo_commands.proofs.meet.report_of.Goals as goal

pub returns-in-Err-clause-known : goal.returns-in-Err-clause-known
returns-in-Err-clause-known c =
    λ key q first second told. meet_refused c.args.met.now c.in-Err.fault (Err c.refusal_of.result) key q first second c.in-Err.is c.refusal_of.ensures.known told
