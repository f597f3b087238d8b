use Rattle.cli_args.specs.Commands.{with_command}
use Rattle.cli_args.specs.Forms.{app_for}
use Rattle.cli_args.proofs.Folds.{one_more}
use Rattle.cli_args.proofs.commands.program.Goals as goal

pub loop-form-preserved : goal.loop-form-preserved
loop-form-preserved c = one_more with_command app_for _ _ _ _ _ _ c.loop-form-test.true c.in_ok-program.ensures c.loop-form.invariant
