use Rattle.std.proofs.Common.{◌∙◌, ap}
use Rattle.clap.specs.Words.{app_of, with_rule}
use Rattle.cli_args.specs.Forms.{rule_for}
use Rattle.cli_args.proofs.Folds.{one_more}
use Rattle.cli_args.proofs.commands.command.Goals as goal

pub loop-takes-preserved : goal.loop-takes-preserved
loop-takes-preserved c = record {
  shape = one_more with_rule rule_for _ _ _ _ _ _ c.loop-takes-test.true
      (c.in_ok-command.ensures.shape c.arg_for.ensures.local ∙ ap (with_rule (app_of c.loop-takes.command)) c.arg_for.ensures.rule)
      c.loop-takes.invariant.shape;
  local = let globals = c.in_ok-command.ensures.globals in
      rw (c.loop-takes.invariant.local, c.arg_for.ensures.local) at globals;
}
