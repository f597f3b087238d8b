use Rattle.std.proofs.Common.{◌≡◌, map, drop, false}
use Rattle.std.specs.Prelude.{fold}
use Rattle.clap.specs.Words.{app_of, with_rule}
use Rattle.clap.specs.declared.builder.command.Command.TheViews.{out-Command as fields_of}
use Rattle.cli_args.specs.Forms.{app_for, rule_for}
use Rattle.cli_args.proofs.commands.command.Given as goal

-- the rules that are left make of it the whole command
abbrev pub invariant-loop-takes : goal.invariant-loop-takes
invariant-loop-takes l = record {
  shape : fold with_rule (app_of l.command) (map rule_for (drop l.takes-index l.form.takes.now)) ≡ app_for l.form;
  local : (fields_of l.command).has_globals ≡ false;
}
