use Rattle.std.proofs.Common.{◌≡◌, map, drop}
use Rattle.std.specs.Prelude.{fold}
use Rattle.clap.specs.Words.{app_of}
use Rattle.cli_args.specs.Commands.{program_app, with_command}
use Rattle.cli_args.specs.Forms.{app_for}
use Rattle.cli_args.proofs.commands.program.Given as goal

-- the commands that are left make of it the whole command line
abbrev pub invariant-loop-form : goal.invariant-loop-form
invariant-loop-form l = fold with_command (app_of l.program) (map app_for (drop l.form-index l.form-items)) ≡ program_app
