-- What `clap` holds a command's words and options to.
use Rattle.std.specs.Prelude.{map}
use Rattle.clap.specs.Words.{App, Rule}
use Rattle.cli_args.specs.Commands.{command_of, word_rule, option_rule}
use Rattle.cli_args.specs.declared.commands.Form.{Form}
use Rattle.cli_args.specs.declared.commands.Argument.{Argument}
use Rattle.cli_args.specs.declared.commands.Argument.TheVariants.{Word, Named}

abbrev pub rule_for : Argument → Rule
rule_for (Word id) = word_rule id.now
rule_for (Named id) = option_rule id.now

abbrev pub app_for : Form → App
app_for form = command_of form.name.now (map rule_for form.takes.now)
