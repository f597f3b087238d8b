-- The fault of a text by that of its tokens.
use Rattle.sql_tokens.specs.declared.lexemes.LexFault.{LexFault}
use Rattle.sql_tokens.specs.declared.lexemes.LexFault.TheVariants.{Memory, At}
use Rattle.sql_tokens.specs.declared.lexemes.TokenFault.TheVariants as lapse
use Rattle.sql_text.specs.declared.faults.SqlFault.{SqlFault}
use Rattle.sql_text.specs.declared.faults.SqlFault.TheVariants as fault

abbrev pub of_tokens : LexFault → SqlFault
of_tokens Memory = fault.Memory
of_tokens (At lapse.Token at) = fault.Token at
of_tokens (At lapse.Literal at) = fault.Literal at
of_tokens (At lapse.Name at) = fault.Name
