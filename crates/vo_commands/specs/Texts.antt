-- The texts that the program takes, and what it prints of others.
use Rattle.std.specs.Prelude.{◌≡◌, ℕ, List, Some}
use Rattle.outside.specs.Outputs.{Output}
use Rattle.vo_spec.specs.Conditions.{Query}
use Rattle.sql_text.specs.declared.faults.SqlFault.{SqlFault}
use Rattle.sql_text.specs.Queries.{query}
use Rattle.sql_text.specs.Limits.{max_sql_bytes}
use Rattle.sql_text.specs.Texts.{IsTextOf, HasFault}
use Rattle.sql_text.specs.Scripts.{HasScriptFault}
use Rattle.vo_commands.specs.Lines.{sql_output}

abbrev pub IsQueryText : List ℕ → Query → Type 0
IsQueryText text q = IsTextOf max_sql_bytes query text q

-- the text is no query, and its first fault is printed
abbrev pub IsRefusedQuery : List ℕ → Output → Type 0
IsRefusedQuery text output =
    (f : SqlFault) × HasFault max_sql_bytes query text f × (sql_output f ≡ Some output)

-- the text is no script, and its first fault is printed
abbrev pub IsRefusedScript : List ℕ → Output → Type 0
IsRefusedScript text output =
    (f : SqlFault) × HasScriptFault text f × (sql_output f ≡ Some output)
