-- The limits of texts.
use Rattle.std.specs.Prelude.{ℕ}

-- how many bytes a query or a batch has at most, and a script
abbrev pub max_sql_bytes : ℕ
max_sql_bytes = 65536

abbrev pub max_script_bytes : ℕ
max_script_bytes = 16777216

-- in how many levels of NOT and parentheses conditions may nest
abbrev pub max_nesting : ℕ
max_nesting = 32

-- how many columns a query may name behind SELECT
abbrev pub max_items : ℕ
max_items = 64
