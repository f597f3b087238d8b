use Rattle.std.proofs.Common.{sym, ◌∙◌, map, arith}
use Rattle.sql_tokens.specs.Lex.{placed_of}
use Rattle.sql_tokens.proofs.Scanning.{all_read_puts}
use Rattle.sql_tokens.proofs.scan.tokens.Goals as goal

pub returns : goal.returns
returns c = sym c.loop-at.invariant.1 ∙ all_read_puts (map placed_of c.loop-at.list.items) c.args.text.now c.loop-at.at (omega arith)
