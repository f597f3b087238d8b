use Rattle.std.proofs.Common.{arith}
use Rattle.sql_text.proofs.LongBatches.{place_fits}
use Rattle.sql_text.proofs.scripts.short_len.Goals as goal

pub overflow_add-start : goal.overflow_add-start
overflow_add-start c = place_fits c.args.list.now c.tokens.place _ c.requires.places (omega (arith, c.tokens-test.true))
