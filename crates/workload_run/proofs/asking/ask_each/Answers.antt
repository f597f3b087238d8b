use Rattle.std.proofs.Common.{◌+◌, ◌<◌, ◌^◌, length, arith}
use Rattle.vo_spec.specs.Tables.{tables_after}
use Rattle.workload_run.specs.Parties.{batches_behind}
use Rattle.workload_run.specs.Running.{rows_given}
use Rattle.workload_run.proofs.CountLaws.{rows_next, rows_within}
use Rattle.workload_run.proofs.asking.ask_each.Goals as goal

pub overflow_add-counts-in-loop-query : goal.overflow_add-counts-in-loop-query
overflow_add-counts-in-loop-query c =
    let tables = tables_after (batches_behind c.args.parties.now) in
    let index = c.loop-query.query-index in
    let next = rows_next tables c.args.queries.now index c.query-item.result c.loop-query-test.true
    c.query-item.is in
    let within = rows_within tables c.args.queries.now (index + 1) in
    let few : length (rows_given tables c.args.queries.now) < 2 ^ 64 = c.requires.few in
    omega (
      arith,
      next,
      within,
      few,
      c.loop-query.invariant.rows,
      c.in_ok-judged.ensures.rows,
    )
