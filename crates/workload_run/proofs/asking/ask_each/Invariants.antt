use Rattle.std.proofs.Common.{◌≡◌, length, take}
use Rattle.vo_spec.specs.Tables.{tables_after}
use Rattle.workload_run.specs.Parties.{batches_behind}
use Rattle.workload_run.specs.Readers.{AreReadersOf}
use Rattle.workload_run.specs.Running.{rows_given}
use Rattle.workload_run.proofs.asking.ask_each.Given as goal

-- the queries so far are counted
abbrev pub invariant-loop-query : goal.invariant-loop-query
invariant-loop-query l = record {
  answers : l.counts.answers ≡ l.query-index;
  exact : l.counts.exact ≡ l.query-index;
  rows : l.counts.rows ≡ length
      (rows_given (tables_after (batches_behind l.parties)) (take l.query-index l.queries));
  readers : AreReadersOf l.parties l.readers;
}
