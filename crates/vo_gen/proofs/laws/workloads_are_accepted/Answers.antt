use Rattle.vo_gen.proofs.Accepted.{workload_accepted, workload_table, workload_few, workload_stands, workload_drawn}
use Rattle.vo_gen.proofs.laws.workloads_are_accepted.Goals as goal

pub returns : goal.returns
returns c = record {
  accepted = workload_accepted;
  table = workload_table;
  few = workload_few;
  rows = workload_stands;
  no_others = workload_drawn;
}
