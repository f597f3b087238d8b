use Rattle.vo_laws.proofs.StepLaws.{trees_follow, tables_follow, no_commands_fit, no_tables_before, no_trees_before, both_take, same_refusal}
use Rattle.vo_laws.proofs.journals.trees_follow_batches.Goals as goal

pub returns : goal.returns
returns c = record {
  trees = trees_follow;
  tables = tables_follow;
  no_commands_fit = no_commands_fit;
  no_tables_before = no_tables_before;
  no_trees_before = no_trees_before;
  accepted = both_take;
  refused = same_refusal;
}
