use Rattle.index_laws.proofs.IndexReads.{index_put, index_removed}
use Rattle.index_laws.proofs.IndexUpdates.{index_kept, index_moved}
use Rattle.index_laws.proofs.an_index_follows_the_table.Goals as goal

pub returns : goal.returns
returns c = record {
  put = index_put;
  removed = index_removed;
  kept = λ k cell changes row rows fits. index_kept k cell changes row fits rows;
  moved = λ k cell changes row rows fits. index_moved k cell changes row fits rows;
}
