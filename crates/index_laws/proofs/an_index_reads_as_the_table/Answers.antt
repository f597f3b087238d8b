use Rattle.index_laws.specs.Indexes.{index_rows}
use Rattle.vo_laws.proofs.WholeScans.{whole_scan}
use Rattle.index_laws.proofs.IndexReads.{reads_as_table, reads_interval}
use Rattle.index_laws.proofs.an_index_reads_as_the_table.Goals as goal

pub returns : goal.returns
returns c = record {
  rows = reads_as_table;
  shared = reads_interval;
  scanned = λ cell need t rows. whole_scan need t (index_rows cell rows);
}
