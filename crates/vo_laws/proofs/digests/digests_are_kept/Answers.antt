use Rattle.vo_spec.specs.Pruning.{shown_row}
use Rattle.vo_laws.proofs.PrunedLaws.{row_digest_same, row_shown_prune, entry_bytes_same, digest_same}
use Rattle.vo_laws.proofs.digests.digests_are_kept.Goals as goal

pub returns : goal.returns
returns c = record {
  row = row_digest_same;
  columns = λ columns row. row_digest_same (shown_row columns row) row (row_shown_prune columns row);
  entry = entry_bytes_same;
  tree = digest_same;
}
