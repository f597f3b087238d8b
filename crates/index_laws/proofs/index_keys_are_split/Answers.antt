use Rattle.index_laws.proofs.IndexKeys.{value_split, key_split, value_read, key_whole, key_of_row}
use Rattle.index_laws.proofs.index_keys_are_split.Goals as goal

pub returns : goal.returns
returns c = record {
  value = value_split;
  key = key_split;
  read = value_read;
  whole = key_whole;
  row_key = key_of_row;
}
