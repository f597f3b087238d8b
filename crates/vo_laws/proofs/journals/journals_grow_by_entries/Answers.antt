use Rattle.vo_laws.proofs.EntryLaws.{taken_first, taken_grows, taken_front}
use Rattle.vo_laws.proofs.journals.journals_grow_by_entries.Goals as goal

pub returns : goal.returns
returns c = record {
  taken_first = taken_first;
  taken_grows = taken_grows;
  taken_front = taken_front;
}
