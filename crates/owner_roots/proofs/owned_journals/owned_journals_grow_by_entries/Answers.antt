use Rattle.owner_roots.proofs.OwnedLaws.{next_version, number, owned_first, owned_front, owned_grows, owned_to, version}
use Rattle.owner_roots.proofs.owned_journals.owned_journals_grow_by_entries.Goals as goal

pub returns : goal.returns
returns c = record {
  first = owned_first;
  grows = owned_grows;
  owned = owned_to;
  front = owned_front;
  next_version = next_version;
  version = version;
  number = number;
}
