-- An auditor that has read the journal of a key's owner.
use Rattle.std.specs.Prelude.{ℕ, List}
use Rattle.owner_roots.specs.Owners.{IsOwned}
use Rattle.owner_state.specs.declared.journals.OwnedJournal.{OwnedJournal}
use Rattle.owner_state.specs.Departing.{Departs}
use Rattle.vo_audit.specs.Auditing.{IsReadAt}

-- what contracts see of one: the owner's key, and the bytes of its journal
pub record AuditorState : Type 0 where
  pub key : List ℕ
  pub journal : List ℕ

-- the bytes are that owner's journal, and this is what was read of it with the tables of a version
pub record IsReadOf (s : AuditorState) (version : ℕ) (read : OwnedJournal) : Type 0 where
  pub owned : IsOwned s.key s.journal read.entries
  pub departs : Departs s.key read.entries read.departure
  pub at : IsReadAt version read
