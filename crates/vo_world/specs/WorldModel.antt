-- A world: an owner with its journal on a disk that never fails, its clients, and what was sent and
-- accepted so far.
use Rattle.std.specs.Prelude.{ℕ, List, map}
use Rattle.outside.specs.DiskModel.{DiskModel}
use Rattle.vo_spec.specs.declared.records.Entry.{Entry}
use Rattle.vo_spec.specs.declared.records.Record.{Record}
use Rattle.vo_spec.specs.Secret.{Secret}
use Rattle.owner_roots.specs.declared.roots.Roots.{Roots}
use Rattle.vo_check.specs.declared.client.Client.{Client}
use Rattle.vo_world.specs.declared.events.AcceptedReply.{AcceptedReply}

pub record WorldModel : Type 0 where
  pub key : Secret
  pub roots : Roots  -- the owner's, behind the last entry
  pub entries : List Entry  -- the journal's
  pub drive : DiskModel  -- on which the journal stands
  pub since : ℕ  -- the disk's moment as the last event began
  pub leasts : List ℕ  -- the least version that each client takes
  pub accepted : List AcceptedReply  -- oldest first
  pub released : List Record  -- of which anybody may know

-- the records of entries
abbrev pub records_of : List Entry → List Record
records_of es = map (λ (e : Entry). e.rec) es

-- the least version that a client takes
abbrev pub least_of : Client → ℕ
least_of client = client.least
