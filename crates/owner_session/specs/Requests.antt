-- What a session puts on the connection: requests to the store.
use Rattle.std.specs.Prelude.{◌≡◌, ℕ, List, [], ◌++◌, take, flat_map, All, Contains}
use Rattle.outside.specs.ConnectionModel.{ConnectionModel}
use Rattle.link_frames.specs.declared.frame_kind.FrameKind.TheVariants.{Status, Propose, Install}
use Rattle.link_frames.specs.Frames.{frame_bytes}
use Rattle.owner_session.specs.SessionWork.{Forms}

-- the store is asked where it stands; a batch is proposed; an entry is installed
pub data Request (B E : Type 0) : Type 0 where
  AsksStanding : Request B E
  Proposes : (batch : B) → Request B E
  Installs : (entry : E) → Request B E

abbrev pub request_bytes : {B E : Type 0} → Forms B E → Request B E → List ℕ
request_bytes forms AsksStanding = frame_bytes Status []
request_bytes forms (Proposes batch) = frame_bytes Propose (forms.proposal batch)
request_bytes forms (Installs entry) = frame_bytes Install (forms.install entry)

-- what it proposes is one of these batches, and what it installs one of these entries
abbrev pub IsRequestOf : {B E : Type 0} → List B → List E → Request B E → Type 0
IsRequestOf batches entries AsksStanding = Unit {0}
IsRequestOf batches entries (Proposes batch) = Contains batches batch
IsRequestOf batches entries (Installs entry) = Contains entries entry

-- What was put is a front of such requests, one behind the other: the last may be there in part.
pub record PutsRequests {B E : Type 0} (forms : Forms B E) (batches : List B) (entries : List E)
    (before after : ConnectionModel) : Type 0 where
  pub requests : List (Request B E)
  pub count : ℕ
  pub sent : after.sent ≡ before.sent ++ take count (flat_map (request_bytes forms) requests)
  pub each : All (IsRequestOf batches entries) requests
