-- A reply over a connection that is made for it.
use Rattle.std.specs.Prelude.{◌≡◌, ◌⊎◌, ℕ, List, Option, Some, Result, Err, IsTrue}
use Rattle.outside.specs.ConnectionModel.{ConnectionModel, open_next, has_next}
use Rattle.link_frames.specs.declared.awaits.Awaits.TheVariants.{Reply}
use Rattle.link_frames.specs.Frames.{first_frame}
use Rattle.connections.specs.declared.wire_fault.WireFault.{WireFault}
use Rattle.connections.specs.declared.wire_fault.WireFault.TheVariants.{LinkFault}
use Rattle.connections.specs.Requesting.{RequestsInto}

-- No connection was made, and nothing changed; or the first of those to come was, and the reply
-- requested on it, whose bytes are some of which this holds.
abbrev pub Fetches : (List ℕ → Type 0) → List ℕ → Result (Unit {0}) WireFault → ConnectionModel
    → Option ConnectionModel → Type 0
Fetches Is frame result before after =
    ((result ≡ Err LinkFault) × (after ≡ Some before))
    ⊎ (IsTrue (has_next before)
    × RequestsInto Is frame (first_frame Reply (open_next before).coming) result (open_next before)
    after)
