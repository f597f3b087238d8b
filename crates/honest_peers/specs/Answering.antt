-- What an honest store puts on a connection.
use Rattle.std.specs.Prelude.{◌≡◌, ℕ, ◌+◌, ◌≤◌, List, [], ◌∷◌, ◌++◌}
use Rattle.link_frames.specs.declared.end.End.{End}
use Rattle.link_frames.specs.Scripts.{Event, Puts, Takes, Does, Script, others}
use Rattle.link_frames.specs.Serving.{last_state, max_turns, serving_script}
use Rattle.vo_store.specs.StoreState.{StoreState}
use Rattle.vo_wire.specs.Answering.{next_after, reply_to}

-- The frames that are put on a connection, as bytes, and how many they are.

abbrev pub bytes_put : {X : Type 0} → List (Event X) → List ℕ
bytes_put [] = []
bytes_put (Puts frame ∷ events) = frame ++ bytes_put events
bytes_put (Takes count ∷ events) = bytes_put events
bytes_put (Does x ∷ events) = bytes_put events

abbrev pub frames_put : {X : Type 0} → List (Event X) → ℕ
frames_put [] = 0
frames_put (Puts frame ∷ events) = frames_put events + 1
frames_put (Takes count ∷ events) = frames_put events
frames_put (Does x ∷ events) = frames_put events

-- how a store that stands so serves a connection on which these events put their frames
abbrev pub service : {X : Type 0} → StoreState → List (Event X) → Script StoreState End
service s events = serving_script reply_to next_after max_turns s (bytes_put events)

-- What comes is what the store puts as it serves the connection, and anything behind it; the store
-- stands so then.
pub record AreServed {X : Type 0} (s : StoreState) (events : List (Event X)) (coming : List ℕ)
    (later : StoreState) : Type 0 where
  pub few : frames_put events ≤ max_turns
  pub comes : (rest : List ℕ) × (coming ≡ bytes_put (service s events).events ++ rest)
  pub later_is : later ≡ last_state s (others (service s events).events)
