-- Scripts: what is to happen on a connection, in order, and beside it.
use Rattle.std.specs.Prelude.{◌≡◌, ℕ, ◌⊎◌, ◌≤◌, List, [], ◌∷◌, ◌++◌, take}
use Rattle.outside.specs.ConnectionModel.{ConnectionModel, take_from, send_on}

-- a frame is put, bytes are taken, or something else is done
pub data Event (X : Type 0) : Type 0 where
  Puts : (frame : List ℕ) → Event X
  Takes : (count : ℕ) → Event X
  Does : X → Event X

-- events in order, and what comes out in the end
pub record Script (X A : Type 0) : Type 0 where
  pub events : List (Event X)
  pub value : A

-- the script, with these events before it
abbrev pub behind : {X A : Type 0} → List (Event X) → Script X A → Script X A
behind events script = record script { events = events ++ script.events }

-- the connection once an event is done
abbrev pub wire_next : {X : Type 0} → Event X → ConnectionModel → ConnectionModel
wire_next (Puts frame) before = send_on frame before
wire_next (Takes count) before = take_from count before
wire_next (Does x) before = before

-- the connection once all are
abbrev pub wire_after : {X : Type 0} → List (Event X) → ConnectionModel → ConnectionModel
wire_after [] before = before
wire_after (event ∷ events) before = wire_after events (wire_next event before)

-- what else is done
abbrev pub others : {X : Type 0} → List (Event X) → List X
others [] = []
others (Puts frame ∷ events) = others events
others (Takes count ∷ events) = others events
others (Does x ∷ events) = x ∷ others events

-- the connection in the midst of an event: a front of the frame was put, or some of the bytes were
-- taken
abbrev pub IsBegun : {X : Type 0} → Event X → ConnectionModel → ConnectionModel → Type 0
IsBegun (Puts frame) before after = (n : ℕ) × (after ≡ send_on (take n frame) before)
IsBegun (Takes count) before after = (n : ℕ) × (n ≤ count) × (after ≡ take_from n before)
IsBegun (Does x) before after = after ≡ before

-- all events were done, and this besides
pub record IsDone {X : Type 0} (events : List (Event X)) (done : List X)
    (before after : ConnectionModel) : Type 0 where
  pub others_are : done ≡ others events
  pub wire_is : after ≡ wire_after events before

-- The events were done up to one in the midst of which it stopped, and this besides; or all were.
abbrev pub Stops : {X : Type 0} → List (Event X) → List X → ConnectionModel → ConnectionModel
    → Type 0
Stops [] done before after = (done ≡ []) × (after ≡ before)
Stops (event ∷ events) done before after =
    ((done ≡ []) × IsBegun event before after)
    ⊎ ((later : List _) × (done ≡ others (event ∷ []) ++ later)
    × Stops events later (wire_next event before) after)
