-- Where a script stops whose link fails.
use Rattle.std.specs.Prelude.{◌≡◌, ◌≢◌, ◌⊎◌, ℕ, ◌<◌, ◌≤◌, List, [], ◌∷◌, ◌++◌, take}
use Rattle.outside.specs.ConnectionModel.{ConnectionModel, take_from, send_on}
use Rattle.link_frames.specs.Scripts.{Event, Puts, Takes, Does, wire_next, others}

-- The connection in the midst of an event of its own, with these behind it: a front of the frame was
-- put; or some of the bytes were taken, and not all of them where anything is due behind them.
abbrev pub IsBegunOnLink : {X : Type 0} → Event X → List (Event X) → ConnectionModel
    → ConnectionModel → Type 0
IsBegunOnLink (Puts frame) behind before after =
    (n : ℕ) × (after ≡ send_on (take n frame) before)
IsBegunOnLink (Takes count) behind before after =
    (n : ℕ) × (n ≤ count) × (behind ≢ [] → n < count) × (after ≡ take_from n before)
IsBegunOnLink (Does x) behind before after = ⊥

-- The events were done up to one of the connection, in the midst of which it stopped, and this
-- besides: all that was due before it.
abbrev pub StopsOnLink : {X : Type 0} → List (Event X) → List X → ConnectionModel → ConnectionModel
    → Type 0
StopsOnLink [] done before after = ⊥
StopsOnLink (event ∷ events) done before after =
    ((done ≡ []) × IsBegunOnLink event events before after)
    ⊎ ((later : List _) × (done ≡ others (event ∷ []) ++ later)
    × StopsOnLink events later (wire_next event before) after)
