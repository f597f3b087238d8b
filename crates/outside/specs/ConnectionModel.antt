-- Connections, one after another.
use Rattle.std.specs.Prelude.{◌≡◌, ℕ, ◌<◌, ◌≤◌, ◌↔◌, Bool, true, false, cond, List, [], ◌∷◌, ◌++◌, length, take, drop, Option, option_map, nat_lt, slice_index_or}

-- what a network is at a moment
pub record ConnectionModel : Type 0 where
  pub stands : Bool  -- a connection stands
  pub coming : List ℕ  -- the bytes to come on it
  pub sent : List ℕ  -- the bytes put on it
  pub queue : List (List ℕ)  -- the connections to come, each by its bytes to come
  pub past : List (List ℕ)  -- the bytes put on each that was closed

-- no connection stands yet, and these are to come
abbrev pub with_queue : List (List ℕ) → ConnectionModel
with_queue queue = record { stands = false; coming = []; sent = []; queue = queue; past = [] }

-- n bytes were taken
abbrev pub take_from : ℕ → ConnectionModel → ConnectionModel
take_from n wire = record wire { coming = drop n wire.coming }

-- this piece was put
abbrev pub send_on : List ℕ → ConnectionModel → ConnectionModel
send_on piece wire = record wire { sent = wire.sent ++ piece }

-- the connection, if one stands, is ended, and what was put on it is kept
abbrev pub close_wire : ConnectionModel → ConnectionModel
close_wire wire = record wire {
  stands = false;
  coming = [];
  sent = [];
  past = cond wire.stands (wire.past ++ wire.sent ∷ []) wire.past;
}

-- the first connection to come stands, and any that stood before is ended
abbrev pub open_next : ConnectionModel → ConnectionModel
open_next wire = record (close_wire wire) {
  stands = true;
  coming = slice_index_or wire.queue 0 [];
  queue = drop 1 wire.queue;
}

abbrev pub has_next : ConnectionModel → Bool
has_next wire = nat_lt 0 (length wire.queue)

-- the same, where the wire is known
abbrev pub take_known : ℕ → Option ConnectionModel → Option ConnectionModel
take_known n wire = option_map (take_from n) wire

abbrev pub send_known : List ℕ → Option ConnectionModel → Option ConnectionModel
send_known piece wire = option_map (send_on piece) wire

abbrev pub close_known : Option ConnectionModel → Option ConnectionModel
close_known wire = option_map close_wire wire

abbrev pub open_known : Option ConnectionModel → Option ConnectionModel
open_known wire = option_map open_next wire

-- a call that took n bytes put them in front; with room for some, none is the end
pub record Gets (n : ℕ) (coming before after : List ℕ) : Type 0 where
  pub fits : n ≤ length coming
  pub filled : after ≡ take n coming ++ drop n before
  pub end : 0 < length before → (n ≡ 0) ↔ (coming ≡ [])
