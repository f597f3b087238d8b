-- Connections that are served one after the other, and what is written of them.
use Rattle.std.specs.Prelude.{◌≡◌, ◌≢◌, ℕ, ◌<◌, ◌≤◌, List, [], ◌∷◌, ◌++◌, length, take, Option, Some, Result, Ok, Err, IsTrue}
use Rattle.std.specs.List.{AllByRecursion}
use Rattle.outside.specs.FaultRose.{FaultRose}
use Rattle.outside.specs.ConnectionModel.{ConnectionModel, open_next, close_wire, has_next}
use Rattle.outside.specs.Sink.{append_known}
use Rattle.link_frames.specs.declared.end.End.{End}
use Rattle.link_frames.specs.declared.end.End.TheVariants.{LinkFault}
use Rattle.link_frames.specs.Serving.{Reply, Next, serving_script, max_turns, Serves}
use Rattle.connections.specs.declared.serve_fault.ServeFault.{ServeFault}
use Rattle.connections.specs.declared.serve_fault.ServeFault.TheVariants as fault
use Rattle.connections.specs.Lines.{HasLine, end_line, end_lines}

-- A connection was to come. It was opened, served from the old state to the new one, ended so, and
-- was closed.
pub record IsServed {S : Type 0} (reply : Reply S) (next : Next S) (end : End) (old new : S)
    (before after : ConnectionModel) : Type 0 where
  pub came : IsTrue (has_next before)
  pub last : ConnectionModel
  pub serves : Serves (serving_script reply next max_turns old (open_next before).coming)
      end old new (open_next before) last
  pub closed : after ≡ close_wire last

-- the same of connections in turn, each from the state that the one before it left
abbrev pub AreServed : {S : Type 0} → Reply S → Next S → List End → S → S → ConnectionModel
    → ConnectionModel → Type 0
AreServed reply next [] old new before after = (new ≡ old) × (after ≡ before)
AreServed reply next (end ∷ ends) old new before after = (mid : _) × (between : ConnectionModel)
    × IsServed reply next end old mid before between
    × AreServed reply next ends mid new between after

-- the same where the connections are known
abbrev pub AreServedKnown : {S : Type 0} → Reply S → Next S → List End → S → S
    → Option ConnectionModel → Option ConnectionModel → Type 0
AreServedKnown reply next ends old new wire later =
    (before : ConnectionModel) → wire ≡ Some before
    → (after : ConnectionModel) × (later ≡ Some after)
    × AreServed reply next ends old new before after

-- connections that ended so have their lines
abbrev pub AreWritten : List End → Option (List ℕ) → Option (List ℕ) → Type 0
AreWritten ends before after =
    AllByRecursion HasLine ends × (after ≡ append_known before (end_lines 1 ends))

-- What is written of connections that ended so, by how their serving ended: the line of each; where
-- the output failed, a front of the last line, behind all others; where memory ran out, all but the
-- last line.
abbrev pub WritesLines : ℕ → Result (Unit {0}) ServeFault → List End → Option (List ℕ)
    → Option (List ℕ) → Type 0
WritesLines count (Ok done) ends before after = (length ends ≡ count) × AreWritten ends before after
WritesLines count (Err fault.Network) ends before after =
    (length ends < count) × AreWritten ends before after
WritesLines count (Err fault.Output) ends before after = (length ends ≤ count)
    × (others : List End) × (end : End) × (ends ≡ others ++ end ∷ []) × AllByRecursion HasLine ends
    × (n : ℕ) × (after ≡ append_known before
    (end_lines 1 others ++ take n (end_line (length ends) end)))
WritesLines count (Err fault.Memory) ends before after = (length ends ≤ count)
    × (others : List End) × (end : End) × (ends ≡ others ++ end ∷ [])
    × AreWritten others before after

-- what was written of the next connection, which ended so
abbrev pub WritesLine : ℕ → End → Result (Unit {0}) ServeFault → Option (List ℕ)
    → Option (List ℕ) → Type 0
WritesLine number end (Ok done) before after =
    HasLine end × (after ≡ append_known before (end_line number end))
WritesLine number end (Err fault.Network) before after = ⊥
WritesLine number end (Err fault.Output) before after =
    HasLine end × (n : ℕ) × (after ≡ append_known before (take n (end_line number end)))
WritesLine number end (Err fault.Memory) before after = after ≡ before

-- The network's count of faults, before and after the work on a connection that ended so: it rose
-- in that work where the connection ended by a fault of the network, and only there.
pub record CountsFault (end : End) (before after : ℕ) : Type 0 where
  pub rise : before ≤ after
  pub cause : end ≡ LinkFault → FaultRose before after
  pub quiet : end ≢ LinkFault → after ≡ before

-- the same of connections in turn, each from the count that the one before it left
abbrev pub CountsEach : List End → ℕ → ℕ → Type 0
CountsEach [] before after = after ≡ before
CountsEach (end ∷ ends) before after =
    (mid : ℕ) × CountsFault end before mid × CountsEach ends mid after

-- behind them it rose where no further connection was made, and only there
abbrev pub CountsLast : Result (Unit {0}) ServeFault → ℕ → ℕ → Type 0
CountsLast (Err fault.Network) before after = (before ≤ after) × FaultRose before after
CountsLast _ before after = after ≡ before

-- the same from the count before the first of them
abbrev pub CountsAll : Result (Unit {0}) ServeFault → List End → ℕ → ℕ → Type 0
CountsAll result ends before after =
    (mid : ℕ) × CountsEach ends before mid × CountsLast result mid after

-- Connections were served, as many as were asked for or fewer where that failed, and their lines
-- written.
pub record ServesAll {S : Type 0} (reply : Reply S) (next : Next S) (count : ℕ)
    (result : Result (Unit {0}) ServeFault) (old new : S) (wire later : Option ConnectionModel)
    (written after : Option (List ℕ)) (faults later_faults : ℕ) : Type 0 where
  pub ends : List End
  pub lines : WritesLines count result ends written after
  pub known : AreServedKnown reply next ends old new wire later
  pub counts : CountsAll result ends faults later_faults

-- The next connection was served and its line written; or none was made, and nothing changed.
abbrev pub ServesNext : {S : Type 0} → Reply S → Next S → ℕ → Result (Unit {0}) ServeFault → S → S
    → Option ConnectionModel → Option ConnectionModel → Option (List ℕ) → Option (List ℕ) → ℕ → ℕ
    → Type 0
ServesNext reply next number (Err fault.Network) old new wire later written after faults more =
    (new ≡ old) × (later ≡ wire) × (after ≡ written) × CountsLast (Err fault.Network) faults more
ServesNext reply next number result old new wire later written after faults more =
    (end : End) × AreServedKnown reply next (end ∷ []) old new wire later
    × WritesLine number end result written after × CountsFault end faults more
