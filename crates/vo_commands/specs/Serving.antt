-- What `serve` comes to: the store of a journal serves connections, and a line is written of each.
use Rattle.std.specs.Prelude.{◌≡◌, ◌⊎◌, ℕ, List, [], ◌∷◌, codes, decimal, Option, Some, None, option_map, Result, Ok, Err}
use Rattle.outside.specs.ConnectionModel.{ConnectionModel}
use Rattle.outside.specs.Shelf.{Files}
use Rattle.outside.specs.Outputs.{Output, Writes, outside_failure}
use Rattle.vo_spec.specs.declared.records.Entry.{Entry}
use Rattle.vo_spec.specs.Journals.{IsJournal}
use Rattle.vo_spec.specs.Owners.{AreLoadable}
use Rattle.owner_state.specs.Walking.{StopsAt}
use Rattle.vo_store.specs.StoreState.{StoreState}
use Rattle.vo_store.specs.Loading.{store_behind}
use Rattle.connections.specs.declared.serve_fault.ServeFault.{ServeFault}
use Rattle.connections.specs.declared.serve_fault.ServeFault.TheVariants as fault
use Rattle.connections.specs.Serving.{ServesAll}
use Rattle.vo_wire.specs.Answering.{reply_to, next_after}
use Rattle.cli_args.specs.PlainRequest.{PlainRequest, Serve}
use Rattle.vo_commands.specs.declared.report.Stop.{Stop}
use Rattle.vo_commands.specs.declared.report.Stop.TheVariants.{Refused, Outside, Memory}
use Rattle.vo_commands.specs.Lines.{success, words_line, bad_journal}
use Rattle.vo_commands.specs.Expected.{Expected, Serves, Allows, Ends, IsUnservableAt, journal_limit, with_file, with_key}
use Rattle.vo_commands.specs.Reports.{output_of}

abbrev pub service_expected : List ℕ → List ℕ → ℕ → Files → Expected
service_expected key journal count files = with_key files key
    (λ k. with_file files journal journal_limit (λ j. Serves k j count))

-- what is expected of `serve` by the files, where they are known
abbrev pub serve_expected : Option PlainRequest → Option Files → Option Expected
serve_expected (Some (Serve address key journal count)) files =
    option_map (service_expected key journal count) files
serve_expected _ files = None

-- a store of the key that has loaded the journal, which may have no entries
abbrev pub IsStoreOf : List ℕ → List ℕ → StoreState → Type 0
IsStoreOf key journal s = (es : List Entry) × IsJournal journal es × AreLoadable key es
    × (s ≡ store_behind key es)

-- why no store takes these entries
abbrev pub StopsLoading : List ℕ → List Entry → Stop → Type 0
StopsLoading key es (Refused report) = (index : ℕ) × StopsAt (AreLoadable key) es index
    × (output_of report ≡ bad_journal index)
StopsLoading key es Outside = ⊥
StopsLoading key es Memory = Unit {0}

-- The store of a journal, or the entry at which it fails.
abbrev pub LoadsStore : List ℕ → List ℕ → Result StoreState Stop → Type 0
LoadsStore key journal (Ok s) = IsStoreOf key journal s
LoadsStore key journal (Err (Refused report)) =
    (index : ℕ) × IsUnservableAt key journal index × (output_of report ≡ bad_journal index)
LoadsStore key journal (Err Outside) = ⊥
LoadsStore key journal (Err Memory) = Unit {0}

-- the same of what is expected by the files
abbrev pub Loads : Expected → ℕ → Result StoreState Stop → Type 0
Loads expected count (Ok s) = (key journal : List ℕ) × (expected ≡ Serves key journal count)
    × IsStoreOf key journal s
Loads expected count (Err (Refused report)) = Allows expected (output_of report)
Loads expected count (Err Outside) = Unit {0}
Loads expected count (Err Memory) = Unit {0}

-- the line of a server that has served so many
abbrev pub served_output : ℕ → Output
served_output count = success (words_line (codes "served" ∷ decimal count ∷ []))

-- how a run ends once connections were served or not, by what was written until then
abbrev pub EndsServing : ℕ → Result (Unit {0}) ServeFault → Type 0 → Type 0 → ℕ
    → Option (List ℕ) → Option (List ℕ) → Type 0
EndsServing count (Ok done) net_rose out_rose status written after =
    Writes (served_output count) out_rose status written after
EndsServing count (Err fault.Network) net_rose out_rose status written after =
    net_rose × Writes outside_failure out_rose status written after
EndsServing count (Err fault.Output) net_rose out_rose status written after =
    (status ≡ 3) × out_rose × (after ≡ written)
EndsServing count (Err fault.Memory) net_rose out_rose status written after =
    (status ≡ 4) × (after ≡ written)

-- nobody could listen, and so no connection was taken
abbrev pub FailsToListen : Type 0 → Type 0 → ℕ → Option ConnectionModel → Option ConnectionModel
    → Option (List ℕ) → Option (List ℕ) → Type 0
FailsToListen net_rose out_rose status wire later before after =
    net_rose × (later ≡ wire) × Writes outside_failure out_rose status before after

-- Connections were served from this state, and the run ended so.
pub record IsServedFrom (old : StoreState) (count : ℕ) (net_rose out_rose : Type 0)
    (status faults later_faults : ℕ) (wire later : Option ConnectionModel)
    (before after : Option (List ℕ)) : Type 0 where
  pub new : StoreState
  pub result : Result (Unit {0}) ServeFault
  pub written : Option (List ℕ)
  pub serves : ServesAll reply_to next_after count result old new wire later before written faults
      later_faults
  pub ends : EndsServing count result net_rose out_rose status written after

-- the same of a store that loads the journal
abbrev pub IsServedBy : Expected → Type 0 → Type 0 → ℕ → ℕ → ℕ → Option ConnectionModel
    → Option ConnectionModel → Option (List ℕ) → Option (List ℕ) → Type 0
IsServedBy (Serves key journal count) net_rose out_rose status faults more wire later before after =
    (s : StoreState) × IsStoreOf key journal s
    × IsServedFrom s count net_rose out_rose status faults more wire later before after
IsServedBy expected net_rose out_rose status faults more wire later before after = ⊥

-- What a run of `serve` ends with: an expected output, and no connection was taken, so nothing was
-- put or taken on one; or connections were served.
abbrev pub ServeEnds : Expected → Type 0 → Type 0 → ℕ → ℕ → ℕ → Option ConnectionModel
    → Option ConnectionModel → Option (List ℕ) → Option (List ℕ) → Type 0
ServeEnds expected outside_rose out_rose status faults more wire later before after =
    (Ends expected outside_rose out_rose status before after × (later ≡ wire))
    ⊎ IsServedBy expected outside_rose out_rose status faults more wire later before after
