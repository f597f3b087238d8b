-- A store that loads a journal, and serves connections.
use Rattle.std.proofs.Common.{◌≡◌, ℕ, suc, ◌+◌, ◌<◌, List, [], ◌∷◌, ◌++◌, length, Option, Some, None, Result, Ok, Err, refl, sym, ap, ◌∙◌, subst, append_assoc, arith}
use mathlib.Core.Logic.{inl, inr}
use Rattle.std.specs.Prelude.{◌⊎◌, IfSome}
use Rattle.std.specs.List.{flat_map}
use Rattle.std.proofs.lemmas.List.{length-append}
use Rattle.outside.specs.Shelf.{Files}
use Rattle.outside.specs.ConnectionModel.{ConnectionModel}
use Rattle.vo_spec.specs.declared.records.Entry.{Entry}
use Rattle.vo_spec.specs.Bytes.{u32_bytes, block}
use Rattle.vo_spec.specs.Journals.{Begins, IsClosed, IsDamaged, IsJournal, entry_bytes, slot}
use Rattle.vo_spec.specs.Owners.{AreLoadable, IsUnloadableAt}
use Rattle.owner_state.specs.declared.slot_reading.Ending.{Ending}
use Rattle.owner_state.specs.declared.slot_reading.Ending.TheVariants.{Damaged}
use Rattle.owner_state.specs.Endings.{EndsSo}
use Rattle.owner_state.specs.Walking.{StopsAt}
use Rattle.owner_state.proofs.SlotLaws.{AreSlots, fails_behind, fails_inside}
use Rattle.connections.specs.declared.serve_fault.ServeFault.{ServeFault}
use Rattle.connections.specs.declared.serve_fault.ServeFault.TheVariants as fault
use Rattle.connections.specs.Serving.{AreServedKnown, CountsAll}
use Rattle.vo_store.specs.StoreState.{StoreState}
use Rattle.vo_wire.specs.Answering.{next_after, reply_to}
use Rattle.vo_commands.specs.declared.report.Stop.{Stop}
use Rattle.vo_commands.specs.declared.report.Stop.TheVariants.{Refused, Outside, Memory}
use Rattle.vo_commands.specs.Expected.{Expected, IsUnservableAt}
use Rattle.vo_commands.specs.Reports.{WritesOutcome, output_of}
use Rattle.vo_commands.specs.Serving.{EndsServing, FailsToListen, IsServedBy, IsServedFrom, Loads, LoadsStore, ServeEnds, StopsLoading}

-- Journals.

length-u32 : (n : ℕ) → length (u32_bytes n) ≡ 4
unfolding u32_bytes
length-u32 n = refl

-- bytes that begin with a slot are a journal of some entries, if of any
slot_opens : (e : Entry) (more bytes : List ℕ) → bytes ≡ slot e ++ more → IsJournal bytes [] → ⊥
slot_opens e more bytes same (inl short) =
    let long : length bytes ≡ suc (length (block (entry_bytes e) ++ more)) = ap length same in
    let within : length (block (entry_bytes e) ++ more) ≡ length (block (entry_bytes e)) + length more = length-append (block (entry_bytes e)) more in
    let front : length (block (entry_bytes e)) ≡ 4 + length (entry_bytes e) =
    length-append (u32_bytes (length (entry_bytes e))) (entry_bytes e) ∙ ap (λ n. n + length (entry_bytes e)) (length-u32 (length (entry_bytes e))) in
    omega (arith, short, long, within, front)
slot_opens e more bytes same (inr closed) = subst IsClosed same closed refl

begins_open : (bytes : List ℕ) (es : List Entry) → Begins bytes es → 0 < length es → IsJournal bytes [] → ⊥
begins_open bytes [] b some = absurd (omega arith)
begins_open bytes (e ∷ es) b some = slot_opens e (flat_map slot es ++ b.1) bytes (b.2 ∙ append_assoc (slot e) (flat_map slot es) b.1)

pub ends_damaged : (journal : List ℕ) (es : List Entry) (ending : Ending) (at : ℕ) → ending ≡ Damaged at → EndsSo journal es ending → IsDamaged journal es
ends_damaged journal es ending at is ends = (subst (EndsSo journal es) is ends).0

-- a store refuses an entry
pub unservable_inside : (key journal : List ℕ) (es : List Entry) (n : ℕ) → AreSlots journal es → StopsAt (AreLoadable key) es n → IsUnservableAt key journal n
unfolding IsUnloadableAt
unservable_inside key journal es n slots stop =
    let within : n < length es = stop.within in
    (fails_inside (AreLoadable key) journal es n slots stop, begins_open journal es slots.begins (omega arith))

-- it takes all, and behind them the journal is damaged
pub unservable_behind : (key journal : List ℕ) (es : List Entry) → AreSlots journal es → AreLoadable key es → IsDamaged journal es → IsUnservableAt key journal (length es)
unfolding IsUnloadableAt
unservable_behind key journal es slots are damaged = (fails_behind (AreLoadable key) journal es slots are (λ whole. damaged.1 es whole.0), damaged.1 [])

pub stops_loading : (key journal : List ℕ) (es : List Entry) (stop : Stop) → AreSlots journal es → StopsLoading key es stop → LoadsStore key journal (Err stop)
stops_loading key journal es (Refused report) slots stops = (stops.0, unservable_inside key journal es stops.0 slots stops.1, stops.2)
stops_loading key journal es Outside slots stops = stops
stops_loading key journal es Memory slots stops = tt

-- Ends.

net_later : (count : ℕ) (N M OutRose : Type 0) → (M → N) → (r : Result (Unit {0}) ServeFault) (status : ℕ) (written after : Option (List ℕ))
    → EndsServing count r M OutRose status written after → EndsServing count r N OutRose status written after
net_later count N M OutRose wider (Ok done) status written after ends = ends
net_later count N M OutRose wider (Err fault.Network) status written after ends = (wider ends.0, ends.1)
net_later count N M OutRose wider (Err fault.Output) status written after ends = ends
net_later count N M OutRose wider (Err fault.Memory) status written after ends = ends

pub served_behind : (s : StoreState) (count : ℕ) (N M OutRose : Type 0) (status old mid more : ℕ) (wire opened later : Option ConnectionModel)
    (before after : Option (List ℕ)) → (M → N) → mid ≡ old → opened ≡ wire
    → IsServedFrom s count M OutRose status mid more opened later before after
    → IsServedFrom s count N OutRose status old more wire later before after
served_behind s count N M OutRose status old mid more wire opened later before after wider first same served = record {
  new = served.new;
  result = served.result;
  written = served.written;
  serves = record {
    ends = served.serves.ends;
    lines = served.serves.lines;
    known = subst (λ (o : Option ConnectionModel). AreServedKnown reply_to next_after served.serves.ends s served.new o later) same served.serves.known;
    counts = subst (λ (count : ℕ). CountsAll served.result served.serves.ends count more) first served.serves.counts;
  };
  ends = net_later count N M OutRose wider served.result status served.written after served.ends;
}

module _ (files_rose net_rose out_rose : Type 0) (status faults more : ℕ) (wire later : Option ConnectionModel) (before after : Option (List ℕ)) where
  ends_so : (count : ℕ) (r : Result (Unit {0}) ServeFault) (written : Option (List ℕ)) → EndsServing count r net_rose out_rose status written after
      → EndsServing count r (files_rose ⊎ net_rose) out_rose status written after
  ends_so count (Ok done) written ends = ends
  ends_so count (Err fault.Network) written ends = (inr ends.0, ends.1)
  ends_so count (Err fault.Output) written ends = ends
  ends_so count (Err fault.Memory) written ends = ends

  served_so : (s : StoreState) (count : ℕ) → IsServedFrom s count net_rose out_rose status faults more wire later before after
      → IsServedFrom s count (files_rose ⊎ net_rose) out_rose status faults more wire later before after
  served_so s count served = record {
    new = served.new;
    result = served.result;
    written = served.written;
    serves = served.serves;
    ends = ends_so count served.result served.written served.ends;
  }

  by_store : (expected : Expected) (s : StoreState) (count : ℕ) → Loads expected count (Ok s)
      → FailsToListen net_rose out_rose status wire later before after ⊎ IsServedFrom s count net_rose out_rose status faults more wire later before after
      → ServeEnds expected (files_rose ⊎ net_rose) out_rose status faults more wire later before after
  by_store expected s count loads (inl fails) = inl (inr (inr (inr fails.0, fails.2)), fails.1)
  by_store expected s count loads (inr served) =
      inr (subst (λ x. IsServedBy x (files_rose ⊎ net_rose) out_rose status faults more wire later before after) (sym loads.2) (s, loads.3, served_so s count served))

  pub ends_by_store : (expected : Files → Expected) (o : Option Files) (s : StoreState) (count : ℕ) → IfSome o (λ known. Loads (expected known) count (Ok s))
      → FailsToListen net_rose out_rose status wire later before after ⊎ IsServedFrom s count net_rose out_rose status faults more wire later before after
      → IfSome o (λ known. ServeEnds (expected known) (files_rose ⊎ net_rose) out_rose status faults more wire later before after)
  ends_by_store expected None s count loads ends = tt
  ends_by_store expected (Some known) s count loads ends = by_store (expected known) s count loads ends

  by_stop : (expected : Expected) (stop : Stop) (count : ℕ) → Loads expected count (Err stop) → (stop ≡ Outside → files_rose)
      → later ≡ wire → WritesOutcome (Err stop) out_rose status before after
      → ServeEnds expected (files_rose ⊎ net_rose) out_rose status faults more wire later before after
  by_stop expected (Refused report) count loads rose same wrote = inl (inr (inl (output_of report, loads, wrote)), same)
  by_stop expected Outside count loads rose same wrote = inl (inr (inr (inl (rose refl), wrote)), same)
  by_stop expected Memory count loads rose same wrote = inl (inl wrote, same)

  pub ends_by_stop : (expected : Files → Expected) (o : Option Files) (stop : Stop) (count : ℕ) → IfSome o (λ known. Loads (expected known) count (Err stop))
      → (stop ≡ Outside → files_rose) → later ≡ wire → WritesOutcome (Err stop) out_rose status before after
      → IfSome o (λ known. ServeEnds (expected known) (files_rose ⊎ net_rose) out_rose status faults more wire later before after)
  ends_by_stop expected None stop count loads rose same wrote = tt
  ends_by_stop expected (Some known) stop count loads rose same wrote = by_stop (expected known) stop count loads rose same wrote
