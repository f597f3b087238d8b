-- What a disk keeps through runs and stops of the machine.
use Rattle.std.proofs.Common.{◌≡◌, ℕ, zero, suc, ◌<◌, List, [], ◌∷◌, ◌++◌, length, Option, Some, slice_get, inl, inr, refl, sym, subst, arith}
use Rattle.std.specs.Prelude.{◌⊎◌, All, Contains, map, slice_index_or}
use Rattle.std.specs.List.{AllByRecursion}
use Rattle.outside.specs.DiskModel.{DiskModel, MayLeave, fresh}
use Rattle.outside.specs.FaultRose.{FaultRose}
use Rattle.outside.proofs.MomentLaws.{only_seen, seen_left}
use Rattle.vo_spec.specs.declared.records.Entry.{Entry}
use Rattle.vo_spec.specs.declared.records.Record.{Record}
use Rattle.vo_spec.specs.declared.tables.Batch.{Batch}
use Rattle.vo_spec.specs.Journals.{Holds, IsJournal}
use Rattle.owner_journal.specs.Resting.{HoldsAsBefore, HoldsWith, IsAtRest}
use Rattle.owner_session.specs.Requests.{Request, AsksStanding, Proposes, Installs, IsRequestOf}
use Rattle.owner_session.specs.Runs.{entries_of}
use Rattle.vo_commands.specs.Owning.{CommitsFrom, CommitsOnline, OwnEnds, KeepsEntry, LeavesAsBefore, or_first_entry}
use Rattle.owner_state.specs.Held.{Held}
use Rattle.owner_state.specs.Stepping.{first_entry}
use Rattle.vo_commands.specs.Expected.{Expected}
use Rattle.vo_commands.specs.Committing.{entry_forms}
use Rattle.outside.specs.ConnectionModel.{ConnectionModel}
use Rattle.vo_spec.specs.Secret.{Secret}
use Rattle.honest_peers.specs.Crashes.{GoesThrough, HoldsEach, KeepsReleased, IsStage, StopsBehind, StopsInUse, put_from, put_in, put_online, records_in}
use Rattle.owner_state.proofs.JournalLaws.{one_journal}
use Rattle.honest_peers.proofs.HeldLaws.{both, each, held_entry, held_in_front, none_held, one_held, one_of}
use Rattle.owner_journal.proofs.RestLaws.{rest_holds}

-- What a stop leaves.

-- these bytes are a journal that holds the record
abbrev pub Has : List ℕ → Record → Type 0
Has image r = (es : List Entry) × IsJournal image es × Holds es r

abbrev pub HasEach : List Record → List ℕ → Type 0
HasEach released image = AllByRecursion (Has image) released

-- bytes that are a journal of entries which hold the records
pub has_each : (image : List ℕ) (es : List Entry) (released : List Record) → IsJournal image es → HoldsEach es released → HasEach released image
has_each image es released is = each _ _ released (λ r holds. (es, is, holds))

-- the entries of such bytes hold them
pub holds_each : (image : List ℕ) (es : List Entry) (released : List Record) → IsJournal image es → HasEach released image → HoldsEach es released
holds_each image es released is =
    each _ _ released (λ r has. subst (λ (xs : List Entry). Holds xs r) (one_journal image has.0 es has.1 is) has.2)

pub holds_more : (es more : List Entry) (released : List Record) → HoldsEach es released → HoldsEach (es ++ more) released
holds_more es more released = each _ _ released (held_in_front es more)

-- The disk: what reads give a stop may leave, and whatever a stop leaves holds the records.
pub record IsSafe (released : List Record) (drive : DiskModel) : Type 0 where
  pub sees : MayLeave drive drive.seen
  pub left : (image : List ℕ) → MayLeave drive image → HasEach released image

fresh_safe : (released : List Record) (image : List ℕ) → HasEach released image → IsSafe released (fresh image)
fresh_safe released image has = record {
  sees = seen_left (fresh image) refl;
  left = λ later left. subst (HasEach released) (sym (only_seen (fresh image) later refl left)) has;
}

-- The machine stops in a run.

held_with : (es : List Entry) (e : Entry) (released : List Record) (image : List ℕ) → HoldsWith es e image → HoldsEach es released → HasEach released image
held_with es e released image (inl is) holds = has_each image es released is holds
held_with es e released image (inr is) holds = has_each image (es ++ e ∷ []) released is (holds_more es (e ∷ []) released holds)

stops_behind : (es more : List Entry) (drive : DiskModel) (image : List ℕ) (was released : List Record) → IsAtRest es drive → HoldsEach es was
    → StopsBehind es more drive image released → HasEach (was ++ released) image
stops_behind es [] drive image was released rest holds stops =
    has_each image es (was ++ released) (rest_holds es drive rest image stops.0) (both (Holds es) was released holds stops.1)
stops_behind es (e ∷ more) drive image was released rest holds (later, leaves, inl stops) =
    held_with es e (was ++ released) image (leaves.each image stops.0) (both (Holds es) was released holds stops.1)
stops_behind es (e ∷ more) drive image was released rest holds (later, leaves, inr goes) =
    stops_behind (es ++ e ∷ []) more later image was released goes.0 (holds_more es (e ∷ []) was holds) goes.1

-- what is left as it was before holds what that held
as_before : (drive : DiskModel) (image : List ℕ) (released : List Record) → IsSafe released drive → HoldsAsBefore drive image → HasEach released image
as_before drive image released safe (inl left) = safe.left image left
as_before drive image released safe (inr (was, left, es, is, same)) =
    has_each image es released same (holds_each was es released is (safe.left was left))

nothing_more : (was released : List Record) (image : List ℕ) → released ≡ [] → HasEach was image → HasEach (was ++ released) image
nothing_more was released image none has = both (Has image) was released has (subst (λ (rs : List Record). HasEach rs image) (sym none) tt)

stops_in_use : (drive : DiskModel) (image : List ℕ) (was released : List Record) → IsSafe was drive → StopsInUse drive image released → HasEach (was ++ released) image
stops_in_use drive image was released safe (opened, leaves, inl stops) =
    nothing_more was released image stops.1 (as_before drive image was safe (leaves.each image stops.0))
stops_in_use drive image was released safe (opened, leaves, inr (es, is, rest, behind)) =
    stops_behind es behind.0 opened image was released rest (holds_each drive.seen es was is (safe.left drive.seen safe.sees)) behind.1

-- A run through to its end.

-- an entry of which a stop leaves the record
kept_record : (drive : DiskModel) (entries : List Entry) (r : Record) → All (KeepsEntry (Some drive)) entries → Holds entries r
    → (image : List ℕ) → MayLeave drive image → Has image r
kept_record drive entries r kept holds image left =
    let at = held_entry entries r holds in
    let found = place entries r.version at.0 at.1 in
    let keeps : KeepsEntry (Some drive) at.0 = subst (KeepsEntry (Some drive)) found.1 (kept r.version at.0 found.0) in
    let has = keeps image left in
    (has.0, has.1, subst (Holds has.0) at.2 has.2)
  where
    place : (es : List Entry) (v : ℕ) (e : Entry) → slice_get es v ≡ Some e → (v < length es) × (slice_index_or es v e ≡ e)
    place [] v e found = absurd (cc)
    place (f ∷ es) zero e found = (omega arith, cc)
    place (f ∷ es) (suc v) e found = let rest = place es v e found in (omega (arith, rest.0), rest.1)

kept_each : (drive : DiskModel) (entries : List Entry) (released : List Record) → All (KeepsEntry (Some drive)) entries → HoldsEach entries released
    → (image : List ℕ) → MayLeave drive image → HasEach released image
kept_each drive entries released kept holds image left = each _ _ released (λ r held. kept_record drive entries r kept held image left) holds

-- the records that were put are of the journal's entries
put_kept : (drive : DiskModel) (batches : List Batch) (entries : List Entry) (requests : List (Request Batch Entry)) → All (KeepsEntry (Some drive)) entries
    → All (IsRequestOf batches entries) requests → (image : List ℕ) → MayLeave drive image → HasEach (records_in requests) image
put_kept drive batches entries [] kept are image left = tt
put_kept drive batches entries (AsksStanding ∷ requests) kept are image left =
    put_kept drive batches entries requests kept (later AsksStanding requests are) image left
  where
    later : (x : Request Batch Entry) (xs : List (Request Batch Entry)) → All (IsRequestOf batches entries) (x ∷ xs) → All (IsRequestOf batches entries) xs
    later x xs are k d within = are (suc k) d (omega (arith, within))
put_kept drive batches entries (Proposes batch ∷ requests) kept are image left =
    put_kept drive batches entries requests kept (later (Proposes batch) requests are) image left
  where
    later : (x : Request Batch Entry) (xs : List (Request Batch Entry)) → All (IsRequestOf batches entries) (x ∷ xs) → All (IsRequestOf batches entries) xs
    later x xs are k d within = are (suc k) d (omega (arith, within))
put_kept drive batches entries (Installs e ∷ requests) kept are image left =
    let one : Contains entries e = are zero AsksStanding (omega arith) in
    let keeps : KeepsEntry (Some drive) e = subst (KeepsEntry (Some drive)) one.2 (kept one.0 e one.1) in
    (keeps image left, put_kept drive batches entries requests kept (later (Installs e) requests are) image left)
  where
    later : (x : Request Batch Entry) (xs : List (Request Batch Entry)) → All (IsRequestOf batches entries) (x ∷ xs) → All (IsRequestOf batches entries) xs
    later x xs are k d within = are (suc k) d (omega (arith, within))

-- an empty journal holds nothing, so it may be begun
begun_holds : (secret : Secret) (was : List Entry) (released : List Record) → HoldsEach was released → HoldsEach (or_first_entry secret was) released
begun_holds secret [] [] holds = tt
begun_holds secret [] (r ∷ released) holds = absurd (none_held r holds.0)
begun_holds secret (e ∷ es) released holds = holds

opened_holds : (secret : Secret) (drive : DiskModel) (es : List Entry) (released : List Record) → IsSafe released drive
    → (was : List Entry) × IsJournal drive.seen was × (es ≡ or_first_entry secret was) → HoldsEach es released
opened_holds secret drive es released safe (was, is, same) =
    subst (λ (xs : List Entry). HoldsEach xs released) (sym same)
    (begun_holds secret was released (holds_each drive.seen was released is (safe.left drive.seen safe.sees)))

begun_or_before : (secret : Secret) (before after : DiskModel) (released : List Record) → IsSafe released before → LeavesAsBefore secret before after
    → (image : List ℕ) → MayLeave after image → HasEach released image
begun_or_before secret before after released safe leaves image left = by (leaves image left)
  where
    by : HoldsAsBefore before image ⊎ (IsJournal before.seen [] × IsJournal image (first_entry secret ∷ [])) → HasEach released image
    by (inl held) = as_before before image released safe held
    by (inr (empty, is)) =
        has_each image (first_entry secret ∷ []) released is
        (begun_holds secret [] released (holds_each before.seen [] released empty (safe.left before.seen safe.sees)))

online_left : {Net Disk Out : Type 0} (batches : List Batch) (status : ℕ) (held : Held) (es : List Entry) (after : DiskModel) (wire : ConnectionModel)
    (later_wire : Option ConnectionModel) (written later_written : Option (List ℕ)) (was : List Record) → HoldsEach es was
    → (online : CommitsOnline batches Net Disk Out status held es (Some after) wire later_wire written later_written)
    → (image : List ℕ) → MayLeave after image → HasEach (was ++ put_online online) image
online_left batches status held es after wire later_wire written later_written was holds (inl offline) image left =
    both (Has image) was [] (has_each image es was (offline.1 image left) holds) tt
online_left batches status held es after wire later_wire written later_written was holds (inr (later, is, commits)) image left =
    let more = entries_of commits.runs.deeds in
    let all : HoldsEach commits.entries was =
    subst (λ (xs : List Entry). HoldsEach xs was) (sym commits.runs.leads.entries) (holds_more es more was holds) in
    both (Has image) was (records_in commits.puts.requests) (kept_each after commits.entries was commits.kept all image left)
    (put_kept after (map entry_forms.batch es ++ batches) commits.entries commits.puts.requests commits.kept commits.puts.each image left)

from_left : {Net Disk Out : Type 0} (secret : Secret) (batches : List Batch) (status : ℕ) (before after : DiskModel) (wire : ConnectionModel)
    (later_wire : Option ConnectionModel) (written later_written : Option (List ℕ)) (was : List Record) → IsSafe was before
    → (from : CommitsFrom secret batches Net Disk Out status (Some before) (Some after) (Some wire) later_wire written later_written)
    → (image : List ℕ) → MayLeave after image → HasEach (was ++ put_from from) image
from_left secret batches status before after wire later_wire written later_written was safe (inl stopped) image left =
    both (Has image) was [] (begun_or_before secret before after was safe stopped.3 image left) tt
from_left secret batches status before after wire later_wire written later_written was safe (inr (held, es, opened, opens, online)) image left =
    online_left batches status held es after wire later_wire written later_written was (opened_holds secret before es was safe opens.found) (online wire refl) image left

run_left : {Net Disk Out : Type 0} (expected : Expected) (Files : Type 0) (status : ℕ) (before after : DiskModel) (wire : ConnectionModel)
    (later_wire : Option ConnectionModel) (written later_written : Option (List ℕ)) (was : List Record) → IsSafe was before
    → (ends : OwnEnds expected Files Net Disk Out status (Some before) (Some after) (Some wire) later_wire written later_written)
    → (image : List ℕ) → MayLeave after image → HasEach (was ++ put_in expected Files ends) image
run_left expected Files status before after wire later_wire written later_written was safe (inl ended) image left =
    both (Has image) was [] (safe.left image (subst (λ (d : DiskModel). MayLeave d image) (known after before ended.1) left)) tt
  where
    known : (a b : DiskModel) → Some a ≡ Some b → a ≡ b
    known a b same = cc
run_left expected Files status before after wire later_wire written later_written was safe (inr (secret, batches, is, from)) image left =
    from_left secret batches status before after wire later_wire written later_written was safe from image left

-- Any number of runs.

stage_safe : (before after : DiskModel) (was released : List Record) → IsStage before after released → IsSafe was before → IsSafe (was ++ released) after
stage_safe before after was released (inl (run, is)) safe = record {
  sees = run.sees;
  left = λ image left. subst (λ (rs : List Record). HasEach (was ++ rs) image) (sym is)
      (run_left run.expected (FaultRose run.files.0 run.files.1) run.status before after run.wire run.later_wire run.written run.later_written was safe run.ends image left);
}
stage_safe before after was released (inr (inl (image, stops, is))) safe =
    subst (IsSafe (was ++ released)) (sym is) (fresh_safe (was ++ released) image (stops_in_use before image was released safe stops))
stage_safe before after was released (inr (inr (image, left, is, none))) safe =
    subst (IsSafe (was ++ released)) (sym is) (fresh_safe (was ++ released) image (nothing_more was released image none (safe.left image left)))

stages_safe : (released : List (List Record)) (before : DiskModel) (was : List Record) (after : DiskModel) (all : List Record)
    → GoesThrough released before was after all → IsSafe was before → IsSafe all after
stages_safe [] before was after all (same, is) safe = subst (λ (rs : List Record). IsSafe rs after) is (subst (IsSafe was) same safe)
stages_safe (released ∷ later) before was after all (mid, stage, through) safe =
    stages_safe later mid (was ++ released) after all through (stage_safe before mid was released stage safe)

keeps_released : (drive : DiskModel) (released : List Record) → IsSafe released drive → KeepsReleased drive released
keeps_released drive released safe = record {
  held = λ rec one image left. one_of (Has image) released rec (safe.left image left) one;
  one_each = λ a b first second same.
      let x = one_of (Has drive.seen) released a (safe.left drive.seen safe.sees) first in
      let y = one_of (Has drive.seen) released b (safe.left drive.seen safe.sees) second in
      one_held x.0 a b x.2 (subst (λ (es : List Entry). Holds es b) (one_journal drive.seen y.0 x.0 y.1 x.1) y.2) same;
}

pub released_kept : (found : List ℕ) (released : List (List Record)) (drive : DiskModel) (all : List Record)
    → GoesThrough released (fresh found) [] drive all → KeepsReleased drive all
released_kept found released drive all through =
    keeps_released drive all (stages_safe released (fresh found) [] drive all through (fresh_safe [] found tt))
