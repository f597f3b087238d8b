-- What holds of a world holds behind each step.
use Rattle.std.proofs.Common.{◌≡◌, ℕ, ◌<◌, ◌≤◌, inl, inr, List, [], ◌∷◌, ◌++◌, length, slice_index, slice_set, Result, Ok, Err, refl, sym, ap, subst, ◌∙◌, arith}
use Rattle.std.specs.List.{AllByRecursion}
use Rattle.std.proofs.lemmas.Bool.Decides.{eqb_tells}
use Rattle.std.proofs.lemmas.List.{get_or-set_other, get_or-set_same, length-set}
use Rattle.outside.specs.DiskModel.{LeftSince, fresh, now, sync_now}
use Rattle.vo_spec.specs.declared.checks.Answer.{Answer}
use Rattle.vo_spec.specs.declared.checks.CheckFault.{CheckFault}
use Rattle.vo_spec.specs.declared.queries.QueryText.{QueryText}
use Rattle.vo_spec.specs.declared.records.Entry.{Entry}
use Rattle.vo_spec.specs.declared.tables.Batch.{Batch}
use Rattle.vo_spec.specs.Batches.{FitsBatch}
use Rattle.vo_spec.specs.Checks.{CheckOf}
use Rattle.vo_spec.specs.Conditions.{query_of}
use Rattle.vo_spec.specs.Journals.{Holds, IsJournal}
use Rattle.vo_spec.specs.Secret.{Secret, public_of_secret}
use Rattle.vo_laws.specs.Sealing.{SignsValidly}
use Rattle.owner_roots.specs.declared.owner_fault.OwnerFault.{OwnerFault}
use Rattle.owner_roots.specs.declared.roots.Roots.{Roots}
use Rattle.owner_roots.specs.Owners.{first_roots}
use Rattle.owner_state.specs.declared.steps.Step.{Step}
use Rattle.owner_state.specs.Stepping.{AreStepsTo, StepOf, first_entry}
use Rattle.owner_state.proofs.JournalLaws.{one_journal}
use Rattle.owner_state.proofs.ReplayLaws.{first_step, step_more}
use Rattle.owner_journal.specs.Resting.{HoldsWith}
use Rattle.owner_journal.proofs.RestLaws.{rest_holds}
use Rattle.honest_peers.specs.Crashes.{HoldsEach}
use Rattle.honest_peers.proofs.CrashLaws.{holds_more}
use Rattle.honest_peers.proofs.HeldLaws.{each}
use Rattle.honest_peers.proofs.Judged.{accepts_reply}
use Rattle.vo_world.specs.declared.events.AcceptedReply.{AcceptedReply}
use Rattle.vo_world.specs.declared.events.Event.{Event}
use Rattle.vo_world.specs.declared.events.Event.TheVariants.{Commit, Crash, Receive}
use Rattle.vo_world.specs.declared.events.Said.{Said}
use Rattle.vo_world.specs.Keeping.{IsAccepted, IsReached, IsSafe, Keeps, NeverFall}
use Rattle.vo_world.specs.Steps.{CommitGives, Commits, Crashes, FitsEvent, ReceiveGives, Receives, Steps, begun, empty_disk, gain_records, start, with_entry}
use Rattle.vo_world.specs.WorldModel.{WorldModel, records_of}
use Rattle.vo_world.proofs.Disks.{empty_rests, entry_leaves, entry_rests, found_left, found_rests, left_now}
use Rattle.vo_world.proofs.EntryFits.{first_fits, some_entry, step_fits, step_leads}
use Rattle.vo_world.proofs.HeldRecords.{all_more, gained_all, own_held}

-- The beginning.

pub start_keeps : (key : Secret) (clients : ℕ) → SignsValidly key → Keeps (start key clients)
unfolding start
start_keeps key clients signs =
    let first = first_entry key in
    let steps = first_step key first first_roots refl refl in
    let drive = with_entry [] first empty_disk in
    let rest = entry_rests [] first empty_disk (first_fits key signs) empty_rests in
    record {
      signs = signs;
      steps = steps;
      rest = rest;
      holds = tt;
      left = left_now drive (IsSafe key []) (λ image left. record {
        entries = first ∷ [];
        is = rest_holds (first ∷ []) drive rest image left;
        roots = first_roots;
        steps = steps;
        holds = tt;
      });
      rising = tt;
      reached = tt;
      checked = tt;
    }

-- An event begins.

pub begun_keeps : (w : WorldModel) → Keeps w → Keeps (begun w)
begun_keeps w keeps =
    let holds = gained_all (Holds w.entries) w.released (records_of w.entries) keeps.holds (own_held w.key w.entries w.roots keeps.steps) in
    record {
      signs = keeps.signs;
      steps = keeps.steps;
      rest = keeps.rest;
      holds = holds;
      left = left_now w.drive (IsSafe w.key (gain_records w.released (records_of w.entries))) (λ image left. record {
        entries = w.entries;
        is = rest_holds w.entries w.drive keeps.rest image left;
        roots = w.roots;
        steps = keeps.steps;
        holds = holds;
      });
      rising = keeps.rising;
      reached = keeps.reached;
      checked = keeps.checked;
    }

-- The owner commits a batch.

-- the world behind a step, of one that began with this event
abbrev pub behind : WorldModel → Step → WorldModel
behind w step = record w {
  roots = step.roots;
  entries = w.entries ++ step.entry ∷ [];
  drive = with_entry w.entries step.entry w.drive;
}

module _ (w : WorldModel) (keeps : Keeps w) (began : w.since ≡ now w.drive) (batch : Batch) (proofs : List ℕ) (fits : FitsBatch batch.commands) where
  with_image : (step : Step) → AreStepsTo w.key (w.entries ++ step.entry ∷ []) step.roots → (image : List ℕ)
      → HoldsWith w.entries step.entry image → IsSafe w.key w.released image
  with_image step steps image (inl is) = record { entries = w.entries; is = is; roots = w.roots; steps = keeps.steps; holds = keeps.holds }
  with_image step steps image (inr is) = record {
    entries = w.entries ++ step.entry ∷ [];
    is = is;
    roots = step.roots;
    steps = steps;
    holds = holds_more w.entries (step.entry ∷ []) w.released keeps.holds;
  }

  behind_keeps : (step : Step) → StepOf w.key w.roots batch.commands proofs (Ok step) → Keeps (behind w step)
  behind_keeps step is =
      let steps = step_more w.key w.entries w.roots step.entry step.roots (some_entry w.key w.entries w.roots keeps.steps) keeps.steps
      (step_leads w.key w.roots batch.commands proofs step is) in
      let entry = step_fits w.key keeps.signs w.roots batch.commands proofs step fits is in
      let leaves = entry_leaves w.entries step.entry w.drive entry keeps.rest in
      record {
        signs = keeps.signs;
        steps = steps;
        rest = entry_rests w.entries step.entry w.drive entry keeps.rest;
        holds = holds_more w.entries (step.entry ∷ []) w.released keeps.holds;
        left = λ image left.
            with_image step steps image
            (leaves.each image (subst (λ (n : ℕ). LeftSince (with_entry w.entries step.entry w.drive) n image) began left));
        rising = keeps.rising;
        reached = keeps.reached;
        checked = keeps.checked;
      }

  pub commit_keeps : (answer : Result Step OwnerFault) (says : Said) (after : WorldModel) → StepOf w.key w.roots batch.commands proofs answer
      → CommitGives answer w says after → Keeps after
  commit_keeps (Err fault) says after is gives = subst Keeps (sym gives.1) keeps
  commit_keeps (Ok step) says after is gives = subst Keeps (sym gives.1) (behind_keeps step is)

-- The owner comes back.

-- the world on what a stop left
abbrev pub world_on : WorldModel → List ℕ → List Entry → Roots → WorldModel
world_on w image es roots = record w { roots = roots; entries = es; drive = sync_now (fresh image); since = 0 }

module _ (w : WorldModel) (keeps : Keeps w) (image : List ℕ) where
  world_on_keeps : (es : List Entry) (roots : Roots) → LeftSince w.drive w.since image → IsJournal image es → AreStepsTo w.key es roots
      → Keeps (world_on w image es roots)
  world_on_keeps es roots left is steps =
      let safe = keeps.left image left in
      let holds = subst (λ (xs : List Entry). HoldsEach xs w.released) (one_journal image safe.entries es safe.is is) safe.holds in
      record {
        signs = keeps.signs;
        steps = steps;
        rest = found_rests image es (some_entry w.key es roots steps) is;
        holds = holds;
        left = λ later still. subst (IsSafe w.key w.released) (sym (found_left image later still)) safe;
        rising = keeps.rising;
        reached = keeps.reached;
        checked = keeps.checked;
      }

  pub crash_keeps : (says : Said) (after : WorldModel) → Crashes w image says after → Keeps after
  crash_keeps says after (inl (left, es, is, roots, steps, said, same)) = subst Keeps (sym same) (world_on_keeps es roots left is steps)
  crash_keeps says after (inr (never, said, same)) = subst Keeps (sym same) keeps

-- A client gets a reply.

module _ (leasts : List ℕ) (client version : ℕ) (within : client < length leasts) (age : slice_index leasts client ≤ version) where
  pub reached_now : slice_index (slice_set leasts client version) client ≡ version
  reached_now = get_or-set_same leasts client version 0 within

  still_reached : (reply : AcceptedReply) → IsReached leasts reply → IsReached (slice_set leasts client version) reply
  still_reached reply before =
      elim (eqb_tells reply.client client) [
        | inl t ↦
            let least : slice_index leasts reply.client ≡ slice_index leasts client = ap (slice_index leasts) t.1 in
            let new : slice_index (slice_set leasts client version) reply.client ≡ version =
            ap (slice_index (slice_set leasts client version)) t.1 ∙ reached_now in
            omega (arith, before, age, least, new)
        | inr t ↦
            let same : slice_index (slice_set leasts client version) reply.client ≡ slice_index leasts reply.client =
            get_or-set_other leasts client reply.client version 0 t.1 in
            omega (arith, before, same)
      ]

  pub all_reached : (accepted : List AcceptedReply) (reply : AcceptedReply) → reply.client ≡ client → reply.version ≡ version
      → AllByRecursion (IsReached leasts) accepted → AllByRecursion (IsReached (slice_set leasts client version)) (accepted ++ reply ∷ [])
  all_reached accepted reply own is all =
      all_more (IsReached (slice_set leasts client version)) accepted reply (each (IsReached leasts) (IsReached (slice_set leasts client version)) accepted still_reached all)
      (let new : slice_index (slice_set leasts client version) reply.client ≡ version =
      ap (slice_index (slice_set leasts client version)) own ∙ reached_now in
      omega (arith, is, new))

  not_above : (earlier reply : AcceptedReply) → reply.client ≡ client → reply.version ≡ version → IsReached leasts earlier
      → earlier.client ≡ reply.client → earlier.version ≤ reply.version
  not_above earlier reply own is before same =
      let least : slice_index leasts earlier.client ≡ slice_index leasts client = ap (slice_index leasts) (same ∙ own) in
      omega (arith, before, age, least, is)

  pub still_rising : (accepted : List AcceptedReply) (reply : AcceptedReply) → reply.client ≡ client → reply.version ≡ version
      → AllByRecursion (IsReached leasts) accepted → NeverFall accepted → NeverFall (accepted ++ reply ∷ [])
  still_rising [] reply own is all rising = (tt, tt)
  still_rising (earlier ∷ accepted) reply own is all rising = (
    all_more (λ (r : AcceptedReply). earlier.client ≡ r.client → earlier.version ≤ r.version) accepted reply rising.0
        (not_above earlier reply own is all.0),
    still_rising accepted reply own is all.1 rising.1,
  )

abbrev pub reply_of : ℕ → QueryText → List ℕ → ℕ → AcceptedReply
reply_of client query bytes version = record { client = client; query = query; bytes = bytes; version = version }

-- the world behind a reply that a client accepted
abbrev pub with_reply : WorldModel → ℕ → QueryText → List ℕ → ℕ → WorldModel
with_reply w client query bytes version = record w {
  leasts = slice_set w.leasts client version;
  accepted = w.accepted ++ reply_of client query bytes version ∷ [];
}

module _ (w : WorldModel) (keeps : Keeps w) (client : ℕ) (query : QueryText) (bytes : List ℕ) (within : client < length w.leasts) where
  abbrev Checks : Result Answer CheckFault → Type 0
  Checks answer = CheckOf (public_of_secret w.key) (slice_index w.leasts client) (query_of query) bytes answer

  with_reply_keeps : (answer : Answer) → Checks (Ok answer) → Keeps (with_reply w client query bytes answer.version)
  with_reply_keeps answer checked =
      let known = accepts_reply (public_of_secret w.key) (slice_index w.leasts client) (query_of query) bytes answer checked in
      let reply = reply_of client query bytes answer.version in
      record {
        signs = keeps.signs;
        steps = keeps.steps;
        rest = keeps.rest;
        holds = keeps.holds;
        left = keeps.left;
        rising = still_rising w.leasts client answer.version within known.age w.accepted reply refl refl keeps.reached keeps.rising;
        reached = all_reached w.leasts client answer.version within known.age w.accepted reply refl refl keeps.reached;
        checked = all_more (IsAccepted (public_of_secret w.key)) w.accepted reply keeps.checked
            (record { least = slice_index w.leasts client; answer = answer; checked = checked; version = refl });
      }

  pub receive_keeps : (answer : Result Answer CheckFault) (says : Said) (after : WorldModel) → Checks answer
      → ReceiveGives client query bytes answer w says after → Keeps after
  receive_keeps (Err fault) says after checked gives = subst Keeps (sym gives.1) keeps
  receive_keeps (Ok answer) says after checked gives = subst Keeps (sym gives.1) (with_reply_keeps answer checked)

-- Any event.

pub commits_keep : (w : WorldModel) (batch : Batch) (proofs : List ℕ) (says : Said) (after : WorldModel) → Keeps w → FitsBatch batch.commands
    → Commits w batch proofs says after → Keeps after
commits_keep w batch proofs says after keeps fits (answer, is, gives) =
    commit_keeps (begun w) (begun_keeps w keeps) refl batch proofs fits answer says after is gives

pub receives_keep : (w : WorldModel) (client : ℕ) (query : QueryText) (bytes : List ℕ) (says : Said) (after : WorldModel) → Keeps w → client < length w.leasts
    → Receives w client query bytes says after → Keeps after
receives_keep w client query bytes says after keeps within (answer, checked, gives) =
    receive_keeps (begun w) (begun_keeps w keeps) client query bytes within answer says after checked gives

pub step_keeps : (w : WorldModel) (event : Event) (says : Said) (after : WorldModel) → Keeps w → FitsEvent (length w.leasts) event → Steps w event says after
    → Keeps after
step_keeps w (Commit batch proofs) says after keeps fits steps = commits_keep w batch proofs says after keeps fits steps
step_keeps w (Crash image) says after keeps fits steps = crash_keeps w keeps image says after steps
step_keeps w (Receive client query bytes) says after keeps fits steps = receives_keep w client query bytes says after keeps fits steps

-- there are as many clients as before
pub same_clients : (w : WorldModel) (event : Event) (says : Said) (after : WorldModel) → Steps w event says after → length after.leasts ≡ length w.leasts
same_clients w (Commit batch proofs) says after (answer, is, gives) = by answer gives
  where
    by : (answer : Result Step OwnerFault) → CommitGives answer (begun w) says after → length after.leasts ≡ length w.leasts
    by (Err fault) gives = ap (λ (v : WorldModel). length v.leasts) gives.1
    by (Ok step) gives = ap (λ (v : WorldModel). length v.leasts) gives.1
same_clients w (Crash image) says after (inl (left, es, is, roots, steps, said, same)) = ap (λ (v : WorldModel). length v.leasts) same
same_clients w (Crash image) says after (inr (never, said, same)) = ap (λ (v : WorldModel). length v.leasts) same
same_clients w (Receive client query bytes) says after (answer, checked, gives) = by answer gives
  where
    by : (answer : Result Answer CheckFault) → ReceiveGives client query bytes answer (begun w) says after → length after.leasts ≡ length w.leasts
    by (Err fault) gives = ap (λ (v : WorldModel). length v.leasts) gives.1
    by (Ok answer) gives = ap (λ (v : WorldModel). length v.leasts) gives.1 ∙ length-set w.leasts client answer.version
