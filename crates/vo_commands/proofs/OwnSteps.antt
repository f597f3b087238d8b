-- The commitment of a script's batches: what the files say of it, and what a stop leaves of the journal.
use Rattle.std.proofs.Common.{◌≡◌, ℕ, zero, suc, ◌+◌, List, [], ◌∷◌, ◌++◌, length, map, Option, Some, None, Result, Ok, Err, refl, sym, ap, ◌∙◌, subst, arith}
use mathlib.Core.Logic.{inl, inr}
use Rattle.std.specs.Prelude.{◌⊎◌, All, IfSome, OnErr, option_map, slice_get}
use Rattle.std.specs.Global.{Vec}
use Rattle.std.proofs.lemmas.List.{length-append}
use Rattle.std.proofs.lemmas.List.Elements.{All-cons, All-nil}
use Rattle.outside.specs.ConnectionModel.{ConnectionModel, open_known, open_next}
use Rattle.outside.specs.DiskModel.{DiskModel, MayLeave, now}
use Rattle.outside.specs.Moments.{IfKnown, LeavesOnly}
use Rattle.outside.specs.Shelf.{Files}
use Rattle.outside.specs.Outputs.{Writes, outside_failure}
use Rattle.vo_spec.specs.declared.tables.Batch.{Batch}
use Rattle.vo_spec.specs.declared.records.Entry.{Entry}
use Rattle.vo_spec.specs.Secret.{Secret}
use Rattle.vo_spec.specs.Journals.{Holds, IsJournal}
use Rattle.owner_journal.specs.Resting.{HoldsAsBefore, HoldsWith, IsAtRest}
use Rattle.owner_journal.proofs.RestLaws.{rest_holds}
use Rattle.owner_state.specs.Held.{Held}
use Rattle.owner_state.specs.Stepping.{first_entry}
use Rattle.owner_session.specs.Requests.{PutsRequests}
use Rattle.owner_session.specs.Runs.{Snapshot, input_of, snapshot_of}
use Rattle.owner_session.specs.Sessions.{SessionEnds, SessionIsDone, SessionRuns}
use Rattle.owner_session.specs.SessionWork.{Deed, SessionWork, session}
use Rattle.sql_text.specs.Scripts.{IsScript}
use Rattle.cli_args.specs.Shapes.{PlainShape}
use Rattle.vo_commands.specs.declared.report.Report.{Report}
use Rattle.vo_commands.specs.declared.report.Stop.{Stop}
use Rattle.vo_commands.specs.declared.report.Stop.TheVariants.{Refused, Outside, Memory}
use Rattle.vo_commands.specs.Expected.{Expected, Ends, OfScript, Owns, Allows, script_limit, with_file, with_seed, with_text}
use Rattle.vo_commands.specs.Reports.{GoesOn, ReadsText, WritesOutcome, output_of}
use Rattle.vo_commands.specs.Texts.{IsRefusedScript}
use Rattle.vo_commands.specs.Committing.{AreOfVersions, IsJudgement, LeavesWith, entry_forms}
use Rattle.vo_commands.specs.Owning.{Commits, CommitsFrom, CommitsNothing, CommitsOnline, CommitsOver, IsCommitment, KeepsEntry, Leaves, LeavesAsBefore, LeavesAsFound, OwnEnds, Prepares, commitment_expected, commitment_in}

-- The script.

pub script_prepared : (secret : Secret) (script text : List ℕ) (r : Result (Vec Batch) Stop) → ((rest : List ℕ → Expected) → with_text rest script ≡ rest text)
    → ReadsText (λ (v : Vec Batch). v.items) (IsScript text) (IsRefusedScript text) r → Prepares (commitment_in secret script) secret r
script_prepared secret script text (Ok batches) goes reads =
    subst (λ (x : Expected). IsCommitment x secret batches.items) (sym (goes (λ t. OfScript t (λ bs. Owns secret bs)))) (batches.items, reads, (refl, refl))
script_prepared secret script text (Err (Refused report)) goes reads =
    subst (λ (x : Expected). Allows x (output_of report)) (sym (goes (λ t. OfScript t (λ bs. Owns secret bs)))) (inr reads)
script_prepared secret script text (Err Outside) goes reads = absurd reads
script_prepared secret script text (Err Memory) goes reads = tt

pub text_unprepared : {A : Type 0} (view : A → List ℕ) (secret : Secret) (script : List ℕ) (stop : Stop)
    → GoesOn view (λ rest. with_text rest script) (Err stop) → Prepares (commitment_in secret script) secret (Err stop)
text_unprepared view secret script (Refused report) goes =
    subst (λ (x : Expected). Allows x (output_of report)) (sym (goes (λ t. OfScript t (λ bs. Owns secret bs)))) refl
text_unprepared view secret script Outside goes = tt
text_unprepared view secret script Memory goes = tt

-- The file.

module _ (script held : List ℕ) (r : Result (Vec Batch) Stop) where
  pub batches_prepared : (o : Option Files) → IfSome o (λ known. (rest : List ℕ → Expected) → with_file known script script_limit rest ≡ rest held)
      → ((secret : Secret) → Prepares (commitment_in secret held) secret r)
      → IfSome o (λ known. (secret : Secret) → Prepares (with_file known script script_limit (commitment_in secret)) secret r)
  batches_prepared None f prepares = tt
  batches_prepared (Some known) f prepares = λ secret. by (with_file known script script_limit (commitment_in secret)) secret r (f (commitment_in secret)) (prepares secret)
    where
      by : (expected : Expected) (secret : Secret) (r : Result (Vec Batch) Stop) → expected ≡ commitment_in secret held
          → Prepares (commitment_in secret held) secret r → Prepares expected secret r
      by expected secret (Ok batches) is p = subst (λ (x : Expected). IsCommitment x secret batches.items) (sym is) p
      by expected secret (Err (Refused report)) is p = subst (λ (x : Expected). Allows x (output_of report)) (sym is) p
      by expected secret (Err Outside) is p = tt
      by expected secret (Err Memory) is p = tt

-- A stop of the machine.

left_now : (before after : DiskModel) (P : List ℕ → Type 0) → LeavesOnly before after P → (image : List ℕ) → MayLeave after image → P image
left_now before after P leaves image left =
    let long : length after.calls ≡ length before.calls + length leaves.more.0 = ap length leaves.more.1 ∙ length-append before.calls leaves.more.0 in
    leaves.each image (now after, omega (arith, long), omega arith, left)

pub leaves_with : (old new : Option DiskModel) (es later : List Entry) (e : Entry) → later ≡ es
    → IfKnown old new (λ before after. IsAtRest es before → LeavesOnly before after (HoldsWith es e)) → IfSome old (IsAtRest es) → LeavesWith new later e
leaves_with None None es later e same known rests = tt
leaves_with (Some before) (Some after) es later e same known rests =
    λ image left. subst (λ (fs : List Entry). HoldsWith fs e image) (sym same) (left_now before after (HoldsWith es e) (known rests) image left)
leaves_with None (Some after) es later e same known rests = absurd known
leaves_with (Some before) None es later e same known rests = absurd known

-- A session.

abbrev Rests : Option DiskModel → List Entry → Type 0
Rests drive es = IfSome drive (IsAtRest es)

module _ (drive : Option DiskModel) (entries : List Entry) (are : AreOfVersions entries) where
  held_at : (es : List Entry) (e : Entry) → slice_get es e.rec.version ≡ Some e → Holds es e.rec
  unfolding Holds
  held_at es e found = ap (option_map (λ (x : Entry). x.rec)) found

  found_at : (e : Entry) (v : ℕ) → slice_get entries v ≡ Some e → slice_get entries e.rec.version ≡ Some e
  found_at e v found = subst (λ (w : ℕ). slice_get entries w ≡ Some e) (sym (are v e found)) found

  behind_front : (es more : List Entry) (v : ℕ) (e : Entry) → slice_get es v ≡ Some e → slice_get (es ++ more) v ≡ Some e
  behind_front [] more v e found = absurd (cc)
  behind_front (f ∷ es) more zero e found = found
  behind_front (f ∷ es) more (suc v) e found = behind_front es more v e found

  rested : (e : Entry) (v : ℕ) → slice_get entries v ≡ Some e → (o : Option DiskModel) → Rests o entries → KeepsEntry o e
  rested e v found None rests = tt
  rested e v found (Some known) rests = λ image left. (entries, rest_holds entries known rests image left, held_at entries e (found_at e v found))

  with_last : (e last : Entry) (v : ℕ) → slice_get entries v ≡ Some e → (o : Option DiskModel) → LeavesWith o entries last → KeepsEntry o e
  with_last e last v found None leaves = tt
  with_last e last v found (Some known) leaves = λ image left. either image (leaves image left)
    where
      either : (image : List ℕ) → HoldsWith entries last image → (es : List Entry) × IsJournal image es × Holds es e.rec
      either image (inl j) = (entries, j, held_at entries e (found_at e v found))
      either image (inr j) =
          (entries ++ last ∷ [], j, held_at (entries ++ last ∷ []) e (behind_front entries (last ∷ []) e.rec.version e (found_at e v found)))

  all_kept : (o : Option DiskModel) → ((e : Entry) (v : ℕ) → slice_get entries v ≡ Some e → KeepsEntry o e) → All (KeepsEntry o) entries
  all_kept o keeps = over entries (λ v e found. keeps e v found)
    where
      over : (es : List Entry) → ((v : ℕ) (e : Entry) → slice_get es v ≡ Some e → KeepsEntry o e) → All (KeepsEntry o) es
      over [] h = All-nil (KeepsEntry o)
      over (e ∷ es) h = All-cons (KeepsEntry o) e es (h 0 e refl) (over es (λ v f found. h (suc v) f found))

  pub kept_at_rest : Rests drive entries → All (KeepsEntry drive) entries
  kept_at_rest rests = all_kept drive (λ e v found. rested e v found drive rests)

  pub kept_with : (last : Entry) → LeavesWith drive entries last → All (KeepsEntry drive) entries
  kept_with last leaves = all_kept drive (λ e v found. with_last e last v found drive leaves)

  pub leaves_at_rest : (o : Option DiskModel) → Rests o entries → Leaves o entries
  leaves_at_rest None rests = tt
  leaves_at_rest (Some known) rests = λ image left. rest_holds entries known rests image left

-- An owner that doesn't get so far.

rest_found : (secret : Secret) (es : List Entry) (drive : DiskModel) → IsAtRest es drive → LeavesAsFound secret es drive
rest_found secret es drive rests = λ image left. inl (rest_holds es drive rests image left)

pub found_still : (secret : Secret) (es : List Entry) (old new : Option DiskModel) → new ≡ old → Rests old es → IfKnown old new (λ _. LeavesAsFound secret es)
found_still secret es old new same rests = subst (λ (o : Option DiskModel). IfKnown old o (λ _. LeavesAsFound secret es)) (sym same) (at old rests)
  where
    at : (o : Option DiskModel) → Rests o es → IfKnown o o (λ _. LeavesAsFound secret es)
    at None rests = tt
    at (Some drive) rests = rest_found secret es drive rests

pub begun_in_part : (secret : Secret) (es : List Entry) (e : Entry) (old new : Option DiskModel) → es ≡ [] → e ≡ first_entry secret
    → IfKnown old new (λ before after. IsAtRest es before → LeavesOnly before after (HoldsWith es e)) → Rests old es
    → IfKnown old new (λ _. LeavesAsFound secret es)
begun_in_part secret es e None None empty is known rests = tt
begun_in_part secret es e (Some before) (Some after) empty is known rests = λ image left. by image (left_now before after (HoldsWith es e) (known rests) image left)
  where
    by : (image : List ℕ) → HoldsWith es e image → IsJournal image es ⊎ ((es ≡ []) × IsJournal image (first_entry secret ∷ []))
    by image (inl j) = inl j
    by image (inr j) =
        inr (empty, subst (λ (x : Entry). IsJournal image (x ∷ [])) is (subst (λ (fs : List Entry). IsJournal image (fs ++ e ∷ [])) empty j))
begun_in_part secret es e None (Some after) empty is known rests = absurd known
begun_in_part secret es e (Some before) None empty is known rests = absurd known

pub opened_in_part : (secret : Secret) (old new : Option DiskModel) → IfKnown old new (λ before after. LeavesOnly before after (HoldsAsBefore before))
    → IfKnown old new (LeavesAsBefore secret)
opened_in_part secret None None known = tt
opened_in_part secret (Some before) (Some after) known = λ image left. inl (left_now before after (HoldsAsBefore before) known image left)
opened_in_part secret None (Some after) known = absurd known
opened_in_part secret (Some before) None known = absurd known

module _ (secret : Secret) (es : List Entry) where
  as_before : (old mid new : Option DiskModel) → IfKnown old mid (λ before after. LeavesOnly before after (HoldsAsBefore before))
      → IfSome old (λ known. IsJournal known.seen es) → IfSome old (λ known. MayLeave known known.seen)
      → IfKnown mid new (λ _. LeavesAsFound secret es) → IfKnown old new (LeavesAsBefore secret)
  as_before None None None opened found sees known = tt
  as_before None None (Some after) opened found sees known = absurd known
  as_before None (Some mid) new opened found sees known = absurd opened
  as_before (Some before) None new opened found sees known = absurd opened
  as_before (Some before) (Some mid) None opened found sees known = absurd known
  as_before (Some before) (Some mid) (Some after) opened found sees known = λ image left. by image (known image left)
    where
      by : (image : List ℕ) → IsJournal image es ⊎ ((es ≡ []) × IsJournal image (first_entry secret ∷ []))
          → HoldsAsBefore before image ⊎ (IsJournal before.seen [] × IsJournal image (first_entry secret ∷ []))
      by image (inl j) = inl (inr (before.seen, sees, es, found, j))
      by image (inr j) = inr (subst (IsJournal before.seen) j.0 found, j.1)

  pub kept_as_before : {T : Type 0} (old mid new : Option DiskModel) (r : Result T Stop)
      → IfKnown old mid (λ before after. LeavesOnly before after (HoldsAsBefore before))
      → IfSome old (λ known. IsJournal known.seen es) → IfSome old (λ known. MayLeave known known.seen)
      → OnErr r (IfKnown mid new (λ _. LeavesAsFound secret es)) → OnErr r (IfKnown old new (LeavesAsBefore secret))
  kept_as_before old mid new (Ok x) opened found sees known = tt
  kept_as_before old mid new (Err stop) opened found sees known = as_before old mid new opened found sees known

module _ (batches : List Batch) (NetRose DiskRose OutRose : Type 0) (status : ℕ) (held later : Held) (es entries : List Entry)
    (old drive : Option DiskModel) (before after : ConnectionModel) (written later_written : Option (List ℕ)) where
  abbrev First : Snapshot Held Entry
  First = snapshot_of before written held es

  abbrev Last : Snapshot Held Entry
  Last = snapshot_of after later_written later entries

  abbrev EndsSo : SessionWork Held Batch Entry → List (Deed Held Batch Entry) → (Kept : Type 0) → (Entry → Type 0) → Type 0
  EndsSo work deeds Kept KeptWith = SessionEnds work NetRose DiskRose OutRose Kept KeptWith status deeds First Last

  ends_kept : (work : SessionWork Held Batch Entry) (deeds : List (Deed Held Batch Entry)) → AreOfVersions entries → Rests old es
      → EndsSo work deeds (Rests old es → Rests drive entries) (λ e. Rests old es → LeavesWith drive entries e)
      → EndsSo work deeds (Leaves drive entries) (LeavesWith drive entries) × All (KeepsEntry drive) entries
  ends_kept work deeds are rests (inl (k, done)) =
      (inl (leaves_at_rest drive entries are drive (k rests), done), kept_at_rest drive entries are (k rests))
  ends_kept work deeds are rests (inr (inl (rose, k, stops))) =
      (inr (inl (rose, leaves_at_rest drive entries are drive (k rests), stops)), kept_at_rest drive entries are (k rests))
  ends_kept work deeds are rests (inr (inr (inl (rose, (e, next, is, k), stops)))) =
      (inr (inr (inl (rose, (e, next, is, k rests), stops))), kept_with drive entries are e (k rests))
  ends_kept work deeds are rests (inr (inr (inr (inl (rose, k, stops))))) =
      (inr (inr (inr (inl (rose, leaves_at_rest drive entries are drive (k rests), stops)))), kept_at_rest drive entries are (k rests))
  ends_kept work deeds are rests (inr (inr (inr (inr (k, stops))))) =
      (inr (inr (inr (inr (leaves_at_rest drive entries are drive (k rests), stops)))), kept_at_rest drive entries are (k rests))

  pub session_commits : AreOfVersions entries → Rests old es
      → SessionRuns entry_forms IsJudgement batches NetRose DiskRose OutRose (Rests old es → Rests drive entries)
      (λ e. Rests old es → LeavesWith drive entries e) status First Last
      → (status ≡ 0 → SessionIsDone entry_forms IsJudgement batches First Last)
      → PutsRequests entry_forms (map entry_forms.batch es ++ batches) entries before after
      → Commits batches NetRose DiskRose OutRose status held es drive before after written later_written
  session_commits are rests runs done puts =
      let ends = ends_kept (session entry_forms held es batches (input_of First runs.judgements)) runs.deeds are rests runs.ends in
      record {
        later = later;
        entries = entries;
        runs = record {
          judgements = runs.judgements;
          deeds = runs.deeds;
          are_judgements = runs.are_judgements;
          leads = runs.leads;
          ends = ends.0;
        };
        done = done;
        puts = puts;
        kept = ends.1;
      }

session_ends : (batches : List Batch) (NetRose DiskRose OutRose : Type 0) (status : ℕ) (held later : Held) (es entries : List Entry)
    (old drive : Option DiskModel) (before : ConnectionModel) (wire : Option ConnectionModel) (written later_written : Option (List ℕ))
    → AreOfVersions entries → Rests old es
    → ((after : ConnectionModel) × (wire ≡ Some after) × SessionRuns entry_forms IsJudgement batches NetRose DiskRose OutRose
    (Rests old es → Rests drive entries) (λ e. Rests old es → LeavesWith drive entries e) status
    (snapshot_of before written held es) (snapshot_of after later_written later entries))
    → ((after : ConnectionModel) × (wire ≡ Some after) × PutsRequests entry_forms (map entry_forms.batch es ++ batches) entries before after)
    → (status ≡ 0 → (after : ConnectionModel) × (wire ≡ Some after) × SessionIsDone entry_forms IsJudgement batches
    (snapshot_of before written held es) (snapshot_of after later_written later entries))
    → (after : ConnectionModel) × (wire ≡ Some after)
    × Commits batches NetRose DiskRose OutRose status held es drive before after written later_written
session_ends batches NetRose DiskRose OutRose status held later es entries old drive before wire written later_written are rests runs puts done = (
  runs.0,
  runs.1,
  session_commits batches NetRose DiskRose OutRose status held later es entries old drive before runs.0 written later_written are rests runs.2
      (λ zero. subst (λ (x : ConnectionModel). SessionIsDone entry_forms IsJudgement batches (snapshot_of before written held es) (snapshot_of x later_written later entries))
      (one (done zero).0 runs.0 (done zero).1 runs.1) (done zero).2)
      (subst (λ (x : ConnectionModel). PutsRequests entry_forms (map entry_forms.batch es ++ batches) entries before x) (one puts.0 runs.0 puts.1 runs.1) puts.2),
)
  where
    one : (a b : ConnectionModel) → wire ≡ Some a → wire ≡ Some b → a ≡ b
    one a b first second = cc

pub commits_over : (batches : List Batch) (NetRose DiskRose OutRose : Type 0) (status : ℕ) (held later : Held) (es entries : List Entry)
    (old drive : Option DiskModel) (wire later_wire : Option ConnectionModel) (written later_written : Option (List ℕ))
    → AreOfVersions entries → Rests old es
    → ((before : ConnectionModel) → wire ≡ Some before → (after : ConnectionModel) × (later_wire ≡ Some after)
    × SessionRuns entry_forms IsJudgement batches NetRose DiskRose OutRose
    (Rests old es → Rests drive entries) (λ e. Rests old es → LeavesWith drive entries e) status
    (snapshot_of before written held es) (snapshot_of after later_written later entries))
    → ((before : ConnectionModel) → wire ≡ Some before → (after : ConnectionModel) × (later_wire ≡ Some after)
    × PutsRequests entry_forms (map entry_forms.batch es ++ batches) entries before after)
    → (status ≡ 0 → (before : ConnectionModel) → wire ≡ Some before → (after : ConnectionModel) × (later_wire ≡ Some after)
    × SessionIsDone entry_forms IsJudgement batches (snapshot_of before written held es) (snapshot_of after later_written later entries))
    → CommitsOver batches NetRose DiskRose OutRose status held es drive wire later_wire written later_written
unfolding CommitsOver
commits_over batches NetRose DiskRose OutRose status held later es entries old drive wire later_wire written later_written are rests runs puts done =
    λ before is. session_ends batches NetRose DiskRose OutRose status held later es entries old drive before later_wire written later_written are rests
    (runs before is) (puts before is) (λ zero. done zero before is)

-- Faults that rose in a part of a run rose in it.

module _ (batches : List Batch) (N M D E OutRose : Type 0) (net : N → M) (disk : D → E) (status : ℕ) (held : Held) (es : List Entry) (drive : Option DiskModel)
    (written later_written : Option (List ℕ)) where
  ends_later : (work : SessionWork Held Batch Entry) (Kept : Type 0) (KeptWith : Entry → Type 0) (deeds : List (Deed Held Batch Entry)) (first last : Snapshot Held Entry)
      → SessionEnds work N D OutRose Kept KeptWith status deeds first last → SessionEnds work M E OutRose Kept KeptWith status deeds first last
  ends_later work Kept KeptWith deeds first last (inl done) = inl done
  ends_later work Kept KeptWith deeds first last (inr (inl (rose, k, stops))) = inr (inl (net rose, k, stops))
  ends_later work Kept KeptWith deeds first last (inr (inr (inl (rose, k, stops)))) = inr (inr (inl (disk rose, k, stops)))
  ends_later work Kept KeptWith deeds first last (inr (inr (inr ends))) = inr (inr (inr ends))

  commits_later : (before after : ConnectionModel) → Commits batches N D OutRose status held es drive before after written later_written
      → Commits batches M E OutRose status held es drive before after written later_written
  commits_later before after commits = record {
    later = commits.later;
    entries = commits.entries;
    runs = record {
      judgements = commits.runs.judgements;
      deeds = commits.runs.deeds;
      are_judgements = commits.runs.are_judgements;
      leads = commits.runs.leads;
      ends = ends_later (session entry_forms held es batches (input_of (snapshot_of before written held es) commits.runs.judgements))
          (Leaves drive commits.entries) (LeavesWith drive commits.entries) commits.runs.deeds
          (snapshot_of before written held es) (snapshot_of after later_written commits.later commits.entries) commits.runs.ends;
    };
    done = commits.done;
    puts = commits.puts;
    kept = commits.kept;
  }

  pub connected : (before : ConnectionModel) (wire opened later : Option ConnectionModel) → wire ≡ Some before → opened ≡ open_known wire
      → CommitsOver batches N D OutRose status held es drive opened later written later_written
      → CommitsOnline batches M E OutRose status held es drive before later written later_written
  unfolding CommitsOver
  connected before wire opened later is opens ends =
      let last = ends (open_next before) (opens ∙ ap open_known is) in
      inr (last.0, last.1, commits_later (open_next before) last.0 last.2)

  pub online_later : (before : ConnectionModel) (later : Option ConnectionModel)
      → CommitsOnline batches N D OutRose status held es drive before later written later_written
      → CommitsOnline batches M E OutRose status held es drive before later written later_written
  online_later before later (inl (rose, leaves, same, wrote)) = inl (net rose, leaves, same, wrote)
  online_later before later (inr (after, is, commits)) = inr (after, is, commits_later (open_next before) after commits)

pub offline : (batches : List Batch) (NetRose DiskRose OutRose : Type 0) (status : ℕ) (held : Held) (es : List Entry) (drive : Option DiskModel)
    (before : ConnectionModel) (wire later : Option ConnectionModel) (written later_written : Option (List ℕ))
    → NetRose → Rests drive es → wire ≡ Some before → later ≡ wire → Writes outside_failure OutRose status written later_written
    → CommitsOnline batches NetRose DiskRose OutRose status held es drive before later written later_written
offline batches NetRose DiskRose OutRose status held es drive before wire later written later_written rose rests is still wrote =
    inl (rose, leaves drive rests, still ∙ is, wrote)
  where
    leaves : (o : Option DiskModel) → Rests o es → Leaves o es
    leaves None rests = tt
    leaves (Some known) rests = λ image left. rest_holds es known rests image left

-- The whole run.

module _ (NetRose DiskRose OutRose : Type 0) (status : ℕ) (drive later_drive : Option DiskModel) (wire later_wire : Option ConnectionModel)
    (written later_written : Option (List ℕ)) where
  abbrev Ended : Expected → Type 0 → Type 0
  Ended expected FilesRose =
      OwnEnds expected FilesRose NetRose DiskRose OutRose status drive later_drive wire later_wire written later_written

  ends_prepared : (FilesRose : Type 0) (secret : Secret) (batches : Vec Batch) (expected : Expected) → Prepares expected secret (Ok batches)
      → CommitsFrom secret batches.items NetRose DiskRose OutRose status drive later_drive wire later_wire written later_written
      → Ended expected FilesRose
  ends_prepared FilesRose secret batches expected prepares commits = inr (secret, batches.items, prepares, commits)

  stopped : (FilesRose : Type 0) (expected : Expected) (stop : Stop) → ((report : Report) → stop ≡ Refused report → Allows expected (output_of report))
      → (stop ≡ Outside → FilesRose) → WritesOutcome (Err stop) OutRose status written later_written
      → Ends expected FilesRose OutRose status written later_written
  stopped FilesRose expected (Refused report) allows rose wrote = inr (inl (output_of report, allows report refl, wrote))
  stopped FilesRose expected Outside allows rose wrote = inr (inr (rose refl, wrote))
  stopped FilesRose expected Memory allows rose wrote = inl wrote

  ends_stopped : (FilesRose : Type 0) (expected : Expected) (stop : Stop) → later_drive ≡ drive → later_wire ≡ wire
      → ((report : Report) → stop ≡ Refused report → Allows expected (output_of report))
      → (stop ≡ Outside → FilesRose) → WritesOutcome (Err stop) OutRose status written later_written → Ended expected FilesRose
  ends_stopped FilesRose expected stop same still allows rose wrote =
      inl (stopped FilesRose expected stop allows rose wrote, same, still)

  pub run_prepared : (FilesRose : Type 0) (secret : Secret) (batches : Vec Batch) (script : List ℕ) (o : Option Files)
      → IfSome o (λ known. (secret : Secret) → Prepares (with_file known script script_limit (commitment_in secret)) secret (Ok batches))
      → CommitsFrom secret batches.items NetRose DiskRose OutRose status drive later_drive wire later_wire written later_written
      → IfSome o (λ known. Ended (with_file known script script_limit (commitment_in secret)) FilesRose)
  run_prepared FilesRose secret batches script None prepares commits = tt
  run_prepared FilesRose secret batches script (Some known) prepares commits =
      ends_prepared FilesRose secret batches (with_file known script script_limit (commitment_in secret)) (prepares secret) commits

  pub run_unprepared : (FilesRose : Type 0) (secret : Secret) (script : List ℕ) (stop : Stop) (o : Option Files)
      → IfSome o (λ known. (secret : Secret) → Prepares (with_file known script script_limit (commitment_in secret)) secret (Err stop))
      → later_drive ≡ drive → later_wire ≡ wire → (stop ≡ Outside → FilesRose) → WritesOutcome (Err stop) OutRose status written later_written
      → IfSome o (λ known. Ended (with_file known script script_limit (commitment_in secret)) FilesRose)
  run_unprepared FilesRose secret script stop None prepares same still rose wrote = tt
  run_unprepared FilesRose secret script stop (Some known) prepares same still rose wrote =
      let expected = with_file known script script_limit (commitment_in secret) in
      ends_stopped FilesRose expected stop same still (λ report is. subst (λ (s : Stop). Prepares expected secret (Err s)) is (prepares secret)) rose wrote

  pub run_without_key : {A : Type 0} (view : A → Secret) (FilesRose : Type 0) (seed script : List ℕ) (shape : PlainShape) (stop : Stop) (o : Option Files)
      → IfSome o (λ known. GoesOn view (with_seed known seed shape) (Err stop)) → later_drive ≡ drive → later_wire ≡ wire
      → (stop ≡ Outside → FilesRose)
      → WritesOutcome (Err stop) OutRose status written later_written → IfSome o (λ known. Ended (commitment_expected seed script shape known) FilesRose)
  run_without_key view FilesRose seed script shape stop None goes same still rose wrote = tt
  run_without_key {A = A} view FilesRose seed script shape stop (Some known) goes same still rose wrote =
      ends_stopped FilesRose (commitment_expected seed script shape known) stop same still
      (λ report is. subst (λ (x : Expected). Allows x (output_of report))
      (sym (subst (λ (s : Stop). GoesOn {A = A} view (with_seed known seed shape) (Err s)) is goes
      (λ secret. with_file known script script_limit (commitment_in secret)))) refl) rose wrote

  pub run_with_key : (Before FilesRose : Type 0) (seed script : List ℕ) (shape : PlainShape) (secret : Secret) (o p : Option Files) → p ≡ o → (Before → FilesRose)
      → IfSome o (λ known. (rest : Secret → Expected) → with_seed known seed shape rest ≡ rest secret)
      → IfSome p (λ known. Ended (with_file known script script_limit (commitment_in secret)) Before)
      → IfSome o (λ known. Ended (commitment_expected seed script shape known) FilesRose)
  run_with_key Before FilesRose seed script shape secret o p same rises goes ended =
      step o goes (subst (λ z. IfSome z (λ known. Ended (with_file known script script_limit (commitment_in secret)) Before)) same ended)
    where
      later : (expected : Expected) → Ended expected Before → Ended expected FilesRose
      later expected (inl (inl wrote, same, still)) = inl (inl wrote, same, still)
      later expected (inl (inr (inl output), same, still)) = inl (inr (inl output), same, still)
      later expected (inl (inr (inr (rose, wrote)), same, still)) = inl (inr (inr (rises rose, wrote)), same, still)
      later expected (inr commits) = inr commits

      step : (o : Option Files) → IfSome o (λ known. (rest : Secret → Expected) → with_seed known seed shape rest ≡ rest secret)
          → IfSome o (λ known. Ended (with_file known script script_limit (commitment_in secret)) Before)
          → IfSome o (λ known. Ended (commitment_expected seed script shape known) FilesRose)
      step None goes ended = tt
      step (Some known) goes ended =
          subst (λ (x : Expected). Ended x FilesRose) (sym (goes (λ secret. with_file known script script_limit (commitment_in secret))))
          (later (with_file known script script_limit (commitment_in secret)) ended)

-- Where nothing is to be committed.

pub left_alone : {P : Type 0} (Q : Files → Type 0) (o : Option Files) → P → IfSome o (λ known. Q known → P)
left_alone Q None p = tt
left_alone Q (Some known) p = λ q. p

pub something_prepared : (P : Type 0) (secret : Secret) (batches : Vec Batch) (script : List ℕ) (o : Option Files)
    → IfSome o (λ known. (secret : Secret) → Prepares (with_file known script script_limit (commitment_in secret)) secret (Ok batches))
    → IfSome o (λ known. CommitsNothing (with_file known script script_limit (commitment_in secret)) → P)
something_prepared P secret batches script None prepares = tt
something_prepared P secret batches script (Some known) prepares = λ nothing. absurd (nothing secret batches.items (prepares secret))

pub nothing_with_key : (P : Type 0) (seed script : List ℕ) (shape : PlainShape) (secret : Secret) (o p : Option Files) → p ≡ o
    → IfSome o (λ known. (rest : Secret → Expected) → with_seed known seed shape rest ≡ rest secret)
    → IfSome p (λ known. CommitsNothing (with_file known script script_limit (commitment_in secret)) → P)
    → IfSome o (λ known. CommitsNothing (commitment_expected seed script shape known) → P)
nothing_with_key P seed script shape secret o p same goes alone =
    step o goes (subst (λ z. IfSome z (λ known. CommitsNothing (with_file known script script_limit (commitment_in secret)) → P)) same alone)
  where
    step : (o : Option Files) → IfSome o (λ known. (rest : Secret → Expected) → with_seed known seed shape rest ≡ rest secret)
        → IfSome o (λ known. CommitsNothing (with_file known script script_limit (commitment_in secret)) → P)
        → IfSome o (λ known. CommitsNothing (commitment_expected seed script shape known) → P)
    step None goes alone = tt
    step (Some known) goes alone = λ nothing.
        alone (subst CommitsNothing (goes (λ secret. with_file known script script_limit (commitment_in secret))) nothing)
