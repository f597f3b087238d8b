-- An honest store that stands behind a front of the journal, or has installed nothing, catches up.
use Rattle.std.proofs.Common.{◌≡◌, ℕ, zero, suc, ◌+◌, Bool, List, [], ◌∷◌, ◌++◌, length, take, drop, Option, Some, None, append-nil, append_assoc, refl, sym, ap, ◌∙◌, subst, arith}
use Rattle.std.specs.Prelude.{IfSome, IsSome, IsTrue, if◌then◌else◌, option_map, slice_get}
use Rattle.std.specs.List.{AllByRecursion}
use Rattle.std.proofs.lemmas.List.{length-append, length-map, take-map, drop-map, take_at, drop_at}
use Rattle.vo_spec.specs.declared.records.Entry.{Entry}
use Rattle.vo_spec.specs.declared.records.Record.{Record}
use Rattle.vo_spec.specs.declared.tables.Command.{Command}
use Rattle.vo_spec.specs.Honest.{honest_record, honest_trees}
use Rattle.vo_spec.specs.Journals.{FitsEntry, batches_of}
use Rattle.vo_spec.specs.Owners.{AreLoadable, AreLoadableAfter}
use Rattle.vo_spec.specs.Records.{FitsRecord, record_bytes}
use Rattle.vo_spec.specs.Secret.{Secret, public_of_secret}
use Rattle.vo_laws.proofs.EntryLaws.{entry_held}
use Rattle.round_trips.proofs.Entries.{there}
use Rattle.link_frames.specs.declared.awaits.Awaits.TheVariants as awaits
use Rattle.link_frames.specs.declared.frame_kind.FrameKind.TheVariants as kind
use Rattle.link_frames.specs.Frames.{is_length}
use Rattle.link_frames.specs.Scripts.{others}
use Rattle.store_requests.specs.Bodies.{standing_bytes}
use Rattle.store_requests.proofs.BodyRounds.{standing_again}
use Rattle.vo_store.specs.declared.signed_record.SignedRecord.{SignedRecord}
use Rattle.vo_store.specs.HonestStores.{IsInstalled}
use Rattle.vo_store.specs.StoreState.{StoreState}
use Rattle.vo_wire.specs.Answering.{standing_of}
use Rattle.owner_session.specs.declared.place.Place.{Place}
use Rattle.owner_session.specs.declared.place.Place.TheVariants.{Holds, Elsewhere}
use Rattle.owner_session.specs.Endings.{Ending}
use Rattle.owner_session.specs.SessionWork.{catch_up, deliveries, standing, with_place}
use Rattle.vo_commands.specs.Committing.{entry_forms, place_beside, place_by, place_if_read, place_of_record}
use Rattle.honest_peers.specs.Owning.{IsStoreAfter}
use Rattle.honest_peers.proofs.Requests.{behind_status, status_reply}
use Rattle.owner_state.proofs.EntryLaws.{record_long}
use Rattle.workload_run.proofs.StoreSteps.{StoreLaws}
use Rattle.vo_store.proofs.InstallLaws.{same_now}
use Rattle.honest_peers.proofs.CatchingUp.{GoesOn, IsAt, deliver_first, deliver_rest, version_at}
use Rattle.honest_peers.proofs.Trading.{Deeds, OwnInput, OwnWork, Runs, input_with, traded}

-- Entries behind a front.

loadable_from : (k : List ℕ) (n : ℕ) (earlier : List (List Command)) (es : List Entry)
    → AreLoadableAfter k earlier es
    → AreLoadableAfter k (earlier ++ batches_of (take n es)) (drop n es)
loadable_from k zero earlier es all = subst (λ (bs : List (List Command)). AreLoadableAfter k bs es)
    (sym (append-nil earlier)) all
loadable_from k (suc n) earlier [] all = tt
loadable_from k (suc n) earlier (e ∷ es) all =
    subst (λ (bs : List (List Command)). AreLoadableAfter k bs (drop n es))
    (append_assoc earlier (e.batch.commands ∷ []) (batches_of (take n es)))
    (loadable_from k n (earlier ++ e.batch.commands ∷ []) es all.1)

fit_from : (n : ℕ) (es : List Entry) → AllByRecursion FitsEntry es
    → AllByRecursion FitsEntry (drop n es)
fit_from zero es all = all
fit_from (suc n) [] all = tt
fit_from (suc n) (e ∷ es) all = fit_from n es all.1

pub fit_at : (n : ℕ) (es : List Entry) (e : Entry) → AllByRecursion FitsEntry es
    → slice_get es n ≡ Some e → FitsEntry e
fit_at n [] e all found = absurd (cc)
fit_at zero (f ∷ es) e all found = let same : f ≡ e = cc in subst FitsEntry same all.0
fit_at (suc n) (f ∷ es) e all found = fit_at n es e all.1 found

-- the batches of a front of the entries, and of the rest
pub front_is : (es : List Entry) (front lacking : List (List Command))
    → batches_of es ≡ front ++ lacking
    → (batches_of (take (length front) es) ≡ front)
    × (batches_of (drop (length front) es) ≡ lacking)
    × (length es ≡ length front + length lacking)
front_is es front lacking same =
    let n : ℕ = length front in (
      sym (take-map (λ (e : Entry). e.batch.commands) n es) ∙ ap (take n) same
          ∙ take_at front lacking n refl,
      sym (drop-map (λ (e : Entry). e.batch.commands) n es) ∙ ap (drop n) same
          ∙ drop_at front lacking n refl,
      sym (length-map es (λ (e : Entry). e.batch.commands)) ∙ ap length same
          ∙ length-append front lacking,
    )

-- The standing of a store, read by its owner.

pub standing_long : (standing : Option Record) → IfSome standing FitsRecord
    → IsTrue (is_length kind.Standing (length (standing_bytes standing)))
unfolding standing_bytes
standing_long None fits = refl
standing_long (Some rec) fits =
    let long : length (1 ∷ record_bytes rec) ≡ 61 = omega (arith, record_long rec fits) in
    subst (λ (n : ℕ). IsTrue (is_length kind.Standing n)) (sym long) refl

pub place_read : (es : List Entry) (standing : Option Record) → IfSome standing FitsRecord
    → place_by es (standing_bytes standing) ≡ place_of_record es standing
place_read es standing fits = ap (place_if_read es) (standing_again standing fits)

pub place_held : (es : List Entry) (rec : Record) (e : Entry) → slice_get es rec.version ≡ Some e
    → e.rec ≡ rec → place_of_record es (Some rec) ≡ Holds (rec.version + 1)
place_held es rec e found same =
    ap (place_beside rec) found
    ∙ ap (λ (b : Bool). if b then Holds (rec.version + 1) else Elsewhere)
    (same_now e.rec rec same)

-- Catching up.

module _ (secret : Secret) (laws : StoreLaws) (Q : Deeds → Type 0) (later : StoreState)
    (ending : Ending) where
  -- what is so of the journal and of the store
  record Lacks (batches front lacking : List (List Command)) (f : Entry) (rest : List Entry)
      (s : StoreState) : Type 0 where
    parts : batches ≡ front ++ lacking
    batches_are : batches_of rest ≡ batches
    loadable : AreLoadable (public_of_secret secret) (f ∷ rest)
    fit : AllByRecursion FitsEntry (f ∷ rest)
    after : IsStoreAfter secret front s

  abbrev delivers_from : List Entry → (OwnInput → OwnWork) → ℕ → OwnInput → OwnWork
  delivers_from es go count input = deliveries entry_forms count (drop count es) input go

  -- the place of the store, and what follows from it
  record IsPlaced (batches : List (List Command)) (es : List Entry) (s : StoreState) : Type 0 where
    fits : IfSome (standing_of s) FitsRecord
    count : ℕ
    place_is : place_of_record es (standing_of s) ≡ Holds count
    delivers : (input : OwnInput) (go : OwnInput → OwnWork)
        → Runs s input.coming later ending (delivers_from es go count input)
        → GoesOn secret laws Q later ending batches input go
        → Q (others (delivers_from es go count input).events)

  placed_new : (batches front lacking : List (List Command)) (f : Entry) (rest : List Entry)
      (s : StoreState) → Lacks batches front lacking f rest s → s.installed ≡ None
      → IsPlaced batches (f ∷ rest) s
  unfolding deliveries AreLoadable
  placed_new batches front lacking f rest s lacks none =
      let nothing : front ≡ [] = subst (IsInstalled s.key front) none
      lacks.after.honest.installed in
      let standing_is : standing_of s ≡ None = ap (option_map (λ (x : SignedRecord). x.rec)) none in
      record {
        fits = subst (λ (o : Option Record). IfSome o FitsRecord) (sym standing_is) tt;
        count = 0;
        place_is = ap (place_of_record (f ∷ rest)) standing_is;
        delivers = λ input go runs goes.
            deliver_first secret laws Q later ending s f input
            (λ last. deliveries entry_forms 1 rest last go)
            (subst (λ (bs : List (List Command)). IsStoreAfter secret bs s) nothing lacks.after)
            none
            lacks.loadable.0 lacks.loadable.1 lacks.fit.0 runs
            (λ t last at r. deliver_rest secret laws Q later ending 0 rest [] t
            (input_with last input) go at lacks.loadable.2 lacks.fit.1 r
            (λ u end there_now v. goes u end
            (subst (λ (bs : List (List Command)). IsAt secret bs u) lacks.batches_are there_now)
            v));
      }

  placed_at : (batches front lacking : List (List Command)) (f : Entry) (rest : List Entry)
      (s : StoreState) (x : SignedRecord) → Lacks batches front lacking f rest s
      → s.installed ≡ Some x
      → IsPlaced batches (f ∷ rest) s
  unfolding AreLoadable
  placed_at batches front lacking f rest s x lacks is =
      let key : List ℕ = public_of_secret secret in
      let n : ℕ = length front in
      let parts = front_is rest front lacking (lacks.batches_are ∙ lacks.parts) in
      let found = there (f ∷ rest) n (omega (arith, parts.2)) in
      let held = entry_held key (f ∷ rest) n found.0 lacks.loadable found.1 in
      let version = version_at secret front s x lacks.after is in
      let same : found.0.rec ≡ x.rec = held.record_is
      ∙ ap (λ (bs : List (List Command)). honest_record key n (honest_trees bs)) parts.0
      ∙ sym version.0 in
      let standing_is : standing_of s ≡ Some x.rec = ap (option_map (λ (y : SignedRecord). y.rec))
      is in
      let number : x.rec.version + 1 ≡ suc n = omega (arith, version.1) in
      let fits : FitsRecord x.rec = subst FitsRecord same
      (fit_at n (f ∷ rest) found.0 lacks.fit found.1).rec in
      let at : IsAt secret front s =
      record {
        after = lacks.after;
        there = subst (λ (o : Option SignedRecord). IsSome o)
            (sym is) refl;
      } in
      let loadable : AreLoadableAfter key ([] ∷ front) (drop n rest) =
      subst (λ (bs : List (List Command)). AreLoadableAfter key ([] ∷ bs) (drop n rest)) parts.0
      (loadable_from key n ([] ∷ []) rest lacks.loadable.2) in
      let all : front ++ batches_of (drop n rest) ≡ batches =
      ap (λ (bs : List (List Command)). front ++ bs) parts.1 ∙ sym lacks.parts in
      record {
        fits = subst (λ (o : Option Record). IfSome o FitsRecord) (sym standing_is) fits;
        count = suc n;
        place_is = ap (place_of_record (f ∷ rest)) standing_is
            ∙ place_held (f ∷ rest) x.rec found.0 (ap (slice_get (f ∷ rest)) version.1 ∙ found.1)
            same ∙ ap Holds number;
        delivers = λ input go runs goes.
            deliver_rest secret laws Q later ending n (drop n rest) front s input go at loadable
            (fit_from n rest lacks.fit.1) runs
            (λ u end there_now v. goes u end
            (subst (λ (bs : List (List Command)). IsAt secret bs u) all there_now) v);
      }

  placed : (batches front lacking : List (List Command)) (f : Entry) (rest : List Entry)
      (s : StoreState) → Lacks batches front lacking f rest s → IsPlaced batches (f ∷ rest) s
  placed batches front lacking f rest s lacks = step s.installed refl
    where
      step : (o : Option SignedRecord) → s.installed ≡ o → IsPlaced batches (f ∷ rest) s
      step None is = placed_new batches front lacking f rest s lacks is
      step (Some x) is = placed_at batches front lacking f rest s x lacks is

  abbrev by_place : List Entry → (OwnInput → OwnWork) → List ℕ → OwnInput → Place → OwnWork
  by_place es go body input place = with_place place body input (delivers_from es go)

  catches_placed : (batches : List (List Command)) (es : List Entry) (s : StoreState)
      (input : OwnInput) (go : OwnInput → OwnWork) → IsPlaced batches es s
      → Runs s input.coming later ending (catch_up entry_forms es input go)
      → GoesOn secret laws Q later ending batches input go
      → Q (others (catch_up entry_forms es input go).events)
  unfolding catch_up standing
  catches_placed batches es s input go placed runs goes =
      let body : List ℕ = standing_bytes (standing_of s) in
      let place : place_by es body ≡ Holds placed.count = place_read es (standing_of s) placed.fits
      ∙ placed.place_is in
      let work_is = λ (rest : List ℕ). ap (by_place es go body (input_with rest input)) place in
      traded Q kind.Status [] awaits.Standing input
      (λ body rest. by_place es go body rest (place_by es body)) s later ending
      (kind.Standing, body) refl refl (status_reply s) refl
      (standing_long (standing_of s) placed.fits) refl runs
      (λ rest r. subst (λ (w : OwnWork). Q (others w.events)) (sym (work_is rest))
      (placed.delivers (input_with rest input) go
      (subst (λ (w : OwnWork). Runs s rest later ending w) (work_is rest)
      (subst (λ (t : StoreState). Runs t rest later ending
      (by_place es go body (input_with rest input) (place_by es body))) (behind_status s) r))
      goes))

  pub catches_up : (batches front lacking : List (List Command)) (es : List Entry) (s : StoreState)
      (input : OwnInput) (go : OwnInput → OwnWork) → batches_of es ≡ [] ∷ batches
      → AreLoadable (public_of_secret secret) es → AllByRecursion FitsEntry es
      → batches ≡ front ++ lacking → IsStoreAfter secret front s
      → Runs s input.coming later ending (catch_up entry_forms es input go)
      → GoesOn secret laws Q later ending batches input go
      → Q (others (catch_up entry_forms es input go).events)
  catches_up batches front lacking [] s input go same loadable fit parts after runs goes =
      absurd (cc)
  catches_up batches front lacking (f ∷ rest) s input go same loadable fit parts after runs goes =
      let lacks : Lacks batches front lacking f rest s =
      record {
        parts = parts;
        batches_are = ap (λ (bs : List (List Command)). drop 1 bs) same;
        loadable = loadable;
        fit = fit;
        after = after;
      } in
      catches_placed batches (f ∷ rest) s input go (placed batches front lacking f rest s lacks)
      runs goes
