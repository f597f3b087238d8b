-- An owner and a store that stand alike: a session of them comes to its end.
use Rattle.std.proofs.Common.{◌≡◌, ℕ, zero, suc, ◌+◌, ◌≤◌, List, [], ◌∷◌, ◌++◌, length, drop, Option, Some, append-nil, refl, sym, ap, ◌∙◌, subst, arith}
use Rattle.std.specs.Prelude.{IfSome, IsSome, option_map, slice_get}
use Rattle.std.specs.List.{AllByRecursion}
use Rattle.std.proofs.lemmas.List.{drop_all}
use Rattle.vo_spec.specs.declared.records.Entry.{Entry}
use Rattle.vo_spec.specs.declared.records.Record.{Record}
use Rattle.vo_spec.specs.declared.tables.Batch.{Batch}
use Rattle.vo_spec.specs.declared.tables.Command.{Command}
use Rattle.vo_spec.specs.Honest.{honest_record, honest_trees}
use Rattle.vo_spec.specs.Journals.{FitsEntry, batches_of}
use Rattle.vo_spec.specs.Owners.{AreLoadable}
use Rattle.vo_spec.specs.Records.{FitsRecord}
use Rattle.vo_spec.specs.Secret.{Secret, public_of_secret}
use Rattle.vo_laws.proofs.EntryLaws.{entry_held}
use Rattle.round_trips.proofs.Entries.{there}
use Rattle.link_frames.specs.declared.awaits.Awaits.TheVariants as awaits
use Rattle.link_frames.specs.declared.end.End.{End}
use Rattle.link_frames.specs.declared.frame_kind.FrameKind.TheVariants as kind
use Rattle.link_frames.specs.Frames.{Coming, Whole, first_frame, frame_bytes, span}
use Rattle.link_frames.specs.Scripts.{Event, Puts, Takes, Script, behind, others}
use Rattle.link_frames.specs.Serving.{last_state, max_turns}
use Rattle.link_frames.proofs.FrameLaws.{read_back}
use Rattle.store_requests.specs.Bodies.{standing_bytes}
use Rattle.owner_state.specs.Held.{Held}
use Rattle.owner_session.specs.declared.place.Place.{Place}
use Rattle.owner_session.specs.declared.place.Place.TheVariants.{Holds}
use Rattle.owner_session.specs.Endings.{Done}
use Rattle.owner_session.specs.Runs.{AreJudgements}
use Rattle.owner_session.specs.SessionWork.{Deed, answer_of, catch_up, commits, deliveries, ends_with, exchange, input_after, session, session_on, standing, with_answer, with_place}
use Rattle.vo_store.specs.declared.signed_record.SignedRecord.{SignedRecord}
use Rattle.vo_store.specs.HonestStores.{IsHonestAfter}
use Rattle.vo_store.specs.Loading.{store_behind}
use Rattle.vo_store.specs.StoreState.{StoreState}
use Rattle.vo_wire.specs.Answering.{next_after, standing_of}
use Rattle.vo_commands.specs.Committing.{IsJudgement, entry_forms, place_by, place_of_record}
use Rattle.honest_peers.specs.Answering.{AreServed, bytes_put, service}
use Rattle.honest_peers.specs.Owning.{IsOwnerAfter, IsStoreAfter}
use Rattle.honest_peers.specs.Serving.{IsIdle}
use Rattle.honest_peers.proofs.CatchingUp.{some_is, version_at}
use Rattle.honest_peers.proofs.LoadedLaws.{loaded_after, signed_last}
use Rattle.honest_peers.proofs.Requests.{behind_status, status_reply}
use Rattle.honest_peers.proofs.ServedConnections.{answers_first, idle, one_frame, serve}
use Rattle.honest_peers.proofs.Standings.{fit_at, front_is, place_held, place_read, standing_long}
use Rattle.honest_peers.proofs.Trading.{OwnInput, OwnWork}

-- The owner's side.

abbrev own_input : List ℕ → OwnInput
own_input coming = record { coming = coming; judgements = [] }

-- what is put and taken
abbrev asked : ℕ → List (Event (Deed Held Batch Entry))
asked count = Puts (frame_bytes kind.Status []) ∷ Takes count ∷ []

abbrev delivered : ℕ → List Entry → OwnInput → OwnWork
delivered count left input = deliveries entry_forms count left input (λ last. ends_with Done)

abbrev placed : List Entry → List ℕ → OwnInput → Place → OwnWork
placed es body input place =
    with_place place body input (λ count rest. delivered count (drop count es) rest)

abbrev begun : List Entry → OwnInput → Coming → OwnWork
begun es input first = behind (asked (span first)) (with_answer (answer_of first)
    (input_after (span first) input) (λ body rest. placed es body rest (place_by es body)))

session_begins : (held : Held) (es : List Entry) (coming : List ℕ)
    → session entry_forms held es [] (own_input coming)
    ≡ begun es (own_input coming) (first_frame awaits.Standing coming)
unfolding session session_on catch_up standing exchange commits
session_begins held es coming = refl

nothing_left : (n : ℕ) (input : OwnInput) → delivered n [] input ≡ ends_with Done
unfolding deliveries
nothing_left n input = refl

session_is : (held : Held) (es : List Entry) (coming body : List ℕ) (n : ℕ)
    → first_frame awaits.Standing coming ≡ Whole kind.Standing body
    → place_by es body ≡ Holds n → drop n es ≡ []
    → session entry_forms held es [] (own_input coming)
    ≡ behind (asked (5 + length body)) (ends_with Done)
session_is held es coming body n first place none =
    let input : OwnInput = input_after (5 + length body) (own_input coming) in
    session_begins held es coming ∙ ap (begun es (own_input coming)) first
    ∙ ap (λ (w : OwnWork). behind (asked (5 + length body)) w)
    (ap (placed es body input) place ∙ ap (λ (left : List Entry). delivered n left input) none
    ∙ nothing_left n input)

-- The store's side.

abbrev answer_bytes : StoreState → List ℕ
answer_bytes s = frame_bytes kind.Standing (standing_bytes (standing_of s))

status_served : (turns : ℕ) (s : StoreState) → 1 ≤ turns
    → (bytes_put (serve turns s (frame_bytes kind.Status [] ++ [])).events ≡ answer_bytes s ++ [])
    × (last_state s (others (serve turns s (frame_bytes kind.Status [] ++ [])).events) ≡ s)
status_served zero s some = absurd (omega (arith, some))
status_served (suc turns) s some =
    let is = answers_first turns s (frame_bytes kind.Status []) [] kind.Status []
    (kind.Standing, standing_bytes (standing_of s))
    (record { frame_is = refl; may = refl; fits = refl }) (status_reply s) in
    let rest = idle turns (next_after s kind.Status []) in (
      ap (λ (w : Script StoreState End). bytes_put w.events) is
          ∙ ap (λ (bytes : List ℕ). answer_bytes s ++ bytes) rest.0,
      ap (λ (w : Script StoreState End). last_state s (others w.events)) is ∙ rest.1
          ∙ behind_status s,
    )

asked_served : (s : StoreState) (count : ℕ) → AreServed s (asked count) (answer_bytes s ++ []) s
asked_served s count =
    let done = status_served max_turns s one_frame in
    record {
      few = one_frame;
      comes = ([], sym done.0 ∙ sym (append-nil (bytes_put (service s (asked count)).events)));
      later_is = sym done.1;
    }

-- Both.

-- the owner reads that the store has all of its entries
record HoldsAll (es : List Entry) (s : StoreState) : Type 0 where
  fits : IfSome (standing_of s) FitsRecord
  count : ℕ
  place_is : place_of_record es (standing_of s) ≡ Holds count
  none : drop count es ≡ []

holds_all : (secret : Secret) (batches : List (List Command)) (es : List Entry) (s : StoreState)
    (x : SignedRecord) → batches_of es ≡ [] ∷ batches → AllByRecursion FitsEntry es
    → AreLoadable (public_of_secret secret) es → IsStoreAfter secret batches s
    → s.installed ≡ Some x → HoldsAll es s
holds_all secret batches [] s x same fit loadable after is = absurd (cc)
holds_all secret batches (f ∷ rest) s x same fit loadable after is =
    let key : List ℕ = public_of_secret secret in
    let n : ℕ = length batches in
    let batches_are : batches_of rest ≡ batches =
    ap (λ (bs : List (List Command)). drop 1 bs) same in
    let parts = front_is rest batches [] (batches_are ∙ sym (append-nil batches)) in
    let found = there (f ∷ rest) n (omega (arith, parts.2)) in
    let held = entry_held key (f ∷ rest) n found.0 loadable found.1 in
    let version = version_at secret batches s x after is in
    let record_is : found.0.rec ≡ x.rec = held.record_is
    ∙ ap (λ (bs : List (List Command)). honest_record key n (honest_trees bs)) parts.0
    ∙ sym version.0 in
    let standing_is : standing_of s ≡ Some x.rec =
    ap (option_map (λ (y : SignedRecord). y.rec)) is in
    let fits : FitsRecord x.rec = subst FitsRecord record_is
    (fit_at n (f ∷ rest) found.0 fit found.1).rec in
    record {
      fits = subst (λ (o : Option Record). IfSome o FitsRecord) (sym standing_is) fits;
      count = x.rec.version + 1;
      place_is = ap (place_of_record (f ∷ rest)) standing_is
          ∙ place_held (f ∷ rest) x.rec found.0 (ap (slice_get (f ∷ rest)) version.1 ∙ found.1)
          record_is;
      none = drop_all (x.rec.version + 1) (f ∷ rest) (omega (arith, parts.2, version.1));
    }

idle_by : (held : Held) (es : List Entry) (s : StoreState) → HoldsAll es s
    → IsIdle held es s (own_input (answer_bytes s ++ []))
idle_by held es s all =
    let body : List ℕ = standing_bytes (standing_of s) in
    let first : first_frame awaits.Standing (answer_bytes s ++ []) ≡ Whole kind.Standing body =
    read_back awaits.Standing kind.Standing body [] refl
    (standing_long (standing_of s) all.fits) in
    let work_is : session entry_forms held es [] (own_input (answer_bytes s ++ []))
    ≡ behind (asked (5 + length body)) (ends_with Done) =
    session_is held es (answer_bytes s ++ []) body all.count first
    (place_read es (standing_of s) all.fits ∙ all.place_is) all.none in
    let kept : behind (asked (5 + length body)) (ends_with Done)
    ≡ session entry_forms held es [] (own_input (answer_bytes s ++ [])) = sym work_is in
    record {
      served = subst (λ (w : OwnWork). AreServed s w.events (answer_bytes s ++ []) s) kept
          (asked_served s (5 + length body));
      judged = subst (λ (w : OwnWork). AreJudgements IsJudgement (others w.events)) kept tt;
      value = ap (λ (w : OwnWork). w.value) work_is;
    }

pub some_session : (secret : Secret) (batches : List (List Command)) (held : Held)
    (es : List Entry) (s : StoreState) → IsOwnerAfter secret batches held es
    → IsStoreAfter secret batches s → IsSome s.installed
    → (input : OwnInput) × IsIdle held es s input
some_session secret batches held es s own after there_now =
    let x = some_is s.installed there_now in (
      own_input (answer_bytes s ++ []),
      idle_by held es s
          (holds_all secret batches es s x.0 own.batches_are own.fit own.plain after x.1),
    )

-- A store that has loaded the owner's journal.

loaded_key : (key : List ℕ) (es : List Entry) → (store_behind key es).key ≡ key
unfolding store_behind
loaded_key key es = refl

loaded_there : (key : List ℕ) (f : Entry) (front : List Entry)
    → IsSome (store_behind key (f ∷ front)).installed
unfolding store_behind
loaded_there key f front = let last = signed_last f front in
    subst (λ (o : Option SignedRecord). IsSome o) (sym last.1) refl

loaded_store : (secret : Secret) (batches : List (List Command)) (es : List Entry)
    → batches_of es ≡ [] ∷ batches → AllByRecursion FitsEntry es
    → AreLoadable (public_of_secret secret) es
    → IsStoreAfter secret batches (store_behind (public_of_secret secret) es)
    × IsSome (store_behind (public_of_secret secret) es).installed
loaded_store secret batches [] same fit loadable = absurd (cc)
loaded_store secret batches (f ∷ front) same fit loadable =
    let key : List ℕ = public_of_secret secret in
    let s : StoreState = store_behind key (f ∷ front) in
    let batches_are : batches_of front ≡ batches =
    ap (λ (bs : List (List Command)). drop 1 bs) same in (
      record {
        key_is = loaded_key key (f ∷ front);
        honest = subst (λ (bs : List (List Command)). IsHonestAfter bs s) batches_are
            (loaded_after key (f ∷ front) fit loadable);
      },
      loaded_there key f front,
    )

pub some_store : (secret : Secret) (batches : List (List Command)) (held : Held)
    (es : List Entry) → IsOwnerAfter secret batches held es
    → IsStoreAfter secret batches (store_behind (public_of_secret secret) es)
    × IsSome (store_behind (public_of_secret secret) es).installed
some_store secret batches held es own =
    loaded_store secret batches es own.batches_are own.fit own.plain
