-- What goes along with every piece of a session's work: its orders.
use Rattle.std.proofs.Common.{arith, ◌≡◌, ℕ, suc, zero, ◌+◌, Bool, true, false, List, [], ◌∷◌, ◌++◌, length, take, drop, map, Contains, if◌then◌else◌, bytes_eq, refl, sym, ap, ◌∙◌, subst}
use Rattle.std.proofs.lemmas.List.{take-append-drop, drop_at, length-map, get_or-map}
use Rattle.std.proofs.lemmas.List.Elements.{Contains-push, Contains-append_left, Contains-append_right}
use Rattle.vo_spec.specs.Bytes.{u32_bytes, u64_bytes}
use Rattle.link_frames.specs.declared.awaits.Awaits.{Awaits}
use Rattle.link_frames.specs.declared.awaits.Awaits.TheVariants as awaits
use Rattle.link_frames.specs.declared.frame_kind.FrameKind.{FrameKind}
use Rattle.link_frames.specs.declared.frame_kind.FrameKind.TheVariants as frame_kind
use Rattle.link_frames.specs.Frames.{code_of, first_frame, frame_bytes, span}
use Rattle.link_frames.specs.Scripts.{Event, Puts, Takes, Does, behind}
use Rattle.link_frames.proofs.FrameLaws.{length-u32}
use Rattle.owner_session.specs.declared.place.Place.{Place}
use Rattle.owner_session.specs.declared.place.Place.TheVariants.{Holds, Elsewhere, NoStanding}
use Rattle.owner_session.specs.declared.refusals.RefusalCause.{RefusalCause}
use Rattle.owner_session.specs.Endings.{Done, StandsElsewhere, version_line}
use Rattle.owner_session.specs.SessionWork.{Forms, Judgement, Makes, Refuses, Deed, Steps, Appends, Says, SessionWork, Input, AnswerBody, Body, NoBody, answer_of, with_answer, with_place, with_judgement, with_first_judgement, input_after, ends_with, exchange, installation, proposal, standing, delivery, deliveries, catch_up, publication, commit, step, batch_commit, commits, session_on, session}
use Rattle.owner_session.specs.Requests.{Request, AsksStanding, Proposes, Installs, request_bytes, IsRequestOf}
use Rattle.owner_session.specs.Orders.{Alternates, InstallsOneOf, KeepsFirst, StepsFirst}

-- Frames have one reading.

same_frames : (k l : FrameKind) (a b : List ℕ) → frame_bytes k a ≡ frame_bytes l b → (code_of k ≡ code_of l) × (a ≡ b)
same_frames k l a b same =
    let rest : code_of k ∷ a ≡ code_of l ∷ b =
    sym (drop_at (u32_bytes (length a + 1)) (code_of k ∷ a) 4 (length-u32 (length a + 1)))
    ∙ ap (drop 4) same ∙ drop_at (u32_bytes (length b + 1)) (code_of l ∷ b) 4 (length-u32 (length b + 1)) in
    (cc rest, cc rest)

-- A fact of where the owner stands, of the journal's entries and of events, that goes along with
-- each event of a session in which no batches but these are proposed.
pub record IsCarried {S B E : Type 0} (forms : Forms B E) (batches : List B)
    (P : S → List E → List (Event (Deed S B E)) → Type 0) : Type 0 where
  pub ends : (s : S) (es : List E) → P s es []
  pub exchanges : (s : S) (es : List E) (request : Request B E) (n : ℕ)
      (events : List (Event (Deed S B E))) → IsRequestOf batches es request
      → P s es events → P s es (Puts (request_bytes forms request) ∷ Takes n ∷ events)
  pub commits : (s : S) (es : List E) (batch : B) (proofs : List ℕ) (entry : E) (next : S)
      (events : List (Event (Deed S B E)))
      → P next (es ++ entry ∷ []) events
      → P s es (Does (Steps s batch proofs (Makes entry next)) ∷ Does (Appends entry next) ∷ events)
  pub refusals : (s : S) (es : List E) (batch : B) (proofs : List ℕ) (cause : RefusalCause)
      (lines : List ℕ)
      → P s es (Does (Steps s batch proofs (Refuses cause lines)) ∷ [])
  pub says : (s : S) (es : List E) (line : List ℕ) (events : List (Event (Deed S B E)))
      → P s es events → P s es (Does (Says line) ∷ events)

module _ {S B E : Type 0} (forms : Forms B E) (asked : List B)
    (P : S → List E → List (Event (Deed S B E)) → Type 0) (c : IsCarried forms asked P) where
  answer_carries : (s : S) (es : List E) (answer : AnswerBody) (input : Input S E) (go : List ℕ → Input S E → SessionWork S B E)
      → ((body : List ℕ) (rest : Input S E) → P s es (go body rest).events) → P s es (with_answer answer input go).events
  answer_carries s es (Body body) input go h = h body input
  answer_carries s es (NoBody ending) input go h = c.ends s es

  exchange_carries : (s : S) (es : List E) (request : Request B E) (kind : FrameKind)
      (body : List ℕ) (awaits : Awaits) (input : Input S E) (go : List ℕ → Input S E → SessionWork S B E)
      → request_bytes forms request ≡ frame_bytes kind body → IsRequestOf asked es request
      → ((body : List ℕ) (rest : Input S E) → P s es (go body rest).events)
      → P s es (exchange kind body awaits input go).events
  unfolding exchange
  exchange_carries s es request kind body awaits input go is one h =
      let first = first_frame awaits input.coming in
      let later : SessionWork S B E =
      with_answer (answer_of first) (input_after (span first) input) go in
      subst (λ (frame : List ℕ). P s es (Puts frame ∷ Takes (span first) ∷ later.events)) is
      (c.exchanges s es request (span first) later.events one
      (answer_carries s es (answer_of first) (input_after (span first) input) go h))

  same_carries : (s : S) (es : List E) (same : Bool) (work : SessionWork S B E) → P s es work.events
      → P s es (if same then work else ends_with StandsElsewhere).events
  same_carries s es true work h = h
  same_carries s es false work h = c.ends s es

  installation_carries : (s : S) (es : List E) (entry : E) (input : Input S E) (go : Input S E → SessionWork S B E) → Contains es entry
      → ((rest : Input S E) → P s es (go rest).events) → P s es (installation forms entry input go).events
  unfolding installation
  installation_carries s es entry input go has h =
      exchange_carries s es (Installs entry) frame_kind.Install (forms.install entry)
      awaits.Installed input
      (λ (body : List ℕ) (rest : Input S E). if bytes_eq body (u64_bytes (forms.version entry)) then go rest else ends_with StandsElsewhere)
      refl has
      (λ body rest. same_carries s es (bytes_eq body (u64_bytes (forms.version entry))) (go rest) (h rest))

  proposal_carries : (s : S) (es : List E) (batch : B) (input : Input S E)
      (go : List ℕ → Input S E → SessionWork S B E) → Contains asked batch
      → ((body : List ℕ) (rest : Input S E) → P s es (go body rest).events)
      → P s es (proposal forms batch input go).events
  unfolding proposal
  proposal_carries s es batch input go has h =
      exchange_carries s es (Proposes batch) frame_kind.Propose (forms.proposal batch)
      awaits.Proofs input go refl has h

  delivery_carries : (s : S) (es : List E) (i : ℕ) (entry : E) (input : Input S E)
      (go : Input S E → SessionWork S B E) → Contains es entry → Contains asked (forms.batch entry)
      → ((rest : Input S E) → P s es (go rest).events) → P s es (delivery forms i entry input go).events
  unfolding delivery
  delivery_carries s es zero entry input go has old h =
      installation_carries s es entry input go has h
  delivery_carries s es (suc i) entry input go has old h =
      proposal_carries s es (forms.batch entry) input
      (λ (proofs : List ℕ) (rest : Input S E). installation forms entry rest go) old
      (λ proofs rest. installation_carries s es entry rest go has h)

  deliveries_carry : (s : S) (es : List E) (i : ℕ) (given : List E) (input : Input S E) (go : Input S E → SessionWork S B E)
      → ((entry : E) → Contains given entry → Contains es entry)
      → ((entry : E) → Contains es entry → Contains asked (forms.batch entry))
      → ((rest : Input S E) → P s es (go rest).events) → P s es (deliveries forms i given input go).events
  unfolding deliveries
  deliveries_carry s es i [] input go all old h = h input
  deliveries_carry s es i (entry ∷ given) input go all old h =
      let first = Contains-append_left (entry ∷ []) given entry (Contains-push [] entry) in
      let has = all entry first in
      delivery_carries s es i entry input
      (λ (rest : Input S E). deliveries forms (suc i) given rest go)
      has (old entry has)
      (λ rest. deliveries_carry s es (suc i) given rest go
      (λ other has. all other (Contains-append_right (entry ∷ []) given other has)) old h)

  place_carries : (s : S) (es : List E) (place : Place) (body : List ℕ) (input : Input S E) (go : ℕ → Input S E → SessionWork S B E)
      → ((count : ℕ) (rest : Input S E) → P s es (go count rest).events) → P s es (with_place place body input go).events
  place_carries s es (Holds count) body input go h = h count input
  place_carries s es Elsewhere body input go h = c.ends s es
  place_carries s es NoStanding body input go h = c.ends s es

  standing_carries : (s : S) (es : List E) (input : Input S E) (go : ℕ → Input S E → SessionWork S B E)
      → ((count : ℕ) (rest : Input S E) → P s es (go count rest).events) → P s es (standing forms es input go).events
  unfolding standing
  standing_carries s es input go h =
      exchange_carries s es AsksStanding frame_kind.Status [] awaits.Standing input
      (λ (body : List ℕ) (rest : Input S E). with_place (forms.place es body) body rest go)
      refl tt
      (λ body rest. place_carries s es (forms.place es body) body rest go h)

  dropped_has : (es : List E) (n : ℕ) (entry : E) → Contains (drop n es) entry → Contains es entry
  dropped_has es n entry has =
      subst (λ (xs : List E). Contains xs entry) (take-append-drop n es) (Contains-append_right (take n es) (drop n es) entry has)

  catch_up_carries : (s : S) (es : List E) (input : Input S E) (go : Input S E → SessionWork S B E)
      → ((entry : E) → Contains es entry → Contains asked (forms.batch entry))
      → ((rest : Input S E) → P s es (go rest).events) → P s es (catch_up forms es input go).events
  unfolding catch_up
  catch_up_carries s es input go old h =
      standing_carries s es input (λ (count : ℕ) (rest : Input S E). deliveries forms count (drop count es) rest go)
      (λ count rest. deliveries_carry s es count (drop count es) rest go
      (λ entry has. dropped_has es count entry has) old h)

  publication_carries : (s : S) (es : List E) (entry : E) (input : Input S E) (go : Input S E → SessionWork S B E) → Contains es entry
      → ((rest : Input S E) → P s es (go rest).events) → P s es (publication forms entry input go).events
  unfolding publication
  publication_carries s es entry input go has h =
      installation_carries s es entry input
      (λ (rest : Input S E). behind (Does (Says (version_line (forms.version entry))) ∷ []) (go rest)) has
      (λ rest. c.says s es (version_line (forms.version entry)) (go rest).events (h rest))

  judgement_carries : (s : S) (es : List E) (batch : B) (proofs : List ℕ) (judgement : Judgement S E) (input : Input S E)
      (go : S → Input S E → SessionWork S B E)
      → ((next : S) (more : List E) (rest : Input S E) → P next more (go next rest).events)
      → P s es (Does (Steps s batch proofs judgement) ∷ (with_judgement forms judgement input go).events)
  unfolding commit
  judgement_carries s es batch proofs (Makes entry next) input go h =
      c.commits s es batch proofs entry next (publication forms entry input (go next)).events
      (publication_carries next (es ++ entry ∷ []) entry input (go next) (Contains-push es entry) (h next (es ++ entry ∷ [])))
  judgement_carries s es batch proofs (Refuses cause lines) input go h = c.refusals s es batch proofs cause lines

  first_carries : (s : S) (es : List E) (batch : B) (proofs coming : List ℕ) (judgements : List (Judgement S E))
      (go : S → Input S E → SessionWork S B E)
      → ((next : S) (more : List E) (rest : Input S E) → P next more (go next rest).events)
      → P s es (with_first_judgement forms s batch proofs coming judgements go).events
  first_carries s es batch proofs coming [] go h = c.ends s es
  first_carries s es batch proofs coming (judgement ∷ left) go h =
      judgement_carries s es batch proofs judgement (record { coming = coming; judgements = left }) go h

  batch_carries : (s : S) (es : List E) (batch : B) (input : Input S E)
      (go : S → Input S E → SessionWork S B E) → Contains asked batch
      → ((next : S) (more : List E) (rest : Input S E) → P next more (go next rest).events)
      → P s es (batch_commit forms s batch input go).events
  unfolding batch_commit step
  batch_carries s es batch input go has h =
      proposal_carries s es batch input
      (λ (proofs : List ℕ) (rest : Input S E). step forms s batch proofs rest go) has
      (λ proofs rest. first_carries s es batch proofs rest.coming rest.judgements go h)

  commits_carry : (s : S) (es : List E) (batches : List B) (input : Input S E)
      (go : Input S E → SessionWork S B E)
      → ((batch : B) → Contains batches batch → Contains asked batch)
      → ((next : S) (more : List E) (rest : Input S E) → P next more (go rest).events)
      → P s es (commits forms s batches input go).events
  unfolding commits
  commits_carry s es [] input go all h = h s es input
  commits_carry s es (batch ∷ batches) input go all h =
      batch_carries s es batch input
      (λ (next : S) (rest : Input S E). commits forms next batches rest go)
      (all batch (Contains-append_left (batch ∷ []) batches batch (Contains-push [] batch)))
      (λ next more rest. commits_carry next more batches rest go
      (λ other has. all other (Contains-append_right (batch ∷ []) batches other has)) h)

  pieces_carry : (s : S) (es : List E) (batches : List B) (input : Input S E)
      → ((entry : E) → Contains es entry → Contains asked (forms.batch entry))
      → ((batch : B) → Contains batches batch → Contains asked batch)
      → P s es (session forms s es batches input).events
  unfolding session session_on
  pieces_carry s es batches input old all =
      let finish : Input S E → SessionWork S B E = λ end. ends_with Done in
      catch_up_carries s es input (λ (rest : Input S E). commits forms s batches rest finish) old
      (λ rest. commits_carry s es batches rest finish all (λ next more end. c.ends next more))

contains_image : {X Y : Type 0} (f : X → Y) (xs : List X) (x : X) → Contains xs x
    → Contains (map f xs) (f x)
contains_image f xs x has =
    let long = length-map xs f in
    let lt = has.1 in
    (has.0, omega arith, get_or-map f xs has.0 x (f x) lt ∙ ap f has.2)

-- The batches that a session proposes are those of the journal's entries, and these.
pub session_carries : {S B E : Type 0} (forms : Forms B E)
    (P : S → List E → List (Event (Deed S B E)) → Type 0)
    (s : S) (es : List E) (batches : List B) (input : Input S E)
    → IsCarried forms (map forms.batch es ++ batches) P
    → P s es (session forms s es batches input).events
session_carries forms P s es batches input c =
    let old = map forms.batch es in
    pieces_carry forms (old ++ batches) P c s es batches input
    (λ entry has. Contains-append_left old batches (forms.batch entry)
    (contains_image forms.batch es entry has))
    (λ batch has. Contains-append_right old batches batch has)

-- The orders.

pub alternates : {S B E : Type 0} (forms : Forms B E) (state : S) (entries : List E) (batches : List B) (input : Input S E)
    → Alternates (session forms state entries batches input).events
alternates {S} {B} {E} forms state entries batches input =
    session_carries forms (λ (s : S) (es : List E) (events : List (Event (Deed S B E))). Alternates events)
    state entries batches input (record {
      ends = λ s es. tt;
      exchanges = λ s es request n events one h. h;
      commits = λ s es batch proofs entry next events h. h;
      refusals = λ s es batch proofs cause lines. tt;
      says = λ s es line events h. h;
    })

-- a request of another kind installs nothing
installs_one_of : {B E : Type 0} (forms : Forms B E) (batches : List B) (es : List E)
    (request : Request B E) → IsRequestOf batches es request
    → InstallsOneOf forms.install es (request_bytes forms request)
installs_one_of forms batches es AsksStanding one = λ body is.
    absurd (cc (same_frames frame_kind.Status frame_kind.Install [] body is).0)
installs_one_of forms batches es (Proposes batch) one = λ body is.
    absurd (cc (same_frames frame_kind.Propose frame_kind.Install (forms.proposal batch) body is).0)
installs_one_of forms batches es (Installs entry) one = λ body is.
    let same = same_frames frame_kind.Install frame_kind.Install (forms.install entry) body is in
    (entry, one, sym same.1)

pub keeps_first : {S B E : Type 0} (forms : Forms B E) (state : S) (entries : List E) (batches : List B) (input : Input S E)
    → KeepsFirst forms.install entries (session forms state entries batches input).events
keeps_first {S} {B} {E} forms state entries batches input =
    let asked : List B = map forms.batch entries ++ batches in
    session_carries forms (λ (s : S) (es : List E) (events : List (Event (Deed S B E))).
    KeepsFirst forms.install es events) state entries batches input (record {
      ends = λ s es. tt;
      exchanges = λ s es request n events one h.
          (installs_one_of forms asked es request one, h);
      commits = λ s es batch proofs entry next events h. h;
      refusals = λ s es batch proofs cause lines. tt;
      says = λ s es line events h. h;
    })

pub steps_first : {S B E : Type 0} (forms : Forms B E) (state : S) (entries : List E) (batches : List B) (input : Input S E)
    → StepsFirst state (session forms state entries batches input).events
steps_first {S} {B} {E} forms state entries batches input =
    session_carries forms (λ (s : S) (es : List E) (events : List (Event (Deed S B E))). StepsFirst s events)
    state entries batches input (record {
      ends = λ s es. tt;
      exchanges = λ s es request n events one h. h;
      commits = λ s es batch proofs entry next events h. (refl, refl, refl, h);
      refusals = λ s es batch proofs cause lines. (refl, tt);
      says = λ s es line events h. h;
    })
