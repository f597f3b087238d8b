-- What a session has put on the connection, wherever it stopped.
use Rattle.std.proofs.Common.{◌≡◌, ℕ, ◌+◌, List, [], ◌∷◌, ◌++◌, length, map, take, flat_map, refl, sym, ap, ◌∙◌, subst, inl, inr, append_assoc, append-nil}
use Rattle.std.proofs.lemmas.List.Elements.{All-nil, All-cons, Contains-append_left}
use Rattle.std.proofs.Math.Seq.{take-append-add}
use Rattle.outside.specs.ConnectionModel.{ConnectionModel, take_from, send_on}
use Rattle.link_frames.specs.Scripts.{Event, Puts, Takes, Does, IsDone, Stops}
use Rattle.link_frames.proofs.ScriptLaws.{stops-append}
use Rattle.owner_session.specs.SessionWork.{Forms, Judgement, Makes, Refuses, Deed, Steps, Appends, Says, SessionWork, Input, session}
use Rattle.owner_session.specs.Runs.{Snapshot, entries_of, input_of}
use Rattle.owner_session.specs.Sessions.{SessionEnds, SessionRuns}
use Rattle.owner_session.specs.Requests.{Request, AsksStanding, Proposes, Installs, request_bytes, IsRequestOf, PutsRequests}
use Rattle.owner_session.proofs.StoppingLaws.{on_link_stops}
use Rattle.owner_session.proofs.DeedLaws.{entries_of-append}
use Rattle.owner_session.proofs.OrderLaws.{session_carries}

module _ {B E : Type 0} (forms : Forms B E) (batches : List B) where
  request_stays : (es more : List E) (request : Request B E) → IsRequestOf batches es request
      → IsRequestOf batches (es ++ more) request
  request_stays es more AsksStanding one = tt
  request_stays es more (Proposes batch) one = one
  request_stays es more (Installs entry) one = Contains-append_left es more entry one

  puts_nothing : (es : List E) (before after : ConnectionModel) → after.sent ≡ before.sent
      → PutsRequests forms batches es before after
  puts_nothing es before after same = record {
    requests = [];
    count = 0;
    sent = same ∙ sym (append-nil before.sent);
    each = All-nil (IsRequestOf batches es);
  }

  puts_front : (es : List E) (before after : ConnectionModel) (request : Request B E) (n : ℕ)
      → IsRequestOf batches es request
      → after.sent ≡ before.sent ++ take n (request_bytes forms request)
      → PutsRequests forms batches es before after
  puts_front es before after request n one sent = record {
    requests = request ∷ [];
    count = n;
    sent = sent ∙ ap (λ (bytes : List ℕ). before.sent ++ take n bytes)
        (sym (append-nil (request_bytes forms request)));
    each = All-cons (IsRequestOf batches es) request [] one (All-nil (IsRequestOf batches es));
  }

  -- a request is put, and then others
  puts_behind : (es : List E) (before mid after : ConnectionModel) (request : Request B E)
      → IsRequestOf batches es request → mid.sent ≡ before.sent ++ request_bytes forms request
      → PutsRequests forms batches es mid after → PutsRequests forms batches es before after
  puts_behind es before mid after request one sent rest =
      let frame = request_bytes forms request in
      let later = flat_map (request_bytes forms) rest.requests in
      record {
        requests = request ∷ rest.requests;
        count = length frame + rest.count;
        sent = rest.sent ∙ ap (λ (bytes : List ℕ). bytes ++ take rest.count later) sent
            ∙ append_assoc before.sent frame (take rest.count later)
            ∙ ap (λ (bytes : List ℕ). before.sent ++ bytes)
            (sym (take-append-add frame later rest.count));
        each = All-cons (IsRequestOf batches es) request rest.requests one rest.each;
      }

-- wherever the events stop, requests of the batches and of the journal's entries were put
abbrev PutsWhereStopped : {S B E : Type 0} → Forms B E → List B → List E
    → List (Event (Deed S B E)) → Type 0
PutsWhereStopped {S} {B} {E} forms batches es events =
    (deeds : List (Deed S B E)) (before after : ConnectionModel) → Stops events deeds before after
    → PutsRequests forms batches (es ++ entries_of deeds) before after

module _ {S B E : Type 0} (forms : Forms B E) (batches : List B) where
  puts_exchange : (es : List E) (request : Request B E) (n : ℕ) (events : List (Event (Deed S B E)))
      → IsRequestOf batches es request → PutsWhereStopped forms batches es events
      → PutsWhereStopped forms batches es (Puts (request_bytes forms request) ∷ Takes n ∷ events)
  puts_exchange es request n events one rest deeds before after (inl begun) =
      puts_front forms batches (es ++ entries_of deeds) before after request begun.1.0
      (request_stays forms batches es (entries_of deeds) request one)
      (ap (λ (w : ConnectionModel). w.sent) begun.1.1)
  puts_exchange es request n events one rest deeds before after (inr (later, are, inl taken)) =
      let mid = send_on (request_bytes forms request) before in
      puts_behind forms batches (es ++ entries_of deeds) before mid after request
      (request_stays forms batches es (entries_of deeds) request one) refl
      (puts_nothing forms batches (es ++ entries_of deeds) mid after
      (ap (λ (w : ConnectionModel). w.sent) taken.1.2))
  puts_exchange es request n events one rest deeds before after
      (inr (later, are, inr (last, same, stops))) =
      let mid = take_from n (send_on (request_bytes forms request) before) in
      puts_behind forms batches (es ++ entries_of deeds) before mid after request
      (request_stays forms batches es (entries_of deeds) request one) refl
      (subst (λ (ds : List (Deed S B E)).
      PutsRequests forms batches (es ++ entries_of ds) mid after)
      (sym (are ∙ same)) (rest last mid after stops))

  puts_refusal : (es : List E) (deed : Deed S B E)
      → PutsWhereStopped forms batches es (Does deed ∷ [])
  puts_refusal es deed deeds before after (inl begun) =
      puts_nothing forms batches (es ++ entries_of deeds) before after
      (ap (λ (w : ConnectionModel). w.sent) begun.1)
  puts_refusal es deed deeds before after (inr (later, are, stops)) =
      puts_nothing forms batches (es ++ entries_of deeds) before after
      (ap (λ (w : ConnectionModel). w.sent) stops.1)

  -- a deed goes before, which may append entries
  puts_deed : (es : List E) (deed : Deed S B E) (events : List (Event (Deed S B E)))
      → PutsWhereStopped forms batches (es ++ entries_of (deed ∷ [])) events
      → PutsWhereStopped forms batches es (Does deed ∷ events)
  puts_deed es deed events rest deeds before after (inl begun) =
      puts_nothing forms batches (es ++ entries_of deeds) before after
      (ap (λ (w : ConnectionModel). w.sent) begun.1)
  puts_deed es deed events rest deeds before after (inr (later, are, stops)) =
      subst (λ (entries : List E). PutsRequests forms batches entries before after)
      (append_assoc es (entries_of (deed ∷ [])) (entries_of later)
      ∙ ap (λ (entries : List E). es ++ entries) (sym (entries_of-append (deed ∷ []) later))
      ∙ ap (λ (ds : List (Deed S B E)). es ++ entries_of ds) (sym are))
      (rest later before after stops)

pub puts_requests : {S B E : Type 0} (forms : Forms B E) (state : S) (entries : List E)
    (batches : List B) (input : Input S E) (deeds : List (Deed S B E))
    (before after : ConnectionModel)
    → Stops (session forms state entries batches input).events deeds before after
    → PutsRequests forms (map forms.batch entries ++ batches) (entries ++ entries_of deeds) before
    after
puts_requests {S} {B} {E} forms state entries batches input =
    let asked : List B = map forms.batch entries ++ batches in
    session_carries forms (λ (s : S) (es : List E) (events : List (Event (Deed S B E))).
    PutsWhereStopped forms asked es events)
    state entries batches input (record {
      ends = λ s es deeds before after stops.
          puts_nothing forms asked (es ++ entries_of deeds) before after
          (ap (λ (w : ConnectionModel). w.sent) stops.1);
      exchanges = λ s es request n events one rest.
          puts_exchange forms asked es request n events one rest;
      commits = λ s es batch proofs entry next events rest.
          puts_deed forms asked es (Steps s batch proofs (Makes entry next))
          (Does (Appends entry next) ∷ events)
          (puts_deed forms asked (es ++ []) (Appends entry next) events
          (subst (λ (all : List E). PutsWhereStopped forms asked (all ++ entry ∷ []) events)
          (sym (append-nil es)) rest));
      refusals = λ s es batch proofs cause lines.
          puts_refusal forms asked es (Steps s batch proofs (Refuses cause lines));
      says = λ s es line events rest.
          puts_deed forms asked es (Says line) events
          (subst (λ (all : List E). PutsWhereStopped forms asked all events)
          (sym (append-nil es)) rest);
    })

-- what was done wholly stopped behind its last event
stops_done : {X : Type 0} (events : List (Event X)) (deeds : List X)
    (before after : ConnectionModel) → IsDone events deeds before after
    → Stops events deeds before after
stops_done {X} events deeds before after done =
    let stops : Stops (events ++ []) (deeds ++ []) before after =
    stops-append events [] deeds [] before after after done (refl, refl) in
    rw (sym (append-nil events), sym (append-nil deeds)) stops

pub puts_requests_done : {S B E : Type 0} (forms : Forms B E) (state : S) (entries : List E)
    (batches : List B) (input : Input S E) (deeds : List (Deed S B E))
    (before after : ConnectionModel)
    → IsDone (session forms state entries batches input).events deeds before after
    → PutsRequests forms (map forms.batch entries ++ batches) (entries ++ entries_of deeds) before
    after
puts_requests_done forms state entries batches input deeds before after done =
    puts_requests forms state entries batches input deeds before after
    (stops_done (session forms state entries batches input).events deeds before after done)

-- However work ended, its events stopped somewhere.
ended_stops : {S B E : Type 0} (work : SessionWork S B E) (L D O K : Type 0) (W : E → Type 0)
    (status : ℕ) (deeds : List (Deed S B E)) (a b : Snapshot S E)
    → SessionEnds work L D O K W status deeds a b → Stops work.events deeds a.wire b.wire
ended_stops work L D O K W status deeds a b (inl h) =
    stops_done work.events deeds a.wire b.wire h.1.2
ended_stops work L D O K W status deeds a b (inr (inl h)) =
    on_link_stops work.events deeds a.wire b.wire h.2.0
ended_stops work L D O K W status deeds a b (inr (inr (inl h))) = h.2.0
ended_stops work L D O K W status deeds a b (inr (inr (inr (inl h)))) = h.2.1
ended_stops work L D O K W status deeds a b (inr (inr (inr (inr h)))) = h.1.1

-- a run of a session has put requests of the batches, old and new, and of the journal
pub session_puts : {S B E : Type 0} {forms : Forms B E}
    {IsJudgement : S → B → List ℕ → Judgement S E → Type 0} {batches : List B}
    {L D O K : Type 0} {W : E → Type 0} {status : ℕ} {a b : Snapshot S E}
    → SessionRuns forms IsJudgement batches L D O K W status a b
    → PutsRequests forms (map forms.batch a.entries ++ batches) b.entries a.wire b.wire
session_puts {S} {B} {E} {forms} {batches = batches} {L} {D} {O} {K} {W} {status} {a} {b} run =
    let input : Input S E = input_of a run.judgements in
    let work : SessionWork S B E = session forms a.state a.entries batches input in
    subst (λ (es : List E).
    PutsRequests forms (map forms.batch a.entries ++ batches) es a.wire b.wire)
    (sym run.leads.entries)
    (puts_requests forms a.state a.entries batches input run.deeds a.wire b.wire
    (ended_stops work L D O K W status run.deeds a b run.ends))
