-- What a session comes to where all of it is done.
use Rattle.std.proofs.Common.{◌≡◌, ℕ, suc, zero, Bool, true, false, List, [], ◌∷◌, ◌++◌, drop, slice_index, Some, if◌then◌else◌, bytes_eq, refl, ap}
use Rattle.vo_spec.specs.Bytes.{u64_bytes}
use Rattle.link_frames.specs.declared.awaits.Awaits.{Awaits}
use Rattle.link_frames.specs.declared.awaits.Awaits.TheVariants as awaits
use Rattle.link_frames.specs.declared.frame_kind.FrameKind.{FrameKind}
use Rattle.link_frames.specs.declared.frame_kind.FrameKind.TheVariants as frame_kind
use Rattle.link_frames.specs.Frames.{Coming, Whole, Ended, Cut, Bad, first_frame, span}
use Rattle.link_frames.specs.Scripts.{Does, behind, others}
use Rattle.owner_session.specs.declared.place.Place.{Place}
use Rattle.owner_session.specs.declared.place.Place.TheVariants.{Holds, Elsewhere, NoStanding}
use Rattle.owner_session.specs.Endings.{Done, StoreRefuses, StandsElsewhere, version_line}
use Rattle.owner_session.specs.SessionWork.{Forms, Judgement, Makes, Refuses, Steps, Says, SessionWork, Input, Body, NoBody, answer_of, is_refusal, with_answer, with_place, with_judgement, with_first_judgement, input_after, ends_with, exchange, installation, proposal, standing, delivery, deliveries, catch_up, publication, commit, step, batch_commit, commits, session_on, session}
use Rattle.owner_session.specs.Runs.{lines_of, entries_of}
use Rattle.owner_session.specs.Orders.{batches_of, version_lines, CommitsEach}

-- the same, where these lines come before those of the entries
abbrev CommitsBehind : {S B E : Type 0} → Forms B E → List B → List ℕ → SessionWork S B E → Type 0
CommitsBehind forms batches lines work = work.value ≡ Some Done
    → (batches_of (others work.events) ≡ batches)
    × (lines_of (others work.events) ≡ lines ++ version_lines forms (entries_of (others work.events)))

module _ {S B E : Type 0} (forms : Forms B E) where
  whole_commits : (batches : List B) (lines : List ℕ) (refused : Bool) (body : List ℕ) (input : Input S E)
      (go : List ℕ → Input S E → SessionWork S B E) → ((body : List ℕ) (rest : Input S E) → CommitsBehind forms batches lines (go body rest))
      → CommitsBehind forms batches lines (with_answer (if refused then NoBody (StoreRefuses (slice_index body 0)) else Body body) input go)
  whole_commits batches lines true body input go h = λ is. absurd (cc is)
  whole_commits batches lines false body input go h = h body input

  answer_commits : (batches : List B) (lines : List ℕ) (first : Coming) (input : Input S E)
      (go : List ℕ → Input S E → SessionWork S B E) → ((body : List ℕ) (rest : Input S E) → CommitsBehind forms batches lines (go body rest))
      → CommitsBehind forms batches lines (with_answer (answer_of first) input go)
  answer_commits batches lines (Whole kind body) input go h = whole_commits batches lines (is_refusal kind) body input go h
  answer_commits batches lines Ended input go h = λ is. absurd (cc is)
  answer_commits batches lines (Cut got) input go h = λ is. absurd (cc is)
  answer_commits batches lines (Bad length taken) input go h = λ is. absurd (cc is)

  exchange_commits : (batches : List B) (lines : List ℕ) (kind : FrameKind) (body : List ℕ) (awaits : Awaits) (input : Input S E)
      (go : List ℕ → Input S E → SessionWork S B E) → ((body : List ℕ) (rest : Input S E) → CommitsBehind forms batches lines (go body rest))
      → CommitsBehind forms batches lines (exchange kind body awaits input go)
  unfolding exchange
  exchange_commits batches lines kind body awaits input go h =
      answer_commits batches lines (first_frame awaits input.coming) (input_after (span (first_frame awaits input.coming)) input) go h

  same_commits : (batches : List B) (lines : List ℕ) (same : Bool) (work : SessionWork S B E) → CommitsBehind forms batches lines work
      → CommitsBehind forms batches lines (if same then work else ends_with StandsElsewhere)
  same_commits batches lines true work h = h
  same_commits batches lines false work h = λ is. absurd (cc is)

  installation_commits : (batches : List B) (lines : List ℕ) (entry : E) (input : Input S E) (go : Input S E → SessionWork S B E)
      → ((rest : Input S E) → CommitsBehind forms batches lines (go rest))
      → CommitsBehind forms batches lines (installation forms entry input go)
  unfolding installation
  installation_commits batches lines entry input go h =
      exchange_commits batches lines frame_kind.Install (forms.install entry) awaits.Installed input
      (λ (body : List ℕ) (rest : Input S E). if bytes_eq body (u64_bytes (forms.version entry)) then go rest else ends_with StandsElsewhere)
      (λ body rest. same_commits batches lines (bytes_eq body (u64_bytes (forms.version entry))) (go rest) (h rest))

  proposal_commits : (batches : List B) (lines : List ℕ) (batch : B) (input : Input S E) (go : List ℕ → Input S E → SessionWork S B E)
      → ((body : List ℕ) (rest : Input S E) → CommitsBehind forms batches lines (go body rest))
      → CommitsBehind forms batches lines (proposal forms batch input go)
  unfolding proposal
  proposal_commits batches lines batch input go h =
      exchange_commits batches lines frame_kind.Propose (forms.proposal batch) awaits.Proofs input go h

  delivery_commits : (batches : List B) (lines : List ℕ) (i : ℕ) (entry : E) (input : Input S E) (go : Input S E → SessionWork S B E)
      → ((rest : Input S E) → CommitsBehind forms batches lines (go rest))
      → CommitsBehind forms batches lines (delivery forms i entry input go)
  unfolding delivery
  delivery_commits batches lines zero entry input go h = installation_commits batches lines entry input go h
  delivery_commits batches lines (suc i) entry input go h =
      proposal_commits batches lines (forms.batch entry) input (λ (proofs : List ℕ) (rest : Input S E). installation forms entry rest go)
      (λ proofs rest. installation_commits batches lines entry rest go h)

  deliveries_commit : (batches : List B) (lines : List ℕ) (i : ℕ) (given : List E) (input : Input S E) (go : Input S E → SessionWork S B E)
      → ((rest : Input S E) → CommitsBehind forms batches lines (go rest))
      → CommitsBehind forms batches lines (deliveries forms i given input go)
  unfolding deliveries
  deliveries_commit batches lines i [] input go h = h input
  deliveries_commit batches lines i (entry ∷ given) input go h =
      delivery_commits batches lines i entry input (λ (rest : Input S E). deliveries forms (suc i) given rest go)
      (λ rest. deliveries_commit batches lines (suc i) given rest go h)

  place_commits : (batches : List B) (lines : List ℕ) (place : Place) (body : List ℕ) (input : Input S E)
      (go : ℕ → Input S E → SessionWork S B E) → ((count : ℕ) (rest : Input S E) → CommitsBehind forms batches lines (go count rest))
      → CommitsBehind forms batches lines (with_place place body input go)
  place_commits batches lines (Holds count) body input go h = h count input
  place_commits batches lines Elsewhere body input go h = λ is. absurd (cc is)
  place_commits batches lines NoStanding body input go h = λ is. absurd (cc is)

  catch_up_commits : (batches : List B) (lines : List ℕ) (es : List E) (input : Input S E) (go : Input S E → SessionWork S B E)
      → ((rest : Input S E) → CommitsBehind forms batches lines (go rest))
      → CommitsBehind forms batches lines (catch_up forms es input go)
  unfolding catch_up standing
  catch_up_commits batches lines es input go h =
      exchange_commits batches lines frame_kind.Status [] awaits.Standing input
      (λ (body : List ℕ) (rest : Input S E). with_place (forms.place es body) body rest
      (λ (count : ℕ) (later : Input S E). deliveries forms count (drop count es) later go))
      (λ body rest. place_commits batches lines (forms.place es body) body rest
      (λ (count : ℕ) (later : Input S E). deliveries forms count (drop count es) later go)
      (λ count later. deliveries_commit batches lines count (drop count es) later go h))

  -- once the entry is published its line is there
  publication_commits : (batches : List B) (entry : E) (input : Input S E) (go : Input S E → SessionWork S B E)
      → ((rest : Input S E) → CommitsEach forms batches (go rest))
      → CommitsBehind forms batches (version_line (forms.version entry)) (publication forms entry input go)
  unfolding publication
  publication_commits batches entry input go h =
      installation_commits batches (version_line (forms.version entry)) entry input
      (λ (rest : Input S E). behind (Does (Says (version_line (forms.version entry))) ∷ []) (go rest))
      (λ rest is. ((h rest is).0, ap (λ (bytes : List ℕ). version_line (forms.version entry) ++ bytes) (h rest is).1))

  judgement_commits : (batches : List B) (s : S) (batch : B) (proofs : List ℕ) (judgement : Judgement S E) (input : Input S E)
      (go : S → Input S E → SessionWork S B E) → ((next : S) (rest : Input S E) → CommitsEach forms batches (go next rest))
      → CommitsEach forms (batch ∷ batches) (behind (Does (Steps s batch proofs judgement) ∷ []) (with_judgement forms judgement input go))
  unfolding commit
  judgement_commits batches s batch proofs (Makes entry next) input go h = λ is.
      let rest = publication_commits batches entry input (go next) (h next) is in
      (ap (λ (bs : List B). batch ∷ bs) rest.0, rest.1)
  judgement_commits batches s batch proofs (Refuses cause lines) input go h = λ is. absurd (cc is)

  first_commits : (batches : List B) (s : S) (batch : B) (proofs coming : List ℕ) (judgements : List (Judgement S E))
      (go : S → Input S E → SessionWork S B E) → ((next : S) (rest : Input S E) → CommitsEach forms batches (go next rest))
      → CommitsEach forms (batch ∷ batches) (with_first_judgement forms s batch proofs coming judgements go)
  first_commits batches s batch proofs coming [] go h = λ is. absurd (cc is)
  first_commits batches s batch proofs coming (judgement ∷ left) go h =
      judgement_commits batches s batch proofs judgement (record { coming = coming; judgements = left }) go h

  batch_commits : (batches : List B) (s : S) (batch : B) (input : Input S E) (go : S → Input S E → SessionWork S B E)
      → ((next : S) (rest : Input S E) → CommitsEach forms batches (go next rest))
      → CommitsEach forms (batch ∷ batches) (batch_commit forms s batch input go)
  unfolding batch_commit step
  batch_commits batches s batch input go h =
      proposal_commits (batch ∷ batches) [] batch input (λ (proofs : List ℕ) (rest : Input S E). step forms s batch proofs rest go)
      (λ proofs rest. first_commits batches s batch proofs rest.coming rest.judgements go h)

  all_commits : (s : S) (batches : List B) (input : Input S E)
      → CommitsEach forms batches (commits forms s batches input (λ (rest : Input S E). ends_with Done))
  unfolding commits
  all_commits s [] input = λ is. (refl, refl)
  all_commits s (batch ∷ batches) input =
      batch_commits batches s batch input (λ (next : S) (rest : Input S E). commits forms next batches rest (λ (end : Input S E). ends_with Done))
      (λ next rest. all_commits next batches rest)

  pub commits_each : (s : S) (es : List E) (batches : List B) (input : Input S E)
      → CommitsEach forms batches (session forms s es batches input)
  unfolding session session_on
  commits_each s es batches input =
      catch_up_commits batches [] es input (λ (rest : Input S E). commits forms s batches rest (λ (end : Input S E). ends_with Done))
      (λ rest. all_commits s batches rest)
