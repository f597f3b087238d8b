-- A frame that a session puts, and the store's answer to it.
use Rattle.std.proofs.Common.{◌≡◌, ℕ, ◌+◌, Bool, false, List, [], ◌∷◌, ◌++◌, length, drop, Some, refl, sym, ap, ◌∙◌, subst, arith}
use Rattle.std.specs.Prelude.{IsTrue}
use Rattle.std.proofs.lemmas.List.{length-append, drop_at}
use Rattle.vo_spec.specs.declared.records.Entry.{Entry}
use Rattle.vo_spec.specs.declared.tables.Batch.{Batch}
use Rattle.owner_state.specs.Held.{Held}
use Rattle.link_frames.specs.declared.awaits.Awaits.{Awaits}
use Rattle.link_frames.specs.declared.awaits.Awaits.TheVariants.{Request}
use Rattle.link_frames.specs.declared.frame_kind.FrameKind.{FrameKind}
use Rattle.link_frames.specs.Frames.{Coming, Whole, code_of, first_frame, frame_bytes, is_length, may_come, span}
use Rattle.link_frames.specs.Scripts.{Event, Puts, Takes, Does, others}
use Rattle.link_frames.proofs.FrameLaws.{length-u32, read_back}
use Rattle.vo_spec.specs.Bytes.{u32_bytes}
use Rattle.vo_store.specs.StoreState.{StoreState}
use Rattle.vo_wire.specs.Answering.{KindAndBody, next_after, reply_to}
use Rattle.owner_session.specs.Endings.{Ending}
use Rattle.owner_session.specs.Runs.{AreJudgements}
use Rattle.owner_session.specs.SessionWork.{Deed, Input, SessionWork, answer_of, exchange, input_after, is_refusal, with_answer}
use Rattle.vo_commands.specs.Committing.{IsJudgement}

abbrev pub Deeds : Type 0
Deeds = List (Deed Held Batch Entry)

abbrev pub OwnInput : Type 0
OwnInput = Input Held Entry

abbrev pub OwnWork : Type 0
OwnWork = SessionWork Held Batch Entry

-- the same once these bytes are to come
abbrev pub input_with : List ℕ → OwnInput → OwnInput
input_with coming input = record { coming = coming; judgements = input.judgements }

-- the frame of a request
pub record IsRequest (frame : List ℕ) (k : FrameKind) (body : List ℕ) : Type 0 where
  pub frame_is : frame ≡ frame_bytes k body
  pub may : IsTrue (may_come Request k)
  pub fits : IsTrue (is_length k (length body))

-- Of the requests that are put, each one that the store answers has its answer among the bytes that
-- come, one behind the other.
abbrev pub AnswersEach : {X : Type 0} → StoreState → List (Event X) → List ℕ → StoreState → Type 0
AnswersEach s [] coming later = later ≡ s
AnswersEach s (Puts frame ∷ events) coming later =
    (k : FrameKind) (body : List ℕ) (answer : KindAndBody) → IsRequest frame k body
    → reply_to s k body ≡ Some answer
    → (rest : List ℕ) × (coming ≡ frame_bytes answer.0 answer.1 ++ rest) × AnswersEach
    (next_after s k body) events rest later
AnswersEach s (Takes count ∷ events) coming later = AnswersEach s events coming later
AnswersEach s (Does deed ∷ events) coming later = AnswersEach s events coming later

-- the store answers this work to its end, and the owner makes what it is said to make
pub record Runs (s : StoreState) (coming : List ℕ) (later : StoreState) (ending : Ending)
    (work : OwnWork) : Type 0 where
  pub answered : AnswersEach s work.events coming later
  pub judged : AreJudgements IsJudgement (others work.events)
  pub value : work.value ≡ Some ending

pub frame_long : (k : FrameKind) (body : List ℕ) → length (frame_bytes k body) ≡ 5 + length body
frame_long k body =
    omega (
      arith,
      length-append (u32_bytes (length body + 1)) (code_of k ∷ body),
      length-u32
          (length body + 1),
    )

-- the rest of the work by what comes first
abbrev after_first : Coming → OwnInput → (List ℕ → OwnInput → OwnWork) → OwnWork
after_first first input go = with_answer (answer_of first) (input_after (span first) input) go

goes_on : (k : FrameKind) (body : List ℕ) (input : OwnInput) (go : List ℕ → OwnInput → OwnWork)
    (test : Bool) → is_refusal k ≡ test → test ≡ false
    → after_first (Whole k body) input go ≡ go body
    (input_with (drop (5 + length body) input.coming) input)
goes_on k body input go test is not = rw (is ∙ not) refl

pub traded : (Q : Deeds → Type 0) (k : FrameKind) (body : List ℕ) (awaits : Awaits)
    (input : OwnInput) (go : List ℕ → OwnInput → OwnWork) (s later : StoreState)
    (ending : Ending) (answer : KindAndBody) → IsTrue (may_come Request k)
    → IsTrue (is_length k (length body)) → reply_to s k body ≡ Some answer
    → IsTrue (may_come awaits answer.0) → IsTrue (is_length answer.0 (length answer.1))
    → is_refusal answer.0 ≡ false
    → Runs s input.coming later ending (exchange k body awaits input go)
    → ((rest : List ℕ) → Runs (next_after s k body) rest later ending
    (go answer.1 (input_with rest input))
    → Q (others (go answer.1 (input_with rest input)).events))
    → Q (others (exchange k body awaits input go).events)
unfolding exchange
traded Q k body awaits input go s later ending answer may fits reply comes answer_fits not r goes =
    let each = r.answered k body answer (record { frame_is = refl; may = may; fits = fits })
    reply in
    let rest : List ℕ = each.0 in
    let coming_is : input.coming ≡ frame_bytes answer.0 answer.1 ++ rest = each.1 in
    let first : first_frame awaits input.coming ≡ Whole answer.0 answer.1 =
    ap (first_frame awaits) coming_is ∙ read_back awaits answer.0 answer.1 rest comes answer_fits in
    let left : drop (5 + length answer.1) input.coming ≡ rest =
    ap (drop (5 + length answer.1)) coming_is ∙ drop_at (frame_bytes answer.0 answer.1) rest
    (5 + length answer.1) (frame_long answer.0 answer.1) in
    let work_is : after_first (first_frame awaits input.coming) input go ≡ go answer.1
    (input_with rest input) =
    ap (λ (x : Coming). after_first x input go) first
    ∙ goes_on answer.0 answer.1 input go (is_refusal answer.0) refl not
    ∙ ap (λ (bytes : List ℕ). go answer.1 (input_with bytes input)) left in
    let runs : Runs (next_after s k body) rest later ending
    (after_first (first_frame awaits input.coming) input go) =
    record { answered = each.2; judged = r.judged; value = r.value } in
    subst (λ (w : OwnWork). Q (others w.events)) (sym work_is)
    (goes rest
    (subst (λ (w : OwnWork). Runs (next_after s k body) rest later ending w) work_is runs))
