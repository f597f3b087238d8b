-- A store that serves a connection answers each request that is put on it.
use Rattle.std.proofs.Common.{◌≡◌, ℕ, zero, suc, ◌+◌, ◌≤◌, List, [], ◌∷◌, ◌++◌, length, drop, Option, Some, append-nil, append_assoc, refl, sym, ap, ◌∙◌, arith, lit≤}
use Rattle.std.specs.Prelude.{◌<◌, ◌^◌, IfSome, IsTrue}
use Rattle.std.specs.Str.{IsUtf8}
use Rattle.std.proofs.lemmas.List.{drop_at}
use Rattle.outside.specs.Shelf.{Files}
use Rattle.link_frames.specs.declared.awaits.Awaits.TheVariants.{Request}
use Rattle.link_frames.specs.declared.end.End.{End}
use Rattle.link_frames.specs.declared.frame_kind.FrameKind.{FrameKind}
use Rattle.link_frames.specs.Frames.{Coming, Ended, first_frame, frame_bytes}
use Rattle.link_frames.specs.Scripts.{Event, Puts, Takes, Does, Script, behind, others}
use Rattle.link_frames.specs.Serving.{last_state, max_turns, serving_script, with_first, with_reply}
use Rattle.link_frames.proofs.FrameLaws.{read_back}
use Rattle.vo_store.specs.StoreState.{StoreState}
use Rattle.vo_wire.specs.Answering.{KindAndBody, next_after, reply_to}
use Rattle.vo_spec.specs.Conditions.{Query}
use Rattle.vo_spec.specs.Keys.{is_public_key}
use Rattle.vo_commands.specs.Texts.{IsQueryText}
use Rattle.honest_peers.specs.Answering.{AreServed, bytes_put, frames_put, service}
use Rattle.honest_peers.specs.Asking.{IsAsked, question}
use Rattle.honest_peers.proofs.Trading.{AnswersEach, IsRequest, frame_long}

abbrev pub serve : ℕ → StoreState → List ℕ → Script StoreState End
serve turns s coming = serving_script reply_to next_after turns s coming

nothing_first : first_frame Request [] ≡ Ended
unfolding first_frame
nothing_first = refl

-- nothing is put where nothing comes, and the store stays
pub idle : (turns : ℕ) (s : StoreState) → (bytes_put (serve turns s []).events ≡ [])
    × (last_state s (others (serve turns s []).events) ≡ s)
unfolding serving_script
idle zero s = (refl, refl)
idle (suc turns) s =
    let first : Coming → Script StoreState End = λ come. with_first reply_to next_after s come
    (λ k body. serve turns (next_after s k body) (drop (5 + length body) [])) in (
      ap (λ (come : Coming). bytes_put (first come).events) nothing_first,
      ap (λ (come : Coming). last_state s (others (first come).events)) nothing_first,
    )

-- a request that comes is answered
pub answers_first : (turns : ℕ) (s : StoreState) (frame more : List ℕ) (k : FrameKind) (body : List ℕ)
    (answer : KindAndBody) → IsRequest frame k body → reply_to s k body ≡ Some answer
    → serve (suc turns) s (frame ++ more)
    ≡ behind (Takes (5 + length body) ∷ Does (next_after s k body) ∷ Puts
    (frame_bytes answer.0 answer.1) ∷ []) (serve turns (next_after s k body) more)
unfolding serving_script
answers_first turns s frame more k body answer is reply =
    let bytes : List ℕ = frame_bytes k body ++ more in
    let left : drop (5 + length body) bytes ≡ more = drop_at (frame_bytes k body) more
    (5 + length body) (frame_long k body) in
    ap (λ (xs : List ℕ). with_first reply_to next_after s (first_frame Request (xs ++ more))
    (λ kind text. serve turns (next_after s kind text) (drop (5 + length text) (xs ++ more))))
    is.frame_is
    ∙ ap (λ (come : Coming). with_first reply_to next_after s come
    (λ kind text. serve turns (next_after s kind text) (drop (5 + length text) bytes)))
    (read_back Request k body more is.may is.fits)
    ∙ ap (λ (o : Option KindAndBody). with_reply next_after s k body o
    (serve turns (next_after s k body) (drop (5 + length body) bytes))) reply
    ∙ ap (λ (xs : List ℕ). behind
    (Takes (5 + length body) ∷ Does (next_after s k body) ∷ Puts (frame_bytes answer.0 answer.1)
    ∷ []) (serve turns (next_after s k body) xs)) left

each_answered : {X : Type 0} (turns : ℕ) (events : List (Event X)) (s : StoreState)
    (coming rest : List ℕ) (later : StoreState) → frames_put events ≤ turns
    → coming ≡ bytes_put (serve turns s (bytes_put events)).events ++ rest
    → later ≡ last_state s (others (serve turns s (bytes_put events)).events)
    → AnswersEach s events coming later
each_answered turns [] s coming rest later few comes is = is ∙ (idle turns s).1
each_answered turns (Takes count ∷ events) s coming rest later few comes is =
    each_answered turns events s coming rest later few comes is
each_answered turns (Does x ∷ events) s coming rest later few comes is =
    each_answered turns events s coming rest later few comes is
each_answered zero (Puts frame ∷ events) s coming rest later few comes is =
    absurd (omega (arith, few))
each_answered (suc turns) (Puts frame ∷ events) s coming rest later few comes is =
    λ k body answer request reply.
    let work_is = answers_first turns s frame (bytes_put events) k body answer request reply in
    let on : StoreState = next_after s k body in
    let left : List ℕ = bytes_put (serve turns on (bytes_put events)).events in
    let put : coming ≡ frame_bytes answer.0 answer.1 ++ (left ++ rest) =
    comes ∙ ap (λ (w : Script StoreState End). bytes_put w.events ++ rest) work_is
    ∙ append_assoc (frame_bytes answer.0 answer.1) left rest in
    let stands : later ≡ last_state on (others (serve turns on (bytes_put events)).events) = is
    ∙ ap (λ (w : Script StoreState End). last_state s (others w.events)) work_is in (
      left ++ rest,
      put,
      each_answered turns events on (left ++ rest) rest later (omega (arith, few))
          refl stands,
    )

pub served_answers : {X : Type 0} (s : StoreState) (events : List (Event X)) (coming : List ℕ)
    (later : StoreState) → AreServed s events coming later → AnswersEach s events coming later
served_answers s events coming later served = each_answered max_turns events s coming served.comes.0
    later served.few served.comes.1 served.later_is

-- Bytes that come so.

pub some_answers : {X : Type 0} (s : StoreState) (events : List (Event X)) → frames_put events ≤ max_turns
    → (coming : List ℕ) × (later : StoreState) × AreServed s events coming later
some_answers s events few =
    let answers : List ℕ = bytes_put (service s events).events in (
      answers,
      last_state s (others (service s events).events),
      record { few = few; comes = ([], sym (append-nil answers)); later_is = refl },
    )

pub one_frame : 1 ≤ max_turns
unfolding max_turns
one_frame = lit≤ tt

pub some_question : (s : StoreState) (key text : List ℕ) (at : Option ℕ) (files : Files) (q : Query)
    → files key ≡ Some s.key → IsTrue (is_public_key s.key) → IsUtf8 text → IsQueryText text q
    → IfSome at (λ version. version < 2 ^ 64) → (coming : List ℕ) × IsAsked key text at files s q coming
some_question s key text at files q known is_key utf8 query fits =
    let served = some_answers s (question at text) one_frame in (
      served.0,
      record {
        key_is = known;
        is_key = is_key;
        is_text = utf8;
        is_query = query;
        is_version = fits;
        served = (served.1, served.2);
      },
    )
