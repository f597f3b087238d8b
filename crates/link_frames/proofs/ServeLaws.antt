-- A connection that is served, request by request.
use Rattle.std.proofs.Common.{◌≡◌, ℕ, suc, ◌+◌, ◌-◌, ◌<◌, ◌≤◌, List, [], ◌∷◌, ◌++◌, length, take, drop, Option, Some, None, IfSome, option_map, Result, Ok, Err, refl, sym, ap, ◌∙◌, subst, inl, inr, arith}
use Rattle.outside.specs.ConnectionModel.{ConnectionModel, take_from, send_on}
use Rattle.link_frames.specs.declared.frame_kind.FrameKind.{FrameKind}
use Rattle.link_frames.specs.declared.awaits.Awaits.TheVariants.{Request}
use Rattle.link_frames.specs.declared.frame.Frame.{Frame}
use Rattle.link_frames.specs.declared.frame.NoFrame.{NoFrame}
use Rattle.link_frames.specs.declared.frame.NoFrame.TheVariants as no_frame
use Rattle.link_frames.specs.declared.end.End.{End}
use Rattle.link_frames.specs.declared.end.End.TheVariants as end
use Rattle.link_frames.specs.Frames.{Coming, Whole, Ended, Cut, Bad, frame_bytes, span, first_frame}
use Rattle.link_frames.specs.Reading.{Took, TookRest, TookRestOrFront, TookWithin, StaysWhereItStands, Misses}
use Rattle.link_frames.specs.Scripts.{Event, Puts, Takes, Does, Script, behind, IsDone}
use Rattle.link_frames.specs.Serving.{max_turns, Reply, Next, ends_after, with_reply, with_first, serving_script, last_state, StopsIn, EndsWith, Serves, ServesKnown, end_of, PutsAnswer, AnswersOne, ServesOne}
use Rattle.link_frames.proofs.Filling.{stays_on}
use Rattle.link_frames.proofs.ScriptLaws.{behind-behind, done-append, stops-append, stands-after}

last_state-append : {S : Type 0} (s : S) (xs ys : List S) → last_state s (xs ++ ys) ≡ last_state (last_state s xs) ys
last_state-append s [] ys = refl
last_state-append s (x ∷ xs) ys = last_state-append x xs ys

-- Scripts behind what was done.

stops-behind : {S : Type 0} (es : List (Event S)) (xs : List S) (script : Script S End) (old s new : S)
    (before mid after : ConnectionModel) → IsDone es xs before mid → s ≡ last_state old xs
    → StopsIn script s new mid after → StopsIn (behind es script) old new before after
stops-behind es xs script old s new before mid after d is h = (
  xs ++ h.0,
  h.1 ∙ ap (λ t. last_state t h.0) is ∙ sym (last_state-append old xs h.0),
  stops-append es script.events xs h.0 before mid after d h.2,
)

ends-behind : {S : Type 0} (es : List (Event S)) (xs : List S) (script : Script S End) (end : End) (old s new : S)
    (before mid after : ConnectionModel) → IsDone es xs before mid → s ≡ last_state old xs
    → EndsWith script end s new mid after → EndsWith (behind es script) end old new before after
ends-behind es xs script end old s new before mid after d is h = (
  h.0,
  xs ++ h.1,
  h.2 ∙ ap (λ t. last_state t h.1) is ∙ sym (last_state-append old xs h.1),
  done-append es script.events xs h.1 before mid after d h.3,
)

pub serves-behind : {S : Type 0} (es : List (Event S)) (xs : List S) (script : Script S End) (end : End)
    (old s new : S) (before mid after : ConnectionModel) → IsDone es xs before mid → s ≡ last_state old xs
    → Serves script end s new mid after → Serves (behind es script) end old new before after
serves-behind es xs script end.LinkFault old s new before mid after d is h =
    stops-behind es xs script old s new before mid after d is h
serves-behind es xs script end.Memory old s new before mid after d is h =
    stops-behind es xs script old s new before mid after d is h
serves-behind es xs script end.Closed old s new before mid after d is h =
    ends-behind es xs script end.Closed old s new before mid after d is h
serves-behind es xs script end.Turns old s new before mid after d is h =
    ends-behind es xs script end.Turns old s new before mid after d is h
serves-behind es xs script (end.BadFrame length) old s new before mid after d is h =
    ends-behind es xs script (end.BadFrame length) old s new before mid after d is h
serves-behind es xs script (end.Cut got) old s new before mid after d is h =
    ends-behind es xs script (end.Cut got) old s new before mid after d is h

-- No request was read.

-- the connection ended, or no request came
ends_there : {S : Type 0} (n count : ℕ) (end : End) (old new : S) (before : ConnectionModel)
    (wire : Option ConnectionModel) → n ≡ count → new ≡ old → Took n before wire
    → (after : ConnectionModel) × (wire ≡ Some after) × EndsWith (ends_after count end) end old new before after
ends_there n count end old new before wire all same t = (
  take_from n before,
  t,
  (
    refl,
    [],
    same,
    record {
      others_are = refl;
      wire_is = ap (λ (k : ℕ). take_from k before) all;
    },
  ),
)

-- the taking of a request stopped
stops_taking : {S : Type 0} (next : Next S) (old new : S) (kind : FrameKind) (body : List ℕ)
    (answer : Option (FrameKind × List ℕ)) (rest : Script S End) (n : ℕ) (before : ConnectionModel)
    (wire : Option ConnectionModel) → n ≤ 5 + length body → new ≡ old → Took n before wire
    → (after : ConnectionModel) × (wire ≡ Some after)
    × StopsIn (with_reply next old kind body answer rest) old new before after
stops_taking next old new kind body (Some answer) rest n before wire within same t =
    (take_from n before, t, ([], same, inl (refl, (n, within, refl))))
stops_taking next old new kind body None rest n before wire within same t =
    (take_from n before, t, ([], same, inl (refl, (n, within, refl))))

-- the same, whatever was to come
stops_reading : {S : Type 0} (reply : Reply S) (next : Next S) (first : Coming) (old new : S)
    (before : ConnectionModel) (wire : Option ConnectionModel) (rest : FrameKind → List ℕ → Script S End)
    → new ≡ old → TookWithin 0 first before wire
    → (after : ConnectionModel) × (wire ≡ Some after) × StopsIn (with_first reply next old first rest) old new before after
stops_reading reply next (Whole kind body) old new before wire rest same t =
    stops_taking next old new kind body (reply old kind body) (rest kind body) t.0 before wire (omega (arith, t.1)) same t.2
stops_reading reply next Ended old new before wire rest same t =
    (take_from t.0 before, t.2, ([], same, inl (refl, (t.0, omega (arith, t.1), refl))))
stops_reading reply next (Cut got) old new before wire rest same t =
    (take_from t.0 before, t.2, ([], same, inl (refl, (t.0, omega (arith, t.1), refl))))
stops_reading reply next (Bad length taken) old new before wire rest same t =
    (take_from t.0 before, t.2, ([], same, inl (refl, (t.0, omega (arith, t.1), refl))))

without_first : {S : Type 0} (reply : Reply S) (next : Next S) (first : Coming) (fault : NoFrame) (s : S)
    (before : ConnectionModel) (wire : Option ConnectionModel) (rest : FrameKind → List ℕ → Script S End)
    → Misses first fault → TookRestOrFront 0 first fault before wire
    → ServesKnown (with_first reply next s first rest) (end_of fault) s s before wire
without_first reply next first no_frame.LinkFault s before wire rest m t =
    stops_reading reply next first s s before wire rest refl (t.0, t.1, t.3)
without_first reply next first no_frame.Memory s before wire rest m t =
    stops_reading reply next first s s before wire rest refl t
without_first reply next first no_frame.Ended s before wire rest m t =
    let is : first ≡ Ended = m in
    rw is (ends_there t.0 0 end.Closed s s before wire (omega (arith, t.1, ap span is)) refl t.2)
without_first reply next first (no_frame.Cut got) s before wire rest m t =
    let is : first ≡ Cut got = m in
    rw is (ends_there t.0 got (end.Cut got) s s before wire (omega (arith, t.1, ap span is)) refl t.2)
without_first reply next first (no_frame.BadFrame length) s before wire rest m t =
    let is : first ≡ Bad length m.0 = m.1 in
    rw is (ends_there t.0 m.0 (end.BadFrame length) s s before wire (omega (arith, t.1, ap span is)) refl t.2)

-- no request was read: the serving ends
pub no_request : {S : Type 0} (reply : Reply S) (next : Next S) (first : Coming) (fault : NoFrame) (s : S)
    (before : ConnectionModel) (wire : Option ConnectionModel)
    → Misses first fault × TookRestOrFront 0 first fault before wire
    → ServesOne reply next first (Err (end_of fault)) s s before wire
no_request reply next first fault s before wire h =
    λ rest. without_first reply next first fault s before wire rest h.0 h.1

-- One request was read.

-- a request that was read was answered, or the serving ended
pub one_request : {S : Type 0} (reply : Reply S) (next : Next S) (first : Coming) (kind : FrameKind)
    (body : List ℕ) (result : Result (Unit {0}) End) (old new : S) (before : ConnectionModel)
    (wire : Option ConnectionModel) → first ≡ Whole kind body
    → AnswersOne reply next kind body result old new (take_from (5 + length body) before) wire
    → ServesOne reply next first result old new before wire
one_request reply next first kind body (Ok done) old new before wire is h = (kind, body, is, h)
one_request reply next first kind body (Err end) old new before wire is h =
    λ rest. rw is (h (rest kind body) before refl)

pub one_read : {S : Type 0} (reply : Reply S) (next : Next S) (first : Coming) (kind : FrameKind)
    (body : List ℕ) (result : Result (Unit {0}) End) (old new : S) (before : ConnectionModel)
    (wire later : Option ConnectionModel) → first ≡ Whole kind body → TookRest 0 first before wire
    → ((mid : ConnectionModel) → wire ≡ Some mid → AnswersOne reply next kind body result old new mid later)
    → ServesOne reply next first result old new before later
one_read reply next first kind body result old new before wire later is t known =
    let all : t.0 ≡ 5 + length body = omega (arith, t.1, ap span is) in
    let took : Took (5 + length body) before wire = subst (λ (k : ℕ). Took k before wire) all t.2 in
    one_request reply next first kind body result old new before later is
    (known (take_from (5 + length body) before) took)

-- What the answering call says of an answer, and of none.

abbrev pub answer_parts : Frame → FrameKind × List ℕ
answer_parts frame = (frame.kind, frame.body.items)

pub replied : {S : Type 0} (reply : Reply S) (s : S) (kind : FrameKind) (body items : List ℕ)
    (made : Option Frame) (answer : Frame) → made ≡ Some answer → body ≡ items
    → option_map answer_parts made ≡ reply s kind body
    → reply s kind items ≡ Some (answer.kind, answer.body.items)
replied reply s kind body items made answer is same h =
    ap (reply s kind) (sym same) ∙ sym h ∙ ap (option_map answer_parts) is

pub replied_none : {S : Type 0} (reply : Reply S) (s : S) (kind : FrameKind) (body items : List ℕ)
    (made : Option Frame) → made ≡ None → body ≡ items
    → option_map answer_parts made ≡ reply s kind body → reply s kind items ≡ None
replied_none reply s kind body items made is same h =
    ap (reply s kind) (sym same) ∙ sym h ∙ ap (option_map answer_parts) is

pub goes_next : {S : Type 0} (next : Next S) (s new : S) (kind : FrameKind) (body items : List ℕ)
    (made : Option Frame) (answer : Frame) → made ≡ Some answer → body ≡ items
    → IfSome made (λ (f : Frame). new ≡ next s kind body) → new ≡ next s kind items
goes_next next s new kind body items made answer is same h =
    let there : new ≡ next s kind body =
    subst (λ (o : Option Frame). IfSome o (λ (f : Frame). new ≡ next s kind body)) is h in
    there ∙ ap (next s kind) same

-- memory ran out before there was an answer
pub no_memory : {S : Type 0} (reply : Reply S) (next : Next S) (kind : FrameKind) (body : List ℕ) (old new : S)
    (before : ConnectionModel) (wire : Option ConnectionModel) → new ≡ old → wire ≡ Some before
    → AnswersOne reply next kind body (Err end.Memory) old new before wire
no_memory reply next kind body old new before wire same is =
    λ rest start taken. stops_taking next old new kind body (reply old kind body) rest (5 + length body) start wire (omega arith) same
    (is ∙ ap (λ (w : ConnectionModel). Some w) taken)

-- the body was none of its kind
pub no_answer : {S : Type 0} (reply : Reply S) (next : Next S) (kind : FrameKind) (body : List ℕ) (size : ℕ)
    (old new : S) (before : ConnectionModel) (wire : Option ConnectionModel) → size ≡ length body
    → reply old kind body ≡ None → new ≡ old → wire ≡ Some before
    → AnswersOne reply next kind body (Err (end.BadFrame (size + 1))) old new before wire
no_answer reply next kind body size old new before wire is_size none same is =
    λ rest start taken. rw (is_size, none) (ends_there (5 + length body) (5 + length body)
    (end.BadFrame (length body + 1)) old new start wire refl same (is ∙ ap (λ (w : ConnectionModel). Some w) taken))

-- the putting of an answer stopped
stops_putting : {S : Type 0} (next : Next S) (old new : S) (kind : FrameKind) (body : List ℕ)
    (answer : FrameKind × List ℕ) (rest : Script S End) (start before : ConnectionModel)
    (wire : Option ConnectionModel) → new ≡ next old kind body
    → (n : ℕ) × (wire ≡ Some (send_on (take n (frame_bytes answer.0 answer.1)) before))
    → before ≡ take_from (5 + length body) start
    → (after : ConnectionModel) × (wire ≡ Some after)
    × StopsIn (with_reply next old kind body (Some answer) rest) old new start after
stops_putting next old new kind body answer rest start before wire goes h taken =
    let front : List ℕ = take h.0 (frame_bytes answer.0 answer.1) in (
      send_on front before,
      h.1,
      (
        next old kind body ∷ [],
        goes,
        inr (
          next old kind body ∷ [],
          refl,
          inr (
            [],
            refl,
            inl (refl, (h.0, ap (send_on front) taken)),
          ),
        ),
      ),
    )

-- there was an answer, which was put, or the putting stopped
pub puts_answer : {S : Type 0} (reply : Reply S) (next : Next S) (kind : FrameKind) (body : List ℕ)
    (answer : FrameKind × List ℕ) (result : Result (Unit {0}) End) (old new : S) (before : ConnectionModel)
    (wire : Option ConnectionModel) → reply old kind body ≡ Some answer → new ≡ next old kind body
    → PutsAnswer (frame_bytes answer.0 answer.1) result before wire
    → AnswersOne reply next kind body result old new before wire
puts_answer reply next kind body answer (Ok done) old new before wire replied goes h = (answer, replied, goes, h)
puts_answer reply next kind body answer (Err end.LinkFault) old new before wire replied goes h =
    λ rest start taken. rw replied (stops_putting next old new kind body answer rest start before wire goes h taken)
puts_answer reply next kind body answer (Err end.Memory) old new before wire replied goes h =
    λ rest start taken. rw replied (stops_putting next old new kind body answer rest start before wire goes h taken)
puts_answer reply next kind body answer (Err end.Closed) old new before wire replied goes h = absurd h
puts_answer reply next kind body answer (Err end.Turns) old new before wire replied goes h = absurd h
puts_answer reply next kind body answer (Err (end.BadFrame length)) old new before wire replied goes h = absurd h
puts_answer reply next kind body answer (Err (end.Cut got)) old new before wire replied goes h = absurd h

-- The loop.

-- some requests were answered, and so many may follow
pub record IsServedTo {S : Type 0} (reply : Reply S) (next : Next S) (left : ℕ) (old now : S)
    (before : ConnectionModel) (wire : Option ConnectionModel) : Type 0 where
  pub mid : ConnectionModel
  pub events : List (Event S)
  pub states : List S
  pub wire_is : wire ≡ Some mid
  pub script_is : serving_script reply next max_turns old before.coming ≡ behind events (serving_script reply next left now mid.coming)
  pub now_is : now ≡ last_state old states
  pub done : IsDone events states before mid

pub serves_none : {S : Type 0} (reply : Reply S) (next : Next S) (s : S) (before : ConnectionModel)
    (wire : Option ConnectionModel) → wire ≡ Some before → IsServedTo reply next max_turns s s before wire
serves_none reply next s before wire is = record {
  mid = before;
  events = [];
  states = [];
  wire_is = is;
  script_is = refl;
  now_is = refl;
  done = record { others_are = refl; wire_is = refl };
}

serving_script-suc : {S : Type 0} (reply : Reply S) (next : Next S) (turns : ℕ) (s : S) (coming : List ℕ)
    → serving_script reply next (suc turns) s coming ≡ with_first reply next s (first_frame Request coming)
    (λ kind body. serving_script reply next turns (next s kind body) (drop (5 + length body) coming))
unfolding serving_script
serving_script-suc reply next turns s coming = refl

-- one more request
pub serves_more : {S : Type 0} (reply : Reply S) (next : Next S) (left : ℕ) (old now new : S)
    (before : ConnectionModel) (wire later : Option ConnectionModel) (done : Unit {0})
    → IsServedTo reply next (suc left) old now before wire
    → ((mid : ConnectionModel) → wire ≡ Some mid
    → ServesOne reply next (first_frame Request mid.coming) (Ok done) now new mid later)
    → IsServedTo reply next left old new before later
serves_more {S} reply next left old now new before wire later done h one =
    let o : ServesOne reply next (first_frame Request h.mid.coming) (Ok done) now new h.mid later = one h.mid h.wire_is in
    let kind : FrameKind = o.0 in
    let body : List ℕ = o.1 in
    let answer : FrameKind × List ℕ = o.3.0 in
    let after : S = next now kind body in
    let mid : ConnectionModel = send_on (frame_bytes answer.0 answer.1) (take_from (5 + length body) h.mid) in
    let events : List (Event S) = Takes (5 + length body) ∷ Does after ∷ Puts (frame_bytes answer.0 answer.1) ∷ [] in
    let rest : FrameKind → List ℕ → Script S End = λ k b. serving_script reply next left (next now k b) (drop (5 + length b) h.mid.coming) in
    let first : with_first reply next now (first_frame Request h.mid.coming) rest ≡ with_reply next now kind body (reply now kind body) (rest kind body) =
    ap (λ (c : Coming). with_first reply next now c rest) o.2 in
    let replied : with_reply next now kind body (reply now kind body) (rest kind body) ≡ behind events (rest kind body) =
    ap (λ (a : Option (FrameKind × List ℕ)). with_reply next now kind body a (rest kind body)) o.3.1 in
    let script : serving_script reply next (suc left) now h.mid.coming ≡ behind events (serving_script reply next left after mid.coming) =
    serving_script-suc reply next left now h.mid.coming ∙ first ∙ replied in
    let result : IsServedTo reply next left old after before later = record {
      mid = mid;
      events = h.events ++ events;
      states = h.states ++ after ∷ [];
      wire_is = o.3.3;
      script_is = h.script_is ∙ ap (behind h.events) script ∙ behind-behind h.events events (serving_script reply next left after mid.coming);
      now_is = sym (last_state-append old h.states (after ∷ []));
      done = done-append h.events events h.states (after ∷ []) before h.mid mid h.done (record { others_are = refl; wire_is = refl });
    } in
    subst (λ (s : S). IsServedTo reply next left old s before later) (sym o.3.2) result

-- the serving ends at a request
pub serves_to_end : {S : Type 0} (reply : Reply S) (next : Next S) (left : ℕ) (end : End) (old now new : S)
    (before : ConnectionModel) (wire later : Option ConnectionModel)
    → IsServedTo reply next (suc left) old now before wire
    → ((mid : ConnectionModel) → wire ≡ Some mid
    → ServesOne reply next (first_frame Request mid.coming) (Err end) now new mid later)
    → ServesKnown (serving_script reply next max_turns old before.coming) end old new before later
serves_to_end {S} reply next left end old now new before wire later h one =
    let rest : FrameKind → List ℕ → Script S End = λ k b. serving_script reply next left (next now k b) (drop (5 + length b) h.mid.coming) in
    let script : Script S End = with_first reply next now (first_frame Request h.mid.coming) rest in
    let o : ServesKnown script end now new h.mid later = one h.mid h.wire_is rest in
    let whole : serving_script reply next max_turns old before.coming ≡ behind h.events script =
    h.script_is ∙ ap (behind h.events) (serving_script-suc reply next left now h.mid.coming) in (
      o.0,
      o.1,
      subst (λ (s : Script S End). Serves s end old new before o.0) (sym whole)
          (serves-behind h.events h.states script end old now new before h.mid o.0 h.done h.now_is o.2),
    )

serving_script-zero : {S : Type 0} (reply : Reply S) (next : Next S) (s : S) (coming : List ℕ)
    → serving_script reply next 0 s coming ≡ record { events = []; value = end.Turns }
unfolding serving_script
serving_script-zero reply next s coming = refl

-- as many requests as are answered were
pub serves_all_turns : {S : Type 0} (reply : Reply S) (next : Next S) (old now : S)
    (before : ConnectionModel) (wire : Option ConnectionModel) → IsServedTo reply next 0 old now before wire
    → ServesKnown (serving_script reply next max_turns old before.coming) end.Turns old now before wire
serves_all_turns {S} reply next old now before wire h =
    let none : serving_script reply next 0 now h.mid.coming ≡ record { events = []; value = end.Turns } = serving_script-zero reply next now h.mid.coming in
    let script : Script S End = record { events = []; value = end.Turns } in
    let whole : serving_script reply next max_turns old before.coming ≡ behind h.events script =
    h.script_is ∙ ap (behind h.events) none in (
      h.mid,
      h.wire_is,
      subst (λ (s : Script S End). Serves s end.Turns old now before h.mid) (sym whole)
          (serves-behind h.events h.states script end.Turns old now now before h.mid h.mid h.done h.now_is
          (refl, [], refl, record { others_are = refl; wire_is = refl })),
    )

-- so many requests were answered
pub record IsServing {S : Type 0} (reply : Reply S) (next : Next S) (turn : ℕ) (old now : S)
    (first wire : Option ConnectionModel) (old_faults faults old_misses misses : ℕ) : Type 0 where
  pub left : ℕ
  pub turns_are : left + turn ≡ max_turns
  pub known : (before : ConnectionModel) → first ≡ Some before → IsServedTo reply next left old now before wire
  pub counts : faults ≡ old_faults
  pub stays : StaysWhereItStands first old_misses misses

pub turns : max_turns ≡ 1048576
unfolding max_turns
turns = refl

served_stands : {S : Type 0} (reply : Reply S) (next : Next S) (left : ℕ) (old now : S) (before : ConnectionModel)
    (wire : Option ConnectionModel) → IsServedTo reply next left old now before wire
    → (mid : ConnectionModel) × (wire ≡ Some mid) × (mid.stands ≡ before.stands)
served_stands reply next left old now before wire h =
    (h.mid, h.wire_is, ap (λ (w : ConnectionModel). w.stands) h.done.wire_is ∙ stands-after h.events before)

-- a count of misses, once one request more was served
pub serving_stays : {S : Type 0} (reply : Reply S) (next : Next S) (turn : ℕ) (old now : S)
    (first wire : Option ConnectionModel) (old_faults faults old_misses misses later_misses : ℕ)
    → IsServing reply next turn old now first wire old_faults faults old_misses misses
    → StaysWhereItStands wire misses later_misses → StaysWhereItStands first old_misses later_misses
serving_stays reply next turn old now first wire old_faults faults old_misses misses later_misses h again =
    stays_on first wire old_misses misses later_misses
    (λ before is. served_stands reply next h.left old now before wire (h.known before is)) h.stays again

pub serving_none : {S : Type 0} (reply : Reply S) (next : Next S) (s : S) (wire : Option ConnectionModel)
    (faults misses : ℕ) → IsServing reply next 0 s s wire wire faults faults misses misses
serving_none reply next s wire faults misses = record {
  left = max_turns;
  turns_are = omega arith;
  known = λ before is. serves_none reply next s before wire is;
  counts = refl;
  stays = λ w is stands. refl;
}

-- some turns are left, one of which is this
one_left : {S : Type 0} (reply : Reply S) (next : Next S) (turn : ℕ) (old now : S)
    (first wire : Option ConnectionModel) (old_faults faults old_misses misses : ℕ) → turn < 1048576
    → (h : IsServing reply next turn old now first wire old_faults faults old_misses misses)
    → (left : ℕ) × (h.left ≡ suc left)
one_left reply next turn old now first wire old_faults faults old_misses misses some h =
    (h.left - 1, omega (arith, h.turns_are, turns))

pub serving_more : {S : Type 0} (reply : Reply S) (next : Next S) (turn : ℕ) (old now new : S)
    (first wire later : Option ConnectionModel) (old_faults faults later_faults old_misses misses later_misses : ℕ)
    (done : Unit {0}) → turn < 1048576
    → IsServing reply next turn old now first wire old_faults faults old_misses misses
    → ((mid : ConnectionModel) → wire ≡ Some mid
    → ServesOne reply next (first_frame Request mid.coming) (Ok done) now new mid later)
    → later_faults ≡ faults → StaysWhereItStands wire misses later_misses
    → IsServing reply next (turn + 1) old new first later old_faults later_faults old_misses later_misses
serving_more reply next turn old now new first wire later old_faults faults later_faults old_misses misses later_misses done some h one counts stays =
    let l = one_left reply next turn old now first wire old_faults faults old_misses misses some h in
    let left : ℕ = l.0 in
    let left_is : h.left ≡ suc left = l.1 in
    record {
      left = left;
      turns_are = omega (arith, h.turns_are, left_is);
      known = λ before is. serves_more reply next left old now new before wire later done
          (subst (λ (k : ℕ). IsServedTo reply next k old now before wire) left_is (h.known before is)) one;
      counts = counts ∙ h.counts;
      stays = serving_stays reply next turn old now first wire old_faults faults old_misses misses later_misses h stays;
    }

pub serving_ends : {S : Type 0} (reply : Reply S) (next : Next S) (turn : ℕ) (end : End) (old now new : S)
    (first wire later : Option ConnectionModel) (old_faults faults old_misses misses : ℕ) → turn < 1048576
    → IsServing reply next turn old now first wire old_faults faults old_misses misses
    → ((mid : ConnectionModel) → wire ≡ Some mid
    → ServesOne reply next (first_frame Request mid.coming) (Err end) now new mid later)
    → (before : ConnectionModel) → first ≡ Some before
    → ServesKnown (serving_script reply next max_turns old before.coming) end old new before later
serving_ends reply next turn end old now new first wire later old_faults faults old_misses misses some h one before is =
    let l = one_left reply next turn old now first wire old_faults faults old_misses misses some h in
    serves_to_end reply next l.0 end old now new before wire later
    (subst (λ (k : ℕ). IsServedTo reply next k old now before wire) l.1 (h.known before is)) one

pub serving_all : {S : Type 0} (reply : Reply S) (next : Next S) (turn : ℕ) (old now : S)
    (first wire : Option ConnectionModel) (old_faults faults old_misses misses : ℕ) → 1048576 ≤ turn
    → IsServing reply next turn old now first wire old_faults faults old_misses misses
    → (before : ConnectionModel) → first ≡ Some before
    → ServesKnown (serving_script reply next max_turns old before.coming) end.Turns old now before wire
serving_all reply next turn old now first wire old_faults faults old_misses misses all h before is =
    let none : h.left ≡ 0 = omega (arith, h.turns_are, turns) in
    serves_all_turns reply next old now before wire
    (subst (λ (k : ℕ). IsServedTo reply next k old now before wire) none (h.known before is))
