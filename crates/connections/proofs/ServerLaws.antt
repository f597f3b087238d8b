-- Connections that were served, and one more.
use Rattle.std.proofs.Common.{◌≡◌, ◌≢◌, ℕ, ◌+◌, ◌<◌, ◌≤◌, List, [], ◌∷◌, ◌++◌, length, take, drop, Option, Some, None, IfSome, Result, Ok, Err, IsTrue, refl, sym, ap, ◌∙◌, subst, inl, inr, arith, append_assoc, append-nil, length-append, add-zero, rules, tests}
use Rattle.std.proofs.lemmas.List.{drop-drop, length-drop}
use Rattle.std.specs.Prelude.{nat_lt}
use Rattle.std.specs.List.{AllByRecursion}
use Rattle.outside.specs.ConnectionModel.{ConnectionModel, open_next, close_wire, has_next, open_known, close_known}
use Rattle.outside.specs.FaultRose.{FaultRose}
use Rattle.outside.specs.Miss.{CountsMiss}
use Rattle.outside.specs.Sink.{append_known}
use Rattle.link_frames.specs.declared.end.End.{End}
use Rattle.link_frames.specs.declared.end.End.TheVariants as ended
use Rattle.link_frames.specs.Scripts.{Event, Puts, Takes, Does, Script, wire_next, wire_after, IsBegun, Stops}
use Rattle.link_frames.specs.Serving.{Reply, Next, Serves, ServesKnown, serving_script, max_turns}
use Rattle.link_frames.specs.Reading.{StaysWhereItStands}
use Rattle.connections.specs.declared.serve_fault.ServeFault.{ServeFault}
use Rattle.connections.specs.declared.serve_fault.ServeFault.TheVariants as fault
use Rattle.connections.specs.Lines.{HasLine, end_line, end_lines}
use Rattle.connections.specs.Serving.{IsServed, AreServed, AreServedKnown, AreWritten, WritesLine, CountsEach, CountsFault, ServesAll, ServesNext}

-- The connections to come stay while one is served.

queue-next : {X : Type 0} (event : Event X) (before : ConnectionModel) → (wire_next event before).queue ≡ before.queue
queue-next (Puts frame) before = refl
queue-next (Takes count) before = refl
queue-next (Does x) before = refl

queue-after : {X : Type 0} (events : List (Event X)) (before : ConnectionModel)
    → (wire_after events before).queue ≡ before.queue
queue-after [] before = refl
queue-after (event ∷ events) before = queue-after events (wire_next event before) ∙ queue-next event before

queue_begun : {X : Type 0} (event : Event X) (before after : ConnectionModel) → IsBegun event before after
    → after.queue ≡ before.queue
queue_begun (Puts frame) before after h = ap (λ (w : ConnectionModel). w.queue) h.1
queue_begun (Takes count) before after h = ap (λ (w : ConnectionModel). w.queue) h.2
queue_begun (Does x) before after h = ap (λ (w : ConnectionModel). w.queue) h

queue_stops : {X : Type 0} (events : List (Event X)) (done : List X) (before after : ConnectionModel)
    → Stops events done before after → after.queue ≡ before.queue
queue_stops [] done before after h = ap (λ (w : ConnectionModel). w.queue) h.1
queue_stops (event ∷ events) done before after (inl h) = queue_begun event before after h.1
queue_stops (event ∷ events) done before after (inr h) =
    queue_stops events h.0 (wire_next event before) after h.2 ∙ queue-next event before

queue_serves : {S : Type 0} (script : Script S End) (end : End) (old new : S) (before after : ConnectionModel)
    → Serves script end old new before after → after.queue ≡ before.queue
queue_serves script ended.LinkFault old new before after h = queue_stops script.events h.0 before after h.2
queue_serves script ended.Memory old new before after h = queue_stops script.events h.0 before after h.2
queue_serves script ended.Closed old new before after h =
    ap (λ (w : ConnectionModel). w.queue) h.3.wire_is ∙ queue-after script.events before
queue_serves script ended.Turns old new before after h =
    ap (λ (w : ConnectionModel). w.queue) h.3.wire_is ∙ queue-after script.events before
queue_serves script (ended.BadFrame length) old new before after h =
    ap (λ (w : ConnectionModel). w.queue) h.3.wire_is ∙ queue-after script.events before
queue_serves script (ended.Cut got) old new before after h =
    ap (λ (w : ConnectionModel). w.queue) h.3.wire_is ∙ queue-after script.events before

queue_served : {S : Type 0} (reply : Reply S) (next : Next S) (end : End) (old new : S) (before after : ConnectionModel)
    → IsServed reply next end old new before after → after.queue ≡ drop 1 before.queue
queue_served reply next end old new before after h =
    ap (λ (w : ConnectionModel). w.queue) h.closed
    ∙ queue_serves (serving_script reply next max_turns old (open_next before).coming) end old new (open_next before) h.last h.serves

queue_all_served : {S : Type 0} (reply : Reply S) (next : Next S) (ends : List End) (old new : S)
    (before after : ConnectionModel) → AreServed reply next ends old new before after
    → after.queue ≡ drop (length ends) before.queue
queue_all_served reply next [] old new before after h = ap (λ (w : ConnectionModel). w.queue) h.1
queue_all_served reply next (end ∷ ends) old new before after h =
    let count : 1 + length ends ≡ length (end ∷ ends) = omega arith in
    queue_all_served reply next ends h.0 new h.1 after h.3
    ∙ ap (drop (length ends)) (queue_served reply next end old h.0 before h.1 h.2)
    ∙ drop-drop (length ends) 1 before.queue
    ∙ ap (λ (n : ℕ). drop n before.queue) count

-- Connections in turn.

served-append : {S : Type 0} (reply : Reply S) (next : Next S) (ends more : List End) (old mid new : S)
    (before between after : ConnectionModel) → AreServed reply next ends old mid before between
    → AreServed reply next more mid new between after → AreServed reply next (ends ++ more) old new before after
served-append reply next [] more old mid new before between after h l = rw (sym h.0, sym h.1) l
served-append reply next (end ∷ ends) more old mid new before between after h l = (
  h.0,
  h.1,
  h.2,
  served-append reply next ends more h.0 mid new h.1 between after h.3 l,
)

served_known-append : {S : Type 0} (reply : Reply S) (next : Next S) (ends more : List End) (old mid new : S)
    (wire between later : Option ConnectionModel) → AreServedKnown reply next ends old mid wire between
    → AreServedKnown reply next more mid new between later
    → AreServedKnown reply next (ends ++ more) old new wire later
served_known-append reply next ends more old mid new wire between later h l = λ before is.
    let a = h before is in
    let b = l a.0 a.1 in
    (b.0, b.1, served-append reply next ends more old mid new before a.0 b.0 a.2 b.2)

-- one connection
pub one_served : {S : Type 0} (reply : Reply S) (next : Next S) (end : End) (old new : S)
    (wire opened last later : Option ConnectionModel)
    → ((before : ConnectionModel) → wire ≡ Some before → IsTrue (has_next before)) → opened ≡ open_known wire
    → ((before : ConnectionModel) → opened ≡ Some before
    → ServesKnown (serving_script reply next max_turns old before.coming) end old new before last)
    → later ≡ close_known last → AreServedKnown reply next (end ∷ []) old new wire later
one_served reply next end old new wire opened last later came opens serves closes = λ before is.
    let s = serves (open_next before) (opens ∙ ap open_known is) in (
      close_wire s.0,
      closes ∙ ap close_known s.1,
      (
        new,
        close_wire s.0,
        record { came = came before is; last = s.0; serves = s.2; closed = refl },
        (refl, refl),
      ),
    )

-- Lines.

lines-append : (number : ℕ) (ends : List End) (end : End)
    → end_lines number (ends ++ end ∷ []) ≡ end_lines number ends ++ end_line (number + length ends) end
lines-append number [] end = append-nil (end_line number end) ∙ ap (λ (n : ℕ). end_line n end) (sym (add-zero number))
lines-append number (first ∷ ends) end =
    let moved : number + 1 + length ends ≡ number + length (first ∷ ends) = omega arith in
    ap (λ (bytes : List ℕ). end_line number first ++ bytes)
    (lines-append (number + 1) ends end ∙ ap (λ (n : ℕ). end_lines (number + 1) ends ++ end_line n end) moved)
    ∙ sym (append_assoc (end_line number first) (end_lines (number + 1) ends) (end_line (number + length (first ∷ ends)) end))

added-added : (a b : List ℕ) (o : Option (List ℕ)) → append_known (append_known o a) b ≡ append_known o (a ++ b)
added-added a b None = refl
added-added a b (Some bytes) = ap (λ (all : List ℕ). Some all) (append_assoc bytes a b)

added-nothing : (o : Option (List ℕ)) → o ≡ append_known o []
added-nothing None = refl
added-nothing (Some bytes) = ap (λ (all : List ℕ). Some all) (sym (append-nil bytes))

all-append : {X : Type 0} (P : X → Type 0) (xs : List X) (x : X) → AllByRecursion P xs → P x
    → AllByRecursion P (xs ++ x ∷ [])
all-append P [] x h p = (p, tt)
all-append P (y ∷ xs) x h p = (h.0, all-append P xs x h.1 p)

length-one_more : {X : Type 0} (xs : List X) (x : X) → length (xs ++ x ∷ []) ≡ length xs + 1
length-one_more xs x = length-append xs (x ∷ [])

-- Faults.

rose_later : (old mid new : ℕ) → FaultRose old mid → mid ≤ new → FaultRose old new
rose_later old mid new rose counts = λ some. let h : old < mid = rose (omega (arith, counts)) in omega (arith, h, counts)

pub rose_before : (old mid new : ℕ) → old ≤ mid → FaultRose mid new → FaultRose old new
rose_before old mid new counts rose = λ some. let h : mid < new = rose some in omega (arith, h, counts)

-- one connection more
counts-append : (ends : List End) (end : End) (old mid new : ℕ) → CountsEach ends old mid → CountsFault end mid new
    → CountsEach (ends ++ end ∷ []) old new
counts-append [] end old mid new h l = (
  new,
  subst (λ (count : ℕ). CountsFault end count new) h l,
  refl,
)
counts-append (first ∷ ends) end old mid new h l = (h.0, h.1, counts-append ends end h.0 mid new h.2 l)

-- the end of one connection, by the counts before it was made, while it was served, and at its end
pub fault_counted : (end : End) (old opened last new : ℕ) → (end ≡ ended.LinkFault → FaultRose opened last)
    → (end ≢ ended.LinkFault → last ≡ opened) → opened ≡ old → opened ≤ last → new ≡ last → CountsFault end old new
fault_counted end old opened last new rose quiet a b l = record {
  rise = omega (arith, a, b, l);
  cause = λ e. rose_before old opened new (omega (arith, a)) (rose_later opened last new (rose e) (omega (arith, l)));
  quiet = λ other. l ∙ quiet other ∙ a;
}

-- The next connection.

pub next_served : {S : Type 0} (reply : Reply S) (next : Next S) (number : ℕ) (end : End)
    (result : Result (Unit {0}) ServeFault) (old new : S) (wire later : Option ConnectionModel)
    (written after : Option (List ℕ)) (faults more : ℕ) → result ≢ Err fault.Network
    → AreServedKnown reply next (end ∷ []) old new wire later → WritesLine number end result written after
    → CountsFault end faults more
    → ServesNext reply next number result old new wire later written after faults more
next_served reply next number end (Ok done) old new wire later written after faults more other known line rose =
    (end, known, line, rose)
next_served reply next number end (Err fault.Network) old new wire later written after faults more other known line rose =
    absurd line
next_served reply next number end (Err fault.Output) old new wire later written after faults more other known line rose =
    (end, known, line, rose)
next_served reply next number end (Err fault.Memory) old new wire later written after faults more other known line rose =
    (end, known, line, rose)

-- the misses at a connection that was to come
pub next_misses : (before : ConnectionModel) (wire opened last : Option ConnectionModel) (old made served new : ℕ)
    → wire ≡ Some before → IsTrue (has_next before)
    → IfSome wire (λ (w : ConnectionModel). CountsMiss (has_next w) old made) → opened ≡ open_known wire
    → StaysWhereItStands opened made served → ((w : ConnectionModel) → opened ≡ Some w → (after : ConnectionModel) × (last ≡ Some after))
    → IfSome last (λ _. new ≡ served) → new ≡ old
next_misses before wire opened last old made served new is some made_counts opens stays known closes =
    let is_made : made ≡ old =
    subst (λ b. CountsMiss b old made) some (subst (λ o. IfSome o (λ (w : ConnectionModel). CountsMiss (has_next w) old made)) is made_counts) in
    let opened_is : opened ≡ Some (open_next before) = opens ∙ ap open_known is in
    let is_served : served ≡ made = stays (open_next before) opened_is refl in
    let l = known (open_next before) opened_is in
    let is_closed : new ≡ served = subst (λ (o : Option ConnectionModel). IfSome o (λ _. new ≡ served)) l.1 closes in
    is_closed ∙ is_served ∙ is_made

-- The loop.

-- so many connections were served and have their lines
pub record IsServing {S : Type 0} (reply : Reply S) (next : Next S) (number : ℕ) (old now : S)
    (wire later : Option ConnectionModel) (written after : Option (List ℕ)) (faults more misses more_misses out more_out : ℕ) : Type 0 where
  pub ends : List End
  pub count_is : length ends ≡ number
  pub lines : AreWritten ends written after
  pub known : AreServedKnown reply next ends old now wire later
  pub rose : CountsEach ends faults more
  pub counts : faults ≤ more
  pub stays : (before : ConnectionModel) → wire ≡ Some before → number ≤ length before.queue → more_misses ≡ misses
  pub out_counts : more_out ≡ out

pub serves_none : {S : Type 0} (reply : Reply S) (next : Next S) (old : S) (wire : Option ConnectionModel)
    (written : Option (List ℕ)) (faults misses out : ℕ)
    → IsServing reply next 0 old old wire wire written written faults faults misses misses out out
serves_none reply next old wire written faults misses out = record {
  ends = [];
  count_is = refl;
  lines = (tt, added-nothing written);
  known = λ before is. (before, is, (refl, refl));
  rose = refl;
  counts = omega arith;
  stays = λ before is some. refl;
  out_counts = refl;
}

has_more : (ends : ℕ) (queue : List (List ℕ)) → ends < length queue → IsTrue (nat_lt 0 (length (drop ends queue)))
has_more ends queue some = let h : 0 < length (drop ends queue) = omega (arith, length-drop ends queue) in search (rules, tests)

-- a further connection is to come on those that are known
to_come : {S : Type 0} (reply : Reply S) (next : Next S) (ends : List End) (old now : S) (before mid : ConnectionModel)
    → AreServed reply next ends old now before mid → length ends < length before.queue → IsTrue (has_next mid)
to_come reply next ends old now before mid h some =
    subst (λ (queue : List (List ℕ)). IsTrue (nat_lt 0 (length queue))) (sym (queue_all_served reply next ends old now before mid h))
    (has_more (length ends) before.queue some)

-- the misses stay where so many are to come
pub misses_stay : {S : Type 0} (reply : Reply S) (next : Next S) (number count : ℕ) (old now : S)
    (wire mid : Option ConnectionModel) (written after : Option (List ℕ)) (faults more misses more_misses new_misses out more_out : ℕ)
    → number < count
    → IsServing reply next number old now wire mid written after faults more misses more_misses out more_out
    → ((w : ConnectionModel) → mid ≡ Some w → IsTrue (has_next w) → new_misses ≡ more_misses)
    → (before : ConnectionModel) → wire ≡ Some before → count ≤ length before.queue → new_misses ≡ misses
misses_stay reply next number count old now wire mid written after faults more misses more_misses new_misses out more_out below h one before is some =
    let k = h.known before is in
    let left : length h.ends < length before.queue = omega (arith, h.count_is, below, some) in
    one k.0 k.1 (to_come reply next h.ends old now before k.0 k.2 left) ∙ h.stays before is (omega (arith, below, some))

-- one more
pub serves_more : {S : Type 0} (reply : Reply S) (next : Next S) (number : ℕ) (done : Unit {0}) (old now new : S)
    (wire mid later : Option ConnectionModel) (written between after : Option (List ℕ))
    (faults more new_faults misses more_misses new_misses out more_out new_out : ℕ)
    → IsServing reply next number old now wire mid written between faults more misses more_misses out more_out
    → ServesNext reply next (number + 1) (Ok done) now new mid later between after more new_faults
    → more ≤ new_faults
    → ((w : ConnectionModel) → mid ≡ Some w → IsTrue (has_next w) → new_misses ≡ more_misses)
    → new_out ≡ more_out
    → IsServing reply next (number + 1) old new wire later written after faults new_faults misses new_misses out new_out
serves_more reply next number done old now new wire mid later written between after faults more new_faults misses more_misses new_misses out more_out new_out h one counts stays out_counts = record {
  ends = h.ends ++ one.0 ∷ [];
  count_is = length-one_more h.ends one.0 ∙ ap (λ (n : ℕ). n + 1) h.count_is;
  lines = (all-append HasLine h.ends one.0 h.lines.0 one.2.0, line);
  known = served_known-append reply next h.ends (one.0 ∷ []) old now new wire mid later h.known one.1;
  rose = counts-append h.ends one.0 faults more new_faults h.rose one.3;
  counts = omega (arith, h.counts, counts);
  stays = λ before is some. misses_stay reply next number (number + 1) old now wire mid written between faults more misses more_misses new_misses out more_out (omega arith) h stays before is some;
  out_counts = out_counts ∙ h.out_counts;
}
  where
    number_is : 1 + length h.ends ≡ number + 1
    number_is = omega (arith, h.count_is)

    line : after ≡ append_known written (end_lines 1 (h.ends ++ one.0 ∷ []))
    line =
        one.2.1 ∙ ap (λ (o : Option (List ℕ)). append_known o (end_line (number + 1) one.0)) h.lines.1
        ∙ added-added (end_lines 1 h.ends) (end_line (number + 1) one.0) written
        ∙ ap (λ (bytes : List ℕ). append_known written bytes)
        (sym (lines-append 1 h.ends one.0 ∙ ap (λ (n : ℕ). end_lines 1 h.ends ++ end_line n one.0) number_is))

-- all
pub serves_all : {S : Type 0} (reply : Reply S) (next : Next S) (number count : ℕ) (done : Unit {0}) (old now : S)
    (wire later : Option ConnectionModel) (written after : Option (List ℕ)) (faults more misses more_misses out more_out : ℕ)
    → number ≡ count
    → IsServing reply next number old now wire later written after faults more misses more_misses out more_out
    → ServesAll reply next count (Ok done) old now wire later written after faults more
serves_all reply next number count done old now wire later written after faults more misses more_misses out more_out all h = record {
  ends = h.ends;
  lines = (h.count_is ∙ all, h.lines);
  known = h.known;
  counts = (more, h.rose, refl);
}

-- the serving failed
pub serves_to_fault : {S : Type 0} (reply : Reply S) (next : Next S) (number count : ℕ) (why : ServeFault) (old now new : S)
    (wire mid later : Option ConnectionModel) (written between after : Option (List ℕ))
    (faults more new_faults misses more_misses out more_out : ℕ) → number < count
    → IsServing reply next number old now wire mid written between faults more misses more_misses out more_out
    → ServesNext reply next (number + 1) (Err why) now new mid later between after more new_faults
    → more ≤ new_faults
    → ServesAll reply next count (Err why) old new wire later written after faults new_faults
serves_to_fault reply next number count fault.Network old now new wire mid later written between after faults more new_faults misses more_misses out more_out below h one counts = record {
  ends = h.ends;
  lines = (omega (arith, h.count_is, below), (h.lines.0, one.2 ∙ h.lines.1));
  known = rw (one.0, one.1) h.known;
  counts = (more, h.rose, one.3);
}
serves_to_fault reply next number count fault.Output old now new wire mid later written between after faults more new_faults misses more_misses out more_out below h one counts = record {
  ends = h.ends ++ one.0 ∷ [];
  lines = (
    omega (arith, length-one_more h.ends one.0, h.count_is, below),
    h.ends,
    one.0,
    refl,
    all-append HasLine h.ends one.0 h.lines.0 one.2.0,
    one.2.1,
    one.2.2 ∙ ap (λ (o : Option (List ℕ)). append_known o (take one.2.1 (end_line (number + 1) one.0))) h.lines.1
        ∙ added-added (end_lines 1 h.ends) (take one.2.1 (end_line (number + 1) one.0)) written
        ∙ ap (λ (n : ℕ). append_known written (end_lines 1 h.ends ++ take one.2.1 (end_line n one.0)))
        (sym (length-one_more h.ends one.0 ∙ ap (λ (n : ℕ). n + 1) h.count_is)),
  );
  known = served_known-append reply next h.ends (one.0 ∷ []) old now new wire mid later h.known one.1;
  counts = (new_faults, counts-append h.ends one.0 faults more new_faults h.rose one.3, refl);
}
serves_to_fault reply next number count fault.Memory old now new wire mid later written between after faults more new_faults misses more_misses out more_out below h one counts = record {
  ends = h.ends ++ one.0 ∷ [];
  lines = (
    omega (arith, length-one_more h.ends one.0, h.count_is, below),
    h.ends,
    one.0,
    refl,
    (h.lines.0, one.2 ∙ h.lines.1),
  );
  known = served_known-append reply next h.ends (one.0 ∷ []) old now new wire mid later h.known one.1;
  counts = (new_faults, counts-append h.ends one.0 faults more new_faults h.rose one.3, refl);
}
