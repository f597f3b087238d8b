-- Runs of pieces of work that follow one another.
use Rattle.std.proofs.Common.{arith, ◌≡◌, ◌≤◌, ℕ, List, [], ◌∷◌, ◌++◌, Result, Ok, Err, refl, sym, ap, ◌∙◌, subst, inl, append_assoc, append-nil, take, IsErrOf}
use Rattle.outside.specs.ConnectionModel.{ConnectionModel}
use Rattle.outside.specs.FaultRose.{FaultRose}
use Rattle.link_frames.specs.Scripts.{Event, Puts, Takes, Does, behind, Stops}
use Rattle.link_frames.proofs.ScriptLaws.{behind-behind, done-append, stops-append}
use Rattle.owner_session.specs.declared.stop.SessionStop.{SessionStop}
use Rattle.owner_session.specs.declared.stop.SessionStop.TheVariants as stop
use Rattle.owner_session.specs.Faults.{CountsFaults}
use Rattle.owner_session.specs.Endings.{Ending, StopsWith, IsOfLink}
use Rattle.owner_session.specs.SessionWork.{Judgement, Deed, Appends, Says, SessionWork, Input, ends_with}
use Rattle.owner_session.specs.Runs.{Snapshot, Piece, Reaches, Fails, Halts, Runs, input_of}
use Rattle.owner_session.proofs.StoppingLaws.{on_link-append}
use Rattle.owner_session.proofs.DeedLaws.{judgements-append, leads-append, leads-nothing, wrote-append, added-nil, next-behind}

pub reaches-then : {S B E G : Type 0} (IsJudgement : S → B → List ℕ → Judgement S E → Type 0) (work mid rest : Piece S B E G)
    (a b c : Snapshot S E) → Reaches IsJudgement work mid a b → Reaches IsJudgement mid rest b c → Reaches IsJudgement work rest a c
reaches-then {S} {B} {E} {G} IsJudgement work mid rest a b c f s = record {
  judgements = f.judgements ++ s.judgements;
  events = f.events ++ s.events;
  deeds = f.deeds ++ s.deeds;
  goes_on = λ (more : List (Judgement S E)) (go : G).
      ap (λ (ms : List (Judgement S E)). work (input_of a ms) go) (append_assoc f.judgements s.judgements more)
      ∙ f.goes_on (s.judgements ++ more) go ∙ ap (behind f.events) (s.goes_on more go)
      ∙ behind-behind f.events s.events (rest (input_of c more) go);
  done = done-append f.events s.events f.deeds s.deeds a.wire b.wire c.wire f.done s.done;
  are_judgements = judgements-append IsJudgement f.deeds s.deeds f.are_judgements s.are_judgements;
  leads = leads-append f.deeds s.deeds a b c f.leads s.leads;
  wrote = wrote-append f.deeds s.deeds [] a b c f.wrote s.wrote;
}

halts-behind : {S B E G : Type 0} (IsJudgement : S → B → List ℕ → Judgement S E → Type 0) (Kept : E → Type 0)
    (work mid : Piece S B E G) (a b c : Snapshot S E) (f : Reaches IsJudgement work mid a b) (es : List (Deed S B E))
    (rest : SessionWork S B E) (why : SessionStop) → Halts Kept rest why es b c
    → Halts Kept (behind f.events rest) why (f.deeds ++ es) a c
halts-behind IsJudgement Kept work mid a b c f es rest (stop.Refused report) h = (
  h.0,
  done-append f.events rest.events f.deeds es a.wire b.wire c.wire f.done h.1,
  wrote-append f.deeds es [] a b c f.wrote h.2,
)
halts-behind IsJudgement Kept work mid a b c f es rest stop.LinkFault h = (
  on_link-append f.events rest.events f.deeds es a.wire b.wire c.wire f.done h.0,
  wrote-append f.deeds es [] a b c f.wrote h.1,
)
halts-behind IsJudgement Kept work mid a b c f es rest stop.DiskFault h = (
  stops-append f.events rest.events f.deeds es a.wire b.wire c.wire f.done h.0,
  wrote-append f.deeds es [] a b c f.wrote h.1,
  (
    h.2.0,
    h.2.1,
    next-behind (Appends h.2.0 h.2.1) f.events f.deeds es rest f.done.others_are h.2.2,
    h.2.3,
  ),
)
halts-behind IsJudgement Kept work mid a b c f es rest stop.OutputFault h = (
  stops-append f.events rest.events f.deeds es a.wire b.wire c.wire f.done h.0,
  (
    h.1.0,
    h.1.1,
    next-behind (Says h.1.0) f.events f.deeds es rest f.done.others_are h.1.2,
    wrote-append f.deeds es (take h.1.1 h.1.0) a b c f.wrote h.1.3,
  ),
)
halts-behind IsJudgement Kept work mid a b c f es rest stop.Memory h = (
  stops-append f.events rest.events f.deeds es a.wire b.wire c.wire f.done h.0,
  wrote-append f.deeds es [] a b c f.wrote h.1,
)

pub fails-then : {S B E G : Type 0} (IsJudgement : S → B → List ℕ → Judgement S E → Type 0) (Kept : E → Type 0)
    (work mid : Piece S B E G) (why : SessionStop) (a b c : Snapshot S E) → Reaches IsJudgement work mid a b
    → Fails IsJudgement Kept mid why b c → Fails IsJudgement Kept work why a c
fails-then {S} {B} {E} {G} IsJudgement Kept work mid why a b c f s = record {
  judgements = f.judgements ++ s.judgements;
  deeds = f.deeds ++ s.deeds;
  are_judgements = judgements-append IsJudgement f.deeds s.deeds f.are_judgements s.are_judgements;
  leads = leads-append f.deeds s.deeds a b c f.leads s.leads;
  halts = λ (more : List (Judgement S E)) (go : G).
      let is : work (input_of a ((f.judgements ++ s.judgements) ++ more)) go ≡ behind f.events (mid (input_of b (s.judgements ++ more)) go) =
      ap (λ (ms : List (Judgement S E)). work (input_of a ms) go) (append_assoc f.judgements s.judgements more) ∙ f.goes_on (s.judgements ++ more) go in
      subst (λ (w : SessionWork S B E). Halts Kept w why (f.deeds ++ s.deeds) a c) (sym is)
      (halts-behind IsJudgement Kept work mid a b c f s.deeds (mid (input_of b (s.judgements ++ more)) go) why (s.halts more go));
}

-- a piece was done, and then a call ran in its rest
pub runs-then : {S B E G T : Type 0} (IsJudgement : S → B → List ℕ → Judgement S E → Type 0) (Kept : E → Type 0)
    (work mid : Piece S B E G) (rest : T → Piece S B E G) (result : Result T SessionStop) (a b c : Snapshot S E)
    → Reaches IsJudgement work mid a b → Runs IsJudgement Kept mid rest result b c → Runs IsJudgement Kept work rest result a c
runs-then IsJudgement Kept work mid rest (Ok given) a b c f s = reaches-then IsJudgement work mid (rest given) a b c f s
runs-then IsJudgement Kept work mid rest (Err why) a b c f s = fails-then IsJudgement Kept work mid why a b c f s

-- A piece that stands in a larger one.

pub reaches-in : {S B E G H : Type 0} (IsJudgement : S → B → List ℕ → Judgement S E → Type 0) (work rest : Piece S B E G)
    (in_it : H → G) (a b : Snapshot S E) → Reaches IsJudgement work rest a b
    → Reaches {G = H} IsJudgement (λ input go. work input (in_it go)) (λ input go. rest input (in_it go)) a b
reaches-in IsJudgement work rest in_it a b f = record {
  judgements = f.judgements;
  events = f.events;
  deeds = f.deeds;
  goes_on = λ more go. f.goes_on more (in_it go);
  done = f.done;
  are_judgements = f.are_judgements;
  leads = f.leads;
  wrote = f.wrote;
}

pub fails-in : {S B E G H : Type 0} (IsJudgement : S → B → List ℕ → Judgement S E → Type 0) (Kept : E → Type 0)
    (work : Piece S B E G) (why : SessionStop) (in_it : H → G) (a b : Snapshot S E) → Fails IsJudgement Kept work why a b
    → Fails {G = H} IsJudgement Kept (λ input go. work input (in_it go)) why a b
fails-in IsJudgement Kept work why in_it a b f = record {
  judgements = f.judgements;
  deeds = f.deeds;
  are_judgements = f.are_judgements;
  leads = f.leads;
  halts = λ more go. f.halts more (in_it go);
}

-- the same of work that is so composed
pub reaches-as : {S B E G H : Type 0} (IsJudgement : S → B → List ℕ → Judgement S E → Type 0) (first mid : Piece S B E H)
    (in_it : G → H) (work : Piece S B E G) (a b : Snapshot S E)
    → ((input : Input S E) (go : G) → work input go ≡ first input (in_it go)) → Reaches IsJudgement first mid a b
    → Reaches {G = G} IsJudgement work (λ input go. mid input (in_it go)) a b
reaches-as {S} {B} {E} {G} IsJudgement first mid in_it work a b is f = record {
  judgements = f.judgements;
  events = f.events;
  deeds = f.deeds;
  goes_on = λ (more : List (Judgement S E)) (go : G). is (input_of a (f.judgements ++ more)) go ∙ f.goes_on more (in_it go);
  done = f.done;
  are_judgements = f.are_judgements;
  leads = f.leads;
  wrote = f.wrote;
}

pub fails-as : {S B E G H : Type 0} (IsJudgement : S → B → List ℕ → Judgement S E → Type 0) (Kept : E → Type 0)
    (first : Piece S B E H) (why : SessionStop) (in_it : G → H) (work : Piece S B E G) (a b : Snapshot S E)
    → ((input : Input S E) (go : G) → work input go ≡ first input (in_it go)) → Fails IsJudgement Kept first why a b
    → Fails IsJudgement Kept work why a b
fails-as {S} {B} {E} {G} IsJudgement Kept first why in_it work a b is f = record {
  judgements = f.judgements;
  deeds = f.deeds;
  are_judgements = f.are_judgements;
  leads = f.leads;
  halts = λ (more : List (Judgement S E)) (go : G).
      subst (λ (w : SessionWork S B E). Halts Kept w why f.deeds a b) (sym (is (input_of a (f.judgements ++ more)) go)) (f.halts more (in_it go));
}

-- What is kept with an entry may be weaker.

halts-kept : {S B E : Type 0} (K L : E → Type 0) → ((e : E) → K e → L e) → (work : SessionWork S B E) (why : SessionStop)
    (deeds : List (Deed S B E)) (a b : Snapshot S E) → Halts K work why deeds a b → Halts L work why deeds a b
halts-kept K L weaker work (stop.Refused report) deeds a b h = h
halts-kept K L weaker work stop.LinkFault deeds a b h = h
halts-kept K L weaker work stop.DiskFault deeds a b h =
    (h.0, h.1, (h.2.0, h.2.1, h.2.2, weaker h.2.0 h.2.3))
halts-kept K L weaker work stop.OutputFault deeds a b h = h
halts-kept K L weaker work stop.Memory deeds a b h = h

pub fails-kept : {S B E G : Type 0} (IsJudgement : S → B → List ℕ → Judgement S E → Type 0) (K L : E → Type 0)
    → ((e : E) → K e → L e) → (work : Piece S B E G) (why : SessionStop) (a b : Snapshot S E)
    → Fails IsJudgement K work why a b → Fails IsJudgement L work why a b
fails-kept IsJudgement K L weaker work why a b f = record {
  judgements = f.judgements;
  deeds = f.deeds;
  are_judgements = f.are_judgements;
  leads = f.leads;
  halts = λ more go. halts-kept K L weaker (work (input_of a (f.judgements ++ more)) go) why f.deeds a b (f.halts more go);
}

pub runs-kept : {S B E G T : Type 0} (IsJudgement : S → B → List ℕ → Judgement S E → Type 0) (K L : E → Type 0)
    → ((e : E) → K e → L e) → (work : Piece S B E G) (rest : T → Piece S B E G) (result : Result T SessionStop)
    (a b : Snapshot S E) → Runs IsJudgement K work rest result a b → Runs IsJudgement L work rest result a b
runs-kept IsJudgement K L weaker work rest (Ok given) a b r = r
runs-kept IsJudgement K L weaker work rest (Err why) a b r = fails-kept IsJudgement K L weaker work why a b r

-- Nothing is done.

pub reaches-here : {S B E G : Type 0} (IsJudgement : S → B → List ℕ → Judgement S E → Type 0) (work rest : Piece S B E G)
    (a : Snapshot S E) → ((input : Input S E) (go : G) → work input go ≡ rest input go) → Reaches IsJudgement work rest a a
reaches-here {S} {B} {E} {G} IsJudgement work rest a same = record {
  judgements = [];
  events = [];
  deeds = [];
  goes_on = λ (more : List (Judgement S E)) (go : G). same (input_of a more) go;
  done = record { others_are = refl; wire_is = refl };
  are_judgements = tt;
  leads = leads-nothing a;
  wrote = added-nil a.written;
}

-- it ends there
ends-with : {S E : Type 0} (B : Type 0) (Kept : E → Type 0) (ending : Ending) (why : SessionStop) (a : Snapshot S E)
    → StopsWith ending why → Halts {B = B} Kept (ends_with ending) why [] a a
ends-with B Kept ending (stop.Refused report) a h =
    ((ending, refl, h), record { others_are = refl; wire_is = refl }, added-nil a.written)
ends-with B Kept ending stop.LinkFault a h = absurd h
ends-with B Kept ending stop.DiskFault a h = absurd h
ends-with B Kept ending stop.OutputFault a h = absurd h
ends-with B Kept ending stop.Memory a h = ((refl, refl), added-nil a.written)

pub ends-here : {S B E G : Type 0} (IsJudgement : S → B → List ℕ → Judgement S E → Type 0) (Kept : E → Type 0)
    (work : Piece S B E G) (ending : Ending) (why : SessionStop) (a : Snapshot S E)
    → ((input : Input S E) (go : G) → work input go ≡ ends_with ending) → StopsWith ending why
    → Fails IsJudgement Kept work why a a
ends-here {S} {B} {E} {G} IsJudgement Kept work ending why a is h = record {
  judgements = [];
  deeds = [];
  are_judgements = tt;
  leads = leads-nothing a;
  halts = λ (more : List (Judgement S E)) (go : G).
      subst (λ (w : SessionWork S B E). Halts Kept w why [] a a) (sym (is (input_of a more) go)) (ends-with B Kept ending why a h);
}

-- memory ran out before anything was done
stops-at-once : {X : Type 0} (events : List (Event X)) (wire : ConnectionModel) → Stops events [] wire wire
stops-at-once [] wire = (refl, refl)
stops-at-once (Puts frame ∷ events) wire =
    inl (refl, (0, ap (λ (bytes : List ℕ). record wire { sent = bytes }) (sym (append-nil wire.sent))))
stops-at-once (Takes count ∷ events) wire = inl (refl, (0, omega arith, refl))
stops-at-once (Does deed ∷ events) wire = inl (refl, refl)

pub wants-here : {S B E G : Type 0} (IsJudgement : S → B → List ℕ → Judgement S E → Type 0) (Kept : E → Type 0)
    (work : Piece S B E G) (a : Snapshot S E) → Fails IsJudgement Kept work stop.Memory a a
wants-here {S} {B} {E} {G} IsJudgement Kept work a = record {
  judgements = [];
  deeds = [];
  are_judgements = tt;
  leads = leads-nothing a;
  halts = λ (more : List (Judgement S E)) (go : G).
      (stops-at-once (work (input_of a more) go).events a.wire, added-nil a.written);
}

-- A stop that is no fault of the disk or of the output.

pub no_disk_fault : {T : Type 0} (why : SessionStop) (P : Type 0) → IsOfLink why → IsErrOf {T = T} (Err why) stop.DiskFault → P
no_disk_fault (stop.Refused report) P h is = absurd (cc is)
no_disk_fault stop.LinkFault P h is = absurd (cc is)
no_disk_fault stop.DiskFault P h is = absurd h
no_disk_fault stop.OutputFault P h is = absurd h
no_disk_fault stop.Memory P h is = absurd (cc is)

no_output_fault : {T : Type 0} (why : SessionStop) (P : Type 0) → IsOfLink why → IsErrOf {T = T} (Err why) stop.OutputFault → P
no_output_fault (stop.Refused report) P h is = absurd (cc is)
no_output_fault stop.LinkFault P h is = absurd (cc is)
no_output_fault stop.DiskFault P h is = absurd h
no_output_fault stop.OutputFault P h is = absurd h
no_output_fault stop.Memory P h is = absurd (cc is)

-- what stopped so on the link alone counts no faults but the link's
pub link_faults : {T U : Type 0} (why : SessionStop) (before after disk out : ℕ) → before ≤ after
    → (IsErrOf {T = T} (Err why) stop.LinkFault → FaultRose before after)
    → ((IsErrOf {T = T} (Err why) stop.LinkFault → ⊥) → after ≡ before) → IsOfLink why
    → CountsFaults {T = U} (Err why) (record { link = before; disk = disk; out = out })
    (record { link = after; disk = disk; out = out })
link_faults why before after disk out counts cause quiet inside = record {
  link_counts = counts;
  link_cause = λ is.
      let same : why ≡ stop.LinkFault = cc is in
      cause (ap (λ (stop : SessionStop). Err stop) same);
  link_quiet = λ fine. quiet (λ is.
      let same : why ≡ stop.LinkFault = cc is in
      fine (ap (λ (stop : SessionStop). Err stop) same));
  disk_counts = omega arith;
  disk_cause = no_disk_fault why (FaultRose disk disk) inside;
  disk_quiet = λ fine. refl;
  out_counts = omega arith;
  out_cause = no_output_fault why (FaultRose out out) inside;
  out_quiet = λ fine. refl;
}
