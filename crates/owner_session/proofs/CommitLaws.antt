-- Runs of calls that commit batches.
use Rattle.std.proofs.Common.{◌≡◌, ℕ, ◌+◌, ◌-◌, ◌<◌, ◌≤◌, List, [], ◌∷◌, ◌++◌, length, drop, slice_get, get_or, Option, Some, Result, Ok, Err, refl, sym, ap, ◌∙◌, subst, inl, inr, append-nil, arith, length-append}
use Rattle.std.proofs.lemmas.List.{drop_all, drop_more}
use Rattle.std.specs.Global.{Vec}
use Rattle.outside.specs.ConnectionModel.{ConnectionModel}
use Rattle.outside.specs.Sink.{append_known}
use Rattle.link_frames.specs.Reading.{StaysWhereItStands}
use Rattle.link_frames.specs.Scripts.{Does, behind, others}
use Rattle.link_frames.proofs.ScriptLaws.{stands-after}
use Rattle.link_frames.proofs.Filling.{stays_on}
use Rattle.owner_session.specs.declared.refusals.RefusalCause.{RefusalCause}
use Rattle.owner_session.specs.declared.refusals.NoStep.{NoStep}
use Rattle.owner_session.specs.declared.refusals.NoStep.TheVariants as no_step
use Rattle.owner_session.specs.declared.refusals.Refusal.{Refusal}
use Rattle.owner_session.specs.declared.stop.SessionReport.{SessionReport}
use Rattle.owner_session.specs.declared.stop.SessionStop.{SessionStop}
use Rattle.owner_session.specs.declared.stop.SessionStop.TheVariants as stop
use Rattle.owner_session.specs.Endings.{OwnerRefuses, Reports, StopsWith, version_line}
use Rattle.owner_session.specs.SessionWork.{Forms, Judgement, Makes, Refuses, StepsTo, Steps, Appends, Says, SessionWork, Input, installation, proposal, publication, commit, step, batch_commit, commits, catch_up, session_on}
use Rattle.owner_session.specs.Runs.{Snapshot, Piece, Reaches, Fails, Runs, RunsOnWire, RunsTo, TakesStep, PutsLine, snapshot_of, input_of, continuation, continuation_with}
use Rattle.owner_session.proofs.DeedLaws.{added-nil}
use Rattle.owner_session.proofs.RunLaws.{reaches-then, reaches-in, reaches-here, reaches-as, fails-then, fails-in, fails-as, fails-kept, runs-then, runs-kept, wants-here}
use Rattle.owner_session.proofs.WireLaws.{on_wire}

-- a call did something to the connection, and then another ran
pub to-then : {S B E G H T U : Type 0} (IsJudgement : S → B → List ℕ → Judgement S E → Type 0) (K : E → Type 0) (first : Piece S B E H)
    (given : U → Piece S B E H) (in_it : G → H) (work : Piece S B E G) (rest : T → Piece S B E G) (x : U)
    (result : Result T SessionStop) (before : Snapshot S E) (mid wire : Option ConnectionModel) (written : Option (List ℕ)) (state : S)
    (entries : List E)
    → ((input : Input S E) (go : G) → work input go ≡ first input (in_it go))
    → RunsOnWire IsJudgement first given (Ok x) before mid
    → ((now : ConnectionModel) → mid ≡ Some now
    → RunsTo IsJudgement K (λ (input : Input S E) (go : G). given x input (in_it go)) rest result (on_wire now before) wire written state entries)
    → RunsTo IsJudgement K work rest result before wire written state entries
to-then {S} {B} {E} {G} IsJudgement K first given in_it work rest x result before mid wire written state entries is f s =
    let after = s f.0 f.1 in (
      after.0,
      after.1,
      runs-then IsJudgement K work (λ (input : Input S E) (go : G). given x input (in_it go)) rest result before (on_wire f.0 before)
          (snapshot_of after.0 written state entries)
          (reaches-as IsJudgement first (given x) in_it work before (on_wire f.0 before) is f.2) after.2,
    )

-- a call stopped that does something to the connection alone
pub to-fails : {S B E G H T U : Type 0} (IsJudgement : S → B → List ℕ → Judgement S E → Type 0) (K : E → Type 0) (first : Piece S B E H)
    (given : U → Piece S B E H) (in_it : G → H) (work : Piece S B E G) (rest : T → Piece S B E G) (why : SessionStop)
    (before : Snapshot S E) (wire : Option ConnectionModel)
    → ((input : Input S E) (go : G) → work input go ≡ first input (in_it go))
    → RunsOnWire IsJudgement first given (Err why) before wire
    → RunsTo IsJudgement K work rest (Err why) before wire before.written before.state before.entries
to-fails {S} {B} {E} {G} IsJudgement K first given in_it work rest why before wire is f = (
  f.0,
  f.1,
  fails-kept IsJudgement (λ entry. ⊥) K (λ entry h. absurd h) work why before (on_wire f.0 before)
      (fails-as IsJudgement (λ entry. ⊥) first why in_it work before (on_wire f.0 before) is f.2),
)

-- Publishing.

-- a line that is said before the rest
abbrev pub says_first : {S B E : Type 0} → List ℕ → Piece S B E (Input S E → SessionWork S B E)
says_first line input go = behind (Does (Says line) ∷ []) (go input)

said : {S B E : Type 0} (IsJudgement : S → B → List ℕ → Judgement S E → Type 0) (line : List ℕ) (result : Result (Unit {0}) SessionStop)
    (wire : ConnectionModel) (written later : Option (List ℕ)) (state : S) (entries : List E)
    → PutsLine line result written later
    → Runs IsJudgement (λ entry. ⊥) (says_first line) (λ done. continuation) result (snapshot_of wire written state entries) (snapshot_of wire later state entries)
said {S} {B} {E} IsJudgement line (Ok done) wire written later state entries h = record {
  judgements = [];
  events = Does (Says line) ∷ [];
  deeds = Says line ∷ [];
  goes_on = λ more go. refl;
  done = record { others_are = refl; wire_is = refl };
  are_judgements = tt;
  leads = record { state = refl; entries = sym (append-nil entries) };
  wrote = h ∙ ap (append_known written) (sym (append-nil (line ++ []) ∙ append-nil line));
}
said {S} {B} {E} IsJudgement line (Err stop.OutputFault) wire written later state entries h = record {
  judgements = [];
  deeds = [];
  are_judgements = tt;
  leads = record { state = refl; entries = sym (append-nil entries) };
  halts = λ (more : List (Judgement S E)) (go : Input S E → SessionWork S B E).
      (inl (refl, refl), (line, h.0, (others (go (input_of (snapshot_of wire written state entries) more)).events, refl), h.1));
}
said {S} {B} {E} IsJudgement line (Err stop.Memory) wire written later state entries h = record {
  judgements = [];
  deeds = [];
  are_judgements = tt;
  leads = record { state = refl; entries = sym (append-nil entries) };
  halts = λ (more : List (Judgement S E)) (go : Input S E → SessionWork S B E). (inl (refl, refl), h ∙ added-nil written);
}
said IsJudgement line (Err (stop.Refused report)) wire written later state entries h = absurd h
said IsJudgement line (Err stop.LinkFault) wire written later state entries h = absurd h
said IsJudgement line (Err stop.DiskFault) wire written later state entries h = absurd h

publication-is : {S B E : Type 0} (forms : Forms B E) (entry : E) (input : Input S E) (go : Input S E → SessionWork S B E)
    → publication forms entry input go ≡ installation forms entry input
    (λ (rest : Input S E). behind (Does (Says (version_line (forms.version entry))) ∷ []) (go rest))
unfolding publication
publication-is forms entry input go = refl

pub published : {S B E : Type 0} (IsJudgement : S → B → List ℕ → Judgement S E → Type 0) (forms : Forms B E) (entry : E) (version : ℕ)
    (done : Unit {0}) (result : Result (Unit {0}) SessionStop) (before : ConnectionModel) (mid : Option ConnectionModel)
    (written later : Option (List ℕ)) (state : S) (entries : List E) → version ≡ forms.version entry
    → RunsOnWire IsJudgement (installation forms entry) (λ (done : Unit {0}). continuation) (Ok done) (snapshot_of before written state entries) mid
    → PutsLine (version_line version) result written later
    → RunsTo IsJudgement (λ entry. ⊥) (publication forms entry) (λ (done : Unit {0}). continuation) result (snapshot_of before written state entries) mid later state entries
published {S} {B} {E} IsJudgement forms entry version done result before mid written later state entries is f h =
    let line_is : PutsLine (version_line (forms.version entry)) result written later =
    subst (λ (v : ℕ). PutsLine (version_line v) result written later) is h in
    to-then {H = Input S E → SessionWork S B E} IsJudgement (λ entry. ⊥) (installation forms entry) (λ (done : Unit {0}). continuation)
    (λ (go : Input S E → SessionWork S B E) (rest : Input S E). behind (Does (Says (version_line (forms.version entry))) ∷ []) (go rest))
    (publication forms entry) (λ (done : Unit {0}). continuation) done result (snapshot_of before written state entries) mid mid later state entries
    (publication-is forms entry) f
    (λ now there. (now, there, said IsJudgement (version_line (forms.version entry)) result now written later state entries line_is))

pub not_published : {S B E : Type 0} (IsJudgement : S → B → List ℕ → Judgement S E → Type 0) (forms : Forms B E) (entry : E) (why : SessionStop)
    (before : ConnectionModel) (wire : Option ConnectionModel) (written : Option (List ℕ)) (state : S) (entries : List E)
    → RunsOnWire IsJudgement (installation forms entry) (λ (done : Unit {0}). continuation) (Err why) (snapshot_of before written state entries) wire
    → RunsTo {T = Unit {0}} IsJudgement (λ entry. ⊥) (publication forms entry) (λ done. continuation) (Err why) (snapshot_of before written state entries) wire written state entries
not_published {S} {B} {E} IsJudgement forms entry why before wire written state entries f =
    to-fails {H = Input S E → SessionWork S B E} {T = Unit {0}} IsJudgement (λ entry. ⊥) (installation forms entry) (λ (done : Unit {0}). continuation)
    (λ (go : Input S E → SessionWork S B E) (rest : Input S E). behind (Does (Says (version_line (forms.version entry))) ∷ []) (go rest))
    (publication forms entry) (λ (done : Unit {0}). continuation) why (snapshot_of before written state entries) wire (publication-is forms entry) f

-- Appending.

pub last_at : {E : Type 0} (entries : List E) (entry : E)
    → slice_get (entries ++ entry ∷ []) (length (entries ++ entry ∷ []) - 1) ≡ Some entry
last_at {E} entries entry =
    let last : length (entries ++ entry ∷ []) - 1 ≡ length entries = omega (arith, length-append entries (entry ∷ [])) in
    ap (λ (k : ℕ). slice_get (entries ++ entry ∷ []) k) last ∙ behind_all entries
  where
    behind_all : (es : List E) → slice_get (es ++ entry ∷ []) (length es) ≡ Some entry
    behind_all [] = refl
    behind_all (e ∷ es) = behind_all es

-- a rest that is handed something known
runs-given : {S B E X : Type 0} (IsJudgement : S → B → List ℕ → Judgement S E → Type 0) (K : E → Type 0)
    (work : Piece S B E (Input S E → SessionWork S B E)) (x : X) (result : Result (Unit {0}) SessionStop) (a b : Snapshot S E)
    → Runs IsJudgement K work (λ (done : Unit {0}). continuation) result a b
    → Runs {G = X → Input S E → SessionWork S B E} {T = Unit {0}} IsJudgement K (λ input go. work input (go x)) (λ done. continuation_with x) result a b
runs-given {S} {B} {E} {X} IsJudgement K work x (Ok done) a b r =
    reaches-in {H = X → Input S E → SessionWork S B E} IsJudgement work continuation (λ (go : X → Input S E → SessionWork S B E). go x) a b r
runs-given {S} {B} {E} {X} IsJudgement K work x (Err why) a b r =
    fails-in {H = X → Input S E → SessionWork S B E} IsJudgement K work why (λ (go : X → Input S E → SessionWork S B E). go x) a b r

appended : {S B E : Type 0} (IsJudgement : S → B → List ℕ → Judgement S E → Type 0) (forms : Forms B E) (entry : E) (next : S)
    (wire : ConnectionModel) (written : Option (List ℕ)) (state new : S) (entries more : List E) → new ≡ next
    → more ≡ entries ++ entry ∷ []
    → Reaches IsJudgement (commit forms entry next) (λ (input : Input S E) (go : S → Input S E → SessionWork S B E). publication forms entry input (go next))
    (snapshot_of wire written state entries) (snapshot_of wire written new more)
unfolding commit
appended IsJudgement forms entry next wire written state new entries more is are = record {
  judgements = [];
  events = Does (Appends entry next) ∷ [];
  deeds = Appends entry next ∷ [];
  goes_on = λ ms go. refl;
  done = record { others_are = refl; wire_is = refl };
  are_judgements = tt;
  leads = record { state = is; entries = are };
  wrote = added-nil written;
}

pub committed : {S B E : Type 0} (IsJudgement : S → B → List ℕ → Judgement S E → Type 0) (K : E → Type 0) (forms : Forms B E)
    (entry : E) (next : S) (result : Result (Unit {0}) SessionStop) (before : ConnectionModel) (wire : Option ConnectionModel)
    (written later : Option (List ℕ)) (state new : S) (entries more : List E) → new ≡ next
    → more ≡ entries ++ entry ∷ []
    → RunsTo IsJudgement (λ entry. ⊥) (publication forms entry) (λ (done : Unit {0}). continuation) result (snapshot_of before written new more) wire later new more
    → RunsTo IsJudgement K (commit forms entry next) (λ (done : Unit {0}). continuation_with new) result (snapshot_of before written state entries) wire later new more
committed {S} {B} {E} IsJudgement K forms entry next result before wire written later state new entries more is are p =
    let after : Snapshot S E = snapshot_of p.0 later new more in
    let goes : Piece S B E (S → Input S E → SessionWork S B E) = λ input go. publication forms entry input (go next) in
    let kept : Runs IsJudgement K (publication forms entry) (λ (done : Unit {0}). continuation) result (snapshot_of before written new more) after =
    runs-kept IsJudgement (λ entry. ⊥) K (λ entry h. absurd h) (publication forms entry) (λ (done : Unit {0}). continuation) result (snapshot_of before written new more) after p.2 in
    let given : Runs {T = Unit {0}} IsJudgement K goes (λ done. continuation_with next) result (snapshot_of before written new more) after =
    runs-given IsJudgement K (publication forms entry) next result (snapshot_of before written new more) after kept in
    let handed : Runs {T = Unit {0}} IsJudgement K goes (λ done. continuation_with new) result (snapshot_of before written new more) after =
    subst (λ (s : S). Runs {T = Unit {0}} IsJudgement K goes (λ done. continuation_with s) result (snapshot_of before written new more) after) (sym is) given in (
      p.0,
      p.1,
      runs-then IsJudgement K (commit forms entry next) goes (λ (done : Unit {0}). continuation_with new) result (snapshot_of before written state entries)
          (snapshot_of before written new more) after (appended IsJudgement forms entry next before written state new entries more is are) handed,
    )

-- the disk failed in the append
pub not_appended : {S B E : Type 0} (IsJudgement : S → B → List ℕ → Judgement S E → Type 0) (K : E → Type 0) (forms : Forms B E)
    (entry : E) (next : S) (before : ConnectionModel) (wire : Option ConnectionModel) (written : Option (List ℕ))
    (state new : S) (entries more : List E) → new ≡ state → more ≡ entries → K entry → wire ≡ Some before
    → RunsTo {T = Unit {0}} IsJudgement K (commit forms entry next) (λ done. continuation_with new) (Err stop.DiskFault)
    (snapshot_of before written state entries) wire written new more
unfolding commit
not_appended {S} {B} {E} IsJudgement K forms entry next before wire written state new entries more is are kept there = (
  before,
  there,
  record {
    judgements = [];
    deeds = [];
    are_judgements = tt;
    leads = record { state = is; entries = are ∙ sym (append-nil entries) };
    halts = λ (ms : List (Judgement S E)) (go : S → Input S E → SessionWork S B E). (
      inl (refl, refl),
      added-nil written,
      (entry, next, (others (publication forms entry (input_of (snapshot_of before written state entries) ms) (go next)).events, refl), kept),
    );
  },
)

-- memory ran out
pub not_committed : {S B E : Type 0} (IsJudgement : S → B → List ℕ → Judgement S E → Type 0) (K : E → Type 0) (forms : Forms B E)
    (entry : E) (next : S) (before : ConnectionModel) (wire : Option ConnectionModel) (written : Option (List ℕ))
    (state new : S) (entries more : List E) → new ≡ state → more ≡ entries → wire ≡ Some before
    → RunsTo {T = Unit {0}} IsJudgement K (commit forms entry next) (λ done. continuation_with new) (Err stop.Memory)
    (snapshot_of before written state entries) wire written new more
unfolding commit
not_committed {S} {B} {E} IsJudgement K forms entry next before wire written state new entries more is are there = (
  before,
  there,
  record {
    judgements = [];
    deeds = [];
    are_judgements = tt;
    leads = record { state = is; entries = are ∙ sym (append-nil entries) };
    halts = λ (ms : List (Judgement S E)) (go : S → Input S E → SessionWork S B E). (inl (refl, refl), added-nil written);
  },
)

-- Steps.

stepped : {S B E : Type 0} (IsJudgement : S → B → List ℕ → Judgement S E → Type 0) (forms : Forms B E) (state : S) (batch : B)
    (proofs : List ℕ) (entry : E) (next : S) (a : Snapshot S E) → IsJudgement state batch proofs (Makes entry next)
    → Reaches IsJudgement (step forms state batch proofs) (commit forms entry next) a a
unfolding step
stepped IsJudgement forms state batch proofs entry next a h = record {
  judgements = Makes entry next ∷ [];
  events = Does (Steps state batch proofs (Makes entry next)) ∷ [];
  deeds = Steps state batch proofs (Makes entry next) ∷ [];
  goes_on = λ more go. refl;
  done = record { others_are = refl; wire_is = refl };
  are_judgements = (h, tt);
  leads = record { state = refl; entries = sym (append-nil a.entries) };
  wrote = added-nil a.written;
}

pub step_committed : {S B E T : Type 0} (IsJudgement : S → B → List ℕ → Judgement S E → Type 0) (K : E → Type 0) (forms : Forms B E)
    (state : S) (batch : B) (proofs : List ℕ) (entry : E) (next : S) (rest : T → Piece S B E (S → Input S E → SessionWork S B E))
    (result : Result T SessionStop) (before : Snapshot S E) (wire : Option ConnectionModel) (written : Option (List ℕ)) (new : S)
    (entries : List E) → IsJudgement state batch proofs (Makes entry next)
    → RunsTo IsJudgement K (commit forms entry next) rest result before wire written new entries
    → RunsTo IsJudgement K (step forms state batch proofs) rest result before wire written new entries
step_committed IsJudgement K forms state batch proofs entry next rest result before wire written new entries h r = (
  r.0,
  r.1,
  runs-then IsJudgement K (step forms state batch proofs) (commit forms entry next) rest result before before
      (snapshot_of r.0 written new entries) (stepped IsJudgement forms state batch proofs entry next before h) r.2,
)

-- nothing is done where memory runs out
step_wants : {S B E : Type 0} (IsJudgement : S → B → List ℕ → Judgement S E → Type 0) (K : E → Type 0) (forms : Forms B E) (state : S)
    (batch : B) (proofs : List ℕ) (a : Snapshot S E) → Fails IsJudgement K (step forms state batch proofs) stop.Memory a a
step_wants IsJudgement K forms state batch proofs a = wants-here IsJudgement K (step forms state batch proofs) a

step_refused : {S B E : Type 0} (IsJudgement : S → B → List ℕ → Judgement S E → Type 0) (K : E → Type 0) (forms : Forms B E) (state : S)
    (batch : B) (proofs : List ℕ) (cause : RefusalCause) (lines : List ℕ) (report : SessionReport) (a : Snapshot S E)
    → IsJudgement state batch proofs (Refuses cause lines) → Reports report (OwnerRefuses cause lines)
    → Fails IsJudgement K (step forms state batch proofs) (stop.Refused report) a a
unfolding step
step_refused IsJudgement K forms state batch proofs cause lines report a h k = record {
  judgements = Refuses cause lines ∷ [];
  deeds = Steps state batch proofs (Refuses cause lines) ∷ [];
  are_judgements = (h, tt);
  leads = record { state = refl; entries = sym (append-nil a.entries) };
  halts = λ more go. ((OwnerRefuses cause lines, refl, k), record { others_are = refl; wire_is = refl }, added-nil a.written);
}

pub not_stepped : {S B E T U : Type 0} (IsJudgement : S → B → List ℕ → Judgement S E → Type 0) (K : E → Type 0) (forms : Forms B E)
    (state : S) (batch : B) (proofs : List ℕ) (entry_of : U → E) (next_of : U → S) (rest : T → Piece S B E (S → Input S E → SessionWork S B E))
    (why : SessionStop) (before : Snapshot S E) (wire : Option ConnectionModel) → wire ≡ Some before.wire
    → TakesStep (IsJudgement state batch proofs) entry_of next_of (Err why)
    → RunsTo IsJudgement K (step forms state batch proofs) rest (Err why) before wire before.written before.state before.entries
not_stepped IsJudgement K forms state batch proofs entry_of next_of rest why before wire there (inl is) = (
  before.wire,
  there,
  subst (λ (w : SessionStop). Fails IsJudgement K (step forms state batch proofs) w before before) (sym is)
      (step_wants IsJudgement K forms state batch proofs before),
)
not_stepped IsJudgement K forms state batch proofs entry_of next_of rest why before wire there (inr h) = (
  before.wire,
  there,
  subst (λ (w : SessionStop). Fails IsJudgement K (step forms state batch proofs) w before before) (sym h.4)
      (step_refused IsJudgement K forms state batch proofs h.0 h.1 h.3 before h.2 h.5),
)

-- Batches.

batch_commit-is : {S B E : Type 0} (forms : Forms B E) (state : S) (batch : B) (input : Input S E) (go : S → Input S E → SessionWork S B E)
    → batch_commit forms state batch input go ≡ proposal forms batch input
    (λ (proofs : List ℕ) (rest : Input S E). step forms state batch proofs rest go)
unfolding batch_commit
batch_commit-is forms state batch input go = refl

pub batch_committed : {S B E T : Type 0} (IsJudgement : S → B → List ℕ → Judgement S E → Type 0) (K : E → Type 0) (forms : Forms B E)
    (batch : B) (proofs : Vec ℕ) (bytes : List ℕ) (rest : T → Piece S B E (S → Input S E → SessionWork S B E)) (result : Result T SessionStop)
    (before : Snapshot S E) (mid wire : Option ConnectionModel) (written : Option (List ℕ)) (new : S) (entries : List E)
    → bytes ≡ proofs.items
    → RunsOnWire IsJudgement (proposal forms batch) (λ (given : Vec ℕ). continuation_with given.items) (Ok proofs) before mid
    → ((now : ConnectionModel) → mid ≡ Some now
    → RunsTo IsJudgement K (step forms before.state batch bytes) rest result (on_wire now before) wire written new entries)
    → RunsTo IsJudgement K (batch_commit forms before.state batch) rest result before wire written new entries
batch_committed {S} {B} {E} IsJudgement K forms batch proofs bytes rest result before mid wire written new entries same f s =
    to-then {H = List ℕ → Input S E → SessionWork S B E} IsJudgement K (proposal forms batch) (λ (given : Vec ℕ). continuation_with given.items)
    (λ (go : S → Input S E → SessionWork S B E) (proofs : List ℕ) (rest : Input S E). step forms before.state batch proofs rest go)
    (batch_commit forms before.state batch) rest proofs result before mid wire written new entries (batch_commit-is forms before.state batch) f
    (λ now there. subst (λ (b : List ℕ). RunsTo IsJudgement K (step forms before.state batch b) rest result (on_wire now before) wire written new entries) same (s now there))

pub batch_not_proposed : {S B E T : Type 0} (IsJudgement : S → B → List ℕ → Judgement S E → Type 0) (K : E → Type 0) (forms : Forms B E)
    (batch : B) (rest : T → Piece S B E (S → Input S E → SessionWork S B E)) (why : SessionStop) (before : Snapshot S E) (wire : Option ConnectionModel)
    → RunsOnWire IsJudgement (proposal forms batch) (λ (given : Vec ℕ). continuation_with given.items) (Err why) before wire
    → RunsTo IsJudgement K (batch_commit forms before.state batch) rest (Err why) before wire before.written before.state before.entries
batch_not_proposed {S} {B} {E} IsJudgement K forms batch rest why before wire f =
    to-fails {H = List ℕ → Input S E → SessionWork S B E} IsJudgement K (proposal forms batch) (λ (given : Vec ℕ). continuation_with given.items)
    (λ (go : S → Input S E → SessionWork S B E) (proofs : List ℕ) (rest : Input S E). step forms before.state batch proofs rest go)
    (batch_commit forms before.state batch) rest why before wire (batch_commit-is forms before.state batch) f

-- a step that the owner refused
pub step_refusal : {S E U : Type 0} (IsJudgement : Judgement S E → Type 0) (entry_of : U → E) (next_of : U → S) (fault : NoStep)
    (refusal : Refusal) (why : SessionStop) → fault ≡ no_step.Refused refusal → StepsTo IsJudgement entry_of next_of (Err fault)
    → StopsWith (OwnerRefuses refusal.cause refusal.lines.items) why → TakesStep IsJudgement entry_of next_of (Err why)
step_refusal IsJudgement entry_of next_of fault refusal why is h k =
    refused_by IsJudgement entry_of next_of refusal.cause refusal.lines.items why
    (subst (λ (f : NoStep). StepsTo IsJudgement entry_of next_of (Err f)) is h) k
  where
    refused_by : {S E U : Type 0} (IsJudgement : Judgement S E → Type 0) (entry_of : U → E) (next_of : U → S) (cause : RefusalCause)
        (lines : List ℕ) (why : SessionStop) → IsJudgement (Refuses cause lines) → StopsWith (OwnerRefuses cause lines) why
        → TakesStep IsJudgement entry_of next_of (Err why)
    refused_by IsJudgement entry_of next_of cause lines (stop.Refused report) h k = inr (cause, lines, h, report, refl, k)
    refused_by IsJudgement entry_of next_of cause lines stop.LinkFault h k = absurd k
    refused_by IsJudgement entry_of next_of cause lines stop.DiskFault h k = absurd k
    refused_by IsJudgement entry_of next_of cause lines stop.OutputFault h k = absurd k
    refused_by IsJudgement entry_of next_of cause lines stop.Memory h k = inl refl

-- The loop.

-- some of the batches were committed, up to this one
abbrev pub CommittedTo : {S B E : Type 0} → (S → B → List ℕ → Judgement S E → Type 0) → Forms B E → List B → ℕ
    → Option ConnectionModel → Option ConnectionModel → Option (List ℕ) → Option (List ℕ) → S → S → List E → List E → Type 0
CommittedTo IsJudgement forms batches i wire now written later state new entries more =
    (before : ConnectionModel) → wire ≡ Some before → (mid : ConnectionModel) × (now ≡ Some mid)
    × Reaches IsJudgement (commits forms state batches) (commits forms new (drop i batches))
    (snapshot_of before written state entries) (snapshot_of mid later new more)

pub committed_none : {S B E : Type 0} (IsJudgement : S → B → List ℕ → Judgement S E → Type 0) (forms : Forms B E) (batches : List B)
    (wire : Option ConnectionModel) (written : Option (List ℕ)) (state : S) (entries : List E)
    → CommittedTo IsJudgement forms batches 0 wire wire written written state state entries entries
committed_none IsJudgement forms batches wire written state entries before is = (
  before,
  is,
  reaches-here IsJudgement (commits forms state batches) (commits forms state batches) (snapshot_of before written state entries) (λ input go. refl),
)

commits-is : {S B E : Type 0} (forms : Forms B E) (state : S) (batch : B) (batches : List B) (input : Input S E)
    (go : Input S E → SessionWork S B E) → commits forms state (batch ∷ batches) input go
    ≡ batch_commit forms state batch input (λ (next : S) (rest : Input S E). commits forms next batches rest go)
unfolding commits
commits-is forms state batch batches input go = refl

commits-next : {S B E : Type 0} (forms : Forms B E) (state : S) (batches : List B) (i : ℕ) (batch : B) (input : Input S E)
    (go : Input S E → SessionWork S B E) → i < length batches → batch ≡ get_or batches i batch
    → commits forms state (drop i batches) input go
    ≡ batch_commit forms state batch input (λ (next : S) (rest : Input S E). commits forms next (drop (i + 1) batches) rest go)
commits-next {S} {B} {E} forms state batches i batch input go within is =
    let first : drop i batches ≡ batch ∷ drop (i + 1) batches =
    drop_more batches i batch within ∙ ap (λ (b : B). b ∷ drop (i + 1) batches) (sym is) in
    ap (λ (bs : List B). commits forms state bs input go) first ∙ commits-is forms state batch (drop (i + 1) batches) input go

-- what a call says that commits a batch
abbrev pub Commits : {S B E : Type 0} → (S → B → List ℕ → Judgement S E → Type 0) → (E → Type 0) → Forms B E → B
    → Result (Unit {0}) SessionStop → Option ConnectionModel → Option ConnectionModel → Option (List ℕ) → Option (List ℕ)
    → S → S → List E → List E → Type 0
Commits IsJudgement K forms batch result wire now written later state new entries more =
    (before : ConnectionModel) → wire ≡ Some before
    → RunsTo {T = Unit {0}} IsJudgement K (batch_commit forms state batch) (λ done. continuation_with new) result
    (snapshot_of before written state entries) now later new more

pub committed_more : {S B E : Type 0} (IsJudgement : S → B → List ℕ → Judgement S E → Type 0) (K : E → Type 0) (forms : Forms B E)
    (batches : List B) (i : ℕ) (batch : B) (done : Unit {0}) (wire now end : Option ConnectionModel)
    (written later last : Option (List ℕ)) (state new newer : S) (entries more most : List E) → i < length batches
    → batch ≡ get_or batches i batch
    → CommittedTo IsJudgement forms batches i wire now written later state new entries more
    → Commits IsJudgement K forms batch (Ok done) now end later last new newer more most
    → CommittedTo IsJudgement forms batches (i + 1) wire end written last state newer entries most
committed_more {S} {B} {E} IsJudgement K forms batches i batch done wire now end written later last state new newer entries more most within is h one before start =
    let so_far = h before start in
    let r = one so_far.0 so_far.1 in
    let a : Snapshot S E = snapshot_of before written state entries in
    let b : Snapshot S E = snapshot_of so_far.0 later new more in
    let c : Snapshot S E = snapshot_of r.0 last newer most in (
      r.0,
      r.1,
      reaches-then IsJudgement (commits forms state batches) (commits forms new (drop i batches)) (commits forms newer (drop (i + 1) batches)) a b c so_far.2
          (reaches-as {H = S → Input S E → SessionWork S B E} IsJudgement (batch_commit forms new batch) (continuation_with newer)
          (λ (go : Input S E → SessionWork S B E) (next : S) (rest : Input S E). commits forms next (drop (i + 1) batches) rest go)
          (commits forms new (drop i batches)) b c (λ input go. commits-next forms new batches i batch input go within is) r.2),
    )

pub commit_stops : {S B E : Type 0} (IsJudgement : S → B → List ℕ → Judgement S E → Type 0) (K L : E → Type 0)
    → ((e : E) → K e → L e) → (forms : Forms B E) (batches : List B) (i : ℕ) (batch : B) (why : SessionStop)
    (wire now end : Option ConnectionModel) (written later last : Option (List ℕ)) (state new newer : S)
    (entries more most : List E) → i < length batches → batch ≡ get_or batches i batch
    → CommittedTo IsJudgement forms batches i wire now written later state new entries more
    → Commits IsJudgement K forms batch (Err why) now end later last new newer more most
    → (before : ConnectionModel) → wire ≡ Some before
    → RunsTo {T = Unit {0}} IsJudgement L (commits forms state batches) (λ done. continuation) (Err why)
    (snapshot_of before written state entries) end last newer most
commit_stops {S} {B} {E} IsJudgement K L weaker forms batches i batch why wire now end written later last state new newer entries more most within is h one before start =
    let so_far = h before start in
    let r = one so_far.0 so_far.1 in
    let a : Snapshot S E = snapshot_of before written state entries in
    let b : Snapshot S E = snapshot_of so_far.0 later new more in
    let c : Snapshot S E = snapshot_of r.0 last newer most in (
      r.0,
      r.1,
      fails-then IsJudgement L (commits forms state batches) (commits forms new (drop i batches)) why a b c so_far.2
          (fails-as {H = S → Input S E → SessionWork S B E} IsJudgement L (batch_commit forms new batch) why
          (λ (go : Input S E → SessionWork S B E) (next : S) (rest : Input S E). commits forms next (drop (i + 1) batches) rest go)
          (commits forms new (drop i batches)) b c (λ input go. commits-next forms new batches i batch input go within is)
          (fails-kept IsJudgement K L weaker (batch_commit forms new batch) why b c r.2)),
    )

commits-none : {S B E : Type 0} (forms : Forms B E) (state : S) (input : Input S E) (go : Input S E → SessionWork S B E)
    → commits forms state [] input go ≡ go input
unfolding commits
commits-none forms state input go = refl

pub committed_all : {S B E : Type 0} (IsJudgement : S → B → List ℕ → Judgement S E → Type 0) (K : E → Type 0) (forms : Forms B E)
    (batches : List B) (i : ℕ) (done : Unit {0}) (wire now : Option ConnectionModel) (written later : Option (List ℕ))
    (state new : S) (entries more : List E) → length batches ≤ i
    → CommittedTo IsJudgement forms batches i wire now written later state new entries more
    → (before : ConnectionModel) → wire ≡ Some before
    → RunsTo {T = Unit {0}} IsJudgement K (commits forms state batches) (λ done. continuation) (Ok done)
    (snapshot_of before written state entries) now later new more
committed_all {S} {B} {E} IsJudgement K forms batches i done wire now written later state new entries more all h before start =
    let so_far = h before start in
    let a : Snapshot S E = snapshot_of before written state entries in
    let b : Snapshot S E = snapshot_of so_far.0 later new more in (
      so_far.0,
      so_far.1,
      reaches-then IsJudgement (commits forms state batches) (commits forms new (drop i batches)) continuation a b b so_far.2
          (reaches-here IsJudgement (commits forms new (drop i batches)) continuation b
          (λ (input : Input S E) (go : Input S E → SessionWork S B E).
          ap (λ (bs : List B). commits forms new bs input go) (drop_all i batches all) ∙ commits-none forms new input go)),
    )

pub committed_stays : {S B E : Type 0} (IsJudgement : S → B → List ℕ → Judgement S E → Type 0) (forms : Forms B E) (batches : List B)
    (i : ℕ) (wire now : Option ConnectionModel) (written later : Option (List ℕ)) (state new : S) (entries more : List E)
    (old misses next : ℕ) → CommittedTo IsJudgement forms batches i wire now written later state new entries more
    → StaysWhereItStands wire old misses → StaysWhereItStands now misses next → StaysWhereItStands wire old next
committed_stays IsJudgement forms batches i wire now written later state new entries more old misses next known stay again =
    stays_on wire now old misses next
    (λ (w : ConnectionModel) is.
    let k = known w is in
    (k.0, k.1, ap (λ (m : ConnectionModel). m.stands) k.2.done.wire_is ∙ stands-after k.2.events w))
    stay again

-- The whole session.

session_on-is : {S B E : Type 0} (forms : Forms B E) (state : S) (entries : List E) (batches : List B) (input : Input S E)
    (go : Input S E → SessionWork S B E) → session_on forms state entries batches input go ≡ catch_up forms entries input
    (λ (rest : Input S E). commits forms state batches rest go)
unfolding session_on
session_on-is forms state entries batches input go = refl

pub session_done : {S B E : Type 0} (IsJudgement : S → B → List ℕ → Judgement S E → Type 0) (K : E → Type 0) (forms : Forms B E)
    (batches : List B) (done : Unit {0}) (result : Result (Unit {0}) SessionStop) (before : Snapshot S E) (mid wire : Option ConnectionModel)
    (written : Option (List ℕ)) (new : S) (more : List E)
    → RunsOnWire IsJudgement (catch_up forms before.entries) (λ (done : Unit {0}). continuation) (Ok done) before mid
    → ((now : ConnectionModel) → mid ≡ Some now
    → RunsTo IsJudgement K (commits forms before.state batches) (λ (done : Unit {0}). continuation) result (on_wire now before) wire written new more)
    → RunsTo IsJudgement K (session_on forms before.state before.entries batches) (λ (done : Unit {0}). continuation) result before wire written new more
session_done {S} {B} {E} IsJudgement K forms batches done result before mid wire written new more f s =
    to-then {H = Input S E → SessionWork S B E} IsJudgement K (catch_up forms before.entries) (λ (done : Unit {0}). continuation)
    (λ (go : Input S E → SessionWork S B E) (rest : Input S E). commits forms before.state batches rest go)
    (session_on forms before.state before.entries batches) (λ (done : Unit {0}). continuation) done result before mid wire written new more
    (session_on-is forms before.state before.entries batches) f s

pub session_not_begun : {S B E : Type 0} (IsJudgement : S → B → List ℕ → Judgement S E → Type 0) (K : E → Type 0) (forms : Forms B E)
    (batches : List B) (why : SessionStop) (before : Snapshot S E) (wire : Option ConnectionModel)
    → RunsOnWire IsJudgement (catch_up forms before.entries) (λ (done : Unit {0}). continuation) (Err why) before wire
    → RunsTo {T = Unit {0}} IsJudgement K (session_on forms before.state before.entries batches) (λ done. continuation) (Err why) before wire
    before.written before.state before.entries
session_not_begun {S} {B} {E} IsJudgement K forms batches why before wire f =
    to-fails {H = Input S E → SessionWork S B E} {T = Unit {0}} IsJudgement K (catch_up forms before.entries) (λ (done : Unit {0}). continuation)
    (λ (go : Input S E → SessionWork S B E) (rest : Input S E). commits forms before.state batches rest go)
    (session_on forms before.state before.entries batches) (λ (done : Unit {0}). continuation) why before wire
    (session_on-is forms before.state before.entries batches) f
