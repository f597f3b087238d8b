-- Runs of calls that do something to the connection alone.
use Rattle.std.proofs.Common.{◌≡◌, ◌≢◌, ℕ, suc, ◌+◌, ◌<◌, Bool, List, [], ◌∷◌, length, take, drop, slice_get, Option, Some, None, Result, Ok, Err, bytes_eq, if◌then◌else◌, refl, sym, ap, ◌∙◌, subst, inl, inr, zero, ◌≤◌, append-nil, arith}
use Rattle.std.proofs.lemmas.List.{drop_all}
use Rattle.std.specs.Global.{Vec}
use Rattle.outside.specs.ConnectionModel.{ConnectionModel, take_from, send_on}
use Rattle.vo_spec.specs.Bytes.{u64_bytes}
use Rattle.link_frames.specs.declared.awaits.Awaits.{Awaits}
use Rattle.link_frames.specs.declared.awaits.Awaits.TheVariants as awaits
use Rattle.link_frames.specs.declared.frame_kind.FrameKind.{FrameKind}
use Rattle.link_frames.specs.declared.frame_kind.FrameKind.TheVariants as kind
use Rattle.link_frames.specs.Frames.{Coming, Whole, Ended, Cut, Bad, span, first_frame, frame_bytes}
use Rattle.link_frames.specs.Reading.{IsBrokenOff, IsFrame, IsHalfAsked, StaysWhereItStands}
use Rattle.link_frames.specs.Scripts.{Event, Puts, Takes, behind, Stops}
use Rattle.owner_session.specs.declared.place.Place.{Place}
use Rattle.owner_session.specs.declared.place.Place.TheVariants.{Holds, Elsewhere, NoStanding}
use Rattle.owner_session.specs.declared.stop.SessionStop.{SessionStop}
use Rattle.owner_session.specs.declared.stop.SessionStop.TheVariants as stop
use Rattle.owner_session.specs.Endings.{Ending, StandsElsewhere, BadAnswer}
use Rattle.owner_session.specs.SessionWork.{Forms, Judgement, Deed, SessionWork, Input, AnswerBody, Body, NoBody, answer_of, with_answer, with_place, input_after, ends_with, exchange, installation, proposal, standing, delivery, deliveries, catch_up}
use Rattle.owner_session.specs.Stopping.{StopsOnLink}
use Rattle.owner_session.specs.Runs.{Snapshot, LeadsTo, Piece, Reaches, Halts, Runs, RunsOnWire, Exchanges, ChecksVersion, HoldsSome, snapshot_of, input_of, continuation, continuation_with}
use Rattle.owner_session.proofs.DeedLaws.{added-nil}
use Rattle.link_frames.proofs.ScriptLaws.{stands-after}
use Rattle.link_frames.proofs.Filling.{stays_on}
use Rattle.owner_session.proofs.RunLaws.{reaches-then, reaches-in, reaches-here, reaches-as, fails-then, fails-in, fails-as, runs-then, ends-here, wants-here}

-- the connection is another, and nothing else
abbrev pub on_wire : {S E : Type 0} → ConnectionModel → Snapshot S E → Snapshot S E
on_wire wire a = record a { wire = wire }

leads-on-wire : {S B E : Type 0} (wire : ConnectionModel) (a : Snapshot S E) → LeadsTo {B = B} [] a (on_wire wire a)
leads-on-wire wire a = record { state = refl; entries = sym (append-nil a.entries) }

-- Exchanges.

answered : {S B E : Type 0} (kind : FrameKind) (body : List ℕ) (awaits : Awaits) (input : Input S E)
    (go : List ℕ → Input S E → SessionWork S B E) (answer : AnswerBody)
    → answer_of (first_frame awaits input.coming) ≡ answer
    → exchange kind body awaits input go
    ≡ behind (Puts (frame_bytes kind body) ∷ Takes (span (first_frame awaits input.coming)) ∷ [])
    (with_answer answer (input_after (span (first_frame awaits input.coming)) input) go)
unfolding exchange
answered {S} {B} {E} kind body awaits input go answer is =
    ap (λ (a : AnswerBody). behind {X = Deed S B E} {A = Option Ending}
    (Puts (frame_bytes kind body) ∷ Takes (span (first_frame awaits input.coming)) ∷ [])
    (with_answer a (input_after (span (first_frame awaits input.coming)) input) go)) is

-- where a half exchange left the connection
abbrev half_wire : (frame : List ℕ) (first : Coming) (before : ConnectionModel) (wire : Option ConnectionModel)
    → IsHalfAsked frame first before wire → (later : ConnectionModel) × (wire ≡ Some later)
half_wire frame first before wire (inl h) = (send_on (take h.0 frame) before, h.1)
half_wire frame first before wire (inr h) = (take_from h.0 (send_on frame before), h.2)

half_stops : {S B E : Type 0} (kind : FrameKind) (body : List ℕ) (awaits : Awaits) (input : Input S E)
    (go : List ℕ → Input S E → SessionWork S B E) (before : ConnectionModel) (wire : Option ConnectionModel)
    (h : IsHalfAsked (frame_bytes kind body) (first_frame awaits input.coming) before wire)
    → Stops (exchange kind body awaits input go).events [] before
    (half_wire (frame_bytes kind body) (first_frame awaits input.coming) before wire h).0
unfolding exchange
half_stops kind body awaits input go before wire (inl h) = inl (refl, (h.0, refl))
half_stops kind body awaits input go before wire (inr h) = inr ([], refl, inl (refl, (h.0, omega (arith, h.1), refl)))

-- the same where the link failed
abbrev broken_wire : (frame : List ℕ) (first : Coming) (before : ConnectionModel) (wire : Option ConnectionModel)
    → IsBrokenOff frame first before wire → (later : ConnectionModel) × (wire ≡ Some later)
broken_wire frame first before wire (inl h) = (send_on (take h.0 frame) before, h.1)
broken_wire frame first before wire (inr h) = (take_from h.0 (send_on frame before), h.3)

-- nothing is due behind what is no frame
part_taken : {S B E : Type 0} (first : Coming) (input : Input S E) (go : List ℕ → Input S E → SessionWork S B E) (n : ℕ)
    → (IsFrame first → n < span first) → (with_answer (answer_of first) input go).events ≢ [] → n < span first
part_taken (Whole kind body) input go n part due = part tt
part_taken Ended input go n part due = absurd (due refl)
part_taken (Cut got) input go n part due = absurd (due refl)
part_taken (Bad length taken) input go n part due = absurd (due refl)

broken_stops : {S B E : Type 0} (kind : FrameKind) (body : List ℕ) (awaits : Awaits) (input : Input S E)
    (go : List ℕ → Input S E → SessionWork S B E) (before : ConnectionModel) (wire : Option ConnectionModel)
    (h : IsBrokenOff (frame_bytes kind body) (first_frame awaits input.coming) before wire)
    → StopsOnLink (exchange kind body awaits input go).events [] before
    (broken_wire (frame_bytes kind body) (first_frame awaits input.coming) before wire h).0
unfolding exchange
broken_stops kind body awaits input go before wire (inl h) = inl (refl, (h.0, refl))
broken_stops kind body awaits input go before wire (inr h) =
    let first : Coming = first_frame awaits input.coming in
    inr (
      [],
      refl,
      inl (
        refl,
        (
          h.0,
          omega (arith, h.1),
          part_taken first (input_after (span first) input) go h.0 (λ is. omega (arith, h.2 is)),
          refl,
        ),
      ),
    )

-- the connection is half asked, and its work stopped so, whatever follows
half_fails : {S B E : Type 0} (IsJudgement : S → B → List ℕ → Judgement S E → Type 0) (kind : FrameKind) (body : List ℕ)
    (awaits : Awaits) (why : SessionStop) (before : Snapshot S E) (wire : Option ConnectionModel)
    (later : (w : ConnectionModel) × (wire ≡ Some w))
    → ((more : List (Judgement S E)) (go : List ℕ → Input S E → SessionWork S B E)
    → Halts (λ (e : E). ⊥) (exchange kind body awaits (input_of before more) go) why [] before (on_wire later.0 before))
    → RunsOnWire IsJudgement (exchange kind body awaits) (λ (given : Vec ℕ). continuation_with given.items) (Err why) before wire
half_fails IsJudgement kind body awaits why before wire later halts = (
  later.0,
  later.1,
  record {
    judgements = [];
    deeds = [];
    are_judgements = tt;
    leads = leads-on-wire later.0 before;
    halts = halts;
  },
)

-- a call that did the exchange, or stopped in it
pub traded : {S B E : Type 0} (IsJudgement : S → B → List ℕ → Judgement S E → Type 0) (kind : FrameKind) (body : List ℕ)
    (awaits : Awaits) (result : Result (Vec ℕ) SessionStop) (before : Snapshot S E) (wire : Option ConnectionModel)
    → Exchanges (frame_bytes kind body) (first_frame awaits before.wire.coming) result before.wire wire
    → RunsOnWire IsJudgement (exchange kind body awaits) (λ (given : Vec ℕ). continuation_with given.items) result before wire
traded {S} {B} {E} IsJudgement kind body awaits (Ok given) before wire h =
    let n : ℕ = span (first_frame awaits before.wire.coming) in
    let later : ConnectionModel = take_from n (send_on (frame_bytes kind body) before.wire) in
    let events : List (Event (Deed S B E)) = Puts (frame_bytes kind body) ∷ Takes n ∷ [] in (
      later,
      h.1,
      record {
        judgements = [];
        events = events;
        deeds = [];
        goes_on = λ (more : List (Judgement S E)) (go : List ℕ → Input S E → SessionWork S B E).
            answered kind body awaits (input_of before more) go (Body given.items) h.0;
        done = record { others_are = refl; wire_is = refl };
        are_judgements = tt;
        leads = leads-on-wire later before;
        wrote = added-nil before.written;
      },
    )
traded {S} {B} {E} IsJudgement kind body awaits (Err (stop.Refused report)) before wire h =
    let n : ℕ = span (first_frame awaits before.wire.coming) in
    let later : ConnectionModel = take_from n (send_on (frame_bytes kind body) before.wire) in (
      later,
      h.1,
      record {
        judgements = [];
        deeds = [];
        are_judgements = tt;
        leads = leads-on-wire later before;
        halts = λ (more : List (Judgement S E)) (go : List ℕ → Input S E → SessionWork S B E).
            subst (λ (w : SessionWork S B E). Halts (λ (e : E). ⊥) w (stop.Refused report) [] before (on_wire later before))
            (sym (answered kind body awaits (input_of before more) go (NoBody h.0.0) h.0.1))
            ((h.0.0, refl, h.0.2), record { others_are = refl; wire_is = refl }, added-nil before.written);
      },
    )
traded {S} {B} {E} IsJudgement kind body awaits (Err stop.LinkFault) before wire h =
    let frame : List ℕ = frame_bytes kind body in
    let first : Coming = first_frame awaits before.wire.coming in
    half_fails IsJudgement kind body awaits stop.LinkFault before wire
    (broken_wire frame first before.wire wire h)
    (λ (more : List (Judgement S E)) (go : List ℕ → Input S E → SessionWork S B E).
    (broken_stops kind body awaits (input_of before more) go before.wire wire h, added-nil before.written))
traded {S} {B} {E} IsJudgement kind body awaits (Err stop.Memory) before wire h =
    let first : Coming = first_frame awaits before.wire.coming in
    half_fails IsJudgement kind body awaits stop.Memory before wire (half_wire (frame_bytes kind body) first before.wire wire h)
    (λ (more : List (Judgement S E)) (go : List ℕ → Input S E → SessionWork S B E).
    (half_stops kind body awaits (input_of before more) go before.wire wire h, added-nil before.written))
traded IsJudgement kind body awaits (Err stop.DiskFault) before wire h = absurd h
traded IsJudgement kind body awaits (Err stop.OutputFault) before wire h = absurd h

-- the same, where the body is known by another term
pub exchanged : {S B E : Type 0} (IsJudgement : S → B → List ℕ → Judgement S E → Type 0) (kind : FrameKind) (bytes body : List ℕ)
    (awaits : Awaits) (result : Result (Vec ℕ) SessionStop) (before : Snapshot S E) (wire : Option ConnectionModel) → bytes ≡ body
    → Exchanges (frame_bytes kind bytes) (first_frame awaits before.wire.coming) result before.wire wire
    → RunsOnWire IsJudgement (exchange kind body awaits) (λ (given : Vec ℕ). continuation_with given.items) result before wire
exchanged IsJudgement kind bytes body awaits result before wire is h =
    traded IsJudgement kind body awaits result before wire
    (subst (λ (b : List ℕ). Exchanges (frame_bytes kind b) (first_frame awaits before.wire.coming) result before.wire wire) is h)

-- a call that wanted memory before the exchange
pub not_traded : {S B E G T : Type 0} (IsJudgement : S → B → List ℕ → Judgement S E → Type 0) (work : Piece S B E G)
    (rest : T → Piece S B E G) (before : Snapshot S E) (wire : Option ConnectionModel) → wire ≡ Some before.wire
    → RunsOnWire IsJudgement work rest (Err stop.Memory) before wire
not_traded IsJudgement work rest before wire is = (before.wire, is, wants-here IsJudgement (λ entry. ⊥) work before)

-- One call after another.

-- a call did the first piece, and another ran in the rest
pub wire-then : {S B E G H T U : Type 0} (IsJudgement : S → B → List ℕ → Judgement S E → Type 0) (first : Piece S B E H)
    (given : U → Piece S B E H) (in_it : G → H) (work : Piece S B E G) (rest : T → Piece S B E G) (x : U)
    (result : Result T SessionStop) (before : Snapshot S E) (mid later : Option ConnectionModel)
    → ((input : Input S E) (go : G) → work input go ≡ first input (in_it go))
    → RunsOnWire IsJudgement first given (Ok x) before mid
    → ((now : Snapshot S E) → mid ≡ Some now.wire
    → RunsOnWire IsJudgement (λ (input : Input S E) (go : G). given x input (in_it go)) rest result now later)
    → RunsOnWire IsJudgement work rest result before later
wire-then {S} {B} {E} {G} IsJudgement first given in_it work rest x result before mid later is f s =
    let now : Snapshot S E = on_wire f.0 before in
    let after = s now f.1 in (
      after.0,
      after.1,
      runs-then IsJudgement (λ entry. ⊥) work (λ (input : Input S E) (go : G). given x input (in_it go)) rest result before now
          (on_wire after.0 before) (reaches-as IsJudgement first (given x) in_it work before now is f.2) after.2,
    )

-- a call stopped in the first piece
pub wire-fails : {S B E G H T U : Type 0} (IsJudgement : S → B → List ℕ → Judgement S E → Type 0) (first : Piece S B E H)
    (given : U → Piece S B E H) (in_it : G → H) (work : Piece S B E G) (rest : T → Piece S B E G) (why : SessionStop)
    (before : Snapshot S E) (later : Option ConnectionModel)
    → ((input : Input S E) (go : G) → work input go ≡ first input (in_it go))
    → RunsOnWire IsJudgement first given (Err why) before later → RunsOnWire IsJudgement work rest (Err why) before later
wire-fails IsJudgement first given in_it work rest why before later is f =
    (f.0, f.1, fails-as IsJudgement (λ entry. ⊥) first why in_it work before (on_wire f.0 before) is f.2)

-- Installing.

pub installation-is : {S B E : Type 0} (forms : Forms B E) (entry : E) (input : Input S E) (go : Input S E → SessionWork S B E)
    → installation forms entry input go ≡ exchange kind.Install (forms.install entry) awaits.Installed input
    (λ (body : List ℕ) (rest : Input S E). if bytes_eq body (u64_bytes (forms.version entry)) then go rest else ends_with StandsElsewhere)
unfolding installation
installation-is forms entry input go = refl

-- the work behind an answer that is to be a version
abbrev pub version_test : {S B E : Type 0} → Bool → Piece S B E (Input S E → SessionWork S B E)
version_test same input go = if same then go input else ends_with StandsElsewhere

checked : {S B E : Type 0} (IsJudgement : S → B → List ℕ → Judgement S E → Type 0) (same : Bool) (result : Result (Unit {0}) SessionStop)
    (now : Snapshot S E) → ChecksVersion same result → Runs IsJudgement (λ entry. ⊥) (version_test same) (λ done. continuation) result now now
checked {S} {B} {E} IsJudgement same (Ok done) now is =
    reaches-here IsJudgement (version_test same) continuation now
    (λ (input : Input S E) (go : Input S E → SessionWork S B E). ap (λ (b : Bool). version_test b input go) is)
checked {S} {B} {E} IsJudgement same (Err why) now h =
    ends-here IsJudgement (λ entry. ⊥) (version_test same) StandsElsewhere why now
    (λ (input : Input S E) (go : Input S E → SessionWork S B E). ap (λ (b : Bool). version_test b input go) h.0) h.1

pub version_checked : {S B E : Type 0} (IsJudgement : S → B → List ℕ → Judgement S E → Type 0) (forms : Forms B E) (entry : E)
    (answer : Vec ℕ) (bytes : List ℕ) (version : ℕ) (result : Result (Unit {0}) SessionStop) (before : Snapshot S E)
    (mid : Option ConnectionModel) → bytes ≡ answer.items → version ≡ forms.version entry
    → RunsOnWire IsJudgement (exchange kind.Install (forms.install entry) awaits.Installed) (λ (given : Vec ℕ). continuation_with given.items) (Ok answer) before mid
    → ChecksVersion (bytes_eq bytes (u64_bytes version)) result
    → RunsOnWire IsJudgement (installation forms entry) (λ (done : Unit {0}). continuation) result before mid
version_checked {S} {B} {E} IsJudgement forms entry answer bytes version result before mid same is f h =
    let test : bytes_eq bytes (u64_bytes version) ≡ bytes_eq answer.items (u64_bytes (forms.version entry)) =
    ap (λ (b : List ℕ). bytes_eq b (u64_bytes version)) same ∙ ap (λ (v : ℕ). bytes_eq answer.items (u64_bytes v)) is in
    let checks : ChecksVersion (bytes_eq answer.items (u64_bytes (forms.version entry))) result =
    subst (λ (b : Bool). ChecksVersion b result) test h in
    wire-then {H = List ℕ → Input S E → SessionWork S B E} IsJudgement (exchange kind.Install (forms.install entry) awaits.Installed)
    (λ (given : Vec ℕ). continuation_with given.items)
    (λ (go : Input S E → SessionWork S B E) (body : List ℕ) (rest : Input S E). if bytes_eq body (u64_bytes (forms.version entry)) then go rest else ends_with StandsElsewhere)
    (installation forms entry) (λ (done : Unit {0}). continuation) answer result before mid mid (installation-is forms entry) f
    (λ now there. (now.wire, there, checked IsJudgement (bytes_eq answer.items (u64_bytes (forms.version entry))) result now checks))

pub not_installed : {S B E : Type 0} (IsJudgement : S → B → List ℕ → Judgement S E → Type 0) (forms : Forms B E) (entry : E)
    (why : SessionStop) (before : Snapshot S E) (later : Option ConnectionModel)
    → RunsOnWire IsJudgement (exchange kind.Install (forms.install entry) awaits.Installed) (λ (given : Vec ℕ). continuation_with given.items) (Err why) before later
    → RunsOnWire {T = Unit {0}} IsJudgement (installation forms entry) (λ done. continuation) (Err why) before later
not_installed {S} {B} {E} IsJudgement forms entry why before later f =
    wire-fails {H = List ℕ → Input S E → SessionWork S B E} {T = Unit {0}} IsJudgement (exchange kind.Install (forms.install entry) awaits.Installed)
    (λ (given : Vec ℕ). continuation_with given.items)
    (λ (go : Input S E → SessionWork S B E) (body : List ℕ) (rest : Input S E). if bytes_eq body (u64_bytes (forms.version entry)) then go rest else ends_with StandsElsewhere)
    (installation forms entry) (λ (done : Unit {0}). continuation) why before later (installation-is forms entry) f

-- Standing.

standing-is : {S B E : Type 0} (forms : Forms B E) (entries : List E) (input : Input S E) (go : ℕ → Input S E → SessionWork S B E)
    → standing forms entries input go ≡ exchange kind.Status [] awaits.Standing input
    (λ (body : List ℕ) (rest : Input S E). with_place (forms.place entries body) body rest go)
unfolding standing
standing-is forms entries input go = refl

placed : {S B E : Type 0} (IsJudgement : S → B → List ℕ → Judgement S E → Type 0) (place : Place) (body : List ℕ)
    (result : Result ℕ SessionStop) (now : Snapshot S E) → HoldsSome place (length body) result
    → Runs IsJudgement (λ entry. ⊥) (λ (input : Input S E) (go : ℕ → Input S E → SessionWork S B E). with_place place body input go) continuation_with result now now
placed {S} {B} {E} IsJudgement place body (Ok count) now is =
    reaches-here IsJudgement (λ (input : Input S E) (go : ℕ → Input S E → SessionWork S B E). with_place place body input go) (continuation_with count) now
    (λ (input : Input S E) (go : ℕ → Input S E → SessionWork S B E). ap (λ (p : Place). with_place p body input go) is)
placed {S} {B} {E} IsJudgement Elsewhere body (Err why) now h =
    ends-here IsJudgement (λ entry. ⊥) (λ (input : Input S E) (go : ℕ → Input S E → SessionWork S B E). with_place Elsewhere body input go)
    StandsElsewhere why now (λ input go. refl) h
placed {S} {B} {E} IsJudgement NoStanding body (Err why) now h =
    ends-here IsJudgement (λ entry. ⊥) (λ (input : Input S E) (go : ℕ → Input S E → SessionWork S B E). with_place NoStanding body input go)
    (BadAnswer (length body + 1)) why now (λ input go. refl) h
placed IsJudgement (Holds count) body (Err why) now h = absurd h

pub place_known : {S B E : Type 0} (IsJudgement : S → B → List ℕ → Judgement S E → Type 0) (forms : Forms B E) (entries : List E)
    (answer : Vec ℕ) (bytes : List ℕ) (place : Place) (result : Result ℕ SessionStop) (before : Snapshot S E)
    (mid : Option ConnectionModel) → bytes ≡ answer.items → place ≡ forms.place entries bytes
    → RunsOnWire IsJudgement (exchange kind.Status [] awaits.Standing) (λ (given : Vec ℕ). continuation_with given.items) (Ok answer) before mid
    → HoldsSome place (length bytes) result
    → RunsOnWire IsJudgement (standing forms entries) continuation_with result before mid
place_known {S} {B} {E} IsJudgement forms entries answer bytes place result before mid same is f h =
    let there : place ≡ forms.place entries answer.items = is ∙ ap (forms.place entries) same in
    let holds : HoldsSome (forms.place entries answer.items) (length answer.items) result =
    subst (λ (b : List ℕ). HoldsSome (forms.place entries answer.items) (length b) result) same
    (subst (λ (p : Place). HoldsSome p (length bytes) result) there h) in
    wire-then {H = List ℕ → Input S E → SessionWork S B E} IsJudgement (exchange kind.Status [] awaits.Standing)
    (λ (given : Vec ℕ). continuation_with given.items)
    (λ (go : ℕ → Input S E → SessionWork S B E) (body : List ℕ) (rest : Input S E). with_place (forms.place entries body) body rest go)
    (standing forms entries) continuation_with answer result before mid mid (standing-is forms entries) f
    (λ now there. (now.wire, there, placed IsJudgement (forms.place entries answer.items) answer.items result now holds))

pub no_place : {S B E : Type 0} (IsJudgement : S → B → List ℕ → Judgement S E → Type 0) (forms : Forms B E) (entries : List E)
    (why : SessionStop) (before : Snapshot S E) (later : Option ConnectionModel)
    → RunsOnWire IsJudgement (exchange kind.Status [] awaits.Standing) (λ (given : Vec ℕ). continuation_with given.items) (Err why) before later
    → RunsOnWire IsJudgement (standing forms entries) continuation_with (Err why) before later
no_place {S} {B} {E} IsJudgement forms entries why before later f =
    wire-fails {H = List ℕ → Input S E → SessionWork S B E} {T = ℕ} IsJudgement (exchange kind.Status [] awaits.Standing)
    (λ (given : Vec ℕ). continuation_with given.items)
    (λ (go : ℕ → Input S E → SessionWork S B E) (body : List ℕ) (rest : Input S E). with_place (forms.place entries body) body rest go)
    (standing forms entries) continuation_with why before later (standing-is forms entries) f

-- Proposing.

proposal-is : {S B E : Type 0} (forms : Forms B E) (batch : B) (input : Input S E) (go : List ℕ → Input S E → SessionWork S B E)
    → proposal forms batch input go ≡ exchange kind.Propose (forms.proposal batch) awaits.Proofs input go
unfolding proposal
proposal-is forms batch input go = refl

pub proposed : {S B E : Type 0} (IsJudgement : S → B → List ℕ → Judgement S E → Type 0) (forms : Forms B E) (batch : B)
    (body : List ℕ) (result : Result (Vec ℕ) SessionStop) (before : Snapshot S E) (wire : Option ConnectionModel)
    → body ≡ forms.proposal batch
    → Exchanges (frame_bytes kind.Propose body) (first_frame awaits.Proofs before.wire.coming) result before.wire wire
    → RunsOnWire IsJudgement (proposal forms batch) (λ (given : Vec ℕ). continuation_with given.items) result before wire
unfolding proposal
proposed IsJudgement forms batch body result before wire is h =
    traded IsJudgement kind.Propose (forms.proposal batch) awaits.Proofs result before wire
    (subst (λ (b : List ℕ). Exchanges (frame_bytes kind.Propose b) (first_frame awaits.Proofs before.wire.coming) result before.wire wire) is h)

-- Delivering.

pub first_delivered : {S B E : Type 0} (IsJudgement : S → B → List ℕ → Judgement S E → Type 0) (forms : Forms B E) (i : ℕ)
    (entry : E) (result : Result (Unit {0}) SessionStop) (before : Snapshot S E) (wire : Option ConnectionModel) → i ≡ 0
    → RunsOnWire IsJudgement (installation forms entry) (λ (done : Unit {0}). continuation) result before wire
    → RunsOnWire IsJudgement (delivery forms i entry) (λ (done : Unit {0}). continuation) result before wire
unfolding delivery
first_delivered {S} {B} {E} IsJudgement forms i entry result before wire is h =
    subst (λ (k : ℕ). RunsOnWire {T = Unit {0}} IsJudgement (delivery forms k entry) (λ done. continuation) result before wire) (sym is) h

delivery-is : {S B E : Type 0} (forms : Forms B E) (i : ℕ) (entry : E) (input : Input S E) (go : Input S E → SessionWork S B E)
    → delivery forms (suc i) entry input go ≡ proposal forms (forms.batch entry) input
    (λ (proofs : List ℕ) (rest : Input S E). installation forms entry rest go)
unfolding delivery
delivery-is forms i entry input go = refl

pub later_delivered : {S B E : Type 0} (IsJudgement : S → B → List ℕ → Judgement S E → Type 0) (forms : Forms B E) (i j : ℕ)
    (entry : E) (proofs : Vec ℕ) (result : Result (Unit {0}) SessionStop) (before : Snapshot S E)
    (mid later : Option ConnectionModel) → i ≡ suc j
    → RunsOnWire IsJudgement (proposal forms (forms.batch entry)) (λ (given : Vec ℕ). continuation_with given.items) (Ok proofs) before mid
    → ((now : Snapshot S E) → mid ≡ Some now.wire → RunsOnWire IsJudgement (installation forms entry) (λ (done : Unit {0}). continuation) result now later)
    → RunsOnWire IsJudgement (delivery forms i entry) (λ (done : Unit {0}). continuation) result before later
later_delivered {S} {B} {E} IsJudgement forms i j entry proofs result before mid later is f s =
    subst (λ (k : ℕ). RunsOnWire {T = Unit {0}} IsJudgement (delivery forms k entry) (λ done. continuation) result before later) (sym is)
    (wire-then {H = List ℕ → Input S E → SessionWork S B E} IsJudgement (proposal forms (forms.batch entry))
    (λ (given : Vec ℕ). continuation_with given.items)
    (λ (go : Input S E → SessionWork S B E) (proofs : List ℕ) (rest : Input S E). installation forms entry rest go)
    (delivery forms (suc j) entry) (λ (done : Unit {0}). continuation) proofs result before mid later (delivery-is forms j entry) f s)

pub not_delivered : {S B E : Type 0} (IsJudgement : S → B → List ℕ → Judgement S E → Type 0) (forms : Forms B E) (i j : ℕ)
    (entry : E) (why : SessionStop) (before : Snapshot S E) (later : Option ConnectionModel) → i ≡ suc j
    → RunsOnWire IsJudgement (proposal forms (forms.batch entry)) (λ (given : Vec ℕ). continuation_with given.items) (Err why) before later
    → RunsOnWire {T = Unit {0}} IsJudgement (delivery forms i entry) (λ done. continuation) (Err why) before later
not_delivered {S} {B} {E} IsJudgement forms i j entry why before later is f =
    subst (λ (k : ℕ). RunsOnWire {T = Unit {0}} IsJudgement (delivery forms k entry) (λ done. continuation) (Err why) before later) (sym is)
    (wire-fails {H = List ℕ → Input S E → SessionWork S B E} {T = Unit {0}} IsJudgement (proposal forms (forms.batch entry))
    (λ (given : Vec ℕ). continuation_with given.items)
    (λ (go : Input S E → SessionWork S B E) (proofs : List ℕ) (rest : Input S E). installation forms entry rest go)
    (delivery forms (suc j) entry) (λ (done : Unit {0}). continuation) why before later (delivery-is forms j entry) f)

-- The loop.

-- some entries were delivered, up to this one
abbrev pub DeliveredTo : {S B E : Type 0} → (S → B → List ℕ → Judgement S E → Type 0) → Forms B E → List E → ℕ → ℕ
    → Option ConnectionModel → Option ConnectionModel → Type 0
DeliveredTo {S} {B} {E} IsJudgement forms entries held i wire now =
    (before : Snapshot S E) → wire ≡ Some before.wire
    → (mid : ConnectionModel) × (now ≡ Some mid)
    × Reaches IsJudgement (deliveries forms held (drop held entries)) (deliveries forms i (drop i entries)) before (on_wire mid before)

pub delivered_none : {S B E : Type 0} (IsJudgement : S → B → List ℕ → Judgement S E → Type 0) (forms : Forms B E) (entries : List E)
    (held : ℕ) (wire : Option ConnectionModel) → DeliveredTo IsJudgement forms entries held held wire wire
delivered_none IsJudgement forms entries held wire before is = (
  before.wire,
  is,
  reaches-here IsJudgement (deliveries forms held (drop held entries)) (deliveries forms held (drop held entries)) before (λ input go. refl),
)

entry_at : {E : Type 0} (entries : List E) (i : ℕ) → i < length entries
    → (entry : E) × (slice_get entries i ≡ Some entry) × (drop i entries ≡ entry ∷ drop (suc i) entries)
entry_at [] i within = absurd (omega (arith, within))
entry_at (entry ∷ entries) zero within = (entry, refl, refl)
entry_at (entry ∷ entries) (suc i) within =
    let rest = entry_at entries i (omega (arith, within)) in (rest.0, rest.1, rest.2)

deliveries-is : {S B E : Type 0} (forms : Forms B E) (i : ℕ) (entry : E) (entries : List E) (input : Input S E)
    (go : Input S E → SessionWork S B E) → deliveries forms i (entry ∷ entries) input go
    ≡ delivery forms i entry input (λ (rest : Input S E). deliveries forms (suc i) entries rest go)
unfolding deliveries
deliveries-is forms i entry entries input go = refl

-- the work at an entry, in one of the next ones
delivery_next : {S B E : Type 0} (IsJudgement : S → B → List ℕ → Judgement S E → Type 0) (forms : Forms B E) (entries : List E)
    (i : ℕ) (entry : E) (a : Snapshot S E) → drop i entries ≡ entry ∷ drop (suc i) entries
    → Reaches IsJudgement (deliveries forms i (drop i entries))
    (λ (input : Input S E) (go : Input S E → SessionWork S B E). delivery forms i entry input (λ (rest : Input S E). deliveries forms (suc i) (drop (suc i) entries) rest go)) a a
delivery_next {S} {B} {E} IsJudgement forms entries i entry a is =
    reaches-here IsJudgement (deliveries forms i (drop i entries))
    (λ (input : Input S E) (go : Input S E → SessionWork S B E). delivery forms i entry input (λ (rest : Input S E). deliveries forms (suc i) (drop (suc i) entries) rest go)) a
    (λ (input : Input S E) (go : Input S E → SessionWork S B E).
    ap (λ (es : List E). deliveries forms i es input go) is ∙ deliveries-is forms i entry (drop (suc i) entries) input go)

-- what a call says that delivers an entry
abbrev pub Delivers : {S B E : Type 0} → (S → B → List ℕ → Judgement S E → Type 0) → Forms B E → List E → ℕ
    → Result (Unit {0}) SessionStop → Option ConnectionModel → Option ConnectionModel → Type 0
Delivers {S} {B} {E} IsJudgement forms entries i result wire later =
    (entry : E) (before : Snapshot S E) → slice_get entries i ≡ Some entry → wire ≡ Some before.wire
    → RunsOnWire {T = Unit {0}} IsJudgement (delivery forms i entry) (λ done. continuation) result before later

pub delivered_more : {S B E : Type 0} (IsJudgement : S → B → List ℕ → Judgement S E → Type 0) (forms : Forms B E) (entries : List E)
    (held i next : ℕ) (done : Unit {0}) (wire now later : Option ConnectionModel) → i < length entries → next ≡ suc i
    → DeliveredTo IsJudgement forms entries held i wire now → Delivers IsJudgement forms entries i (Ok done) now later
    → DeliveredTo IsJudgement forms entries held next wire later
delivered_more {S} {B} {E} IsJudgement forms entries held i next done wire now later within is h one before start =
    let so_far = h before start in
    let e = entry_at entries i within in
    let mid : Snapshot S E = on_wire so_far.0 before in
    let r = one e.0 mid e.1 so_far.1 in
    let at_entry : Piece S B E (Input S E → SessionWork S B E) =
    λ input go. delivery forms i e.0 input (λ (rest : Input S E). deliveries forms (suc i) (drop (suc i) entries) rest go) in
    let here : Reaches IsJudgement (deliveries forms held (drop held entries)) at_entry before mid =
    reaches-then IsJudgement (deliveries forms held (drop held entries)) (deliveries forms i (drop i entries)) at_entry before mid mid so_far.2
    (delivery_next IsJudgement forms entries i e.0 mid e.2) in
    let on_it : Reaches IsJudgement at_entry (deliveries forms (suc i) (drop (suc i) entries)) mid (on_wire r.0 before) =
    reaches-in {H = Input S E → SessionWork S B E} IsJudgement (delivery forms i e.0) continuation
    (λ (go : Input S E → SessionWork S B E) (rest : Input S E). deliveries forms (suc i) (drop (suc i) entries) rest go) mid (on_wire r.0 before) r.2 in
    let whole : Reaches IsJudgement (deliveries forms held (drop held entries)) (deliveries forms (suc i) (drop (suc i) entries)) before (on_wire r.0 before) =
    reaches-then IsJudgement (deliveries forms held (drop held entries)) at_entry (deliveries forms (suc i) (drop (suc i) entries)) before mid (on_wire r.0 before) here on_it in (
      r.0,
      r.1,
      subst (λ (k : ℕ). Reaches IsJudgement (deliveries forms held (drop held entries)) (deliveries forms k (drop k entries)) before (on_wire r.0 before)) (sym is) whole,
    )

pub delivery_stops : {S B E : Type 0} (IsJudgement : S → B → List ℕ → Judgement S E → Type 0) (forms : Forms B E) (entries : List E)
    (held i : ℕ) (why : SessionStop) (wire now later : Option ConnectionModel) → i < length entries
    → DeliveredTo IsJudgement forms entries held i wire now → Delivers IsJudgement forms entries i (Err why) now later
    → (before : Snapshot S E) → wire ≡ Some before.wire
    → RunsOnWire {T = Unit {0}} IsJudgement (deliveries forms held (drop held entries)) (λ done. continuation) (Err why) before later
delivery_stops {S} {B} {E} IsJudgement forms entries held i why wire now later within h one before start =
    let so_far = h before start in
    let e = entry_at entries i within in
    let mid : Snapshot S E = on_wire so_far.0 before in
    let r = one e.0 mid e.1 so_far.1 in
    let at_entry : Piece S B E (Input S E → SessionWork S B E) =
    λ input go. delivery forms i e.0 input (λ (rest : Input S E). deliveries forms (suc i) (drop (suc i) entries) rest go) in
    let here : Reaches IsJudgement (deliveries forms held (drop held entries)) at_entry before mid =
    reaches-then IsJudgement (deliveries forms held (drop held entries)) (deliveries forms i (drop i entries)) at_entry before mid mid so_far.2
    (delivery_next IsJudgement forms entries i e.0 mid e.2) in (
      r.0,
      r.1,
      fails-then IsJudgement (λ entry. ⊥) (deliveries forms held (drop held entries)) at_entry why before mid (on_wire r.0 before) here
          (fails-in {H = Input S E → SessionWork S B E} IsJudgement (λ entry. ⊥) (delivery forms i e.0) why
          (λ (go : Input S E → SessionWork S B E) (rest : Input S E). deliveries forms (suc i) (drop (suc i) entries) rest go) mid (on_wire r.0 before) r.2),
    )

deliveries-none : {S B E : Type 0} (forms : Forms B E) (i : ℕ) (input : Input S E) (go : Input S E → SessionWork S B E)
    → deliveries forms i [] input go ≡ go input
unfolding deliveries
deliveries-none forms i input go = refl

pub delivered_all : {S B E : Type 0} (IsJudgement : S → B → List ℕ → Judgement S E → Type 0) (forms : Forms B E) (entries : List E)
    (held i : ℕ) (done : Unit {0}) (wire now : Option ConnectionModel) → length entries ≤ i
    → DeliveredTo IsJudgement forms entries held i wire now → (before : Snapshot S E) → wire ≡ Some before.wire
    → RunsOnWire {T = Unit {0}} IsJudgement (deliveries forms held (drop held entries)) (λ done. continuation) (Ok done) before now
delivered_all {S} {B} {E} IsJudgement forms entries held i done wire now all h before start =
    let so_far = h before start in
    let mid : Snapshot S E = on_wire so_far.0 before in (
      so_far.0,
      so_far.1,
      reaches-then IsJudgement (deliveries forms held (drop held entries)) (deliveries forms i (drop i entries)) continuation before mid mid so_far.2
          (reaches-here IsJudgement (deliveries forms i (drop i entries)) continuation mid
          (λ (input : Input S E) (go : Input S E → SessionWork S B E).
          ap (λ (es : List E). deliveries forms i es input go) (drop_all i entries all) ∙ deliveries-none forms i input go)),
    )

-- The whole.

catch_up-is : {S B E : Type 0} (forms : Forms B E) (entries : List E) (input : Input S E) (go : Input S E → SessionWork S B E)
    → catch_up forms entries input go ≡ standing forms entries input
    (λ (count : ℕ) (rest : Input S E). deliveries forms count (drop count entries) rest go)
unfolding catch_up
catch_up-is forms entries input go = refl

pub caught_up : {S B E : Type 0} (IsJudgement : S → B → List ℕ → Judgement S E → Type 0) (forms : Forms B E) (entries : List E)
    (count : ℕ) (result : Result (Unit {0}) SessionStop) (before : Snapshot S E) (mid later : Option ConnectionModel)
    → RunsOnWire IsJudgement (standing forms entries) continuation_with (Ok count) before mid
    → ((now : Snapshot S E) → mid ≡ Some now.wire
    → RunsOnWire IsJudgement (deliveries forms count (drop count entries)) (λ (done : Unit {0}). continuation) result now later)
    → RunsOnWire IsJudgement (catch_up forms entries) (λ (done : Unit {0}). continuation) result before later
caught_up {S} {B} {E} IsJudgement forms entries count result before mid later f s =
    wire-then {H = ℕ → Input S E → SessionWork S B E} IsJudgement (standing forms entries) continuation_with
    (λ (go : Input S E → SessionWork S B E) (count : ℕ) (rest : Input S E). deliveries forms count (drop count entries) rest go)
    (catch_up forms entries) (λ (done : Unit {0}). continuation) count result before mid later (catch_up-is forms entries) f s

pub not_caught_up : {S B E : Type 0} (IsJudgement : S → B → List ℕ → Judgement S E → Type 0) (forms : Forms B E) (entries : List E)
    (why : SessionStop) (before : Snapshot S E) (later : Option ConnectionModel)
    → RunsOnWire IsJudgement (standing forms entries) continuation_with (Err why) before later
    → RunsOnWire {T = Unit {0}} IsJudgement (catch_up forms entries) (λ done. continuation) (Err why) before later
not_caught_up {S} {B} {E} IsJudgement forms entries why before later f =
    wire-fails {H = ℕ → Input S E → SessionWork S B E} {T = Unit {0}} IsJudgement (standing forms entries) continuation_with
    (λ (go : Input S E → SessionWork S B E) (count : ℕ) (rest : Input S E). deliveries forms count (drop count entries) rest go)
    (catch_up forms entries) (λ (done : Unit {0}). continuation) why before later (catch_up-is forms entries) f

-- Misses.

-- a connection on which a piece was run stands as before
pub stands_on : {S B E G T : Type 0} (IsJudgement : S → B → List ℕ → Judgement S E → Type 0) (work : Piece S B E G)
    (rest : T → Piece S B E G) (given : T) (before : Snapshot S E) (wire : Option ConnectionModel)
    → RunsOnWire IsJudgement work rest (Ok given) before wire
    → (mid : ConnectionModel) × (wire ≡ Some mid) × (mid.stands ≡ before.wire.stands)
stands_on IsJudgement work rest given before wire h =
    (h.0, h.1, ap (λ (w : ConnectionModel). w.stands) h.2.done.wire_is ∙ stands-after h.2.events before.wire)

-- a count of misses that stayed in one call, and then in another
pub stays_then : {S B E G T : Type 0} (IsJudgement : S → B → List ℕ → Judgement S E → Type 0) (work : Piece S B E G)
    (rest : T → Piece S B E G) (given : T) (state : S) (entries : List E) (first wire : Option ConnectionModel)
    (old now later : ℕ)
    → ((before : Snapshot S E) → first ≡ Some before.wire → RunsOnWire IsJudgement work rest (Ok given) before wire)
    → StaysWhereItStands first old now → StaysWhereItStands wire now later → StaysWhereItStands first old later
stays_then {S} {B} {E} IsJudgement work rest given state entries first wire old now later known stay again =
    stays_on first wire old now later
    (λ (w : ConnectionModel) is. stands_on IsJudgement work rest given (snapshot_of w None state entries) wire (known (snapshot_of w None state entries) is))
    stay again

pub delivered_stays : {S B E : Type 0} (IsJudgement : S → B → List ℕ → Judgement S E → Type 0) (forms : Forms B E) (entries : List E)
    (held i : ℕ) (state : S) (first wire : Option ConnectionModel) (old now later : ℕ)
    → DeliveredTo IsJudgement forms entries held i first wire → StaysWhereItStands first old now
    → StaysWhereItStands wire now later → StaysWhereItStands first old later
delivered_stays {S} {B} {E} IsJudgement forms entries held i state first wire old now later known stay again =
    stays_on first wire old now later
    (λ (w : ConnectionModel) is.
    let k = known (snapshot_of w None state entries) is in
    (k.0, k.1, ap (λ (m : ConnectionModel). m.stands) k.2.done.wire_is ∙ stands-after k.2.events w))
    stay again

-- some entry has the place, where there are so many
pub some_entry : {E : Type 0} (entries : List E) (i : ℕ) → i < length entries → (entry : E) × (slice_get entries i ≡ Some entry)
some_entry entries i within = let e = entry_at entries i within in (e.0, e.1)
