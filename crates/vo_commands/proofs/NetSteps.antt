-- Work on the reply of a store over a network.
use Rattle.std.proofs.Common.{◌≡◌, ℕ, List, [], ◌∷◌, ◌++◌, length, Option, Some, None, Result, Ok, Err, refl, sym, ap, ◌∙◌, subst, arith}
use mathlib.Core.Logic.{inl, inr}
use Rattle.std.specs.Prelude.{Bool, true, false, cond, codes, IfSome, IsTrue, nat_lt, slice_index, slice_index_or, option_map}
use Rattle.outside.specs.Shelf.{Files}
use Rattle.outside.specs.ConnectionModel.{ConnectionModel, open_next, has_next, send_on}
use Rattle.link_frames.specs.declared.awaits.Awaits.TheVariants.{Reply}
use Rattle.link_frames.specs.declared.frame_kind.FrameKind.{FrameKind}
use Rattle.link_frames.specs.declared.frame_kind.FrameKind.TheVariants as kind
use Rattle.link_frames.specs.Frames.{Coming, Whole, Ended, Cut, Bad, span, first_frame}
use Rattle.link_frames.specs.Reading.{IsHalfAsked, Took}
use Rattle.outside.specs.Outputs.{Output}
use Rattle.connections.specs.declared.wire_fault.WireFault.{WireFault}
use Rattle.connections.specs.declared.wire_fault.WireFault.TheVariants as fault
use Rattle.connections.specs.Requesting.{body_of, answer_in}
use Rattle.connections.specs.Fetching.{Fetches}
use Rattle.vo_check.specs.Checkings.{CheckingModel, with_piece}
use Rattle.vo_spec.specs.Keys.{is_public_key}
use Rattle.vo_commands.specs.declared.report.Report.{Report}
use Rattle.vo_commands.specs.declared.report.Stop.{Stop}
use Rattle.vo_commands.specs.declared.report.Stop.TheVariants.{Refused, Outside, Memory}
use Rattle.vo_commands.specs.Lines.{store_refusal, bad_frame, cut_off, input_refusal}
use Rattle.vo_commands.specs.Expected.{Anything, AsksOnly, AsksWhere, Exactly, Expected, IsKeyFile, key_limit, queue_of, with_answer, with_body, with_connection, with_contents, with_key, with_public, with_reply}
use Rattle.vo_commands.specs.Reports.{Answers, GoesOn, StopsWithout, output_of}

body_goes : (k : FrameKind) (body bytes : List ℕ) → body_of k body ≡ Ok bytes → (rest : List ℕ → Expected) → with_body k body rest ≡ rest bytes
body_goes kind.Query body bytes e rest = let same : body ≡ bytes = cc in ap rest same
body_goes kind.Status body bytes e rest = let same : body ≡ bytes = cc in ap rest same
body_goes kind.Propose body bytes e rest = let same : body ≡ bytes = cc in ap rest same
body_goes kind.Install body bytes e rest = let same : body ≡ bytes = cc in ap rest same
body_goes kind.QueryAt body bytes e rest = let same : body ≡ bytes = cc in ap rest same
body_goes kind.Reply body bytes e rest = let same : body ≡ bytes = cc in ap rest same
body_goes kind.Standing body bytes e rest = let same : body ≡ bytes = cc in ap rest same
body_goes kind.Proofs body bytes e rest = let same : body ≡ bytes = cc in ap rest same
body_goes kind.Installed body bytes e rest = let same : body ≡ bytes = cc in ap rest same
body_goes kind.Refusal body bytes e rest = absurd (cc)

-- a body has no fault but a refusal
body_stops : (k : FrameKind) (body : List ℕ) (why : WireFault) → body_of k body ≡ Err why
    → (why ≡ fault.Refused (slice_index body 0)) × ((rest : List ℕ → Expected) → with_body k body rest ≡ Exactly (store_refusal (slice_index body 0)))
body_stops kind.Query body why e = absurd (cc)
body_stops kind.Status body why e = absurd (cc)
body_stops kind.Propose body why e = absurd (cc)
body_stops kind.Install body why e = absurd (cc)
body_stops kind.QueryAt body why e = absurd (cc)
body_stops kind.Reply body why e = absurd (cc)
body_stops kind.Standing body why e = absurd (cc)
body_stops kind.Proofs body why e = absurd (cc)
body_stops kind.Installed body why e = absurd (cc)
body_stops kind.Refusal body why e = (let same : why ≡ fault.Refused (slice_index body 0) = cc in same, λ rest. refl)

answer_goes : (first : Coming) (bytes : List ℕ) → answer_in first ≡ Ok bytes → (rest : List ℕ → Expected) → with_answer first rest ≡ rest bytes
unfolding answer_in
answer_goes (Whole k body) bytes e rest = body_goes k body bytes e rest
answer_goes Ended bytes e rest = absurd (cc)
answer_goes (Cut got) bytes e rest = absurd (cc)
answer_goes (Bad size taken) bytes e rest = absurd (cc)

-- what is printed where there is no answer
abbrev Says : WireFault → Output → Type 0
Says (fault.Refused code) output = output ≡ store_refusal code
Says (fault.BadFrame size) output = output ≡ bad_frame size
Says (fault.Cut got) output = output ≡ cut_off got
Says _ output = Unit {0}

said : (why due : WireFault) (output : Output) → why ≡ due → Says why output → Says due output
said why due output e says = subst (λ w. Says w output) e says

answer_stops : (first : Coming) (why : WireFault) → answer_in first ≡ Err why → (output : Output) → Says why output → (rest : List ℕ → Expected) → with_answer first rest ≡ Exactly output
unfolding answer_in
answer_stops (Whole k body) why e output says rest =
    let stops = body_stops k body why e in
    stops.1 rest ∙ ap Exactly (sym (said why (fault.Refused (slice_index body 0)) output stops.0 says))
answer_stops Ended why e output says rest =
    let same : why ≡ fault.Cut 0 = cc in ap Exactly (sym (said why (fault.Cut 0) output same says))
answer_stops (Cut got) why e output says rest =
    let same : why ≡ fault.Cut got = cc in ap Exactly (sym (said why (fault.Cut got) output same says))
answer_stops (Bad size taken) why e output says rest =
    let same : why ≡ fault.BadFrame size = cc in ap Exactly (sym (said why (fault.BadFrame size) output same says))

-- the first of the connections to come
on_first : (before : ConnectionModel) → IsTrue (has_next before) → (rest : List ℕ → Expected)
    → with_connection (Some before.queue) rest ≡ rest (open_next before).coming
on_first before has rest = step before.queue has
  where
    step : (queue : List (List ℕ)) → IsTrue (nat_lt 0 (length queue)) → with_connection (Some queue) rest ≡ rest (slice_index_or queue 0 [])
    step [] has = absurd (cc)
    step (coming ∷ queue) has = refl

-- a check was fed with the reply that was fetched
abbrev pub Feeds : CheckingModel → CheckingModel → List ℕ → Result (Unit {0}) WireFault → ConnectionModel → Option ConnectionModel → Type 0
Feeds old new frame r before after = Fetches (λ reply. new ≡ with_piece old reply) frame r before after

pub reply_goes : (frame : List ℕ) (old new : CheckingModel) (before : ConnectionModel) (after : Option ConnectionModel) → old.bytes ≡ []
    → Feeds old new frame (Ok tt) before after → (rest : List ℕ → Expected) → with_reply (Some before.queue) rest ≡ rest new.bytes
reply_goes frame old new before after none (inl fails) rest = absurd (cc)
reply_goes frame old new before after none (inr asked) rest =
    let fed : new.bytes ≡ asked.1.0 = ap (λ (c : CheckingModel). c.bytes) asked.1.1 ∙ ap (λ (bytes : List ℕ). bytes ++ asked.1.0) none in
    on_first before asked.0 (λ coming. with_answer (first_frame Reply coming) rest)
    ∙ answer_goes (first_frame Reply (open_next before).coming) asked.1.0 asked.1.2.0 rest
    ∙ ap rest (sym fed)

says_why : (frame : List ℕ) (why : WireFault) (before : ConnectionModel) (after : Option ConnectionModel) (output : Output)
    → answer_in (first_frame Reply (open_next before).coming) ≡ Err why → IsTrue (has_next before) → Says why output
    → (rest : List ℕ → Expected) → with_reply (Some before.queue) rest ≡ Exactly output
says_why frame why before after output e has says rest =
    on_first before has (λ coming. with_answer (first_frame Reply coming) rest)
    ∙ answer_stops (first_frame Reply (open_next before).coming) why e output says rest

pub reply_stops : (frame : List ℕ) (old new : CheckingModel) (why : WireFault) (before : ConnectionModel) (after : Option ConnectionModel) (stop : Stop)
    → Feeds old new frame (Err why) before after → StopsWithout why stop
    → GoesOn {A = Unit {0}} (λ _. new.bytes) (with_reply (Some before.queue)) (Err stop)
reply_stops frame old new why before after Outside fetches stops = tt
reply_stops frame old new why before after Memory fetches stops = tt
reply_stops frame old new (fault.Refused code) before after (Refused report) (inl fails) stops = absurd (cc)
reply_stops frame old new (fault.Refused code) before after (Refused report) (inr asked) stops =
    says_why frame (fault.Refused code) before after (output_of report) asked.1.2.0 asked.0 stops
reply_stops frame old new (fault.BadFrame size) before after (Refused report) (inl fails) stops = absurd (cc)
reply_stops frame old new (fault.BadFrame size) before after (Refused report) (inr asked) stops =
    says_why frame (fault.BadFrame size) before after (output_of report) asked.1.2.0 asked.0 stops
reply_stops frame old new (fault.Cut got) before after (Refused report) (inl fails) stops = absurd (cc)
reply_stops frame old new (fault.Cut got) before after (Refused report) (inr asked) stops =
    says_why frame (fault.Cut got) before after (output_of report) asked.1.2.0 asked.0 stops
reply_stops frame old new fault.LinkFault before after (Refused report) fetches stops = absurd (cc)
reply_stops frame old new fault.Memory before after (Refused report) fetches stops = absurd (cc)

took_all : (frame : List ℕ) (before : ConnectionModel) (after : Option ConnectionModel)
    → Took (span (first_frame Reply (open_next before).coming)) (send_on frame (open_next before)) after
    → IsHalfAsked frame (first_frame Reply (open_next before).coming) (open_next before) after
took_all frame before after took = inr (span (first_frame Reply (open_next before).coming), omega arith, took)

pub asks_only : (frame : List ℕ) (old new : CheckingModel) (r : Result (Unit {0}) WireFault) (before : ConnectionModel) (after : Option ConnectionModel)
    → Feeds old new frame r before after → AsksOnly frame before after
asks_only frame old new r before after (inl fails) = inl fails.1
asks_only frame old new (Ok done) before after (inr asked) = inr (tt, took_all frame before after asked.1.2.1)
asks_only frame old new (Err (fault.Refused code)) before after (inr asked) = inr (tt, took_all frame before after asked.1.2.1)
asks_only frame old new (Err (fault.BadFrame size)) before after (inr asked) = inr (tt, took_all frame before after asked.1.2.1)
asks_only frame old new (Err (fault.Cut got)) before after (inr asked) = inr (tt, took_all frame before after asked.1.2.1)
asks_only frame old new (Err fault.LinkFault) before after (inr asked) = inr (tt, asked.1.2)
asks_only frame old new (Err fault.Memory) before after (inr asked) = inr (tt, asked.1.2)

-- a command that is good for it has asked
pub asks_where : (Good : Type 0) (frame : List ℕ) (before : ConnectionModel) (after : Option ConnectionModel) → Good → AsksOnly frame before after
    → AsksWhere Good frame before after
asks_where Good frame before after good (inl still) = inl still
asks_where Good frame before after good (inr asked) = inr (good, asked.1)

-- where the rest goes on with a key, there is a file, and it is the key
key_there : (long public : Bool) (bytes key : List ℕ) (too_long no_key : Output)
    → ((rest : List ℕ → Expected) → cond long (Exactly too_long) (cond public (rest bytes) (Exactly no_key)) ≡ rest key) → IsTrue public
key_there true public bytes key too_long no_key goes = absurd (cc (goes (λ x. Anything)))
key_there false true bytes key too_long no_key goes = refl
key_there false false bytes key too_long no_key goes = absurd (cc (goes (λ x. Anything)))

key_in : (contents : Option (List ℕ)) (name key : List ℕ)
    → ((rest : List ℕ → Expected) → with_contents contents name key_limit (with_public rest) ≡ rest key)
    → (bytes : List ℕ) × (contents ≡ Some bytes) × IsTrue (is_public_key bytes)
key_in None name key goes = absurd (cc (goes (λ x. Anything)))
key_in (Some bytes) name key goes = (
  bytes,
  refl,
  key_there (nat_lt key_limit (length bytes)) (is_public_key bytes) bytes key
      (input_refusal (codes "file too long" ∷ name ∷ [])) (input_refusal (codes "key file" ∷ [])) goes,
)

abbrev KeyGoes : List ℕ → List ℕ → Files → Type 0
KeyGoes name key known = (rest : List ℕ → Expected) → with_key known name rest ≡ rest key

key_file : (name key : List ℕ) (o : Option Files) → IfSome o (KeyGoes name key) → IsKeyFile name o
key_file name key None goes = tt
key_file name key (Some known) goes = key_in (known name) name key goes

-- the same of a command whose key was taken from a file
pub asks_by_key : (name key : List ℕ) (Good : Type 0) (frame : List ℕ) (o : Option Files) (before : ConnectionModel)
    (after : Option ConnectionModel) → IfSome o (KeyGoes name key) → AsksWhere Good frame before after
    → AsksWhere (IsKeyFile name o × Good) frame before after
asks_by_key name key Good frame o before after goes (inl still) = inl still
asks_by_key name key Good frame o before after goes (inr asked) = inr ((key_file name key o goes, asked.0), asked.1)

-- where the network isn't known, anything is an answer
anything : (r : Result Report Stop) → Answers Anything r
anything (Ok report) = tt
anything (Err (Refused report)) = tt
anything (Err Outside) = tt
anything (Err Memory) = tt

pub reply_known : (o : Option ConnectionModel) (rest : List ℕ → Expected) (r : Result Report Stop)
    → ((before : ConnectionModel) → o ≡ Some before → Answers (with_reply (Some before.queue) rest) r)
    → Answers (with_reply (queue_of o) rest) r
reply_known None rest r known = anything r
reply_known (Some before) rest r known = known before refl

-- What is expected of a command by the files.

pub by_files : {A : Type 0} (expected : A → Expected) (P : Expected → Type 0) (files : Option A) → IfSome files (λ known. P (expected known)) → IfSome (option_map expected files) P
by_files expected P None h = tt
by_files expected P (Some known) h = h
