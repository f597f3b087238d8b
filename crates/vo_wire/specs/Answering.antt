-- What a store answers to the requests of a connection, and how it goes on.
use Rattle.std.specs.Prelude.{ℕ, ◌+◌, ◌==◌, ◌<◌, ◌^◌, if◌then◌else◌, List, [], ◌∷◌, length, Option, Some, None, IfSome, option_map, Result, Ok, Err}
use Rattle.std.specs.Option.{option_map_or}
use Rattle.vo_spec.specs.declared.records.Record.{Record}
use Rattle.vo_spec.specs.declared.tables.Command.{Command}
use Rattle.vo_spec.specs.Bytes.{u64_bytes}
use Rattle.vo_spec.specs.Conditions.{Query}
use Rattle.batch_format.specs.BatchReading.{batch_of}
use Rattle.link_frames.specs.declared.frame.Frame.{Frame}
use Rattle.link_frames.specs.declared.frame_kind.FrameKind.{FrameKind}
use Rattle.link_frames.specs.declared.frame_kind.FrameKind.TheVariants as kind
use Rattle.store_requests.specs.Bodies.{install_in, standing_bytes, query_at_in}
use Rattle.store_requests.specs.Texts.{query_in}
use Rattle.vo_store.specs.declared.fault.StoreFault.{StoreFault}
use Rattle.vo_store.specs.declared.fault.StoreFault.TheVariants as fault
use Rattle.vo_store.specs.declared.signed_record.SignedRecord.{SignedRecord}
use Rattle.vo_store.specs.StoreState.{StoreState}
use Rattle.vo_store.specs.Calls.{answer_of, answer_at_of, proposal_of, install_of}

-- Answers.

-- the kind of the frame and its body
abbrev pub KindAndBody : Type 0
KindAndBody = FrameKind × List ℕ

abbrev pub frame_answer : Option Frame → Option KindAndBody
frame_answer answer = option_map (λ (frame : Frame). (frame.kind, frame.body.items)) answer

-- an answer that is not too long for a frame
abbrev pub FitsFrame : Option Frame → Type 0
FitsFrame answer = IfSome answer (λ (frame : Frame). length frame.body.items + 1 < 2 ^ 32)

abbrev pub refusal_answer : ℕ → KindAndBody
refusal_answer code = (kind.Refusal, code ∷ [])

-- the text is no query
abbrev pub no_query : ℕ
no_query = 1

-- why a store refuses, as a code; a refused command and want of memory have none
abbrev pub code_of : StoreFault → ℕ
code_of fault.Empty = 2
code_of (fault.TooLarge size) = 3
code_of fault.NothingProposed = 4
code_of (fault.WrongRecord want got) = 5
code_of fault.BadSignature = 6
code_of (fault.NoVersion version oldest newest) = 7
code_of (fault.Command index why proofs) = 0
code_of fault.Memory = 0

-- of those that are told: all but want of memory
abbrev pub told_code : StoreFault → Option ℕ
told_code fault.Memory = None
told_code why = Some (code_of why)

-- Queries.

abbrev pub reply_answer : Result (List ℕ) StoreFault → KindAndBody
reply_answer (Ok reply) = (kind.Reply, reply)
reply_answer (Err why) = refusal_answer (code_of why)

-- the store's answer by the version that it stands at, or by this one
abbrev pub answer_by : StoreState → Option ℕ → Query → Result (List ℕ) StoreFault
answer_by s None q = answer_of s q
answer_by s (Some version) q = answer_at_of s version q

abbrev pub query_answer : StoreState → Option ℕ → Option Query → KindAndBody
query_answer s at None = refusal_answer no_query
query_answer s at (Some q) = reply_answer (answer_by s at q)

-- a version and a text
abbrev pub query_at_answer : StoreState → ℕ × List ℕ → KindAndBody
query_at_answer s asked = query_answer s (Some asked.0) (query_in asked.1)

-- Status.

abbrev pub standing_of : StoreState → Option Record
standing_of s = option_map (λ (e : SignedRecord). e.rec) s.installed

abbrev pub status_answer : StoreState → List ℕ → Option KindAndBody
status_answer s body =
    if length body == 0 then Some (kind.Standing, standing_bytes (standing_of s)) else None

-- Proposals. Where a command is refused the proofs are the answer too, since an owner finds the
-- refusal by them.

abbrev pub proofs_answer : Result (StoreState × List ℕ) StoreFault → KindAndBody
proofs_answer (Ok proposal) = (kind.Proofs, proposal.1)
proofs_answer (Err (fault.Command index why proofs)) = (kind.Proofs, proofs)
proofs_answer (Err why) = refusal_answer (code_of why)

-- the store goes on to what the call gave, or stays
abbrev pub store_after : {X : Type 0} → (X → StoreState) → StoreState → Result X StoreFault
    → StoreState
store_after view s (Ok x) = view x
store_after view s (Err why) = s

abbrev pub proposal_answer : StoreState → List Command → KindAndBody
proposal_answer s commands = proofs_answer (proposal_of s commands)

abbrev pub after_proposal : StoreState → List Command → StoreState
after_proposal s commands = store_after (λ proposal. proposal.0) s (proposal_of s commands)

-- Installs.

-- the version that is installed, as eight bytes
abbrev pub version_answer : ℕ → Result StoreState StoreFault → KindAndBody
version_answer version (Ok next) = (kind.Installed, u64_bytes version)
version_answer version (Err why) = refusal_answer (code_of why)

abbrev pub install_answer : StoreState → Record × List ℕ → KindAndBody
install_answer s signed = version_answer signed.0.version (install_of s signed.0 signed.1)

abbrev pub after_install : StoreState → Record × List ℕ → StoreState
after_install s signed = store_after (λ next. next) s (install_of s signed.0 signed.1)

-- All requests.

-- none where the body is none of its kind
unfoldable pub reply_to : StoreState → FrameKind → List ℕ → Option KindAndBody
reply_to s kind.Query body = Some (query_answer s None (query_in body))
reply_to s kind.Status body = status_answer s body
reply_to s kind.Propose body = option_map (proposal_answer s) (batch_of body)
reply_to s kind.Install body = option_map (install_answer s) (install_in body)
reply_to s kind.QueryAt body = option_map (query_at_answer s) (query_at_in body)
reply_to s _ body = None

-- the store after a request that is answered
unfoldable pub next_after : StoreState → FrameKind → List ℕ → StoreState
next_after s kind.Propose body = option_map_or (after_proposal s) (batch_of body) s
next_after s kind.Install body = option_map_or (after_install s) (install_in body) s
next_after s _ body = s
