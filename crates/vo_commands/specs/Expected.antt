-- What a run of the program must print, by its words and by the files that it takes.
use Rattle.std.specs.Prelude.{◌≡◌, ◌⊎◌, ℕ, Bool, true, false, ◌==◌, nat_lt, if◌then◌else◌, List, [], ◌∷◌, ◌++◌, map, length, take, drop, codes, decimal, Option, Some, None, option_map, IsSome, IfSome, IsTrue, slice_index, Result, Ok}
use Rattle.std.specs.Option.{option_map_or}
use Rattle.std.specs.Str.{bytes_eq, is_utf8}
use Rattle.outside.specs.Shelf.{Files}
use Rattle.outside.specs.ConnectionModel.{ConnectionModel, open_next}
use Rattle.link_frames.specs.declared.awaits.Awaits.TheVariants.{Reply as ReplyAwaited}
use Rattle.link_frames.specs.declared.frame_kind.FrameKind.{FrameKind}
use Rattle.link_frames.specs.declared.frame_kind.FrameKind.TheVariants.{Query as QueryFrame, QueryAt as QueryAtFrame, Refusal}
use Rattle.link_frames.specs.Frames.{Coming, Whole, Ended, Cut, Bad, first_frame, frame_bytes}
use Rattle.link_frames.specs.Reading.{IsHalfAsked}
use Rattle.store_requests.specs.Bodies.{query_at_bytes}
use Rattle.outside.specs.Outputs.{Output, Writes, outside_failure}
use Rattle.vo_spec.specs.declared.signatures.OtsType.TheVariants.{W8}
use Rattle.vo_spec.specs.declared.tables.Batch.{Batch}
use Rattle.vo_spec.specs.declared.records.Entry.{Entry}
use Rattle.vo_spec.specs.declared.records.Record.{Record}
use Rattle.vo_spec.specs.declared.checks.Answer.{Answer as Accepted}
use Rattle.vo_spec.specs.declared.checks.CheckFault.{CheckFault}
use Rattle.vo_spec.specs.declared.checks.Verdict.{Verdict}
use Rattle.vo_spec.specs.declared.checks.Verdict.TheVariants.{Unsigned}
use Rattle.vo_spec.specs.declared.checks.AuditFault.{AuditFault}
use Rattle.vo_spec.specs.declared.signatures.Levels.{Levels}
use Rattle.vo_spec.specs.declared.signatures.Levels.TheVariants.{One, Two}
use Rattle.vo_spec.specs.Keys.{is_public_key}
use Rattle.vo_spec.specs.Secret.{Secret, secret_of, public_of_secret, lms_of_height, secret_leaves}
use Rattle.vo_spec.specs.Conditions.{Query}
use Rattle.vo_spec.specs.Journals.{IsJournal, journal_bytes}
use Rattle.vo_spec.specs.Replies.{Reply, max_reply}
use Rattle.vo_spec.specs.Honest.{seal_batches}
use Rattle.vo_spec.specs.Owners.{IsUnloadableAt}
use Rattle.vo_spec.specs.Checks.{CheckOf}
use Rattle.owner_roots.specs.Owners.{OwnedAuditOf}
use Rattle.lms_forge.specs.declared.explanation.Explanation.{Explanation}
use Rattle.lms_forge.specs.Explaining.{Explains as Explained}
use Rattle.lms_forge.specs.Forgeries.{forgery_of}
use Rattle.reply_meeting.specs.declared.meeting.Meeting.{Meeting}
use Rattle.reply_meeting.specs.declared.meeting.MeetFault.{MeetFault}
use Rattle.reply_meeting.specs.Meetings.{RepliesMeet}
use Rattle.owner_state.specs.declared.sealing.SealFault.{SealFault}
use Rattle.owner_state.specs.declared.sealing.SealFault.TheVariants as seal
use Rattle.owner_state.specs.Sealing.{commands_of, seal_fault}
use Rattle.vo_store.specs.Replying.{HasReply, HasReplyAt, IsNoVersion}
use Rattle.cli_args.specs.Shapes.{PlainShape}
use Rattle.cli_args.specs.PlainRequest.{PlainRequest, Keygen, Seal, Own, Answer, Serve, Check, Ask, Audit, Explain, Meet, Generate}
use Rattle.sql_text.specs.Scripts.{IsScript}
use Rattle.vo_commands.specs.Lines.{success, refusal_output, input_refusal, check_output, no_version, gen_output, audit_output, unsigned_output, unsigned_lines, explanation_lines, meet_output, bad_journal, command_output, spent_key, store_refusal, bad_frame, cut_off}
use Rattle.vo_commands.specs.Texts.{IsQueryText, IsRefusedQuery, IsRefusedScript}

-- These lines; or what is expected of the query or the script that a text is; or what a relation
-- allows: the journal of a script's batches, the reply to a query by a journal, what a client or an
-- auditor answers to one, or an auditor to the key's owner, what two replies are to each other, and
-- why no store of a journal serves connections; or, with no lines of its own, that an owner of a key
-- commits batches; or anything, where the network isn't known. A version may be asked for (`at`).
pub data Expected : Type 0 where
  Exactly : (output : Output) → Expected
  OfQuery : (text : List ℕ) (rest : Query → Expected) → Expected
  OfScript : (text : List ℕ) (rest : List Batch → Expected) → Expected
  Seals : (secret : Secret) (batches : List Batch) → Expected
  Replies : (key journal : List ℕ) (at : Option ℕ) (q : Query) → Expected
  Checks : (key : List ℕ) (at : Option ℕ) (least : ℕ) (q : Query) (reply : List ℕ) → Expected
  Audits : (key journal : List ℕ) (q : Query) (reply : List ℕ) → Expected
  Explains : (secret : Secret) (journal : List ℕ) (q : Query) (reply : List ℕ) → Expected
  Meets : (key : List ℕ) (q : Query) (first second : List ℕ) → Expected
  Serves : (key journal : List ℕ) (count : ℕ) → Expected
  Owns : (secret : Secret) (batches : List Batch) → Expected
  Anything : Expected

-- the reply of a store, where it isn't over the limit
abbrev pub reply_output : List ℕ → Output
reply_output bytes =
    if nat_lt max_reply (length bytes)
    then refusal_output 1 (codes "too large" ∷ decimal (length bytes) ∷ []) else success bytes

-- the journal, where the batches have no fault, or the first of these; want of memory is none
abbrev pub sealed_output : Option SealFault → List ℕ → Option Output
sealed_output None journal = Some (success journal)
sealed_output (Some seal.KeySpent) journal = Some spent_key
sealed_output (Some (seal.Command index fault)) journal = Some (command_output index fault)
sealed_output (Some seal.Memory) journal = None

-- the journal of a script's batches, or the first refusal
abbrev pub seal_output : Secret → List Batch → Option Output
seal_output secret batches =
    sealed_output (seal_fault (secret_leaves secret) ([] ∷ []) (commands_of batches))
    (journal_bytes (seal_batches secret (commands_of batches)))

-- what a store that has loaded the journal replies by the version that is asked for, or by the last
abbrev pub HasReplyFor : List ℕ → List ℕ → Option ℕ → Query → List ℕ → Type 0
HasReplyFor key journal None q bytes = HasReply key journal q bytes
HasReplyFor key journal (Some version) q bytes = HasReplyAt key journal version q bytes

-- or the version that is asked for is none of those from the oldest to the newest that it keeps
abbrev pub LacksVersion : List ℕ → List ℕ → Option ℕ → (version oldest newest : ℕ) → Type 0
LacksVersion key journal None version oldest newest = ⊥
LacksVersion key journal (Some wanted) version oldest newest =
    (version ≡ wanted) × IsNoVersion key journal wanted oldest newest

-- A store loads the journal's entries, or they fail at one.
abbrev pub IsStoreOutput : List ℕ → List ℕ → Option ℕ → Query → Output → Type 0
IsStoreOutput key journal at q output =
    ((index : ℕ) × IsUnloadableAt key journal index × (output ≡ bad_journal index))
    ⊎ ((bytes : List ℕ) × HasReplyFor key journal at q bytes × (output ≡ reply_output bytes))
    ⊎ ((version oldest newest : ℕ) × LacksVersion key journal at version oldest newest
    × (output ≡ no_version version oldest newest))

-- A journal of some entries fails at this one, for a store.
abbrev pub IsUnservableAt : List ℕ → List ℕ → ℕ → Type 0
IsUnservableAt key journal index =
    IsUnloadableAt key journal index × (IsJournal journal [] → ⊥)

abbrev pub records_of : List Entry → List Record
records_of es = map (λ (e : Entry). e.rec) es

-- What an audit says to the owner of this key, who has its seed: of a record that the journal lacks
-- also what explains that its signature is valid.
abbrev pub IsToldToOwner : Secret → List ℕ → Result Verdict AuditFault → Output → Type 0
IsToldToOwner secret journal (Ok (Unsigned rec signature last)) output =
    (es : List Entry) × IsJournal journal es × (found : Explanation)
    × Explained (forgery_of secret (records_of es) rec signature) found
    × (output ≡ unsigned_output (unsigned_lines rec signature last ++ explanation_lines found))
IsToldToOwner secret journal answer output = audit_output answer ≡ Some output

abbrev pub Allows : Expected → Output → Type 0
Allows (Exactly expected) output = output ≡ expected
Allows (OfQuery text rest) output =
    ((q : Query) × IsQueryText text q × Allows (rest q) output)
    ⊎ (((q : Query) → IsQueryText text q → ⊥) × IsRefusedQuery text output)
Allows (OfScript text rest) output =
    ((batches : List Batch) × IsScript text batches × Allows (rest batches) output)
    ⊎ (((batches : List Batch) → IsScript text batches → ⊥) × IsRefusedScript text output)
Allows (Seals secret batches) output = seal_output secret batches ≡ Some output
Allows (Replies key journal at q) output = IsStoreOutput key journal at q output
Allows (Checks key at least q reply) output =
    (answer : Result Accepted CheckFault) × CheckOf key least q reply answer
    × (check_output at answer ≡ Some output)
Allows (Audits key journal q reply) output =
    (answer : Result Verdict AuditFault) × OwnedAuditOf key journal q reply answer
    × (audit_output answer ≡ Some output)
Allows (Explains secret journal q reply) output =
    (answer : Result Verdict AuditFault)
    × OwnedAuditOf (public_of_secret secret) journal q reply answer
    × IsToldToOwner secret journal answer output
Allows (Meets key q first second) output =
    (met : Result (Reply × Reply × Meeting) MeetFault) × RepliesMeet key q first second met
    × (meet_output met ≡ Some output)
Allows (Serves key journal count) output =
    (index : ℕ) × IsUnservableAt key journal index × (output ≡ bad_journal index)
Allows (Owns secret batches) output = ⊥
Allows Anything output = Unit {0}

abbrev pub words_refusal : Output
words_refusal = input_refusal (codes "words" ∷ [])

-- the rest of the work on a file; an absent one fails, and one over its limit is refused
abbrev pub with_contents : Option (List ℕ) → List ℕ → ℕ → (List ℕ → Expected) → Expected
with_contents None name limit rest = Exactly outside_failure
with_contents (Some bytes) name limit rest =
    if nat_lt limit (length bytes) then Exactly (input_refusal (codes "file too long" ∷ name ∷ []))
    else rest bytes

abbrev pub with_file : Files → List ℕ → ℕ → (List ℕ → Expected) → Expected
with_file files name limit rest = with_contents (files name) name limit rest

-- a seed file: the identifier and the seed, 48 bytes
abbrev pub seed_limit : ℕ
seed_limit = 48

-- how many levels keys are made with: 1 or 2
abbrev pub levels_of_number : ℕ → Levels
levels_of_number n = if n == 2 then Two else One

-- the key of an identifier and a seed
abbrev pub secret_by : PlainShape → List ℕ → List ℕ → Secret
secret_by shape id seed =
    secret_of (levels_of_number shape.levels) id seed W8 (lms_of_height shape.height)

abbrev pub secret_in : List ℕ → PlainShape → Secret
secret_in bytes shape = secret_by shape (take 16 bytes) (take 32 (drop 16 bytes))

abbrev pub with_secret : PlainShape → (Secret → Expected) → List ℕ → Expected
with_secret shape rest bytes =
    if length bytes == seed_limit then rest (secret_in bytes shape)
    else Exactly (input_refusal (codes "seed file" ∷ decimal (length bytes) ∷ []))

abbrev pub with_seed : Files → List ℕ → PlainShape → (Secret → Expected) → Expected
with_seed files seed shape rest = with_file files seed seed_limit (with_secret shape rest)

abbrev pub keygen_expected : List ℕ → PlainShape → Files → Expected
keygen_expected seed shape files =
    with_seed files seed shape (λ secret. Exactly (success (public_of_secret secret)))

-- a key file: the 56 bytes of a public key of one level, or the 60 of one of two
abbrev pub key_limit : ℕ
key_limit = 64

abbrev pub with_public : (List ℕ → Expected) → List ℕ → Expected
with_public rest bytes =
    if is_public_key bytes then rest bytes else Exactly (input_refusal (codes "key file" ∷ []))

abbrev pub with_key : Files → List ℕ → (List ℕ → Expected) → Expected
with_key files key rest = with_file files key key_limit (with_public rest)

-- how many bytes scripts, journals and replies may have; a reply that is longer is refused by the
-- client
abbrev pub script_limit : ℕ
script_limit = 16777216

abbrev pub journal_limit : ℕ
journal_limit = 1073741824

abbrev pub reply_limit : ℕ
reply_limit = 67108865

abbrev pub with_text : (List ℕ → Expected) → List ℕ → Expected
with_text rest bytes =
    if is_utf8 bytes then rest bytes else Exactly (input_refusal (codes "not text" ∷ []))

-- of a script's bytes
abbrev pub script_expected : Secret → List ℕ → Expected
script_expected secret =
    with_text (λ text. OfScript text (Seals secret))

-- the rest of the work on the body of an answer, which a refusal is not
abbrev pub with_body : FrameKind → List ℕ → (List ℕ → Expected) → Expected
with_body Refusal body rest = Exactly (store_refusal (slice_index body 0))
with_body _ body rest = rest body

-- on the answer that comes first; a peer that ends before it has cut it off
abbrev pub with_answer : Coming → (List ℕ → Expected) → Expected
with_answer (Whole kind body) rest = with_body kind body rest
with_answer Ended rest = Exactly (cut_off 0)
with_answer (Cut got) rest = Exactly (cut_off got)
with_answer (Bad length taken) rest = Exactly (bad_frame length)

-- on the first of the connections to come, where these are known, each by the bytes to come on it;
-- without one it fails
abbrev pub with_connection : Option (List (List ℕ)) → (List ℕ → Expected) → Expected
with_connection None rest = Anything
with_connection (Some []) rest = Exactly outside_failure
with_connection (Some (coming ∷ queue)) rest = rest coming

-- on the reply that a store sends there
abbrev pub with_reply : Option (List (List ℕ)) → (List ℕ → Expected) → Expected
with_reply queue rest =
    with_connection queue (λ coming. with_answer (first_frame ReplyAwaited coming) rest)

-- What each command comes to, the files in the order of its words, a query at its place and the
-- network behind them.

abbrev pub seal_expected : List ℕ → List ℕ → PlainShape → Files → Expected
seal_expected seed script shape files =
    with_seed files seed shape (λ secret. with_file files script script_limit
    (script_expected secret))

abbrev pub answer_expected : List ℕ → List ℕ → List ℕ → Option ℕ → Files → Expected
answer_expected key journal query at files =
    with_key files key (λ k. with_file files journal journal_limit
    (λ j. OfQuery query (λ q. Replies k j at q)))

abbrev pub check_expected : List ℕ → List ℕ → List ℕ → ℕ → Files → Expected
check_expected key query reply least files =
    with_key files key
    (λ k. OfQuery query (λ q. with_file files reply reply_limit (λ r. Checks k None least q r)))

abbrev pub ask_expected : List ℕ → List ℕ → Option ℕ → ℕ → Files → Option (List (List ℕ))
    → Expected
ask_expected key query at least files queue =
    with_key files key (λ k. OfQuery query (λ q. with_reply queue (λ r. Checks k at least q r)))

abbrev pub audit_expected : List ℕ → List ℕ → List ℕ → List ℕ → Files → Expected
audit_expected key journal query reply files =
    with_key files key (λ k. with_file files journal journal_limit (λ j. OfQuery query (λ q.
    with_file files reply reply_limit (λ r. Audits k j q r))))

-- an audit by the seed of this key, which another key's seed is refused for
abbrev pub with_same_key : List ℕ → (Secret → Expected) → Secret → Expected
with_same_key key rest secret =
    if bytes_eq (public_of_secret secret) key then rest secret
    else Exactly (input_refusal (codes "seed of another key" ∷ []))

abbrev pub explain_expected : (key journal query reply seed : List ℕ) → PlainShape → Files
    → Expected
explain_expected key journal query reply seed shape files =
    with_key files key (λ k. with_file files journal journal_limit (λ j. OfQuery query (λ q.
    with_file files reply reply_limit (λ r. with_seed files seed shape
    (with_same_key k (λ secret. Explains secret j q r))))))

abbrev pub meet_expected : List ℕ → List ℕ → List ℕ → List ℕ → Files → Expected
meet_expected key query first second files =
    with_key files key (λ k. OfQuery query (λ q. with_file files first reply_limit (λ r.
    with_file files second reply_limit (λ s. Meets k q r s))))

-- where the files are known, if it takes some; what `own` and `serve` come to is told apart, since
-- they write as they work
abbrev pub command_expected : PlainRequest → Option Files → Option (List (List ℕ))
    → Option Expected
command_expected (Keygen seed shape) files queue = option_map (keygen_expected seed shape) files
command_expected (Seal seed script shape) files queue =
    option_map (seal_expected seed script shape) files
command_expected (Own seed address script shape) files queue = None
command_expected (Answer key journal query at) files queue =
    option_map (answer_expected key journal query at) files
command_expected (Serve address key journal count) files queue = None
command_expected (Check key query reply least) files queue =
    option_map (check_expected key query reply least) files
command_expected (Ask address key query at least) files queue =
    option_map (λ files. ask_expected key query at least files queue) files
command_expected (Audit key journal query reply) files queue =
    option_map (audit_expected key journal query reply) files
command_expected (Explain key journal query reply seed shape) files queue =
    option_map (explain_expected key journal query reply seed shape) files
command_expected (Meet key query first second) files queue =
    option_map (meet_expected key query first second) files
command_expected (Generate steps number) files queue = Some (Exactly (gen_output steps number))

-- the connections to come, where they are known
abbrev pub queue_of : Option ConnectionModel → Option (List (List ℕ))
queue_of wire = option_map (λ before. before.queue) wire

-- what is expected of the words
abbrev pub expected_of : Option PlainRequest → Option Files → Option (List (List ℕ))
    → Option Expected
expected_of None files queue = Some (Exactly words_refusal)
expected_of (Some request) files queue = command_expected request files queue

-- A command may make no connection and leave the network; or, where it is good for this, it makes
-- one. There it puts a frame, or a front of it, and takes bytes only once all of the frame was put,
-- and none behind the answer that comes first.
abbrev pub AsksWhere : Type 0 → List ℕ → ConnectionModel → Option ConnectionModel → Type 0
AsksWhere Good frame before after = (after ≡ Some before)
    ⊎ (Good × IsHalfAsked frame (first_frame ReplyAwaited (open_next before).coming)
    (open_next before) after)

-- the same of any command
abbrev pub AsksOnly : List ℕ → ConnectionModel → Option ConnectionModel → Type 0
AsksOnly frame before after = AsksWhere (Unit {0}) frame before after

-- a file of this name, if the files are known, is a public key
abbrev pub IsKeyFile : List ℕ → Option Files → Type 0
IsKeyFile name files = IfSome files
    (λ known. (key : List ℕ) × (known name ≡ Some key) × IsTrue (is_public_key key))

-- the frame that asks for the reply to a query, given as text: of a version, if one is asked for
abbrev pub question_frame : Option ℕ → List ℕ → List ℕ
question_frame None text = frame_bytes QueryFrame text
question_frame (Some version) text = frame_bytes QueryAtFrame (query_at_bytes version text)

-- the text is a query
abbrev pub HasQuery : List ℕ → Type 0
HasQuery text = (q : Query) × IsQueryText text q

-- what a command but `own` and `serve` does on the network: it asks its query, if that is one and
-- the key is one, or does nothing
abbrev pub UsesNet : Option PlainRequest → Option Files → ConnectionModel → Option ConnectionModel
    → Type 0
UsesNet (Some (Own seed address script shape)) files before after = Unit {0}
UsesNet (Some (Serve address key journal count)) files before after = Unit {0}
UsesNet (Some (Ask address key query at least)) files before after =
    AsksWhere (IsKeyFile key files × HasQuery query) (question_frame at query) before after
UsesNet _ files before after = after ≡ Some before

-- a command that makes or takes connections
abbrev pub uses_net : Option PlainRequest → Bool
uses_net (Some (Own seed address script shape)) = true
uses_net (Some (Serve address key journal count)) = true
uses_net (Some (Ask address key query at least)) = true
uses_net _ = false

-- a command that writes as it works
abbrev pub writes_as_it_works : Option PlainRequest → Bool
writes_as_it_works (Some (Own seed address script shape)) = true
writes_as_it_works (Some (Serve address key journal count)) = true
writes_as_it_works _ = false

-- a command that goes on where a connection fails
abbrev pub is_service : Option PlainRequest → Bool
is_service (Some (Serve address key journal count)) = true
is_service _ = false

-- a command that appends to the owner's journal
abbrev pub uses_disk : Option PlainRequest → Bool
uses_disk (Some (Own seed address script shape)) = true
uses_disk _ = false

-- how many connections at most
abbrev pub connections_of : Option PlainRequest → ℕ
connections_of (Some (Own seed address script shape)) = 1
connections_of (Some (Serve address key journal count)) = count
connections_of (Some (Ask address key query at least)) = 1
connections_of _ = 0

-- A run ends with an expected output, or the outside failed, or memory ran out.
abbrev pub Ends : Expected → Type 0 → Type 0 → ℕ → Option (List ℕ) → Option (List ℕ) → Type 0
Ends expected outside_rose out_rose status before after =
    ((status ≡ 4) × (after ≡ before))
    ⊎ ((output : Output) × Allows expected output × Writes output out_rose status before after)
    ⊎ (outside_rose × Writes outside_failure out_rose status before after)

-- the files that the words name
abbrev pub files_of_request : PlainRequest → List (List ℕ)
files_of_request (Keygen seed shape) = seed ∷ []
files_of_request (Seal seed script shape) = seed ∷ script ∷ []
files_of_request (Own seed address script shape) = seed ∷ script ∷ []
files_of_request (Answer key journal query at) = key ∷ journal ∷ []
files_of_request (Serve address key journal count) = key ∷ journal ∷ []
files_of_request (Check key query reply least) = key ∷ reply ∷ []
files_of_request (Ask address key query at least) = key ∷ []
files_of_request (Audit key journal query reply) = key ∷ journal ∷ reply ∷ []
files_of_request (Explain key journal query reply seed shape) =
    key ∷ journal ∷ reply ∷ seed ∷ []
files_of_request (Meet key query first second) = key ∷ first ∷ second ∷ []
files_of_request (Generate steps number) = []

-- what their files come to, whatever the network and the disk do
abbrev pub files_expected : PlainRequest → Files → Expected
files_expected (Keygen seed shape) files = keygen_expected seed shape files
files_expected (Seal seed script shape) files = seal_expected seed script shape files
files_expected (Own seed address script shape) files =
    with_seed files seed shape (λ _. with_file files script script_limit (λ _. Anything))
files_expected (Answer key journal query at) files = answer_expected key journal query at files
files_expected (Serve address key journal count) files =
    with_key files key (λ _. with_file files journal journal_limit (λ _. Anything))
files_expected (Check key query reply least) files = check_expected key query reply least files
files_expected (Ask address key query at least) files = with_key files key (λ _. Anything)
files_expected (Audit key journal query reply) files =
    audit_expected key journal query reply files
files_expected (Explain key journal query reply seed shape) files =
    explain_expected key journal query reply seed shape files
files_expected (Meet key query first second) files = meet_expected key query first second files
files_expected (Generate steps number) files = Exactly (gen_output steps number)

abbrev pub words_expected : Option PlainRequest → Files → Expected
words_expected None files = Exactly words_refusal
words_expected (Some request) files = files_expected request files

abbrev pub file_words : Option PlainRequest → List (List ℕ)
file_words request = option_map_or files_of_request request []

-- each of these is there
abbrev pub HoldsEach : Files → List (List ℕ) → Type 0
HoldsEach files [] = Unit {0}
HoldsEach files (name ∷ names) = IsSome (files name) × HoldsEach files names
