-- The output of the program: a status, and lines of text.
use Rattle.std.specs.Prelude.{ℕ, List, [], ◌∷◌, ◌++◌, map, flat_map, length, codes, decimal, ◌==◌, if◌then◌else◌, true, false, Option, Some, None, option_map, Result, Ok, Err}
use Rattle.std.specs.Fmt.{signed_decimal}
use Rattle.hex.specs.Hex.{encode_lower}
use Rattle.outside.specs.Outputs.{Output, line}
use Rattle.vo_spec.specs.declared.values.Value.{Value}
use Rattle.vo_spec.specs.declared.values.Value.TheVariants.{Null, Int, Text, Bool as Truth}
use Rattle.vo_spec.specs.declared.queries.QueryFault.{QueryFault}
use Rattle.vo_spec.specs.declared.queries.QueryFault.TheVariants as query
use Rattle.vo_spec.specs.declared.queries.Outcome.{Outcome}
use Rattle.vo_spec.specs.declared.queries.Outcome.TheVariants.{Rows, Wrong}
use Rattle.vo_spec.specs.declared.tables.CommandFault.{CommandFault}
use Rattle.vo_spec.specs.declared.tables.CommandFault.TheVariants as command
use Rattle.vo_spec.specs.declared.records.Record.{Record}
use Rattle.vo_spec.specs.declared.checks.Answer.{Answer}
use Rattle.vo_spec.specs.declared.checks.CheckFault.{CheckFault}
use Rattle.vo_spec.specs.declared.checks.CheckFault.TheVariants as check
use Rattle.vo_spec.specs.declared.checks.Verdict.{Verdict}
use Rattle.vo_spec.specs.declared.checks.Verdict.TheVariants.{Unsigned, Exact, Collides}
use Rattle.vo_spec.specs.declared.checks.AuditFault.{AuditFault}
use Rattle.vo_spec.specs.declared.checks.AuditFault.TheVariants as audit
use Rattle.reply_meeting.specs.declared.meeting.Meeting.{Meeting}
use Rattle.reply_meeting.specs.declared.meeting.Meeting.TheVariants as meeting
use Rattle.reply_meeting.specs.declared.meeting.MeetFault.{MeetFault}
use Rattle.reply_meeting.specs.declared.meeting.MeetFault.TheVariants.{First, Second, Memory}
use Rattle.owner_roots.specs.declared.owner_fault.OwnerFault.{OwnerFault}
use Rattle.owner_roots.specs.declared.owner_fault.OwnerFault.TheVariants as owner
use Rattle.sql_text.specs.declared.faults.SqlFault.{SqlFault}
use Rattle.sql_text.specs.declared.faults.SqlFault.TheVariants as sql
use Rattle.lms_forge.specs.declared.explanation.Explanation.{Explanation}
use Rattle.lms_forge.specs.declared.explanation.Explanation.TheVariants as explanation
use Rattle.vo_spec.specs.Records.{record_bytes}
use Rattle.workload_run.specs.declared.running.Summary.{Summary}
use Rattle.workload_run.specs.Running.{workload_summary}
use Rattle.vo_spec.specs.Replies.{Reply}
use Rattle.vo_spec.specs.Results.{ref_title}

-- pieces with a byte between each two
abbrev pub with_separator : ℕ → List (List ℕ) → List ℕ
with_separator separator [] = []
with_separator separator (first ∷ others) = first ++ flat_map (λ piece. separator ∷ piece) others

-- a line of words, with one space between each two
abbrev pub words_line : List (List ℕ) → List ℕ
words_line words = line (with_separator 32 words)

-- a line of columns, with a comma between each two
abbrev pub columns_line : List (List ℕ) → List ℕ
columns_line columns = line (with_separator 44 columns)

-- with status 0 there is output; with any other status, lines alone
abbrev pub success : List ℕ → Output
success bytes = record { status = 0; bytes = bytes }

-- one line, which begins so
abbrev pub line_output : List ℕ → ℕ → List (List ℕ) → Output
line_output beginning status words =
    record { status = status; bytes = words_line (beginning ∷ words) }

abbrev pub refusal_output : ℕ → List (List ℕ) → Output
refusal_output status words = line_output (codes "refused:") status words

-- words, key, seed, file size or text refused
abbrev pub input_refusal : List (List ℕ) → Output
input_refusal words = refusal_output 2 words

-- Values as they are printed.

abbrev pub quoted_byte : ℕ → List ℕ
quoted_byte b = if b == 39 then 39 ∷ 39 ∷ [] else b ∷ []

abbrev pub literal : Value → List ℕ
literal Null = codes "NULL"
literal (Int z) = signed_decimal z
literal (Text s) = 39 ∷ flat_map quoted_byte s ++ 39 ∷ []
literal (Truth true) = codes "TRUE"
literal (Truth false) = codes "FALSE"

-- Answers of `check`.

abbrev pub wrong_words : QueryFault → List (List ℕ)
wrong_words (query.NoTable name) = codes "no table" ∷ name ∷ []
wrong_words (query.NoColumn r) = codes "no column" ∷ ref_title r ∷ []
wrong_words (query.Ambiguous r) = codes "ambiguous" ∷ ref_title r ∷ []
wrong_words query.TypeMismatch = codes "kinds differ" ∷ []
wrong_words query.NotKeyJoin = codes "not a key join" ∷ []

abbrev pub outcome_lines : Outcome → List ℕ
outcome_lines (Rows header rows) =
    columns_line header ++ flat_map (λ row. columns_line (map literal row)) rows
outcome_lines (Wrong fault) = words_line (codes "wrong:" ∷ wrong_words fault)

abbrev pub version_line : ℕ → List ℕ
version_line version = words_line (codes "version" ∷ decimal version ∷ [])

-- why a reply is refused, in words; want of memory is no refusal and has none
abbrev pub fault_words : CheckFault → Option (List (List ℕ))
fault_words (check.TooLong length) = Some (codes "too long" ∷ decimal length ∷ [])
fault_words check.BadForm = Some (codes "bad form" ∷ [])
fault_words (check.WrongKey want got) =
    Some (codes "wrong key" ∷ encode_lower want ∷ encode_lower got ∷ [])
fault_words (check.WrongLeaf version q) =
    Some (codes "wrong leaf" ∷ decimal version ∷ decimal q ∷ [])
fault_words check.BadSignature = Some (codes "bad signature" ∷ [])
fault_words (check.Stale least got) = Some (codes "stale" ∷ decimal least ∷ decimal got ∷ [])
fault_words (check.WrongCatalog want got) =
    Some (codes "wrong catalog" ∷ encode_lower want ∷ encode_lower got ∷ [])
fault_words (check.WrongTrees want got) =
    Some (codes "wrong trees" ∷ decimal want ∷ decimal got ∷ [])
fault_words check.WrongShape = Some (codes "wrong shape" ∷ [])
fault_words (check.WrongRoot table want got) =
    Some (codes "wrong root" ∷ table ∷ encode_lower want ∷ encode_lower got ∷ [])
fault_words check.Missing = Some (codes "missing" ∷ [])
fault_words check.Surplus = Some (codes "surplus" ∷ [])
fault_words check.Memory = None

-- behind a beginning that says which reply it is
abbrev pub fault_output : List ℕ → CheckFault → Option Output
fault_output beginning fault = option_map (line_output beginning 1) (fault_words fault)

abbrev pub answer_output : Answer → Output
answer_output answer = success (version_line answer.version ++ outcome_lines answer.outcome)

-- What is printed where a version was asked for, or none.

-- a version that no store of the journal keeps, and from which to which it keeps them
abbrev pub no_version : ℕ → ℕ → ℕ → Output
no_version version oldest newest =
    refusal_output 1 (codes "no version" ∷ decimal version ∷ decimal oldest ∷ decimal newest ∷ [])

-- a reply that is accepted, and is of another version
abbrev pub other_version : ℕ → ℕ → Output
other_version version got = refusal_output 1 (codes "version" ∷ decimal version ∷ decimal got ∷ [])

-- an answer, where no other version was asked for
abbrev pub asked_output : Option ℕ → Answer → Output
asked_output None answer = answer_output answer
asked_output (Some version) answer =
    if answer.version == version then answer_output answer else other_version version answer.version

abbrev pub check_output : Option ℕ → Result Answer CheckFault → Option Output
check_output at (Ok answer) = Some (asked_output at answer)
check_output at (Err fault) = fault_output (codes "refused:") fault

-- What a store answers over a network in place of a reply.

-- a refusal, by its code
abbrev pub store_refusal : ℕ → Output
store_refusal code = refusal_output 1 (codes "store" ∷ decimal code ∷ [])

-- a frame that is no answer, and an answer that is cut off
abbrev pub bad_frame : ℕ → Output
bad_frame length = line_output (codes "bad frame") 9 (decimal length ∷ [])

abbrev pub cut_off : ℕ → Output
cut_off got = line_output (codes "cut") 9 (decimal got ∷ [])

-- Refusals of texts.

-- a text's fault in words; want of memory is none
abbrev pub sql_words : SqlFault → Option (List (List ℕ))
sql_words sql.TooLong = Some (codes "sql too long" ∷ [])
sql_words (sql.Token at) = Some (codes "sql token" ∷ decimal at ∷ [])
sql_words (sql.Syntax at) = Some (codes "sql syntax" ∷ decimal at ∷ [])
sql_words (sql.Literal at) = Some (codes "sql literal" ∷ decimal at ∷ [])
sql_words sql.Nesting = Some (codes "sql nesting" ∷ [])
sql_words sql.Name = Some (codes "sql name" ∷ [])
sql_words sql.TooMany = Some (codes "sql too many" ∷ [])
sql_words sql.Memory = None

abbrev pub sql_output : SqlFault → Option Output
sql_output fault = option_map input_refusal (sql_words fault)

-- Evidence.

-- a record and its signature
abbrev pub signed_lines : Record → List ℕ → List ℕ
signed_lines rec signature = words_line (encode_lower (record_bytes rec) ∷ [])
    ++ words_line (encode_lower signature ∷ [])

-- two strings of one digest
abbrev pub string_lines : List ℕ × List ℕ → List ℕ
string_lines found =
    words_line (encode_lower found.0 ∷ []) ++ words_line (encode_lower found.1 ∷ [])

abbrev pub collision_output : List ℕ × List ℕ → Output
collision_output found =
    record { status = 5; bytes = words_line (codes "collision" ∷ []) ++ string_lines found }

-- Verdicts of `audit`.

abbrev pub unsigned_lines : Record → List ℕ → ℕ → List ℕ
unsigned_lines rec signature last =
    words_line (codes "unsigned" ∷ []) ++ signed_lines rec signature
    ++ words_line (codes "journal ends at version" ∷ decimal last ∷ [])

abbrev pub unsigned_output : List ℕ → Output
unsigned_output bytes = record { status = 6; bytes = bytes }

abbrev pub verdict_output : Verdict → Output
verdict_output (Exact version) = success (words_line (codes "exact version" ∷ decimal version ∷ []))
verdict_output (Unsigned rec signature last) = unsigned_output (unsigned_lines rec signature last)
verdict_output (Collides found) = collision_output found

abbrev pub bad_journal : ℕ → Output
bad_journal index =
    record { status = 7; bytes = words_line (codes "bad journal" ∷ decimal index ∷ []) }

abbrev pub audit_output : Result Verdict AuditFault → Option Output
audit_output (Ok verdict) = Some (verdict_output verdict)
audit_output (Err (audit.BadJournal index)) = Some (bad_journal index)
audit_output (Err (audit.Refused fault)) = fault_output (codes "refused:") fault
audit_output (Err audit.Memory) = None

-- what explains that a signature is valid which the owner never made
abbrev pub explanation_lines : Explanation → List ℕ
explanation_lines (explanation.Collides found) =
    words_line (codes "forged by collision" ∷ []) ++ string_lines found
explanation_lines (explanation.Chain level leaf chain step bytes) =
    words_line
    (codes "forged chain" ∷ decimal level ∷ decimal leaf ∷ decimal chain ∷ decimal step ∷ [])
    ++ words_line (encode_lower bytes ∷ [])

-- Meetings of `meet`.

abbrev pub apart_output : ℕ → ℕ → Output
apart_output v1 v2 = success (words_line (codes "apart" ∷ decimal v1 ∷ decimal v2 ∷ []))

abbrev pub two_records_output : Reply → Reply → Output
two_records_output first second = record {
  status = 6;
  bytes = words_line (codes "two records" ∷ []) ++ signed_lines first.rec first.signature
      ++ signed_lines second.rec second.signature;
}

abbrev pub same_output : ℕ → Output
same_output version = success (words_line (codes "same" ∷ decimal version ∷ []))

-- of two replies that a client accepts
abbrev pub meeting_output : Reply → Reply → Meeting → Output
meeting_output first second (meeting.Apart v1 v2) = apart_output v1 v2
meeting_output first second meeting.TwoRecords = two_records_output first second
meeting_output first second meeting.Same = same_output first.rec.version
meeting_output first second (meeting.Collides found) = collision_output found

-- two replies and what they are to each other, or which of them is refused
abbrev pub meet_output : Result (Reply × Reply × Meeting) MeetFault → Option Output
meet_output (Ok met) = Some (meeting_output met.0 met.1 met.2)
meet_output (Err (First fault)) = fault_output (codes "refused first:") fault
meet_output (Err (Second fault)) = fault_output (codes "refused second:") fault
meet_output (Err Memory) = None

-- What `gen` prints of a workload.

abbrev pub number_line : List ℕ → ℕ → List ℕ
number_line name number = words_line (name ∷ decimal number ∷ [])

abbrev pub workload_lines : Summary → List ℕ
workload_lines s = number_line (codes "commands") s.commands
    ++ number_line (codes "version") s.version ++ number_line (codes "rows") s.rows
    ++ number_line (codes "answers") s.answers
    ++ number_line (codes "answer rows") s.answer_rows ++ number_line (codes "exact") s.exact
    ++ words_line (codes "last" ∷ encode_lower (record_bytes s.last) ∷ [])

abbrev pub gen_output : ℕ → ℕ → Output
gen_output steps number = success (workload_lines (workload_summary steps number))

-- Refusals of `seal`.

abbrev pub fault_name : CommandFault → List ℕ
fault_name command.TableExists = codes "TableExists"
fault_name command.NoTable = codes "NoTable"
fault_name command.BadSchema = codes "BadSchema"
fault_name command.Arity = codes "Arity"
fault_name command.TypeMismatch = codes "TypeMismatch"
fault_name command.DuplicateKey = codes "DuplicateKey"
fault_name command.NoRow = codes "NoRow"
fault_name command.TableFull = codes "TableFull"
fault_name command.TooManyTables = codes "TooManyTables"
fault_name command.KeyTooLong = codes "KeyTooLong"
fault_name command.NoColumn = codes "NoColumn"
fault_name command.NotKey = codes "NotKey"
fault_name command.BadSet = codes "BadSet"
fault_name command.NotNull = codes "NotNull"

abbrev pub command_output : ℕ → CommandFault → Output
command_output index fault =
    refusal_output 8 (codes "command" ∷ decimal index ∷ fault_name fault ∷ [])

abbrev pub spent_key : Output
spent_key = refusal_output 8 (codes "key spent" ∷ [])

-- Refusals of an owner.

-- the proof of the command of this number is refused
abbrev pub proof_refusal : List ℕ → ℕ → List (List ℕ) → Output
proof_refusal why index digests = refusal_output 1 (codes "proof" ∷ why ∷ decimal index ∷ digests)
