-- What words ask for, as contracts see it.
use Rattle.std.specs.Prelude.{ℕ, ◌≤◌, ◌^◌, ◌&&◌, nat_le, nat_lt, List, [], ◌∷◌, Option, Some, None, option_map, option_and_then, codes, if◌then◌else◌}
use Rattle.std.specs.Option.{option_map_or}
use Rattle.std.specs.Str.{bytes_eq}
use Rattle.clap.specs.Words.{Row, Text, first_of, fault_of, subcommand_of}
use Rattle.clap.specs.Kinds.{Kinds}
use Rattle.cli_args.specs.Commands.{program_app}
use Rattle.cli_args.specs.Numbers.{written_number}
use Rattle.cli_args.specs.Shapes.{PlainShape}

-- a command and its words, files by their names and peers by their addresses
pub data PlainRequest : Type 0 where
  Keygen : (seed : Text) (shape : PlainShape) → PlainRequest
  Seal : (seed script : Text) (shape : PlainShape) → PlainRequest
  Own : (seed address script : Text) (shape : PlainShape) → PlainRequest
  Answer : (key journal query : Text) (at : Option ℕ) → PlainRequest
  Serve : (address key journal : Text) (count : ℕ) → PlainRequest
  Check : (key query reply : Text) (least : ℕ) → PlainRequest
  Ask : (address key query : Text) (at : Option ℕ) (least : ℕ) → PlainRequest
  Audit : (key journal query reply : Text) → PlainRequest
  Explain : (key journal query reply seed : Text) (shape : PlainShape) → PlainRequest
  Meet : (key query first second : Text) → PlainRequest
  Generate : (steps number : ℕ) → PlainRequest

-- a height is 5 or 10, in digits
abbrev pub written_height : Text → Option ℕ
written_height text =
    if bytes_eq text (codes "5") then Some 5
    else (if bytes_eq text (codes "10") then Some 10 else None)

-- 5 where none is given
abbrev pub given_height : List Row → Option ℕ
given_height rows = option_map_or written_height (first_of (codes "height") rows) (Some 5)

-- a number of levels is 1 or 2
abbrev pub written_levels : Text → Option ℕ
written_levels text =
    if bytes_eq text (codes "1") then Some 1
    else (if bytes_eq text (codes "2") then Some 2 else None)

-- 1 where none is given
abbrev pub given_levels : List Row → Option ℕ
given_levels rows = option_map_or written_levels (first_of (codes "levels") rows) (Some 1)

abbrev pub given_shape : List Row → Option PlainShape
given_shape rows = option_and_then
    (λ height. option_map (λ levels. record { height = height; levels = levels })
    (given_levels rows)) (given_height rows)

-- a version is written in digits, and 0 where none is given
abbrev pub given_least : List Row → Option ℕ
given_least rows = option_map_or written_number (first_of (codes "least") rows) (Some 0)

-- the version that is asked for, where one is given
abbrev pub given_at : List Row → Option (Option ℕ)
given_at rows = option_map_or (λ text. option_map Some (written_number text))
    (first_of (codes "at") rows) (Some None)

-- how many steps a workload has: at least one, and at most this many
abbrev pub max_steps : ℕ
max_steps = 100000

abbrev pub step_count : Text → Option ℕ
step_count text = option_and_then
    (λ count. if nat_le 1 count && nat_le count max_steps then Some count else None)
    (written_number text)

-- how many connections are served: at least one, and fewer than 2 ^ 32
abbrev pub connection_count : Text → Option ℕ
connection_count text = option_and_then
    (λ count. if nat_le 1 count && nat_lt count (2 ^ 32) then Some count else None)
    (written_number text)

-- the rest, with the word of that name
abbrev pub with_word : Text → List Row → (Text → Option PlainRequest) → Option PlainRequest
with_word id rows rest = option_and_then rest (first_of id rows)

abbrev pub keygen_request : List Row → Option PlainRequest
keygen_request rows =
    with_word (codes "seed") rows (λ seed. option_map (Keygen seed) (given_shape rows))

abbrev pub seal_request : List Row → Option PlainRequest
seal_request rows =
    with_word (codes "seed") rows (λ seed. with_word (codes "script") rows (λ script.
    option_map (Seal seed script) (given_shape rows)))

abbrev pub own_request : List Row → Option PlainRequest
own_request rows =
    with_word (codes "seed") rows (λ seed. with_word (codes "address") rows (λ address.
    with_word (codes "script") rows (λ script.
    option_map (Own seed address script) (given_shape rows))))

abbrev pub answer_request : List Row → Option PlainRequest
answer_request rows =
    with_word (codes "key") rows (λ key. with_word (codes "journal") rows (λ journal.
    with_word (codes "query") rows (λ query.
    option_map (Answer key journal query) (given_at rows))))

abbrev pub serve_request : List Row → Option PlainRequest
serve_request rows =
    with_word (codes "address") rows (λ address. with_word (codes "key") rows (λ key.
    with_word (codes "journal") rows (λ journal. with_word (codes "count") rows (λ count.
    option_map (Serve address key journal) (connection_count count)))))

abbrev pub check_request : List Row → Option PlainRequest
check_request rows = with_word (codes "key") rows (λ key. with_word (codes "query") rows (λ query.
    with_word (codes "reply") rows (λ reply. option_map (Check key query reply)
    (given_least rows))))

abbrev pub ask_request : List Row → Option PlainRequest
ask_request rows =
    with_word (codes "address") rows (λ address. with_word (codes "key") rows (λ key.
    with_word (codes "query") rows (λ query. option_and_then
    (λ at. option_map (Ask address key query at) (given_least rows)) (given_at rows))))

-- an audit, or where a seed is given, the key owner's
abbrev pub audit_by : (key journal query reply : Text) → Option Text → PlainShape → PlainRequest
audit_by key journal query reply None shape = Audit key journal query reply
audit_by key journal query reply (Some seed) shape = Explain key journal query reply seed shape

abbrev pub audit_request : List Row → Option PlainRequest
audit_request rows =
    with_word (codes "key") rows (λ key. with_word (codes "journal") rows (λ journal.
    with_word (codes "query") rows (λ query. with_word (codes "reply") rows (λ reply.
    option_map (audit_by key journal query reply (first_of (codes "seed") rows))
    (given_shape rows)))))

abbrev pub meet_request : List Row → Option PlainRequest
meet_request rows = with_word (codes "key") rows (λ key. with_word (codes "query") rows (λ query.
    with_word (codes "first") rows (λ first. with_word (codes "second") rows (λ second.
    Some (Meet key query first second)))))

abbrev pub generate_request : List Row → Option PlainRequest
generate_request rows =
    with_word (codes "steps") rows (λ steps. with_word (codes "number") rows (λ number.
    option_and_then (λ count. option_map (Generate count) (written_number number))
    (step_count steps)))

-- a workload has steps, and not too many
abbrev pub HasSteps : PlainRequest → Type 0
HasSteps (Generate steps number) = (1 ≤ steps) × (steps ≤ max_steps)
HasSteps _ = Unit {0}

-- what a command about a query and its replies asks for
unfoldable pub reply_request : Text → List Row → Option PlainRequest
reply_request name rows =
    if bytes_eq name (codes "answer") then answer_request rows
    else (if bytes_eq name (codes "check") then check_request rows
    else (if bytes_eq name (codes "audit") then audit_request rows
    else (if bytes_eq name (codes "meet") then meet_request rows
    else (if bytes_eq name (codes "ask") then ask_request rows
    else None))))

-- what a command asks for that writes once, as it ends
unfoldable pub command_request : Text → List Row → Option PlainRequest
command_request name rows =
    if bytes_eq name (codes "keygen") then keygen_request rows
    else (if bytes_eq name (codes "seal") then seal_request rows
    else (if bytes_eq name (codes "gen") then generate_request rows
    else reply_request name rows))

-- what a command asks for, by its name and its words
abbrev pub named_request : Text → List Row → Option PlainRequest
named_request name rows =
    if bytes_eq name (codes "serve") then serve_request rows
    else (if bytes_eq name (codes "own") then own_request rows else command_request name rows)

abbrev pub used_request : Option (Text × List Row) → Option PlainRequest
used_request used = option_and_then (λ used. named_request used.0 used.1) used

-- nothing, where the words have a fault
abbrev pub request_unless : Kinds → Option PlainRequest → Option PlainRequest
request_unless [] request = request
request_unless (fault ∷ faults) request = None

-- what the words ask for, the program's name first; none are refused words
abbrev pub request_in : List Text → Option PlainRequest
request_in words =
    request_unless (fault_of program_app words) (used_request (subcommand_of program_app words))
