-- Whatever the words are, a workload that they ask for has steps, and not too many.
use Rattle.std.proofs.Common.{◌≡◌, ℕ, ◌≤◌, Bool, true, false, List, [], ◌∷◌, Option, Some, None, refl, leb-true}
use Rattle.std.specs.Prelude.{IfSome, ◌&&◌, nat_le, codes, option_map, option_and_then, if◌then◌else◌}
use Rattle.std.specs.Str.{bytes_eq}
use Rattle.clap.specs.Kinds.{Kinds}
use Rattle.clap.specs.Words.{Row, Text, first_of, fault_of, subcommand_of}
use Rattle.cli_args.specs.Commands.{program_app}
use Rattle.cli_args.specs.Numbers.{written_number}
use Rattle.cli_args.specs.PlainRequest.{PlainRequest, Keygen, Seal, Own, Answer, Serve, Check, Ask, Generate, Meet, HasSteps, answer_request, ask_request, audit_by, audit_request, check_request, command_request, connection_count, generate_request, given_at, given_least, given_shape, keygen_request, max_steps, meet_request, named_request, own_request, reply_request, request_in, request_unless, seal_request, serve_request, step_count, used_request}
use Rattle.cli_args.specs.Shapes.{PlainShape}

abbrev Counts : Option PlainRequest → Type 0
Counts request = IfSome request HasSteps

after : {A : Type 0} (rest : A → Option PlainRequest) (o : Option A)
    → ((a : A) → Counts (rest a)) → Counts (option_and_then rest o)
after rest None each = tt
after rest (Some a) each = each a

made : {A : Type 0} (request : A → PlainRequest) (o : Option A)
    → ((a : A) → HasSteps (request a)) → Counts (option_map request o)
made request None each = tt
made request (Some a) each = each a

chosen : (test : Bool) (x y : Option PlainRequest) → Counts x → Counts y
    → Counts (if test then x else y)
chosen true x y counts other = counts
chosen false x y counts other = other

counted : (text : Text) (rest : ℕ → Option PlainRequest)
    → ((n : ℕ) → 1 ≤ n → n ≤ max_steps → Counts (rest n))
    → Counts (option_and_then rest (step_count text))
counted text rest each = by (written_number text)
  where
    tested : (n : ℕ) (a b : Bool) → nat_le 1 n ≡ a → nat_le n max_steps ≡ b
        → Counts (option_and_then rest (if a && b then Some n else None))
    tested n true true some few = each n (leb-true 1 n some) (leb-true n max_steps few)
    tested n true false some few = tt
    tested n false b some few = tt

    by : (o : Option ℕ)
        → Counts (option_and_then rest (option_and_then
        (λ count. if nat_le 1 count && nat_le count max_steps then Some count else None) o))
    by None = tt
    by (Some n) = tested n (nat_le 1 n) (nat_le n max_steps) refl refl

audited : (key journal query reply : Text) (seed : Option Text) (shape : PlainShape)
    → HasSteps (audit_by key journal query reply seed shape)
audited key journal query reply None shape = tt
audited key journal query reply (Some seed) shape = tt

module _ (rows : List Row) where
  abbrev word : Text → Option Text
  word id = first_of id rows

  keygen : Counts (keygen_request rows)
  keygen = after _ (word (codes "seed")) (λ seed. made (Keygen seed) (given_shape rows) (λ _. tt))

  seal : Counts (seal_request rows)
  seal = after _ (word (codes "seed")) (λ seed. after _ (word (codes "script")) (λ script.
      made (Seal seed script) (given_shape rows) (λ _. tt)))

  own : Counts (own_request rows)
  own = after _ (word (codes "seed")) (λ seed. after _ (word (codes "address")) (λ address.
      after _ (word (codes "script")) (λ script.
      made (Own seed address script) (given_shape rows) (λ _. tt))))

  answer : Counts (answer_request rows)
  answer = after _ (word (codes "key")) (λ key. after _ (word (codes "journal")) (λ journal.
      after _ (word (codes "query")) (λ query.
      made (Answer key journal query) (given_at rows) (λ _. tt))))

  serve : Counts (serve_request rows)
  serve = after _ (word (codes "address")) (λ address. after _ (word (codes "key")) (λ key.
      after _ (word (codes "journal")) (λ journal. after _ (word (codes "count")) (λ count.
      made (Serve address key journal) (connection_count count) (λ _. tt)))))

  check : Counts (check_request rows)
  check = after _ (word (codes "key")) (λ key. after _ (word (codes "query")) (λ query.
      after _ (word (codes "reply")) (λ reply.
      made (Check key query reply) (given_least rows) (λ _. tt))))

  ask : Counts (ask_request rows)
  ask = after _ (word (codes "address")) (λ address. after _ (word (codes "key")) (λ key.
      after _ (word (codes "query")) (λ query. after _ (given_at rows) (λ at.
      made (Ask address key query at) (given_least rows) (λ _. tt)))))

  audit : Counts (audit_request rows)
  audit = after _ (word (codes "key")) (λ key. after _ (word (codes "journal")) (λ journal.
      after _ (word (codes "query")) (λ query. after _ (word (codes "reply")) (λ reply.
      made (audit_by key journal query reply (word (codes "seed"))) (given_shape rows)
      (audited key journal query reply (word (codes "seed")))))))

  meet : Counts (meet_request rows)
  meet = after _ (word (codes "key")) (λ key. after _ (word (codes "query")) (λ query.
      after _ (word (codes "first")) (λ first. after _ (word (codes "second")) (λ second. tt))))

  generate : Counts (generate_request rows)
  generate = after _ (word (codes "steps")) (λ steps. after _ (word (codes "number")) (λ number.
      counted steps (λ count. option_map (Generate count) (written_number number))
      (λ n some few. made (Generate n) (written_number number) (λ _. (some, few)))))

  reply : (name : Text) → Counts (reply_request name rows)
  unfolding reply_request
  reply name = chosen (bytes_eq name (codes "answer")) _ _ answer
      (chosen (bytes_eq name (codes "check")) _ _ check
      (chosen (bytes_eq name (codes "audit")) _ _ audit
      (chosen (bytes_eq name (codes "meet")) _ _ meet
      (chosen (bytes_eq name (codes "ask")) _ _ ask tt))))

  command : (name : Text) → Counts (command_request name rows)
  unfolding command_request
  command name = chosen (bytes_eq name (codes "keygen")) _ _ keygen
      (chosen (bytes_eq name (codes "seal")) _ _ seal
      (chosen (bytes_eq name (codes "gen")) _ _ generate (reply name)))

  named : (name : Text) → Counts (named_request name rows)
  named name = chosen (bytes_eq name (codes "serve")) _ _ serve
      (chosen (bytes_eq name (codes "own")) _ _ own (command name))

unless : (faults : Kinds) (request : Option PlainRequest) → Counts request
    → Counts (request_unless faults request)
unless [] request counts = counts
unless (fault ∷ faults) request counts = tt

pub has_steps : (words : List Text) → Counts (request_in words)
has_steps words = unless (fault_of program_app words)
    (used_request (subcommand_of program_app words))
    (after _ (subcommand_of program_app words) (λ used. named used.1 used.0))
