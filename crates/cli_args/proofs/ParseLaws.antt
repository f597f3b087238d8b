-- What a parse by the commands says of what the words ask for.
use Rattle.std.proofs.Common.{◌≡◌, ◌≢◌, List, [], ◌∷◌, true, None, Option, ap, inl, inr, refl}
use Rattle.clap.proofs.OnLiterals.{clap_on_literals}
use Rattle.clap.specs.Words.{App, Text, HasMatchesOf, HasKind, Kinds, kind_of, is_simple, is_simple_and_free, fault_of, subcommand_of, subcommand_rows_of}
use Rattle.clap.specs.declared.error.Error.{Error}
use Rattle.clap.specs.declared.error.kind.ErrorKind.TheVariants.{OutOfMemory}
use Rattle.clap.specs.declared.parser.matches.ArgMatches.{ArgMatches}
use Rattle.cli_args.specs.PlainRequest.{PlainRequest, request_in, request_unless, used_request}
use Rattle.cli_args.specs.Commands.{program_app}

program-simple : is_simple program_app ≡ true
unfolding clap_on_literals
program-simple = refl

program-free : is_simple_and_free program_app ≡ true
unfolding clap_on_literals
program-free = refl

pub accepted : (app : App) (words : List Text) (m : ArgMatches) → app ≡ program_app → HasMatchesOf app words m
    → (is_simple_and_free app ≡ true → fault_of app words ≡ []) → used_request (subcommand_rows_of m) ≡ request_in words
accepted app words m same has passes =
    let simple : is_simple app ≡ true = rw same program-simple in
    let free : is_simple_and_free app ≡ true = rw same program-free in
    let request : used_request (subcommand_rows_of m) ≡ request_unless (fault_of app words) (used_request (subcommand_of app words)) =
    rw (passes free) (ap used_request (has simple).1) in
    rw same at request

faulty : (e : Error) (faults : Kinds) (request : Option PlainRequest) → HasKind faults e → kind_of e ≢ OutOfMemory → None ≡ request_unless faults request
faulty e [] request (inl memory) other = absurd (other memory)
faulty e [] request (inr among) other = absurd among
faulty e (fault ∷ faults) request kind other = refl

pub refused : (app : App) (words : List Text) (e : Error) → app ≡ program_app
    → (is_simple_and_free app ≡ true → HasKind (fault_of app words) e) → kind_of e ≢ OutOfMemory → None ≡ request_in words
refused app words e same kinds other =
    let free : is_simple_and_free app ≡ true = rw same program-free in
    let request : None ≡ request_unless (fault_of app words) (used_request (subcommand_of app words)) =
    faulty e (fault_of app words) (used_request (subcommand_of app words)) (kinds free) other in
    rw same at request
