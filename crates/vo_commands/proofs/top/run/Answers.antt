use Rattle.std.proofs.Common.{◌≡◌, Some, IfSome, refl, sym, ap, ◌∙◌, subst, option_map, map, string_bytes}
use Rattle.cli_args.specs.PlainRequest.{request_in}
use Rattle.cli_args.specs.declared.request.Request.TheVariants.{Own, Serve}
use Rattle.vo_commands.specs.Expected.{words_expected}
use Rattle.vo_commands.specs.Owning.{CommitsNothing}
use Rattle.vo_commands.specs.Taking.{LacksFile}
use Rattle.cli_args.specs.Request.{plain_command, plain_request}
use Rattle.vo_commands.proofs.Endings.{asks_nothing, command_ends, ends_empty, left_as_it_was, own_ends_empty, serve_ends_empty}
use Rattle.vo_commands.proofs.FilesThere.{none_missed}
use Rattle.vo_commands.proofs.top.run.Goals as goal

pub returns-in-Ok-Some-Command-clause-lines : goal.returns-in-Ok-Some-Command-clause-lines
returns-in-Ok-Some-Command-clause-lines g c =
    let some = c.in-Ok-Some-Command.field-0-is ∙ ap Some c.in-Ok-Some-Command.field-0-0-is in
    let asked : Some (plain_command c.in-Ok-Some-Command.command) ≡ request_in (map string_bytes c.args.words.now) =
    sym (ap (option_map plain_request) some) ∙ c.in-Ok-Some-Command.ensures.request in
    command_ends (plain_command c.in-Ok-Some-Command.command) (request_in (map string_bytes c.args.words.now)) _ _ c.run_command-outcome.result _ _ _ _ _
    asked c.run_command-outcome.ensures.known c.run_command-outcome.ensures.cause c.print_outcome.ensures.wrote

pub returns-in-Err-clause-lines : goal.returns-in-Err-clause-lines
returns-in-Err-clause-lines g c = ends_empty _ _ _ _

pub returns-in-Err-clause-serves : goal.returns-in-Err-clause-serves
returns-in-Err-clause-serves g c = serve_ends_empty _ _ _ _ _ _

pub returns-in-Err-clause-owns : goal.returns-in-Err-clause-owns
returns-in-Err-clause-owns g c = own_ends_empty _ _ _ _ _ _ _ _

pub returns-in-Err-clause-asks : goal.returns-in-Err-clause-asks
returns-in-Err-clause-asks g c = λ before is. asks_nothing _ _ before _ is

pub returns-in-Ok-Some-Command-clause-misses_in_order : goal.returns-in-Ok-Some-Command-clause-misses_in_order
returns-in-Ok-Some-Command-clause-misses_in_order g c =
    let some = c.in-Ok-Some-Command.field-0-is ∙ ap Some c.in-Ok-Some-Command.field-0-0-is in
    let asked : Some (plain_command c.in-Ok-Some-Command.command) ≡ request_in (map string_bytes c.args.words.now) =
    sym (ap (option_map plain_request) some) ∙ c.in-Ok-Some-Command.ensures.request in
    subst (λ request. IfSome (g.F.Shelf.contents c.args.files.now) (λ known. (LacksFile (words_expected request known) → ⊥)
    → g.F.Shelf.misses c.run_command-outcome.new.files ≡ g.F.Shelf.misses c.args.files.now)) asked c.run_command-outcome.ensures.files.missed

pub returns-in-Ok-Some-Command-clause-misses : goal.returns-in-Ok-Some-Command-clause-misses
returns-in-Ok-Some-Command-clause-misses g c =
    none_missed (request_in (map string_bytes c.args.words.now)) _ _ _ (returns-in-Ok-Some-Command-clause-misses_in_order g c)

pub returns-in-Ok-Some-Serve-clause-misses_in_order : goal.returns-in-Ok-Some-Serve-clause-misses_in_order
returns-in-Ok-Some-Serve-clause-misses_in_order g c =
    let some = c.in-Ok-Some-Serve.field-0-is ∙ ap Some c.in-Ok-Some-Serve.field-0-0-is in
    let asked : option_map plain_request (Some (Serve c.in-Ok-Some-Serve.service)) ≡ request_in (map string_bytes c.args.words.now) =
    sym (ap (option_map plain_request) some) ∙ c.in-Ok-Some-Serve.ensures.request in
    subst (λ request. IfSome (g.F.Shelf.contents c.args.files.now) (λ known. (LacksFile (words_expected request known) → ⊥)
    → g.F.Shelf.misses c.serve.new.files ≡ g.F.Shelf.misses c.args.files.now)) asked c.serve.ensures.files.missed

pub returns-in-Err-clause-own_refused : goal.returns-in-Err-clause-own_refused
returns-in-Err-clause-own_refused g c = left_as_it_was CommitsNothing _ (refl, refl)

pub returns-in-Ok-Some-Own-clause-misses_in_order : goal.returns-in-Ok-Some-Own-clause-misses_in_order
returns-in-Ok-Some-Own-clause-misses_in_order g c =
    let some = c.in-Ok-Some-Own.field-0-is ∙ ap Some c.in-Ok-Some-Own.field-0-0-is in
    let asked : option_map plain_request (Some (Own c.in-Ok-Some-Own.commitment)) ≡ request_in (map string_bytes c.args.words.now) =
    sym (ap (option_map plain_request) some) ∙ c.in-Ok-Some-Own.ensures.request in
    subst (λ request. IfSome (g.F.Shelf.contents c.args.files.now) (λ known. (LacksFile (words_expected request known) → ⊥)
    → g.F.Shelf.misses c.own.new.files ≡ g.F.Shelf.misses c.args.files.now)) asked c.own.ensures.files.missed
