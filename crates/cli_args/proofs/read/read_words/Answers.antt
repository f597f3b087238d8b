-- What the parse says is what the words ask for.
use Rattle.std.proofs.Common.{◌∙◌, map, string_bytes, subst, sym}
use Rattle.std.specs.Prelude.{IfSome}
use Rattle.cli_args.specs.PlainRequest.{HasSteps}
use Rattle.cli_args.proofs.ParseLaws.{accepted, refused}
use Rattle.cli_args.proofs.StepCounts.{has_steps}
use Rattle.cli_args.proofs.read.read_words.Goals as goal

pub returns-in-Ok-clause-request : goal.returns-in-Ok-clause-request
returns-in-Ok-clause-request c =
    c.used_request.ensures
    ∙ accepted _ (map string_bytes c.args.words.now) _ c.in_ok-program.ensures c.in-Ok.ensures.matches c.in-Ok.ensures.kinds

pub returns-in-Ok-clause-steps : goal.returns-in-Ok-clause-steps
returns-in-Ok-clause-steps c = subst (λ request. IfSome request HasSteps) (sym (returns-in-Ok-clause-request c))
    (has_steps (map string_bytes c.args.words.now))

pub returns-else-is_of_memory-clause-request : goal.returns-else-is_of_memory-clause-request
returns-else-is_of_memory-clause-request c =
    refused _ (map string_bytes c.args.words.now) c.in-Err.error c.in_ok-program.ensures c.in-Err.ensures.kinds
    (λ memory. let says = c.is_of_memory.ensures.1 memory in cc)
