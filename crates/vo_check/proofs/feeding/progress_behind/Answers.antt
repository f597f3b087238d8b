use Rattle.std.proofs.Common.{arith, refl}
use Rattle.vo_check.proofs.CheckingLaws.{front_of_found}
use Rattle.std.proofs.lemmas.Grind.{common_steps}
use Rattle.vo_check.proofs.feeding.progress_behind.Goals as goal

pub returns-then-is_none-clause-stands : goal.returns-then-is_none-clause-stands
returns-then-is_none-clause-stands c = grind (arith, common_steps)

pub returns-clause-stands : goal.returns-clause-stands
returns-clause-stands c = grind (arith, common_steps)

pub returns-in_err-left-clause-front : goal.returns-in_err-left-clause-front
returns-in_err-left-clause-front c = λ err bytes stands. c.in_err-left.ensures.memory refl bytes stands.3

pub returns-clause-front : goal.returns-clause-front
returns-clause-front c = λ err bytes stands.
    front_of_found c.args.stream c.feed.new.self c.args.piece.now c.in_ok-left.left.now bytes c.in-Some.head stands.3 stands.1 c.in_ok-left.ensures.ok c.in-Some.ensures.found
