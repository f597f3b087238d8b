use Rattle.std.proofs.Common.{◌≡◌, ◌+◌, ◌∷◌, List, drop, sym, ap, ◌∙◌, subst, arith}
use Rattle.std.proofs.lemmas.List.{at_drop_more}
use Rattle.vo_spec.specs.declared.tables.Command.{Command}
use Rattle.owner_roots.proofs.CommandSteps.{IsLeft, left_fit, left_after, left_refused, some_over}
use Rattle.owner_roots.proofs.commands.apply_commands.Goals as goal

pub apply_command-requires-clause-trees : goal.apply_command-requires-clause-trees
apply_command-requires-clause-trees c = left_fit c.loop-index.taken c.args.trees.now c.trees_from-left.result.now c.trees_from-left.ensures c.requires.trees

pub returns-in-Err-clause-answer : goal.returns-in-Err-clause-answer
returns-in-Err-clause-answer c =
    let cs : List Command = c.args.commands.now in
    let onward : drop c.loop-index.index cs ≡ c.index-commands-index.result ∷ drop (c.loop-index.index + 1) cs =
    at_drop_more (λ (xs : List Command). xs) cs c.loop-index.index c.index-commands-index.result (omega arith) ∙ ap (λ (x : Command). x ∷ drop (c.loop-index.index + 1) cs) (sym c.index-commands-index.is) in
    left_refused {X = Unit {0}} {X' = Unit {0}} (λ _. c.apply_command.new.tables.items) (λ _. c.apply_command.new.tables.items) c.loop-index.index c.loop-index.taken c.index-commands-index.result (drop (c.loop-index.index + 1) cs) cs c.args.trees.now c.trees_from-left.result.now
    c.loop-index.tables.items c.args.tables.now.items c.in-Err.fault
    (subst (λ (xs : List Command). IsLeft c.loop-index.index c.loop-index.taken xs cs c.args.trees.now c.loop-index.tables.items c.args.tables.now.items) onward c.loop-index.invariant)
    c.trees_from-left.ensures c.in-Err.ensures.answer

pub loop-index-preserved : goal.loop-index-preserved
loop-index-preserved c =
    let cs : List Command = c.args.commands.now in
    let onward : drop c.loop-index.index cs ≡ c.index-commands-index.result ∷ drop (c.loop-index.index + 1) cs =
    at_drop_more (λ (xs : List Command). xs) cs c.loop-index.index c.index-commands-index.result (omega arith) ∙ ap (λ (x : Command). x ∷ drop (c.loop-index.index + 1) cs) (sym c.index-commands-index.is) in
    left_after c.loop-index.index c.loop-index.taken c.trees_taken-taken.result c.index-commands-index.result (drop (c.loop-index.index + 1) cs) cs c.args.trees.now c.trees_from-left.result.now
    c.loop-index.tables.items c.apply_command.new.tables.items c.args.tables.now.items
    (subst (λ (xs : List Command). IsLeft c.loop-index.index c.loop-index.taken xs cs c.args.trees.now c.loop-index.tables.items c.args.tables.now.items) onward c.loop-index.invariant)
    c.trees_from-left.ensures c.in-Ok.ensures.answer c.in-Ok.ensures.within c.trees_taken-taken.ensures

pub returns-then-taken-trees-clause-answer : goal.returns-then-taken-trees-clause-answer
returns-then-taken-trees-clause-answer c =
    some_over c.loop-index.index c.loop-index.taken _ c.args.commands.now c.args.trees.now c.loop-index.tables.items c.args.tables.now.items c.loop-index.invariant
    (omega arith) (omega arith) (omega arith)
