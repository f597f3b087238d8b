use Rattle.std.proofs.Common.{◌≡◌, ◌+◌, ◌∷◌, List, ap, sym, ◌∙◌, subst, drop, arith}
use Rattle.std.proofs.lemmas.List.{at_drop_more}
use Rattle.vo_spec.specs.declared.tables.Command.{Command}
use Rattle.owner_state.proofs.BatchSteps.{IsLeft, IsPut, one_done}
use Rattle.owner_state.proofs.batch_working.apply_in_turn.Goals as goal

pub loop-index-preserved : goal.loop-index-preserved
loop-index-preserved c =
    let cs : List Command = c.args.commands.now in
    let onward : drop c.loop-index.index cs ≡ c.index-commands-index.result ∷ drop (c.loop-index.index + 1) cs =
    at_drop_more (λ (xs : List Command). xs) cs c.loop-index.index c.index-commands-index.result (omega arith) ∙ ap (λ (x : Command). x ∷ drop (c.loop-index.index + 1) cs) (sym c.index-commands-index.is) in
    let put : IsPut c.index-commands-index.result c.loop-index.tables c.loop-index.trees.bytes.items c.put_allowed_proof.new.trees.bytes.items c.loop-index.trees.count c.put_allowed_proof.new.trees.count =
    record { bytes_are = c.in_ok-put_allowed_proof.ensures.bytes; counted = c.in_ok-put_allowed_proof.ensures.counted; few = c.in_ok-put_allowed_proof.ensures.few } in
    one_done c.loop-index.index c.index-commands-index.result (drop (c.loop-index.index + 1) cs) cs c.loop-index.tables c.args.before
    c.loop-index.trees.bytes.items c.args.trees.now.bytes.items c.put_allowed_proof.new.trees.bytes.items c.loop-index.trees.count c.put_allowed_proof.new.trees.count
    (subst (λ (xs : List Command). IsLeft c.loop-index.index xs cs c.loop-index.tables c.args.before c.loop-index.trees.bytes.items c.args.trees.now.bytes.items c.loop-index.trees.count) onward c.loop-index.invariant)
    put c.in-Ok.next c.in-Ok.ensures
