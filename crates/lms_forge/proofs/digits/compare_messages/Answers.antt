use Rattle.std.proofs.Common.{◌≡◌, sym, ap, ◌∙◌, subst}
use Rattle.std.specs.Prelude.{◌≢◌}
use Rattle.tagged_hash.proofs.Lengths.{length-sha256}
use Rattle.vo_spec.specs.Ots.{message_text, randomizer, step_text}
use Rattle.lms_forge.specs.Lowering.{MessagesCompared}
use Rattle.lms_forge.proofs.Findings.{messages_compared}
use Rattle.lms_forge.proofs.Splitting.{message_of_text}
use Rattle.lms_forge.proofs.digits.compare_messages.Goals as goal

pub returns : goal.returns
returns c =
    let id = c.args.tree.now.id in
    let q = c.args.q in
    let own = randomizer id q c.args.tree.now.seed in
    let first = message_text id q c.args.random.now c.args.message.now in
    let second = message_text id q own c.args.released.now in
    let differ : first ≢ second = λ same. c.requires.differ
    (message_of_text id q c.args.random.now c.args.message.now own c.args.released.now
    (c.requires.full ∙ sym (length-sha256 (step_text id q 0xfffd 0xff c.args.tree.now.seed))) same) in
    let first_is : c.in_ok-first.first.items ≡ first = c.in_ok-first.ensures in
    let second_is : c.in_ok-second.second.items ≡ second = c.in_ok-second.ensures ∙ ap (λ random. message_text id q random c.args.released.now) (rw (c.id.ensures.value, c.seed.ensures) at c.randomizer-own.ensures) in
    subst (λ x. MessagesCompared x second c.collision.result) first_is
    (subst (λ y. MessagesCompared c.in_ok-first.first.items y c.collision.result) second_is
    (messages_compared c.in_ok-first.first.items c.in_ok-second.second.items c.collision.result
    (λ same. differ (sym first_is ∙ same ∙ second_is)) c.collision.ensures.exactly c.collision.ensures.kept))
