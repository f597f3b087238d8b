use Rattle.vo_commands.proofs.CommandSteps.{answer_known}
use Rattle.vo_commands.proofs.answer.answer.Goals as goal

pub returns-clause-known : goal.returns-clause-known
returns-clause-known g c =
    answer_known c.args.key.now c.args.journal.now c.args.query.now c.args.at _ _ _ _ _
    c.in_ok-key.ensures.files.leaves.kept c.in_ok-key.ensures.known c.in_ok-journal.ensures.known (rw c.deref.ensures.value at c.answer_query.ensures.known)
