use Rattle.vo_spec.specs.Checks.{answer_to}
use Rattle.held_replies.proofs.ReplyTests.{answered}
use Rattle.held_replies.proofs.judging.judge.Goals as goal

pub returns-clause-answers : goal.returns-clause-answers
unfolding answer_to
returns-clause-answers c = answered c.answer_of.result _ _ c.answer_of.ensures.answer
