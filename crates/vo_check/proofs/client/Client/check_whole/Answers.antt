use Rattle.vo_spec.specs.Conditions.{query_of}
use Rattle.held_replies.proofs.AcceptedRecords.{accepted}
use Rattle.vo_check.proofs.client.Client.check_whole.Goals as goal

pub returns-clause-accepted : goal.returns-clause-accepted
returns-clause-accepted c =
    accepted c.args.self.now.key c.args.self.now.least (query_of c.args.query.now) c.args.reply.now c.answer_whole-answer.result c.answer_whole-answer.ensures
