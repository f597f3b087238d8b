use Rattle.vo_check.proofs.CheckingLaws.{too_long}
use Rattle.vo_spec.specs.Conditions.{query_of}
use Rattle.vo_check.proofs.ending.end_progress.Goals as goal

pub returns-in-Some-clause-answers : goal.returns-in-Some-clause-answers
returns-in-Some-clause-answers c = λ bytes fits few counted stands.
    too_long c.args.client.now.key c.args.client.now.least (query_of c.args.query.now) bytes few c.args.count.now counted c.in-Some.length c.in-Some.ensures c.excess_fault-fault.result c.excess_fault-fault.ensures.fault
