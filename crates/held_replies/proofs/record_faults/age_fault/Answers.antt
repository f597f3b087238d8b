use Rattle.held_replies.proofs.LeafLaws.{too_old}
use Rattle.held_replies.proofs.record_faults.age_fault.Goals as goal

pub returns-then-got-least : goal.returns-then-got-least
returns-then-got-least c = too_old c.args.least c.args.rec.now c.if-got-least.true
