use Rattle.vo_commands.proofs.OwnerLaws.{follows_given}
use Rattle.vo_commands.proofs.journal_owner.JournalOwnerSessionOwner.step.Goals as goal

pub returns-in-Ok-clause-follows : goal.returns-in-Ok-clause-follows
returns-in-Ok-clause-follows g c =
    follows_given c.args.self.now.owner c.in-Ok.step c.args.batch.now.commands c.args.proofs.now c.in-Ok.ensures.answer c.in-Ok.ensures.next
    c.in-Ok.ensures.fits c.in-Ok.ensures.catalog c.in-Ok.ensures.few
