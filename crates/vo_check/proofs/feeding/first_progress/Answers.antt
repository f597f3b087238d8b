use Rattle.std.proofs.Common.{[], ◌∙◌}
use Rattle.vo_check.proofs.CheckingLaws.{empty_head}
use Rattle.vo_check.proofs.feeding.first_progress.Goals as goal

pub returns-then-is_streamed-clause-stands : goal.returns-then-is_streamed-clause-stands
returns-then-is_streamed-clause-stands c =
    (c.is_streamed.ensures.yes c.if-is_streamed.true, c.new.ensures.head [] ∙ empty_head, c.new.ensures.head, c.new.ensures.behind)
