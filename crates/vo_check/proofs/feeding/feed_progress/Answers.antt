use Rattle.std.proofs.Common.{refl}
use Rattle.vo_spec.specs.Conditions.{query_of}
use Rattle.vo_check.proofs.feeding.feed_progress.Goals as goal

pub returns-in-Err-clause-front : goal.returns-in-Err-clause-front
returns-in-Err-clause-front c = λ bytes stands alone none err.
    let wants = c.in-Err.ensures.memory (query_of c.args.query.now) bytes alone stands refl in
    absurd (none (wants.head, wants.behind, wants.head_is))
