use Rattle.std.proofs.Common.{◌≡◌, true, false, refl, subst}
use Rattle.vo_check.specs.declared.progress.Progress.{Progress}
use Rattle.vo_check.specs.Checkings.{StandsBehind}
use Rattle.vo_check.proofs.CheckingLaws.{fed, no_trees, wants_row}
use Rattle.vo_check.proofs.feeding.feed_behind_head.Goals as goal

pub returns-in_err-feed-in-Trees-clause-dead : goal.returns-in_err-feed-in-Trees-clause-dead
returns-in_err-feed-in-Trees-clause-dead c = λ q bytes fits alone stands none.
    let behind = subst (λ (p : Progress). StandsBehind q p bytes) c.in-Trees.is stands in
    let dead : false ≡ true = c.in_err-feed-in-Trees.ensures.dead (no_trees q c.in-Trees.reply.head c.in-Trees.reply.trees bytes behind.1 fits none) in
    absurd cc

pub returns-in_ok-feed-in-Trees-clause-stands : goal.returns-in_ok-feed-in-Trees-clause-stands
returns-in_ok-feed-in-Trees-clause-stands c = λ is q bytes stands.
    let behind = subst (λ (p : Progress). StandsBehind q p bytes) c.in-Trees.is stands in
    (behind.0, fed q c.in-Trees.reply.head c.in-Trees.reply.trees _ bytes c.args.piece.now behind.1 c.in_ok-feed-in-Trees.ensures.ok c.in_ok-feed-in-Trees.ensures.behind)

pub returns-in_err-feed-in-Trees-clause-memory : goal.returns-in_err-feed-in-Trees-clause-memory
returns-in_err-feed-in-Trees-clause-memory c = λ q bytes alone stands err.
    let behind = subst (λ (p : Progress). StandsBehind q p bytes) c.in-Trees.is stands in
    wants_row q c.in-Trees.reply.head c.in-Trees.reply.trees bytes behind.1 c.args.piece.now (c.in_err-feed-in-Trees.ensures.memory refl)
