use Rattle.vo_commands.specs.Expected.{HasQuery, question_frame}
use Rattle.vo_commands.proofs.NetSteps.{asks_by_key}
use Rattle.vo_commands.proofs.ask.ask.Goals as goal

pub returns-clause-asks : goal.returns-clause-asks
returns-clause-asks g c =
    λ before is. asks_by_key c.args.key.now c.in_ok-key.key (HasQuery c.args.query.now) (question_frame c.args.versions.at c.args.query.now)
    (g.F.Shelf.contents c.args.files.now) before _ c.in_ok-key.ensures.known (c.ask_by_key.ensures.asks before is)
