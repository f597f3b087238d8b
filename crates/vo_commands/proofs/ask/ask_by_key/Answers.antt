use Rattle.vo_spec.specs.Conditions.{query_of}
use Rattle.vo_commands.specs.Expected.{Checks, HasQuery, queue_of, question_frame, with_reply}
use Rattle.vo_commands.proofs.CommandSteps.{of_query}
use Rattle.vo_commands.proofs.NetSteps.{asks_where, reply_known}
use Rattle.vo_commands.proofs.QueryTexts.{has_byte}
use Rattle.vo_commands.proofs.ask.ask_by_key.Goals as goal

pub ask_store-report-requires-clause-some : goal.ask_store-report-requires-clause-some
ask_store-report-requires-clause-some g c = has_byte c.args.query.now (query_of c.in_ok-text.text) c.in_ok-text.ensures

pub returns-clause-known : goal.returns-clause-known
returns-clause-known g c =
    let wire = g.N.Link.wire c.args.net.now in
    of_query c.args.query.now (query_of c.in_ok-text.text)
    (λ q. with_reply (queue_of wire) (λ reply. Checks c.args.key c.args.versions.at c.args.versions.least q reply)) c.ask_store-report.result
    c.in_ok-text.ensures
    (reply_known wire (λ reply. Checks c.args.key c.args.versions.at c.args.versions.least (query_of c.in_ok-text.text) reply) c.ask_store-report.result
    c.ask_store-report.ensures.known)

pub returns-clause-asks : goal.returns-clause-asks
returns-clause-asks g c =
    λ before is. asks_where (HasQuery c.args.query.now) (question_frame c.args.versions.at c.args.query.now) before _
    (query_of c.in_ok-text.text, c.in_ok-text.ensures) (c.ask_store-report.ensures.asks before is)
