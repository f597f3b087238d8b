use Rattle.std.proofs.Common.{Ok, Err}
use Rattle.vo_commands.proofs.NetSteps.{asks_only, reply_goes, reply_stops}
use Rattle.vo_commands.proofs.store_replies.feed_reply.Goals as goal

pub returns-in_err-stop_without-in-Err-clause-asks : goal.returns-in_err-stop_without-in-Err-clause-asks
returns-in_err-stop_without-in-Err-clause-asks g c = λ before is.
    asks_only _ c.args.checking.now c.fetch_reply.new.checking (Err c.in-Err.fault) before _ (c.in-Err.ensures.known before is)

pub returns-in-Ok-clause-known : goal.returns-in-Ok-clause-known
returns-in-Ok-clause-known g c = λ before is. reply_goes _ c.args.checking.now c.fetch_reply.new.checking before _ c.requires.new (c.in-Ok.ensures.known before is)

pub returns-in-Ok-clause-asks : goal.returns-in-Ok-clause-asks
returns-in-Ok-clause-asks g c = λ before is.
    asks_only _ c.args.checking.now c.fetch_reply.new.checking (Ok tt) before _ (c.in-Ok.ensures.known before is)

pub returns-in_ok-stop_without-in-Err-clause-known : goal.returns-in_ok-stop_without-in-Err-clause-known
returns-in_ok-stop_without-in-Err-clause-known g c = λ before is.
    reply_stops _ c.args.checking.now c.fetch_reply.new.checking c.in-Err.fault before _ c.in_ok-stop_without-in-Err.field-0 (c.in-Err.ensures.known before is) c.in_ok-stop_without-in-Err.ensures.stops

pub returns-in_ok-stop_without-in-Err-clause-asks : goal.returns-in_ok-stop_without-in-Err-clause-asks
returns-in_ok-stop_without-in-Err-clause-asks g c = λ before is.
    asks_only _ c.args.checking.now c.fetch_reply.new.checking (Err c.in-Err.fault) before _ (c.in-Err.ensures.known before is)
