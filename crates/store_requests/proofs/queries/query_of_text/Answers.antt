use Rattle.std.proofs.Common.{sym}
use Rattle.vo_spec.specs.Conditions.{query_of}
use Rattle.store_requests.proofs.TextReadings.{text_read, refused_query}
use Rattle.store_requests.proofs.queries.query_of_text.Goals as goal

pub returns-in-Ok : goal.returns-in-Ok
returns-in-Ok c = sym (text_read c.args.text.now (query_of c.in-Ok.query) c.utf8.text c.in-Ok.ensures.found)

pub returns-in-Err : goal.returns-in-Err
returns-in-Err c = refused_query c.args.text.now c.in-Err.fault c.without_query.result c.without_query.ensures.none c.in-Err.ensures.only
