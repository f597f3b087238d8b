use Rattle.std.proofs.Common.{◌≡◌, ℕ, List, IfOk, sym, subst}
use Rattle.std.specs.Prelude.{option_map}
use Rattle.vo_spec.specs.Conditions.{query_of}
use Rattle.store_requests.specs.Texts.{query_in}
use Rattle.store_requests.proofs.TextReadings.{not_text}
use Rattle.store_requests.proofs.queries.read_query.Goals as goal

pub returns-in-Ok : goal.returns-in-Ok
returns-in-Ok c =
    subst (λ (text : List ℕ). IfOk c.query_of_text.result (λ query. option_map query_of query ≡ query_in text)) c.in-Ok.ensures.cases.0
    c.query_of_text.ensures

pub returns-in-Err : goal.returns-in-Err
returns-in-Err c = sym (not_text c.args.body.now c.in-Err.ensures.cases.0)
