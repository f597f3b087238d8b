use Rattle.std.proofs.Common.{◌≡◌, sym, ap, ◌∙◌}
use Rattle.vo_spec.specs.Conditions.{query_of}
use Rattle.vo_spec.specs.Results.{result as result_of}
use Rattle.vo_audit.proofs.ResultLaws.{tables_once}
use Rattle.vo_audit.proofs.outcome_test.is_result.Goals as goal

pub returns : goal.returns
returns c = λ plain stand.
    let same : c.in_ok-plain.plain ≡ plain = tables_once c.args.tables.now c.in_ok-plain.plain plain c.in_ok-plain.ensures.stand stand in
    let expected : c.in_ok-expected.expected ≡ result_of (query_of c.args.query.now) plain =
    c.in_ok-expected.ensures ∙ ap (result_of (query_of c.args.query.now)) (c.as_slice.ensures ∙ same) in
    ((λ true. c.same_outcome.ensures.0 true ∙ expected), (λ e. c.same_outcome.ensures.1 (e ∙ sym expected)))
