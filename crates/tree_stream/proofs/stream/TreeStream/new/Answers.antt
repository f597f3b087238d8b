use Rattle.std.proofs.Common.{List, ℕ, Bool, [], sym, ◌++◌, length, ap, arith, ◌∙◌}
use Rattle.std.specs.Prelude.{not}
use Rattle.tree_stream.specs.declared.context.Context.{Context}
use Rattle.tree_stream.specs.declared.state.InnerNode.{InnerNode}
use Rattle.tree_stream.specs.declared.state.State.TheVariants.{Node}
use Rattle.tree_stream.specs.Streams.{summary_of}
use Rattle.tree_stream.specs.Summaries.{summary_from}
use Rattle.tree_stream.proofs.KeepingLaws.{nothing_kept}
use Rattle.tree_stream.proofs.PlaceLaws.{below_none}
use Rattle.tree_stream.proofs.PieceLaws.{empty_short}
use Rattle.tree_stream.proofs.ShortLaws.{start_is}
use Rattle.tree_stream.proofs.stream.TreeStream.new.Goals as goal

pub invariant_of-result : goal.invariant_of-result
invariant_of-result c = record { few = omega (arith, ap (λ (nodes : List InnerNode). length nodes) c.new.ensures) }

pub invariant_of-result-2 : goal.invariant_of-result-2
invariant_of-result-2 c = record { short = empty_short _ c.new-3.result.items c.new-3.ensures; kept = λ settled. c.new-3.ensures }

pub returns-clause-summary : goal.returns-clause-summary
unfolding summary_of
returns-clause-summary c = λ bytes.
    let context : Context = record { target = c.args.target; ancestors = c.new.result; findings = c.empty_findings.result; last_key = c.new-2.result; few = _ } in
    ap (λ (partial : List ℕ). summary_from context (Node (not c.is_empty_interval-visited.result)) (partial ++ bytes)) c.new-3.ensures
    ∙ ap (λ (b : Bool). summary_from context (Node (not b)) bytes) c.is_empty_interval-visited.ensures
    ∙ start_is context bytes c.new.ensures c.empty_findings.ensures

pub returns-clause-behind : goal.returns-clause-behind
returns-clause-behind c = record { taken = []; at = (below_none c.new.result.items c.new.ensures, nothing_kept c.args.target.interval [] c.empty_findings.result c.empty_findings.ensures); parts = sym c.new-3.ensures }
