use Rattle.std.proofs.Common.{Some, sym, ap, ◌∙◌}
use Rattle.tree_stream.specs.declared.findings.Findings.{Findings}
use Rattle.tree_stream.specs.Remaining.{summary}
use Rattle.tree_stream.specs.Streams.{summary_of}
use Rattle.tree_stream.proofs.HeldLaws.{held_ended}
use Rattle.tree_stream.proofs.ShortLaws.{end_some, end_none}
use Rattle.tree_stream.proofs.stream.TreeStream.end.Goals as goal

pub returns-in-Some-clause-summary : goal.returns-in-Some-clause-summary
unfolding summary_of
returns-in-Some-clause-summary c =
    ap (λ (f : Findings). Some (summary c.in-Some.digest f)) c.findings_of-findings.ensures
    ∙ end_some c.args.self.machine.context c.args.self.machine.state c.args.self.partial.items c.in-Some.digest (sym c.complete_digest.ensures ∙ c.in-Some.is)

pub returns-in-None-clause-summary : goal.returns-in-None-clause-summary
unfolding summary_of
returns-in-None-clause-summary c = end_none c.args.self.machine.context c.args.self.machine.state c.args.self.partial.items (sym c.complete_digest.ensures ∙ c.in-None.is) c.args.self.short

pub returns-in-Some-clause-held : goal.returns-in-Some-clause-held
returns-in-Some-clause-held c = held_ended c.args.self c.in-Some.digest c.findings_of-findings.result (sym c.complete_digest.ensures ∙ c.in-Some.is) c.findings_of-findings.ensures
