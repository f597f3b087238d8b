-- Findings before those of what is read: none, some before others, and those that stand in the context.
use Rattle.std.proofs.Common.{◌≡◌, ℕ, List, Option, Some, None, sym, ap, ◌∙◌}
use Rattle.std.specs.Prelude.{reverse}
use Rattle.tree_stream.specs.declared.target.Target.{Target}
use Rattle.row_bytes.specs.Fields.{◌>>=◌}
use Rattle.batch_format.specs.BatchReading.{Reader}
use Rattle.tree_stream.specs.declared.findings.Findings.{Findings}
use Rattle.tree_stream.specs.declared.findings.Summary.{Summary}
use Rattle.tree_stream.specs.declared.state.InnerNode.{InnerNode}
use Rattle.tree_stream.specs.Findings.{combine}
use Rattle.tree_stream.specs.Remaining.{summary, with_findings, nothing_more}
use Rattle.tree_stream.specs.Summaries.{summary_after, summary_with}
use Rattle.tree_stream.proofs.Sums.{combine_none, combine_assoc}
use Rattle.tree_stream.proofs.Binds.{bind_assoc, bind_same}

abbrev End : Type 0
End = Summary × List ℕ

-- what is found before, in front
abbrev found_before : Findings → End → Option End
found_before f end = Some (summary end.0.digest (combine f end.0.findings), end.1)

abbrev pub summary_behind : Target → List InnerNode → Findings → End → Option (Summary × List ℕ)
summary_behind target ancestors found end = summary_after target (reverse ancestors) end.0.digest (combine found end.0.findings) end.1

pub with_twice : (f g : Findings) (read : Reader Summary) (bytes : List ℕ) → with_findings f (with_findings g read) bytes ≡ with_findings (combine f g) read bytes
unfolding with_findings
with_twice f g read bytes =
    bind_assoc (read bytes) (found_before g) (found_before f)
    ∙ bind_same (read bytes) (λ end. found_before g end >>= found_before f) (found_before (combine f g))
    (λ end. ap (λ (h : Findings). Some (summary end.0.digest h, end.1)) (sym (combine_assoc f g end.0.findings)))

-- what was found before is put to what the context has
pub found_with : (target : Target) (ancestors : List InnerNode) (found f : Findings) (read : Reader Summary) (bytes : List ℕ)
    → summary_with target ancestors found (with_findings f read) bytes ≡ summary_with target ancestors (combine found f) read bytes
unfolding summary_with with_findings
found_with target ancestors found f read bytes =
    bind_assoc (read bytes) (found_before f) (summary_behind target ancestors found)
    ∙ bind_same (read bytes) (λ end. found_before f end >>= summary_behind target ancestors found) (summary_behind target ancestors (combine found f))
    (λ end. ap (λ (h : Findings). summary_after target (reverse ancestors) end.0.digest h end.1) (sym (combine_assoc found f end.0.findings)))

pub nothing_with : (target : Target) (ancestors : List InnerNode) (found : Findings) (d bytes : List ℕ)
    → summary_with target ancestors found (nothing_more d) bytes ≡ summary_after target (reverse ancestors) d found bytes
unfolding summary_with
nothing_with target ancestors found d bytes =
    ap (λ (h : Findings). summary_after target (reverse ancestors) d h bytes) (combine_none found)

-- readers that give the same
pub same_with : (target : Target) (ancestors : List InnerNode) (found : Findings) (read other : Reader Summary) (bytes rest : List ℕ) → read bytes ≡ other rest
    → summary_with target ancestors found read bytes ≡ summary_with target ancestors found other rest
unfolding summary_with
same_with target ancestors found read other bytes rest e =
    ap (λ (o : Option End). o >>= summary_behind target ancestors found) e

pub none_with : (target : Target) (ancestors : List InnerNode) (found : Findings) (read : Reader Summary) (bytes : List ℕ) → read bytes ≡ None
    → summary_with target ancestors found read bytes ≡ None
unfolding summary_with
none_with target ancestors found read bytes e =
    ap (λ (o : Option End). o >>= summary_behind target ancestors found) e
