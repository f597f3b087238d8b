-- What reading the bytes to come gives of a tree that is read in part: its summary, and the bytes
-- behind it.
use Rattle.std.specs.Prelude.{◌≡◌, ℕ, Bool, true, false, IsTrue, ◌-◌, not, List, [], ◌∷◌, ◌++◌, length, reverse, Option, Some, None}
use Rattle.tree_stream.specs.declared.target.Target.{Target}
use Rattle.vo_spec.specs.Bytes.{IsBytes}
use Rattle.vo_spec.specs.Scans.{in_interval, is_empty_interval}
use Rattle.vo_spec.specs.Fits.{max_levels}
use Rattle.row_bytes.specs.Fields.{◌>>=◌}
use Rattle.batch_format.specs.BatchReading.{Reader}
use Rattle.tree_stream.specs.declared.findings.Findings.{Findings}
use Rattle.tree_stream.specs.declared.findings.Summary.{Summary}
use Rattle.tree_stream.specs.declared.state.State.{State}
use Rattle.tree_stream.specs.declared.state.State.TheVariants.{Row, Cell, Complete, Invalid}
use Rattle.tree_stream.specs.declared.state.InnerNode.{InnerNode}
use Rattle.tree_stream.specs.declared.context.Context.{Context}
use Rattle.tree_stream.specs.Findings.{combine}
use Rattle.tree_stream.specs.Remaining.{summary, rest_of_children, rest_of_node, summary_at}

-- how many levels a node with these ancestors may have
abbrev pub levels_below : List InnerNode → ℕ
levels_below ancestors = max_levels - length ancestors

-- Behind a node that ended with this digest, and these findings so far: the children that its
-- ancestors still have, the nearest ancestor first.
unfoldable pub summary_after : Target → List InnerNode → List ℕ → Findings → Reader Summary
summary_after target [] d found bytes = Some (summary d found, bytes)
summary_after target (node ∷ ancestors) d found bytes =
    rest_of_children target (levels_below (node ∷ ancestors)) (node.hasher ++ d)
    node.child_visits.items bytes >>= λ end.
    summary_after target ancestors end.0.digest (combine found end.0.findings) end.1

-- where the rest of a node is read so; its ancestors are given with the root first
unfoldable pub summary_with : Target → List InnerNode → Findings → Reader Summary
    → Reader Summary
summary_with target ancestors found read bytes = read bytes >>= λ end.
    summary_after target (reverse ancestors) end.0.digest (combine found end.0.findings) end.1

abbrev pub summary_by : Context → Reader Summary → Reader Summary
summary_by context read bytes =
    summary_with context.target context.ancestors.items context.findings read bytes

-- the rest of the node that a state is in
abbrev pub rest_in : Context → State → Reader Summary
rest_in context state bytes = rest_of_node context.target (levels_below context.ancestors.items)
    context.last_key.items state bytes

unfoldable pub summary_from : Context → State → Reader Summary
summary_from context (Complete digest) bytes =
    summary_after context.target [] digest context.findings bytes
summary_from context state bytes = summary_by context (rest_in context state) bytes

-- the digest of a tree of which nothing is left
abbrev pub complete_digest : State → Option (List ℕ)
complete_digest (Complete digest) = Some digest
complete_digest _ = None

-- neither a token nor a part of one comes any more
abbrev pub is_settled : State → Bool
is_settled (Complete digest) = true
is_settled Invalid = true
is_settled _ = false

-- a tree whose root is visited unless the interval is empty
unfoldable pub summary_of_tree : Target → Reader Summary
summary_of_tree target bytes =
    summary_at target max_levels (not (is_empty_interval target.interval)) bytes

-- whatever comes next, this is what comes of it
pub record Yields (context : Context) (state : State) (summaries : Reader Summary) : Type 0 where
  pub each : (rest : List ℕ) → summary_from context state rest ≡ summaries rest

-- some bytes make a tree of it, whatever comes behind them
pub record CanEnd (summaries : Reader Summary) : Type 0 where
  pub bytes : List ℕ
  pub are_bytes : IsBytes bytes
  pub found : Summary
  pub each : (rest : List ℕ) → summaries (bytes ++ rest) ≡ Some (found, rest)

-- The next byte is of an entry behind its key, which is in the target's interval: there a call may
-- want memory.
abbrev pub is_needed_row : Context → Bool
is_needed_row context = in_interval context.target.interval context.last_key.items

abbrev pub IsInNeededRow : Context → State → Type 0
IsInNeededRow context (Row leaf) = IsTrue (is_needed_row context)
IsInNeededRow context (Cell row) = IsTrue (is_needed_row context)
IsInNeededRow context _ = ⊥
