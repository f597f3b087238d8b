-- What a client says of a reply to a query without a join or a limit, by the reply's head and by
-- what was found in its trees.
use Rattle.std.specs.Prelude.{◌≡◌, if◌then◌else◌, ℕ, true, List, [], ◌∷◌, Option, Some, is_some, option_and_then}
use Rattle.std.specs.Option.{option_map_or}
use Rattle.vo_spec.specs.declared.needs.SeenRow.{SeenRow}
use Rattle.vo_spec.specs.declared.records.Catalog.{Catalog}
use Rattle.vo_spec.specs.declared.records.CatalogTable.{CatalogTable}
use Rattle.vo_spec.specs.declared.values.Value.{Value}
use Rattle.vo_spec.specs.Conditions.{Query}
use Rattle.vo_spec.specs.Fits.{FitsTree}
use Rattle.vo_spec.specs.Needs.{uncut_need}
use Rattle.vo_spec.specs.Records.{table_headers}
use Rattle.vo_spec.specs.Replies.{Reply, FitsReply}
use Rattle.vo_spec.specs.Results.{binding_fault, bound_source_at, bound_sources, schema_at}
use Rattle.vo_spec.specs.Scans.{seen}
use Rattle.vo_spec.specs.Trees.{RowTree, digest}
use Rattle.vo_spec.specs.Checks.{table_named}
use Rattle.query_plan.specs.BoundQueries.{BoundQuery}
use Rattle.query_plan.specs.Plans.{QueryPlan, bound_uncut_need}
use Rattle.plan_run.specs.Running.{run_rows}
use Rattle.tree_stream.specs.declared.findings.Summary.{Summary}
use Rattle.tree_stream.specs.declared.target.Target.{Target}
use Rattle.tree_stream.specs.Findings.{findings_in, no_target, target_of}
use Rattle.tree_stream.specs.Remaining.{summary}
use Rattle.reply_stream.specs.declared.trees_summary.TreesSummary.{TreesSummary}
use Rattle.reply_stream.specs.ReplyHeads.{ReplyHead}
use Rattle.reply_stream.specs.ReplyTrees.{trees_summary}
use Rattle.held_replies.specs.Ordering.{TreeFindings}
use Rattle.held_replies.specs.Testing.{digest_fault}

-- What the first tree is read for: the rows that the query needs of it, or none where the query is
-- wrong.

abbrev pub bound_target : BoundQuery → Target
bound_target b = target_of (bound_uncut_need b) (schema_at b.bound_sources 0)

abbrev pub target_for : Query → Catalog → Target
target_for q c =
    let ss = bound_sources (table_headers c) q in
    if is_some (binding_fault (table_headers c) q) then no_target
    else target_of (uncut_need ss q) (schema_at ss 0)

abbrev pub plan_for : Query → ReplyHead → Target
plan_for q head = target_for q head.catalog

-- what the tests find of the first of so many trees by its summary, with its table, if there is
-- one
abbrev pub findings_of : Option CatalogTable → ℕ → Summary → TreeFindings
findings_of table count s = record {
  wanted = 1;
  count = count;
  have_shapes = option_map_or (λ (t : CatalogTable). s.findings.has_shape) table true;
  root_fault = option_and_then (λ (t : CatalogTable). digest_fault t s.digest) table;
  is_missing = s.findings.is_missing;
  has_surplus = s.findings.has_surplus;
}

-- these are the rows that a plan shows of a tree of which it needs those that were seen
abbrev pub ShowsSeen : QueryPlan → List SeenRow → List (List Value) → Type 0
ShowsSeen p seen_rows rows = (tree : RowTree) → seen p.uncut_need tree ≡ Some seen_rows
    → rows ≡ run_rows p (tree ∷ [])

-- the table of a bound query's one source
abbrev pub table_of : BoundQuery → Catalog → Option CatalogTable
table_of b c = table_named (bound_source_at b.bound_sources 0).table c

-- it has the schema that the query is bound to
abbrev pub HasSchema : BoundQuery → Catalog → Type 0
HasSchema b c = (table : CatalogTable) → table_of b c ≡ Some table
    → table.schema ≡ schema_at b.bound_sources 0

-- the tree has this summary
abbrev pub IsSummedUp : Target → RowTree → Summary → Type 0
IsSummedUp target tree s = FitsTree tree × (s ≡ summary (digest tree) (findings_in target tree))

-- a reply of this catalog has trees of which this was found
abbrev pub HasFound : Target → Catalog → TreesSummary → Reply → Type 0
HasFound target c trees r = FitsReply r × (r.catalog ≡ c)
    × (trees ≡ trees_summary target r.trees)
