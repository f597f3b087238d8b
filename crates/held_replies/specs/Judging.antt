-- The tests of a reply in groups, and what is shown to a query that binds.
use Rattle.std.specs.Prelude.{◌≡◌, ℕ, List, [], ◌∷◌, length, map, zip, Option, None}
use Rattle.std.specs.List.{list_all}
use Rattle.vo_spec.specs.declared.checks.CheckFault.{CheckFault}
use Rattle.vo_spec.specs.declared.needs.Need.{Need}
use Rattle.vo_spec.specs.declared.queries.Outcome.{Outcome}
use Rattle.vo_spec.specs.declared.queries.Outcome.TheVariants.{Rows}
use Rattle.vo_spec.specs.declared.values.Value.{Value}
use Rattle.vo_spec.specs.Firsts.{first_some}
use Rattle.vo_spec.specs.Conditions.{Query, FitsQuery}
use Rattle.vo_spec.specs.Results.{binding_fault, header}
use Rattle.vo_spec.specs.Records.{table_headers}
use Rattle.vo_spec.specs.Needs.{tables_used}
use Rattle.vo_spec.specs.Replies.{Reply}
use Rattle.vo_spec.specs.Trees.{RowTree}
use Rattle.vo_spec.specs.Checks.{key_fault, leaf_fault, signature_fault, age_fault, catalog_fault, count_fault, shape_fault, trees_of, has_table_shape, root_fault, missing_fault, surplus_fault}
use Rattle.query_plan.specs.BoundQueries.{BoundQuery}
use Rattle.query_plan.specs.Plans.{QueryPlan, plan_of}
use Rattle.plan_run.specs.Running.{run_rows, run_needs}
use Rattle.held_replies.specs.Ordering.{TreeFindings, found_fault}
use Rattle.held_replies.specs.Testing.{any_missing, any_surplus, with_tables}

-- the trees, each with its needs, and what they show

abbrev pub needed_for : QueryPlan → Reply → List (List Need × RowTree)
needed_for p r = zip (run_needs p r.trees) r.trees

abbrev pub shown_for : QueryPlan → Reply → Outcome
shown_for p r = Rows (header p.query.bound_sources p.query.items) (run_rows p r.trees)

-- these are the rows that the trees show
abbrev pub ShowsRun : QueryPlan → Reply → List (List Value) → Type 0
ShowsRun p r rows = rows ≡ run_rows p r.trees

-- what the tests find of the trees of the tables of these names, for a plan
abbrev pub findings_by : List (List ℕ) → QueryPlan → Reply → TreeFindings
findings_by names p r = record {
  wanted = length names;
  count = length r.trees;
  have_shapes = list_all has_table_shape (with_tables names r.catalog.tables r.trees);
  root_fault = first_some (map root_fault (with_tables names r.catalog.tables r.trees));
  is_missing = any_missing (needed_for p r);
  has_surplus = any_surplus (needed_for p r);
}

abbrev pub findings_for : QueryPlan → Reply → TreeFindings
findings_for p r = findings_by (tables_used p.query.bound_sources) p r

-- the first test of the trees of a bound query that refuses the reply
abbrev pub bound_fault : BoundQuery → Reply → Option CheckFault
bound_fault b r = found_fault (findings_for (plan_of b) r)

-- the first test of the record that refuses the reply
abbrev pub record_fault : List ℕ → ℕ → Reply → Option CheckFault
record_fault key least r = first_some
    (key_fault key r ∷ leaf_fault key r ∷ signature_fault key r ∷ age_fault least r ∷ [])

-- the first test of what comes before the trees that does
abbrev pub head_fault : List ℕ → ℕ → Reply → Option CheckFault
head_fault key least r = first_some (record_fault key least r ∷ catalog_fault r ∷ [])

-- the first test of the trees that does
unfoldable pub proof_fault : Query → Reply → Option CheckFault
proof_fault q r = first_some
    (count_fault q r
    ∷ shape_fault q r
    ∷ first_some (map root_fault (trees_of q r))
    ∷ missing_fault q r
    ∷ surplus_fault q r
    ∷ [])

-- where the query binds, the numbers that it compares with are of 64 bits
abbrev pub FitsWhereBound : Query → Reply → Type 0
FitsWhereBound q r = binding_fault (table_headers r.catalog) q ≡ None → FitsQuery q
