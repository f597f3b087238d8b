-- Where a run of a query's plan stops, a tree is missing something of what the query needs.
use Rattle.std.proofs.Common.{◌≡◌, true, false, List, ◌∷◌, Option, Some, None, length, map, refl, subst}
use Rattle.std.specs.Prelude.{◌==◌, option_map, option_to_list, zip}
use Rattle.std.specs.List.{list_any}
use Rattle.vo_spec.specs.declared.needs.Need.{Need}
use Rattle.vo_spec.specs.declared.queries.Join.{Join}
use Rattle.vo_spec.specs.declared.queries.Source.{Source}
use Rattle.vo_spec.specs.Tables.{TableHeader}
use Rattle.vo_spec.specs.Conditions.{Query}
use Rattle.vo_spec.specs.Results.{BoundSource, ColumnPlace, bound_source_of, bound_sources}
use Rattle.vo_spec.specs.Trees.{RowTree}
use Rattle.vo_spec.specs.Pruning.{is_missing}
use Rattle.vo_spec.specs.Needs.{needs, tables_used}
use Rattle.query_plan.specs.BoundQueries.{bound_join, bound_query}
use Rattle.query_plan.specs.Plans.{plan_of}
use Rattle.plan_run.specs.Running.{stops}
use Rattle.plan_run.proofs.ByNames.{needs_same}
use Rattle.plan_run.proofs.MissingLaws.{stopped_missing}

two_sources : (hs : List TableHeader) (left : Source) (j : Option Join) (ss : List BoundSource) (on : ColumnPlace × ColumnPlace) → option_map (bound_join ss) j ≡ Some on
    → (length (map (bound_source_of hs) (left ∷ option_to_list (option_map (λ (k : Join). k.right) j))) == 1) ≡ false
two_sources hs left None ss on is = absurd (cc)
two_sources hs left (Some j) ss on is = refl

pub stopped_needs : (hs : List TableHeader) (q : Query) (trees : List RowTree) → length trees ≡ length (tables_used (bound_sources hs q))
    → stops (plan_of (bound_query (bound_sources hs q) q)) trees ≡ true
    → list_any (λ (t : List Need × RowTree). is_missing t.0 t.1) (zip (needs (bound_sources hs q) q trees) trees) ≡ true
stopped_needs hs q trees count stopped =
    let ss : List BoundSource = bound_sources hs q in
    subst (λ (ns : List (List Need)). list_any (λ (t : List Need × RowTree). is_missing t.0 t.1) (zip ns trees) ≡ true) (needs_same ss q trees)
    (stopped_missing (plan_of (bound_query ss q)) trees count (two_sources hs q.left q.join ss) stopped)
