-- What a bound query shows of rows of its sources, by the conjuncts that are asked of them.
use Rattle.std.specs.Prelude.{◌≡◌, Bool, true, ◌&&◌, if◌then◌else◌, List, [], ◌∷◌, ◌++◌, map, filter, flat_map, Option, Some, None}
use Rattle.vo_spec.specs.declared.values.Value.{Value}
use Rattle.vo_spec.specs.declared.tables.Table.{Table}
use Rattle.vo_spec.specs.declared.queries.Cmp.TheVariants as cmp
use Rattle.vo_spec.specs.Conditions.{is_true, comparison_truth}
use Rattle.vo_spec.specs.Results.{ColumnPlace, RowView, place_value, row_views_at, first_rows}
use Rattle.query_plan.specs.BoundConditions.{BoundCondition, all_hold}
use Rattle.query_plan.specs.BoundQueries.{BoundQuery}
use Rattle.query_plan.specs.Plans.{QueryPlan, meets_left}

-- these items, and what came behind them
abbrev pub BeginsWith : {A : Type 0} → List A → List A → Type 0
BeginsWith {A} front items = (more : List A) × (items ≡ front ++ more)

-- whether ON's columns are equal, neither of them NULL
abbrev pub are_joined : (ColumnPlace → Value) → Option (ColumnPlace × ColumnPlace) → Bool
are_joined row None = true
are_joined row (Some on) = is_true (comparison_truth cmp.Eq (row on.0) (row on.1))

-- what is shown of rows, as values by place, where they are joined and meet the conjuncts
abbrev pub answer_at : BoundQuery → List BoundCondition → (ColumnPlace → Value) → List (List Value)
answer_at b late row = if are_joined row b.join && all_hold row late
    then map row b.output ∷ [] else []

-- of a left row beside each of its right rows
abbrev pub pair_answers : BoundQuery → List BoundCondition → List RowView → RowView
    → List (List Value)
pair_answers b late rights left =
    flat_map (λ right. answer_at b late (place_value (left ∷ right ∷ []))) rights

-- of a left row: alone, or in a join beside its right rows
abbrev pub left_answers : BoundQuery → List BoundCondition → Option (ColumnPlace × ColumnPlace)
    → List RowView → RowView → List (List Value)
left_answers b late None rights left = answer_at b late (place_value (left ∷ []))
left_answers b late (Some on) rights left = pair_answers b late rights left

-- of the left rows of a plan, each with its right rows, whatever the limit: the left condition is
-- met, so the late one is asked
abbrev pub unlimited_rows : QueryPlan → List RowView → (RowView → List RowView) → List (List Value)
unlimited_rows p lefts rights = flat_map
    (λ left. left_answers p.query p.late p.query.join (rights left) left) lefts

-- the first of them, no more than are wanted
abbrev pub plan_rows : QueryPlan → List RowView → (RowView → List RowView) → List (List Value)
plan_rows p lefts rights = first_rows p.query.limit (unlimited_rows p lefts rights)

-- what a plan shows of plain tables
abbrev pub plain_rows : QueryPlan → List Table → List (List Value)
plain_rows p tables =
    plan_rows p (filter (meets_left p) (row_views_at tables p.query.bound_sources 0))
    (λ left. row_views_at tables p.query.bound_sources 1)
