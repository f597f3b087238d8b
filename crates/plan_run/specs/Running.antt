-- What running a plan over part trees gives, and what it answers where a scan stops.
use Rattle.std.specs.Prelude.{◌≡◌, Bool, true, false, ◌||◌, List, [], ◌∷◌, ◌++◌, length, zip, filter, flat_map, is_none, is_some, option_to_list, Result, Ok, Err, IsTrue, ◌==◌, if◌then◌else◌}
use Rattle.std.specs.List.{list_any}
use Rattle.std.specs.Global.{Vec}
use Rattle.vo_spec.specs.declared.trees.ScanFault.{ScanFault}
use Rattle.vo_spec.specs.declared.trees.ScanFault.TheVariants.{Missing, Memory}
use Rattle.vo_spec.specs.declared.values.Value.{Value}
use Rattle.vo_spec.specs.declared.needs.Need.{Need}
use Rattle.vo_spec.specs.Results.{BoundSource, ColumnPlace, RowView, schema_at, first_rows}
use Rattle.vo_spec.specs.Trees.{RowTree}
use Rattle.vo_spec.specs.Scans.{seen}
use Rattle.vo_spec.specs.Pruning.{is_missing}
use Rattle.vo_spec.specs.Needs.{seen_row_views, tables_used, tree_at, right_tree}
use Rattle.query_plan.specs.Plans.{QueryPlan, plan_need, has_join_value, right_need_of, meets_left}
use Rattle.query_plan.specs.Answers.{pair_answers, unlimited_rows, plan_rows}
use Rattle.plan_run.specs.declared.ran.Ran.{Ran}
use Rattle.plan_run.specs.declared.left_views.RowsAndNeeds.{RowsAndNeeds}

-- the scan for the need stops
abbrev pub is_unseen : RowTree → Need → Bool
is_unseen tree need = is_none (seen need tree)

-- the left rows that the left tree shows and that meet the left condition
abbrev pub lefts_seen : QueryPlan → RowTree → List RowView
lefts_seen p tree = filter (meets_left p)
    (seen_row_views (schema_at p.query.bound_sources 0) (plan_need p tree) tree)

-- the right rows that a tree shows for a left row
abbrev pub rights_by : QueryPlan → ColumnPlace × ColumnPlace → RowTree → RowView → List RowView
rights_by p on tree left = seen_row_views (schema_at p.query.bound_sources 1)
    (right_need_of p on left) tree

abbrev pub rights_seen : QueryPlan → RowTree → RowView → List RowView
rights_seen p tree left = flat_map (λ on. rights_by p on tree left) (option_to_list p.query.join)

-- the same, but for a left row without a value for ON, for which no tree is asked
abbrev pub rights_asked : QueryPlan → ColumnPlace × ColumnPlace → RowTree → RowView → List RowView
rights_asked p on tree left = if has_join_value on left then rights_by p on tree left else []

-- what a left row needs of the right tree, nothing without a value for ON; and what left rows do
abbrev pub needs_by : QueryPlan → ColumnPlace × ColumnPlace → RowView → List Need
needs_by p on left = if has_join_value on left then right_need_of p on left ∷ [] else []

abbrev pub needs_of : QueryPlan → List RowView → List Need
needs_of p lefts = flat_map (λ on. flat_map (needs_by p on) lefts) (option_to_list p.query.join)

-- the scan for what a left row needs stops
abbrev pub stops_at : QueryPlan → ColumnPlace × ColumnPlace → RowTree → RowView → Bool
stops_at p on tree left = list_any (is_unseen tree) (needs_by p on left)

-- the needs of each tree, by those of the right rows
abbrev pub group_needs : List BoundSource → Need → List Need → List (List Need)
group_needs ss left rights = if length (tables_used ss) == 1 then (left ∷ rights) ∷ []
    else (left ∷ []) ∷ rights ∷ []

-- of the trees of a plan: the rows that they show, the needs of each, and whether a scan of them
-- stops

abbrev pub run_rows : QueryPlan → List RowTree → List (List Value)
run_rows p trees = plan_rows p (lefts_seen p (tree_at trees 0))
    (rights_seen p (right_tree p.query.bound_sources trees))

abbrev pub run_needs : QueryPlan → List RowTree → List (List Need)
run_needs p trees = let left = tree_at trees 0 in
    group_needs p.query.bound_sources (plan_need p left) (needs_of p (lefts_seen p left))

abbrev pub stops : QueryPlan → List RowTree → Bool
stops p trees = let left = tree_at trees 0 in
    is_unseen left (plan_need p left)
    || list_any (is_unseen (right_tree p.query.bound_sources trees))
    (needs_of p (lefts_seen p left))

-- Where no scan stops, the rows that the trees show and the needs of each; Missing where one does.
-- A want of memory may come in any case.
abbrev pub Runs : Result Ran ScanFault → QueryPlan → List RowTree → Type 0
Runs (Ok ran) p trees = (stops p trees ≡ false) × (ran.rows ≡ run_rows p trees)
    × (ran.needs ≡ run_needs p trees)
Runs (Err Missing) p trees = stops p trees ≡ true
Runs (Err Memory) p trees = Unit {0}

-- the same of left rows that are given, whatever the limit
abbrev pub Shows : Result RowsAndNeeds ScanFault → QueryPlan → List RowView → RowTree → Type 0
Shows (Ok shown) p lefts tree =
    (list_any (is_unseen tree) (needs_of p lefts) ≡ false)
    × (shown.rows.items ≡ unlimited_rows p lefts (rights_seen p tree))
    × (shown.needs.items ≡ needs_of p lefts)
Shows (Err Missing) p lefts tree = list_any (is_unseen tree) (needs_of p lefts) ≡ true
Shows (Err Memory) p lefts tree = Unit {0}

-- and of those of a join
abbrev pub ShowsPairs : Result RowsAndNeeds ScanFault → QueryPlan → ColumnPlace × ColumnPlace
    → List RowView → RowTree → Type 0
ShowsPairs (Ok shown) p on lefts tree =
    (list_any (stops_at p on tree) lefts ≡ false)
    × (shown.rows.items ≡ flat_map
    (λ left. pair_answers p.query p.late (rights_asked p on tree left) left) lefts)
    × (shown.needs.items ≡ flat_map (needs_by p on) lefts)
ShowsPairs (Err Missing) p on lefts tree = list_any (stops_at p on tree) lefts ≡ true
ShowsPairs (Err Memory) p on lefts tree = Unit {0}

-- one left row more
abbrev pub AddsPairs : Result (Unit {0}) ScanFault → RowsAndNeeds → RowsAndNeeds → QueryPlan
    → ColumnPlace
    × ColumnPlace → RowView → RowTree → Type 0
AddsPairs (Ok done) old new p on left tree =
    (stops_at p on tree left ≡ false)
    × (new.rows.items ≡ old.rows.items
    ++ pair_answers p.query p.late (rights_asked p on tree left) left)
    × (new.needs.items ≡ old.needs.items ++ needs_by p on left)
AddsPairs (Err Missing) old new p on left tree = stops_at p on tree left ≡ true
AddsPairs (Err Memory) old new p on left tree = Unit {0}

-- the first rows of what was shown, with this need of the left tree
abbrev pub RanOf : Result Ran ScanFault → QueryPlan → Need → RowsAndNeeds → Type 0
RanOf (Ok ran) p left shown = (ran.rows ≡ first_rows p.query.limit shown.rows.items)
    × (ran.needs ≡ group_needs p.query.bound_sources left shown.needs.items)
RanOf (Err Missing) p left shown = ⊥
RanOf (Err Memory) p left shown = Unit {0}

-- The needs of the right tree by the rows that the left one shows, or Missing where the scan of it
-- stops. A query without a join scans nothing.
abbrev pub FindsNeeds : Result (Vec Need) ScanFault → QueryPlan → RowTree → Type 0
FindsNeeds (Ok found) p left =
    (IsTrue (is_some p.query.join) → is_unseen left (plan_need p left) ≡ false)
    × (found.items ≡ needs_of p (lefts_seen p left))
FindsNeeds (Err Missing) p left = IsTrue (is_some p.query.join)
    × (is_unseen left (plan_need p left) ≡ true)
FindsNeeds (Err Memory) p left = Unit {0}

-- some tree lacks something that the plan needs of it
abbrev pub is_any_missing : QueryPlan → List RowTree → Bool
is_any_missing p trees = list_any (λ (t : List Need × RowTree). is_missing t.0 t.1)
    (zip (run_needs p trees) trees)
