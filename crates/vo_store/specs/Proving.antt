-- The proofs that a reply has.
use Rattle.std.specs.Prelude.{ℕ, ◌<◌, ◌==◌, if◌then◌else◌, List, [], ◌∷◌, length, find, bytes_eq, is_some, IsTrue}
use Rattle.vo_spec.specs.declared.needs.Need.{Need}
use Rattle.vo_spec.specs.Conditions.{Query}
use Rattle.vo_spec.specs.Results.{BoundSource, bound_sources, bound_source_at}
use Rattle.vo_spec.specs.Records.{table_headers}
use Rattle.vo_spec.specs.Trees.{RowTree}
use Rattle.vo_spec.specs.Pruning.{prune_tree}
use Rattle.vo_spec.specs.Needs.{needs, same_table}
use Rattle.vo_spec.specs.Honest.{Stored, catalog_of, stored_tree, trees_for, pruned_each}
use Rattle.query_plan.specs.Plans.{QueryPlan, plan_need}
use Rattle.plan_run.specs.Running.{lefts_seen, needs_of}

-- the trees of the query, with open what it needs of each
abbrev pub proofs_of : Query → List Stored → List RowTree
proofs_of q stored = let trees = trees_for q stored in
    pruned_each (needs (bound_sources (table_headers (catalog_of stored)) q) q trees) trees

-- there is a table of this name, and of each source's
abbrev pub HasTable : List Stored → List ℕ → Type 0
HasTable stored name = IsTrue (is_some (find (λ (s : Stored). bytes_eq s.name name) stored))

abbrev pub HasTables : List Stored → List BoundSource → Type 0
HasTables stored ss = (i : ℕ) → i < length ss → HasTable stored (bound_source_at ss i).table

-- The same of a plan.

-- the tree of a source's table, whole
abbrev pub tree_by : QueryPlan → List Stored → ℕ → RowTree
tree_by p stored i = stored_tree stored (bound_source_at p.query.bound_sources i).table

-- what it needs of the left tree, and what the left rows need of the right one
abbrev pub left_need_by : QueryPlan → List Stored → Need
left_need_by p stored = plan_need p (tree_by p stored 0)

abbrev pub right_needs_by : QueryPlan → List Stored → List Need
right_needs_by p stored = needs_of p (lefts_seen p (tree_by p stored 0))

-- the left table's own proof
abbrev pub left_proof : QueryPlan → List Stored → RowTree
left_proof p stored = prune_tree (left_need_by p stored ∷ []) (tree_by p stored 0)

abbrev pub plan_proofs : QueryPlan → List Stored → List RowTree
plan_proofs p stored =
    if length p.query.bound_sources == 1 then left_proof p stored ∷ []
    else (if same_table p.query.bound_sources
    then prune_tree (left_need_by p stored ∷ right_needs_by p stored) (tree_by p stored 0) ∷ []
    else left_proof p stored ∷ prune_tree (right_needs_by p stored) (tree_by p stored 1) ∷ [])
