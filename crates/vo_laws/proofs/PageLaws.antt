-- The tree of an honest reply to a query of one source with a limit is closed above the last row
-- that the limit lets through.
use Rattle.std.proofs.Common.{◌≡◌, ℕ, false, cond, List, [], ◌∷◌, Option, Some, None, map, refl, sym, subst}
use Rattle.std.specs.Prelude.{is_some}
use Rattle.vo_spec.specs.declared.needs.Need.{Need}
use Rattle.vo_spec.specs.declared.needs.SeenRow.{SeenRow}
use Rattle.vo_spec.specs.declared.queries.Items.{Items}
use Rattle.vo_spec.specs.declared.queries.Join.{Join}
use Rattle.vo_spec.specs.declared.queries.QueryFault.{QueryFault}
use Rattle.vo_spec.specs.declared.queries.Source.{Source}
use Rattle.vo_spec.specs.declared.records.Record.{Record}
use Rattle.vo_spec.specs.Conditions.{Condition, Query}
use Rattle.vo_spec.specs.Results.{BoundSource, bound_sources, binding_fault}
use Rattle.vo_spec.specs.Records.{table_headers}
use Rattle.vo_spec.specs.Trees.{RowTree}
use Rattle.vo_spec.specs.Pruning.{prune_tree}
use Rattle.vo_spec.specs.Walks.{walk}
use Rattle.vo_spec.specs.Cuts.{RowCondition, nth_met, cut_at, cut_need}
use Rattle.vo_spec.specs.Needs.{uncut_need, meets_row, needs, tables_used, tree_at}
use Rattle.vo_spec.specs.Honest.{Stored, catalog_of, honest_reply, stored_tree, pruned_each}
use Rattle.vo_laws.specs.Cutting.{opens_above}
use Rattle.vo_laws.proofs.PrunedLaws.{pruned_bare}
use Rattle.vo_laws.proofs.OpenNodes.{none_above}

-- of the proof for a need that a tree cuts
proof_opens : (need : Need) (meets : RowCondition) (n : ℕ) (t : RowTree) (row : SeenRow) → nth_met meets n (walk need t).rows ≡ Some row
    → opens_above row.key None (prune_tree (cut_need need meets n t ∷ []) t) ≡ false
proof_opens need meets n t row e =
    let cut : List Need = cut_at (Some row) need ∷ [] in
    subst (λ o. opens_above row.key None (prune_tree (cut_at o need ∷ []) t) ≡ false) (sym e)
    (none_above row.key cut (prune_tree cut t) (refl, tt) (pruned_bare cut t))

-- and of the reply's tree, which is that proof where the query is bound
page_opens : (stored : List Stored) (items : Items) (left : Source) (join : Option Join) (condition : Option Condition) (limit : Option ℕ) (n : ℕ) (rec : Record) (signature : List ℕ) (row : SeenRow)
    → join ≡ None → limit ≡ Some n
    → let q : Query = record { items = items; left = left; join = join; condition = condition; limit = limit } in
    let ss : List BoundSource = bound_sources (table_headers (catalog_of stored)) q in
    binding_fault (table_headers (catalog_of stored)) q ≡ None
    → nth_met (meets_row ss q) n (walk (uncut_need ss q) (stored_tree stored left.table)).rows ≡ Some row
    → opens_above row.key None (tree_at (honest_reply q rec signature stored).trees 0) ≡ false
unfolding honest_reply
page_opens stored items left (Some j) condition limit n rec signature row one limited bound met = absurd (cc)
page_opens stored items left None condition None n rec signature row one limited bound met = absurd (cc)
page_opens stored items left None condition (Some m) n rec signature row one limited bound met =
    subst IsClosed (sym bound) (proof_opens (uncut_need ss q) (meets_row ss q) m (stored_tree stored left.table) row
    (subst (λ k. nth_met (meets_row ss q) k (walk (uncut_need ss q) (stored_tree stored left.table)).rows ≡ Some row) (sym same) met))
  where
    same : m ≡ n
    same = cc

    q : Query
    q = record { items = items; left = left; join = None; condition = condition; limit = Some m }

    ss : List BoundSource
    ss = bound_sources (table_headers (catalog_of stored)) q

    trees : Option QueryFault → List RowTree
    trees fault = map (stored_tree stored) (cond (is_some fault) [] (tables_used ss))

    IsClosed : Option QueryFault → Type 0
    IsClosed fault = opens_above row.key None (tree_at (pruned_each (needs ss q (trees fault)) (trees fault)) 0) ≡ false

pub pages_open : (stored : List Stored) (q : Query) (n : ℕ) (rec : Record) (signature : List ℕ) (row : SeenRow) → q.join ≡ None → q.limit ≡ Some n
    → let ss : List BoundSource = bound_sources (table_headers (catalog_of stored)) q in
    binding_fault (table_headers (catalog_of stored)) q ≡ None
    → nth_met (meets_row ss q) n (walk (uncut_need ss q) (stored_tree stored q.left.table)).rows ≡ Some row
    → opens_above row.key None (tree_at (honest_reply q rec signature stored).trees 0) ≡ false
pages_open stored q n rec signature row = page_opens stored q.items q.left q.join q.condition q.limit n rec signature row
