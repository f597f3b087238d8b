-- What a scan gives of a tree's proof for its own need is what it gives of the whole tree; so a
-- query's needs may be found from the proof for its left need.
use Rattle.std.proofs.Common.{◌≡◌, ℕ, ◌<◌, Bool, true, false, cond, List, [], ◌∷◌, Option, map, inl, refl, sym, ap, ◌∙◌, subst}
use Rattle.std.specs.Prelude.{◌||◌, ◌==◌, filter, flat_map, length, is_some, unwrap_or, option_to_list}
use Rattle.std.specs.List.{AllByRecursion}
use Rattle.vo_spec.specs.declared.values.Row.{Row}
use Rattle.vo_spec.specs.declared.tables.Command.{Command}
use Rattle.vo_spec.specs.declared.tables.Table.{Table}
use Rattle.vo_spec.specs.declared.needs.Need.{Need}
use Rattle.vo_spec.specs.declared.needs.SeenRow.{SeenRow}
use Rattle.vo_spec.specs.Tables.{TableHeader, table_header_of, rows_named, tables_after}
use Rattle.vo_spec.specs.Batches.{FitsBatch}
use Rattle.vo_spec.specs.Conditions.{Query}
use Rattle.vo_spec.specs.Results.{BoundSource, bound_source_at, schema_at, bound_sources, binding_fault}
use Rattle.vo_spec.specs.Records.{table_headers}
use Rattle.vo_spec.specs.Trees.{RowTree}
use Rattle.vo_spec.specs.Scans.{seen}
use Rattle.vo_spec.specs.Pruning.{prune_tree}
use Rattle.vo_spec.specs.Representation.{Represents}
use Rattle.vo_spec.specs.Needs.{uncut_need, left_need, has_join_value, right_need, meets_left, seen_row_view, needs, tables_used, same_table, tree_at}
use Rattle.vo_spec.specs.Honest.{Stored, RepresentTables, catalog_of, stored_tree, trees_for, honest_trees}
use Rattle.vo_laws.specs.Columns.{HaveColumns}
use Rattle.vo_laws.specs.FittingTables.{FitTables}
use Rattle.vo_laws.proofs.RepresentationLaws.{stands}
use Rattle.vo_laws.proofs.NamedFits.{named_fits, named_have}
use Rattle.vo_laws.proofs.ReplyTrees.{pruned_complete}
use Rattle.vo_laws.proofs.TablesByName.{nothing_stands, named_stands, same_table_headers}
use Rattle.vo_laws.proofs.LeftNeeds.{left_kept, left_seen}
use Rattle.vo_laws.proofs.CompleteReplies.{seen_same}

-- For a need whose columns the rows have.
pub seen_of_proof : (n : ℕ) (need : Need) (t : RowTree) (rows : List Row) → Represents t rows → AllByRecursion (λ column. column < n) need.columns
    → AllByRecursion (λ (row : Row). length row.cells ≡ n) rows → seen need (prune_tree (need ∷ []) t) ≡ seen need t
seen_of_proof n need t rows stand below cells = seen_same (need ∷ []) need t (inl refl) (pruned_complete n (need ∷ []) t rows stand (below, tt) cells)

-- The needs of a query go by its left need and what is seen for that alone.
pub needs_by_seen : (ss : List BoundSource) (q : Query) (trees others : List RowTree)
    → left_need ss q (tree_at trees 0) ≡ left_need ss q (tree_at others 0)
    → seen (left_need ss q (tree_at trees 0)) (tree_at trees 0) ≡ seen (left_need ss q (tree_at trees 0)) (tree_at others 0)
    → needs ss q trees ≡ needs ss q others
needs_by_seen ss q trees others same alike =
    ap (needs_of (left_need ss q (tree_at trees 0))) alike ∙ ap (λ need. needs_of need (seen need (tree_at others 0))) same
  where
    rights : Need → Option (List SeenRow) → List Need
    rights need o = flat_map (λ j. map (right_need ss q j) (filter (has_join_value ss j) (filter (meets_left ss q) (map (seen_row_view (schema_at ss 0) need.columns) (unwrap_or o []))))) (option_to_list q.join)

    needs_of : Need → Option (List SeenRow) → List (List Need)
    needs_of need o = cond (length (tables_used ss) == 1) ((need ∷ rights need o) ∷ []) ((need ∷ []) ∷ rights need o ∷ [])

module _ (stored : List Stored) (tables : List Table) (stand : RepresentTables stored tables) (fit : FitTables tables) (q : Query) where
  -- a tree stands for rows that have what the query asks for of its left table
  abbrev HasLeft : List TableHeader → RowTree → Type 0
  HasLeft hs t = (rows : List Row) × Represents t rows × HaveColumns rows (uncut_need (bound_sources hs q) q)

  named_left : HasLeft (map table_header_of tables) (stored_tree stored q.left.table)
  named_left =
      let rows : List Row = rows_named q.left.table tables in
      (rows, named_stands q.left.table stored tables stand, named_have (bound_sources (map table_header_of tables) q) q rows (named_fits q.left.table tables fit.each))

  abbrev hs : List TableHeader
  hs = table_headers (catalog_of stored)

  abbrev ss : List BoundSource
  ss = bound_sources hs q

  abbrev first_tree : List (List ℕ) → RowTree
  first_tree names = tree_at (map (stored_tree stored) names) 0

  -- whichever tables are used, none if the query is wrong
  left_stands : (b : Bool) → HasLeft hs (stored_tree stored q.left.table)
      → HasLeft hs (first_tree (cond b ((bound_source_at ss 0).table ∷ []) ((bound_source_at ss 0).table ∷ (bound_source_at ss 1).table ∷ [])))
  left_stands true named = named
  left_stands false named = named

  first_stands : HasLeft hs (tree_at (trees_for q stored) 0)
  first_stands = by_fault (is_some (binding_fault hs q))
    where
      by_fault : (b : Bool) → HasLeft hs (first_tree (cond b [] (tables_used ss)))
      by_fault true = ([], nothing_stands, tt)
      by_fault false = left_stands (length ss == 1 || same_table ss) (subst (λ h. HasLeft h (stored_tree stored q.left.table)) (sym (same_table_headers stored tables stand)) named_left)

  abbrev left : RowTree
  left = tree_at (trees_for q stored) 0

  pub needs_of_left : (others : List RowTree) → needs ss q (prune_tree (left_need ss q left ∷ []) left ∷ others) ≡ needs ss q (trees_for q stored)
  needs_of_left others =
      let l = first_stands in
      let kept = left_kept ss q left l.0 l.1 l.2 in
      needs_by_seen ss q (prune_tree (left_need ss q left ∷ []) left ∷ others) (trees_for q stored) kept
      (subst (λ need. seen need (prune_tree (left_need ss q left ∷ []) left) ≡ seen need left) (sym kept) (left_seen ss q left l.0 l.1 l.2))

-- From the proof of the left tree for the left need, whatever trees stand behind it, come the needs
-- of the whole trees.
pub needs_from_proof : (batches : List (List Command)) (q : Query) (others : List RowTree) → AllByRecursion FitsBatch batches
    → let stored : List Stored = honest_trees batches in
    let ss : List BoundSource = bound_sources (table_headers (catalog_of stored)) q in
    let left : RowTree = tree_at (trees_for q stored) 0 in
    needs ss q (prune_tree (left_need ss q left ∷ []) left ∷ others) ≡ needs ss q (trees_for q stored)
needs_from_proof batches q others fits =
    let s = stands batches fits in
    needs_of_left (honest_trees batches) (tables_after batches) s.0 s.1 q others
