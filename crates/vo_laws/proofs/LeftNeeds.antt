-- A query's left need of a tree, and of the tree's proof for it: they are the same, and so is what is
-- seen for them.
use Rattle.std.proofs.Common.{◌≡◌, ℕ, false, List, [], ◌∷◌, Option, Some, None, refl}
use Rattle.vo_spec.specs.declared.values.Row.{Row}
use Rattle.vo_spec.specs.Conditions.{Query}
use Rattle.vo_spec.specs.Results.{BoundSource}
use Rattle.vo_spec.specs.Cuts.{nth_met, limited_need}
use Rattle.vo_spec.specs.Walks.{walk}
use Rattle.vo_spec.specs.Needs.{named_cells, meets_row, uncut_need, left_limit, left_need}
use Rattle.vo_spec.specs.Trees.{RowTree}
use Rattle.vo_spec.specs.Scans.{seen}
use Rattle.vo_spec.specs.Pruning.{is_missing, prune_tree}
use Rattle.vo_spec.specs.Representation.{Represents}
use Rattle.vo_laws.specs.Columns.{HaveColumns}
use Rattle.vo_laws.proofs.PrunedLaws.{pruned_prunes}
use Rattle.vo_laws.proofs.OneProof.{pruned_canonical}
use Rattle.vo_laws.proofs.CutShows.{same_seen, columns_kept, cut_have}
use Rattle.vo_laws.proofs.CutProofs.{cut_kept}

module _ (ss : List BoundSource) (q : Query) where
  -- a limit leaves the columns as they are
  pub left_columns : (p : RowTree) → (left_need ss q p).columns ≡ named_cells ss q 0
  left_columns p = step (left_limit q.join q.limit)
    where
      step : (o : Option ℕ) → (limited_need (uncut_need ss q) (meets_row ss q) o p).columns ≡ named_cells ss q 0
      step None = refl
      step (Some n) = columns_kept (nth_met (meets_row ss q) n (walk (uncut_need ss q) p).rows) (uncut_need ss q)

  module _ (t : RowTree) (rows : List Row) (stands : Represents t rows) (have : HaveColumns rows (uncut_need ss q)) where
    pub left_have : HaveColumns rows (left_need ss q t)
    left_have = step (left_limit q.join q.limit)
      where
        step : (o : Option ℕ) → HaveColumns rows (limited_need (uncut_need ss q) (meets_row ss q) o t)
        step None = have
        step (Some n) = cut_have (uncut_need ss q) (meets_row ss q) n t rows stands have

    pub left_kept : left_need ss q (prune_tree (left_need ss q t ∷ []) t) ≡ left_need ss q t
    left_kept = step (left_limit q.join q.limit)
      where
        step : (o : Option ℕ) → limited_need (uncut_need ss q) (meets_row ss q) o (prune_tree (limited_need (uncut_need ss q) (meets_row ss q) o t ∷ []) t)
            ≡ limited_need (uncut_need ss q) (meets_row ss q) o t
        step None = refl
        step (Some n) = cut_kept (uncut_need ss q) (meets_row ss q) n t rows stands have

    left_full : is_missing (left_need ss q t ∷ []) (prune_tree (left_need ss q t ∷ []) t) ≡ false
    left_full = (pruned_canonical (left_need ss q t ∷ []) t rows stands (left_have, tt)).complete

    pub left_seen : seen (left_need ss q t) (prune_tree (left_need ss q t ∷ []) t) ≡ seen (left_need ss q t) t
    left_seen = same_seen (left_need ss q t) (prune_tree (left_need ss q t ∷ []) t) t (pruned_prunes (left_need ss q t ∷ []) t) left_full
