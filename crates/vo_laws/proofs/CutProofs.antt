-- The proof that a tree has for the need that it cuts cuts the need as the tree does, and is its
-- proof for what it cuts.
use Rattle.std.proofs.Common.{◌≡◌, ℕ, ◌-◌, true, false, List, [], ◌∷◌, Option, Some, None, refl, sym, ap, ◌∙◌, subst}
use Rattle.std.specs.Prelude.{slice_get, filter}
use Rattle.vo_spec.specs.declared.needs.Need.{Need}
use Rattle.vo_spec.specs.declared.needs.SeenRow.{SeenRow}
use Rattle.vo_spec.specs.declared.values.Row.{Row}
use Rattle.vo_spec.specs.Trees.{RowTree}
use Rattle.vo_spec.specs.Scans.{in_interval}
use Rattle.vo_spec.specs.Pruning.{is_missing, prune_tree, IsCanonical}
use Rattle.vo_spec.specs.Representation.{Represents}
use Rattle.vo_laws.specs.Columns.{HaveColumns}
use Rattle.vo_laws.proofs.PrunedLaws.{pruned_prunes}
use Rattle.vo_laws.proofs.OneProof.{pruned_canonical}
use Rattle.vo_laws.proofs.WholeScans.{whole_scan}
use Rattle.vo_spec.specs.Walks.{walk}
use Rattle.vo_spec.specs.Cuts.{RowCondition, nth_met, cut_at, cut_need}
use Rattle.vo_laws.specs.Cutting.{IsCut}
use Rattle.vo_laws.proofs.OneCut.{front_met}
use Rattle.vo_laws.proofs.CutIntervals.{cut_columns}
use Rattle.vo_laws.proofs.FirstRows.{rows_rise, upto, first_met, cut_rows, got_in_front}
use Rattle.vo_laws.proofs.CutFronts.{cut_front}
use Rattle.vo_laws.proofs.CutShows.{same_seen, seen_rows, shown_in, whole_rows, met_inside, cut_have}

module _ (need : Need) (meets : RowCondition) (n : ℕ) (t : RowTree) (rows : List Row) (stands : Represents t rows) (have : HaveColumns rows need) where
  -- the proof for the need as it is cut, or stays
  abbrev proof : Option SeenRow → RowTree
  proof o = prune_tree (cut_at o need ∷ []) t

  full : (o : Option SeenRow) → HaveColumns rows (cut_at o need) → is_missing (cut_at o need ∷ []) (proof o) ≡ false
  full o h = (pruned_canonical (cut_at o need ∷ []) t rows stands (h, tt)).complete

  -- the rows of the proof's walk begin with those that the cut need has
  module _ (row : SeenRow) (e : nth_met meets n (walk need t).rows ≡ Some row) where
    within : in_interval need.interval row.key ≡ true
    within = met_inside need meets n t rows row stands have e

    columns : HaveColumns rows (cut_at (Some row) need)
    columns = cut_columns need row within rows have

    met : slice_get (filter meets (shown_in need rows)) (n - 1) ≡ Some row
    met = ap (λ xs. slice_get (filter meets xs) (n - 1)) (sym (whole_rows need t rows stands have)) ∙ e

    shown_rows : (walk (cut_at (Some row) need) (proof (Some row))).rows ≡ filter (upto row.key) (shown_in need rows)
    shown_rows =
        seen_rows (cut_at (Some row) need) (proof (Some row)) (shown_in (cut_at (Some row) need) rows)
        (same_seen (cut_at (Some row) need) (proof (Some row)) t (pruned_prunes (cut_at (Some row) need ∷ []) t) (full (Some row) columns) ∙ whole_scan (cut_at (Some row) need) t rows stands columns)
        ∙ cut_rows need row within rows

    met_first : nth_met meets n (walk (cut_at (Some row) need) (proof (Some row))).rows ≡ Some row
    met_first =
        ap (λ xs. slice_get (filter meets xs) (n - 1)) shown_rows
        ∙ ap (λ xs. slice_get xs (n - 1)) (first_met meets (n - 1) (shown_in need rows) row (rows_rise need.columns need.interval t rows stands) met)
        ∙ got_in_front (filter meets (shown_in need rows)) (n - 1) ∙ met

    proof_met : nth_met meets n (walk need (proof (Some row))).rows ≡ Some row
    proof_met = let front = cut_front need row within (proof (Some row)) t (pruned_prunes (cut_at (Some row) need ∷ []) t) stands.tree in
        ap (nth_met meets n) front.1 ∙ front_met meets n (walk (cut_at (Some row) need) (proof (Some row))).rows front.0 row met_first

  proof_unmet : nth_met meets n (walk need t).rows ≡ None → nth_met meets n (walk need (proof None)).rows ≡ None
  proof_unmet e =
      ap (nth_met meets n) (seen_rows need (proof None) (shown_in need rows) (same_seen need (proof None) t (pruned_prunes (need ∷ []) t) (full None have) ∙ whole_scan need t rows stands have)
      ∙ sym (whole_rows need t rows stands have)) ∙ e

  pub cut_kept : cut_need need meets n (prune_tree (cut_need need meets n t ∷ []) t) ≡ cut_need need meets n t
  cut_kept = step (nth_met meets n (walk need t).rows) refl
    where
      step : (o : Option SeenRow) → nth_met meets n (walk need t).rows ≡ o → cut_at (nth_met meets n (walk need (proof o)).rows) need ≡ cut_at o need
      step None e = ap (λ o. cut_at o need) (proof_unmet e)
      step (Some row) e = ap (λ o. cut_at o need) (proof_met row e)

  pub cut_canonical : IsCut need meets n (prune_tree (cut_need need meets n t ∷ []) t)
  cut_canonical =
      subst (λ c. IsCanonical (c ∷ []) (prune_tree (cut_need need meets n t ∷ []) t)) (sym cut_kept)
      (pruned_canonical (cut_need need meets n t ∷ []) t rows stands (cut_have need meets n t rows stands have, tt))
