-- What a part shows for the need that is cut by itself, of a tree that stands for rows.
use Rattle.std.proofs.Common.{◌≡◌, ℕ, zero, suc, ◌-◌, ◌<◌, Bool, true, false, cond, List, [], ◌∷◌, Option, Some, None, map, inl, refl, sym, ap, ◌∙◌, subst, arith}
use Rattle.std.specs.Prelude.{slice_get, filter, take}
use Rattle.vo_spec.specs.declared.needs.Need.{Need}
use Rattle.vo_spec.specs.declared.needs.SeenRow.{SeenRow}
use Rattle.vo_spec.specs.declared.values.Row.{Row}
use Rattle.vo_spec.specs.Trees.{RowTree, Prunes}
use Rattle.vo_spec.specs.Scans.{in_interval, seen}
use Rattle.vo_spec.specs.Pruning.{is_missing}
use Rattle.vo_spec.specs.Representation.{Represents}
use Rattle.vo_laws.specs.Columns.{HaveColumns, seen_row}
use Rattle.vo_laws.proofs.ScanLaws.{part_seen}
use Rattle.vo_laws.proofs.SeenLaws.{rows_in}
use Rattle.vo_laws.proofs.WholeScans.{whole_scan}
use Rattle.vo_spec.specs.Walks.{ScanWalk, if_ended, walk}
use Rattle.vo_spec.specs.Cuts.{RowCondition, nth_met, cut_at, cut_need}
use Rattle.vo_laws.proofs.ScanWalks.{walk_seen}
use Rattle.vo_laws.proofs.OneCut.{part_met}
use Rattle.vo_laws.proofs.CutIntervals.{cut_columns}
use Rattle.vo_laws.proofs.FirstRows.{rows_rise, first_met, cut_rows, all_taken}

-- what a scan of a part that lacks nothing gives is what it gives of the tree
pub same_seen : (need : Need) (p t : RowTree) → Prunes p t → is_missing (need ∷ []) p ≡ false → seen need p ≡ seen need t
same_seen need p t z full = part_seen (need ∷ []) need p t z (inl refl) full

ended_rows : (w : ScanWalk) (xs : List SeenRow) → if_ended w ≡ Some xs → w.rows ≡ xs
ended_rows w xs e = step w.has_end e
  where
    step : (b : Bool) → cond b (Some w.rows) None ≡ Some xs → w.rows ≡ xs
    step true e = cc
    step false e = absurd (cc)

pub seen_rows : (need : Need) (p : RowTree) (xs : List SeenRow) → seen need p ≡ Some xs → (walk need p).rows ≡ xs
seen_rows need p xs e = ended_rows (walk need p) xs (sym (walk_seen need p) ∙ e)

abbrev pub shown_in : Need → List Row → List SeenRow
shown_in need rows = map (seen_row need.columns) (rows_in need.interval rows)

pub whole_rows : (need : Need) (t : RowTree) (rows : List Row) → Represents t rows → HaveColumns rows need → (walk need t).rows ≡ shown_in need rows
whole_rows need t rows stands have = seen_rows need t (shown_in need rows) (whole_scan need t rows stands have)

-- Rows that a scan gives are in the interval.

abbrev IsInside : Need → SeenRow → Type 0
IsInside need x = in_interval need.interval x.key ≡ true

got_inside : (need : Need) (meets : RowCondition) (rows : List Row) (m : ℕ) (row : SeenRow) → slice_get (filter meets (shown_in need rows)) m ≡ Some row → IsInside need row
got_inside need meets [] m row e = absurd (cc)
got_inside need meets (x ∷ rows) m row e = step (in_interval need.interval x.key) refl (λ k. got_inside need meets rows k row) e
  where
    Later : Type 0
    Later = (k : ℕ) → slice_get (filter meets (shown_in need rows)) k ≡ Some row → IsInside need row

    behind : (b : Bool) (k : ℕ) → in_interval need.interval x.key ≡ true → Later
        → slice_get (cond b (seen_row need.columns x ∷ filter meets (shown_in need rows)) (filter meets (shown_in need rows))) k ≡ Some row → IsInside need row
    behind true zero f later e = let same : seen_row need.columns x ≡ row = cc in subst (IsInside need) same f
    behind true (suc k) f later e = later k e
    behind false k f later e = later k e

    step : (b : Bool) → in_interval need.interval x.key ≡ b → Later
        → slice_get (filter meets (map (seen_row need.columns) (cond b (x ∷ rows_in need.interval rows) (rows_in need.interval rows)))) m ≡ Some row → IsInside need row
    step true f later e = behind (meets (seen_row need.columns x)) m f later e
    step false f later e = later m e

pub met_inside : (need : Need) (meets : RowCondition) (n : ℕ) (t : RowTree) (rows : List Row) (row : SeenRow) → Represents t rows → HaveColumns rows need
    → nth_met meets n (walk need t).rows ≡ Some row → in_interval need.interval row.key ≡ true
met_inside need meets n t rows row stands have e =
    got_inside need meets rows (n - 1) row (ap (λ xs. slice_get (filter meets xs) (n - 1)) (sym (whole_rows need t rows stands have)) ∙ e)

pub cut_have : (need : Need) (meets : RowCondition) (n : ℕ) (t : RowTree) (rows : List Row) → Represents t rows → HaveColumns rows need → HaveColumns rows (cut_need need meets n t)
cut_have need meets n t rows stands have = step (nth_met meets n (walk need t).rows) refl
  where
    step : (o : Option SeenRow) → nth_met meets n (walk need t).rows ≡ o → HaveColumns rows (cut_at o need)
    step None e = have
    step (Some row) e = cut_columns need row (met_inside need meets n t rows row stands have e) rows have

pub columns_kept : (o : Option SeenRow) (need : Need) → (cut_at o need).columns ≡ need.columns
columns_kept None need = refl
columns_kept (Some row) need = refl

-- The rows within the cut need that meet the condition are the first n of all that do.
pub first_rows : (need : Need) (meets : RowCondition) (n : ℕ) (t : RowTree) (rows : List Row) → 0 < n → Represents t rows → HaveColumns rows need
    → filter meets (map (seen_row need.columns) (rows_in (cut_need need meets n t).interval rows)) ≡ take n (filter meets (shown_in need rows))
first_rows need meets n t rows lt stands have = step (nth_met meets n (walk need t).rows) refl
  where
    whole : (walk need t).rows ≡ shown_in need rows
    whole = whole_rows need t rows stands have

    next : (k : ℕ) → 0 < k → suc (k - 1) ≡ k
    next k lt = omega arith

    step : (o : Option SeenRow) → nth_met meets n (walk need t).rows ≡ o
        → filter meets (map (seen_row need.columns) (rows_in (cut_at o need).interval rows)) ≡ take n (filter meets (shown_in need rows))
    step None e =
        sym (all_taken (filter meets (shown_in need rows)) (n - 1) (ap (λ xs. slice_get (filter meets xs) (n - 1)) (sym whole) ∙ e))
        ∙ ap (λ k. take k (filter meets (shown_in need rows))) (next n lt)
    step (Some row) e =
        ap (filter meets) (cut_rows need row (met_inside need meets n t rows row stands have e) rows)
        ∙ first_met meets (n - 1) (shown_in need rows) row (rows_rise need.columns need.interval t rows stands) (ap (λ xs. slice_get (filter meets xs) (n - 1)) (sym whole) ∙ e)
        ∙ ap (λ k. take k (filter meets (shown_in need rows))) (next n lt)

pub cut_shows : (need : Need) (meets : RowCondition) (n : ℕ) (p t : RowTree) (rows : List Row) → 0 < n → Represents t rows → HaveColumns rows need → Prunes p t
    → is_missing (cut_need need meets n p ∷ []) p ≡ false
    → (seen (cut_need need meets n p) p ≡ Some (map (seen_row need.columns) (rows_in (cut_need need meets n p).interval rows)))
    × (filter meets (map (seen_row need.columns) (rows_in (cut_need need meets n p).interval rows)) ≡ take n (filter meets (shown_in need rows)))
cut_shows need meets n p t rows lt stands have z full =
    step (nth_met meets n (walk need p).rows) (part_met need meets n p t z full) full
  where
    step : (o : Option SeenRow) → o ≡ nth_met meets n (walk need t).rows → is_missing (cut_at o need ∷ []) p ≡ false
        → (seen (cut_at o need) p ≡ Some (map (seen_row need.columns) (rows_in (cut_at o need).interval rows)))
        × (filter meets (map (seen_row need.columns) (rows_in (cut_at o need).interval rows)) ≡ take n (filter meets (shown_in need rows)))
    step o e full = (
      same_seen (cut_at o need) p t z full
          ∙ whole_scan (cut_at o need) t rows stands (subst (λ u. HaveColumns rows (cut_at u need)) (sym e) (cut_have need meets n t rows stands have))
          ∙ ap (λ columns. Some (map (seen_row columns) (rows_in (cut_at o need).interval rows))) (columns_kept o need),
      subst (λ u. filter meets (map (seen_row need.columns) (rows_in (cut_at u need).interval rows)) ≡ take n (filter meets (shown_in need rows))) (sym e)
          (first_rows need meets n t rows lt stands have),
    )
