-- Of a query of one source with a limit, what a part shows for the need that is cut by itself gives
-- the first rows of what all the rows give.
use Rattle.std.proofs.Common.{◌≡◌, ℕ, zero, suc, ◌<◌, Bool, true, false, cond, List, [], ◌∷◌, Option, Some, None, length, map, inl, refl, sym, ap, ◌∙◌, subst, arith}
use Rattle.std.specs.Prelude.{filter, flat_map, take, unwrap_or}
use Rattle.std.specs.Option.{option_map_or}
use Rattle.std.specs.List.{AllByRecursion}
use Rattle.std.proofs.lemmas.List.{take-map, take-take}
use Rattle.vo_spec.specs.declared.values.Value.{Value}
use Rattle.vo_spec.specs.declared.values.Row.{Row}
use Rattle.vo_spec.specs.declared.needs.Need.{Need}
use Rattle.vo_spec.specs.declared.needs.SeenRow.{SeenRow}
use Rattle.vo_spec.specs.declared.queries.Items.{Items}
use Rattle.vo_spec.specs.declared.queries.Source.{Source}
use Rattle.vo_spec.specs.Conditions.{Condition, comparisons, Query, FitsQuery}
use Rattle.vo_spec.specs.Results.{BoundSource, RowView, schema_at, query_refs, place_value, shown_places, row_view_of, unlimited_rows, answer_rows}
use Rattle.vo_spec.specs.Cuts.{nth_met}
use Rattle.vo_spec.specs.Walks.{walk}
use Rattle.vo_spec.specs.Needs.{meets_left, meets_row, uncut_need, left_need, seen_row_view, seen_row_views}
use Rattle.vo_spec.specs.Trees.{RowTree, Prunes}
use Rattle.vo_spec.specs.Scans.{seen}
use Rattle.vo_spec.specs.Pruning.{is_missing, prune_tree}
use Rattle.vo_spec.specs.Representation.{Represents}
use Rattle.vo_laws.specs.Columns.{HaveColumns, seen_row}
use Rattle.vo_laws.proofs.ListLaws.{each_from, filter_in}
use Rattle.vo_laws.proofs.SeenLaws.{rows_in}
use Rattle.vo_laws.proofs.PrunedLaws.{pruned_prunes}
use Rattle.vo_laws.proofs.OneProof.{pruned_canonical}
use Rattle.vo_laws.proofs.WholeScans.{whole_scan}
use Rattle.vo_laws.proofs.ConditionLaws.{KindsAgree}
use Rattle.vo_laws.proofs.AnswerLaws.{answers_of, unlimited_rows_are, agree_one, same_answer}
use Rattle.vo_laws.proofs.BoundQueries.{IsOfFirst, met_whole}
use Rattle.vo_laws.proofs.LeftAnswers.{HaveKeys, same_lefts}
use Rattle.vo_laws.proofs.CutShows.{same_seen, shown_in, columns_kept, cut_shows}

-- Lists.

passes : {A : Type 0} (p : A → Bool) (xs : List A) → AllByRecursion (λ x. p x ≡ true) (filter p xs)
passes p xs = each_from (λ x. p x ≡ true) (filter p xs) (λ x i. (filter_in p xs x i).1)

taken_flat : {A B : Type 0} (g : A → List B) (f : A → B) (p : A → Bool) → ((x : A) → p x ≡ true → g x ≡ f x ∷ []) → (n : ℕ) (xs : List A) → AllByRecursion (λ x. p x ≡ true) xs
    → flat_map g (take n xs) ≡ take n (flat_map g xs)
taken_flat g f p one zero [] all = refl
taken_flat g f p one zero (x ∷ xs) all = refl
taken_flat g f p one (suc n) [] all = refl
taken_flat g f p one (suc n) (x ∷ xs) all = rw (one x all.0, taken_flat g f p one n xs all.1) refl

filtered_views : (p : RowView → Bool) (view : SeenRow → RowView) (xs : List SeenRow) → filter p (map view xs) ≡ map view (filter (λ x. p (view x)) xs)
filtered_views p view [] = refl
filtered_views p view (x ∷ xs) = step (p (view x)) (filtered_views p view xs)
  where
    step : (b : Bool) → filter p (map view xs) ≡ map view (filter (λ y. p (view y)) xs)
        → cond b (view x ∷ filter p (map view xs)) (filter p (map view xs)) ≡ map view (cond b (x ∷ filter (λ y. p (view y)) xs) (filter (λ y. p (view y)) xs))
    step true rest = ap (λ z. view x ∷ z) rest
    step false rest = rest

none_taken : {A : Type 0} (xs : List A) → take 0 xs ≡ []
none_taken [] = refl
none_taken (x ∷ xs) = refl

module _ (ss : List BoundSource) (some_bound_source : 0 < length ss) (items : Items) (left : Source) (condition : Option Condition) (n : ℕ) where
  abbrev q : Query
  q = record { items = items; left = left; join = None; condition = condition; limit = Some n }

  abbrev need : Need
  need = uncut_need ss q

  abbrev view : SeenRow → RowView
  view = seen_row_view (schema_at ss 0) need.columns

  abbrev lefts_of : RowTree → List RowView
  lefts_of p = filter (meets_left ss q) (seen_row_views (schema_at ss 0) (left_need ss q p) p)

  module _ (kinds : AllByRecursion (KindsAgree ss) (option_map_or comparisons condition [])) (fits : FitsQuery q) (refs : AllByRecursion (IsOfFirst ss) (query_refs q))
      (t : RowTree) (rows : List Row) (stands : Represents t rows) (keys : HaveKeys (schema_at ss 0) rows) (have : HaveColumns rows need) where
    one_answer : (rights : RowView → List RowView) (l : RowView) → meets_left ss q l ≡ true → answers_of ss q None rights l ≡ map (place_value (l ∷ [])) (shown_places ss items) ∷ []
    one_answer rights l e = ap (λ b. cond b (map (place_value (l ∷ [])) (shown_places ss items) ∷ []) []) (met_whole ss q refs l e)

    full : is_missing (need ∷ []) (prune_tree (need ∷ []) t) ≡ false
    full = (pruned_canonical (need ∷ []) t rows stands (have, tt)).complete

    whole_lefts : filter (meets_left ss q) (seen_row_views (schema_at ss 0) need (prune_tree (need ∷ []) t)) ≡ map view (filter (meets_row ss q) (shown_in need rows))
    whole_lefts =
        ap (λ o. filter (meets_left ss q) (map view (unwrap_or o []))) (same_seen need (prune_tree (need ∷ []) t) t (pruned_prunes (need ∷ []) t) full ∙ whole_scan need t rows stands have)
        ∙ filtered_views (meets_left ss q) view (shown_in need rows)

    whole_answer : (seen plain : RowView → List RowView)
        → unlimited_rows ss q (map view (filter (meets_row ss q) (shown_in need rows))) seen ≡ unlimited_rows ss q (map (row_view_of (schema_at ss 0)) rows) plain
    whole_answer seen plain =
        ap (λ ls. unlimited_rows ss q ls seen) (sym whole_lefts)
        ∙ same_lefts ss q some_bound_source kinds fits seen plain (need ∷ []) (prune_tree (need ∷ []) t) t rows
        (inl refl) full (pruned_prunes (need ∷ []) t) stands keys
        (λ a b i alike. same_answer ss q (a ∷ []) (b ∷ []) (agree_one ss q a b some_bound_source alike))

    all_met : AllByRecursion (λ l. meets_left ss q l ≡ true) (map view (filter (meets_row ss q) (shown_in need rows)))
    all_met = subst (AllByRecursion (λ l. meets_left ss q l ≡ true)) (filtered_views (meets_left ss q) view (shown_in need rows)) (passes (meets_left ss q) (map view (shown_in need rows)))

    first_answers : (seen : RowView → List RowView) (ls : List RowView) → AllByRecursion (λ l. meets_left ss q l ≡ true) ls
        → unlimited_rows ss q (take n ls) seen ≡ take n (unlimited_rows ss q ls seen)
    first_answers seen ls met =
        unlimited_rows_are ss q (take n ls) seen
        ∙ taken_flat (answers_of ss q None seen) (λ l. map (place_value (l ∷ [])) (shown_places ss items)) (meets_left ss q) (one_answer seen) n ls met
        ∙ ap (take n) (sym (unlimited_rows_are ss q ls seen))

    module _ (p : RowTree) (prunes : Prunes p t) (complete : is_missing (left_need ss q p ∷ []) p ≡ false) where
      lefts_are_first : 0 < n → lefts_of p ≡ take n (map view (filter (meets_row ss q) (shown_in need rows)))
      lefts_are_first some =
          let shows = cut_shows need (meets_row ss q) n p t rows some stands have prunes complete in
          ap (λ o. filter (meets_left ss q) (map (seen_row_view (schema_at ss 0) (left_need ss q p).columns) (unwrap_or o []))) shows.0
          ∙ ap (λ columns. filter (meets_left ss q) (map (seen_row_view (schema_at ss 0) columns) (map (seen_row need.columns) (rows_in (left_need ss q p).interval rows))))
          (columns_kept (nth_met (meets_row ss q) n (walk need p).rows) need)
          ∙ filtered_views (meets_left ss q) view (map (seen_row need.columns) (rows_in (left_need ss q p).interval rows))
          ∙ ap (map view) shows.1 ∙ sym (take-map view n (filter (meets_row ss q) (shown_in need rows)))

      first_shown : (seen plain : RowView → List RowView) → 0 < n → answer_rows ss q (lefts_of p) seen ≡ answer_rows ss q (map (row_view_of (schema_at ss 0)) rows) plain
      first_shown seen plain some =
          let all : List RowView = map view (filter (meets_row ss q) (shown_in need rows)) in
          ap (λ ls. take n (unlimited_rows ss q ls seen)) (lefts_are_first some)
          ∙ ap (take n) (first_answers seen all all_met)
          ∙ take-take n n (unlimited_rows ss q all seen) (omega arith)
          ∙ ap (take n) (whole_answer seen plain)

      -- a limit of no rows gives none
      pub limited_shown : (seen plain : RowView → List RowView) → answer_rows ss q (lefts_of p) seen ≡ answer_rows ss q (map (row_view_of (schema_at ss 0)) rows) plain
      limited_shown seen plain = step n refl
        where
          shown : List (List Value)
          shown = unlimited_rows ss q (lefts_of p) seen

          all : List (List Value)
          all = unlimited_rows ss q (map (row_view_of (schema_at ss 0)) rows) plain

          step : (k : ℕ) → n ≡ k → take n shown ≡ take n all
          step zero e = ap (λ k. take k shown) e ∙ none_taken shown ∙ sym (none_taken all) ∙ ap (λ k. take k all) (sym e)
          step (suc k) e = first_shown seen plain (omega arith)
