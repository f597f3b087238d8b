-- One row further: what it shows and needs, before what the others do.
use Rattle.std.proofs.Common.{◌≡◌, ℕ, ◌+◌, ◌<◌, Bool, true, false, cond, List, [], ◌∷◌, ◌++◌, length, get_or, drop, map, refl, sym, ap, ◌∙◌, append_assoc}
use Rattle.std.specs.Prelude.{◌||◌, filter, flat_map}
use Rattle.std.specs.List.{list_any}
use Rattle.std.proofs.lemmas.List.{drop_more, map_push}
use Rattle.std.proofs.lemmas.List.Folds.{list_any_at}
use Rattle.vo_spec.specs.Results.{RowView}
use Rattle.query_plan.proofs.AnswerLaws.{filter_at}
use Rattle.plan_run.specs.declared.row_views.SeenRowView.{SeenRowView}
use Rattle.plan_run.specs.RowViews.{row_view_seen}

any_map : {A B : Type 0} (test : B → Bool) (f : A → B) (xs : List A) → list_any test (map f xs) ≡ list_any (λ x. test (f x)) xs
any_map test f [] = refl
any_map test f (x ∷ xs) = ap (λ b. test (f x) || b) (any_map test f xs)

any_append : {A : Type 0} (test : A → Bool) (xs ys : List A) → list_any test (xs ++ ys) ≡ (list_any test xs || list_any test ys)
any_append test [] ys = refl
any_append test (x ∷ xs) ys = ap (λ b. test x || b) (any_append test xs ys) ∙ step (test x)
  where
    step : (b : Bool) → (b || (list_any test xs || list_any test ys)) ≡ ((b || list_any test xs) || list_any test ys)
    step true = refl
    step false = refl

pub any_flat_map : {A B : Type 0} (test : B → Bool) (f : A → List B) (xs : List A) → list_any test (flat_map f xs) ≡ list_any (λ x. list_any test (f x)) xs
any_flat_map test f [] = refl
any_flat_map test f (x ∷ xs) = any_append test (f x) (flat_map f xs) ∙ ap (λ b. list_any test (f x) || b) (any_flat_map test f xs)

-- a test of lines: one that passes it, and one that doesn't
module _ (test : RowView → Bool) (row_views : List SeenRowView) (i : ℕ) (s : SeenRowView) where
  pub any_row_view : i < length row_views → s ≡ get_or row_views i s → test (row_view_seen s) ≡ true → list_any test (map row_view_seen row_views) ≡ true
  any_row_view lt is e = any_map test row_view_seen row_views ∙ list_any_at (λ l. test (row_view_seen l)) row_views i s lt (ap (λ l. test (row_view_seen l)) (sym is) ∙ e)

  pub any_step : (all : Bool) → i < length row_views → s ≡ get_or row_views i s → test (row_view_seen s) ≡ false → list_any test (map row_view_seen (drop i row_views)) ≡ all
      → list_any test (map row_view_seen (drop (i + 1) row_views)) ≡ all
  any_step all lt is passed e =
      let first : drop i row_views ≡ s ∷ drop (i + 1) row_views = drop_more row_views i s lt ∙ ap (λ l. l ∷ drop (i + 1) row_views) (sym is) in
      ap (λ b. b || list_any test (map row_view_seen (drop (i + 1) row_views))) (sym passed) ∙ ap (λ ls. list_any test (map row_view_seen ls)) (sym first) ∙ e

-- rows that are kept as lines, where these meet a test
module _ {A : Type 0} (test : RowView → Bool) (g : A → RowView) (xs : List A) (i : ℕ) (x : A) where
  abbrev kept_after : List RowView
  kept_after = filter test (map g (drop (i + 1) xs))

  pub filter_kept : (front : List SeenRowView) (all : List RowView) (s : SeenRowView) → row_view_seen s ≡ g x → i < length xs → x ≡ get_or xs i x → test (g x) ≡ true
      → map row_view_seen front ++ filter test (map g (drop i xs)) ≡ all
      → map row_view_seen (front ++ s ∷ []) ++ filter test (map g (drop (i + 1) xs)) ≡ all
  filter_kept front all s same lt is kept e =
      let here : filter test (map g (drop i xs)) ≡ g x ∷ kept_after = filter_at test g xs i x lt is ∙ ap (λ b. cond b (g x ∷ kept_after) kept_after) kept in
      rw (map_push, append_assoc) (ap (λ l. map row_view_seen front ++ l ∷ kept_after) same ∙ ap (λ ls. map row_view_seen front ++ ls) (sym here) ∙ e)

  pub filter_passed : (front : List SeenRowView) (all : List RowView) → i < length xs → x ≡ get_or xs i x → test (g x) ≡ false
      → map row_view_seen front ++ filter test (map g (drop i xs)) ≡ all
      → map row_view_seen front ++ filter test (map g (drop (i + 1) xs)) ≡ all
  filter_passed front all lt is passed e =
      let here : filter test (map g (drop i xs)) ≡ kept_after = filter_at test g xs i x lt is ∙ ap (λ b. cond b (g x ∷ kept_after) kept_after) passed in
      ap (λ ls. map row_view_seen front ++ ls) (sym here) ∙ e
