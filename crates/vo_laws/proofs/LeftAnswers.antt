-- What is seen of the left rows gives the answers that all of them give: one outside the interval,
-- or that fails the left condition, gives none.
use Rattle.std.proofs.Common.{◌≡◌, ◌<◌, false, List, [], ◌∷◌, length, map, inl, inr, refl, sym, ◌∙◌}
use Rattle.std.specs.Prelude.{filter}
use Rattle.std.specs.Option.{option_map_or}
use Rattle.std.specs.List.{AllByRecursion, AllZip}
use Rattle.vo_spec.specs.declared.values.Row.{Row}
use Rattle.vo_spec.specs.declared.tables.Schema.{Schema}
use Rattle.vo_spec.specs.declared.needs.Need.{Need}
use Rattle.vo_spec.specs.Values.{IsKeyOf}
use Rattle.vo_spec.specs.Conditions.{comparisons, Query, FitsQuery}
use Rattle.vo_spec.specs.Results.{BoundSource, schema_at, RowView, row_view_of, unlimited_rows}
use Rattle.vo_spec.specs.Trees.{RowTree, Prunes}
use Rattle.vo_spec.specs.Scans.{in_interval}
use Rattle.vo_spec.specs.Pruning.{is_missing}
use Rattle.vo_spec.specs.Representation.{Represents}
use Rattle.vo_spec.specs.Needs.{meets_left, uncut_need, seen_row_views}
use Rattle.vo_spec.specs.Checks.{key_kind}
use Rattle.vo_laws.proofs.ListLaws.{IsIn, zip_weaker, zip_filter, flat_map_kept, flat_map_zip, flat_map_map}
use Rattle.vo_laws.proofs.ConditionLaws.{KindsAgree}
use Rattle.vo_laws.proofs.SeenLaws.{accepted, rows_in}
use Rattle.vo_laws.proofs.AnswerLaws.{answers_of, unlimited_rows_are, AlikeIn, same_meets, failing_gives_none, outside_gives_none}

-- items beside the lists that they are of
zip_in : {A B : Type 0} (R : A → B → Type 0) (xs : List A) (ys : List B) → AllZip R xs ys → AllZip (λ a b. IsIn a xs × R a b) xs ys
zip_in R [] [] z = tt
zip_in R [] (y ∷ ys) z = absurd z
zip_in R (x ∷ xs) [] z = absurd z
zip_in R (x ∷ xs) (y ∷ ys) z =
    ((inl refl, z.0), zip_weaker (λ a b. IsIn a xs × R a b) (λ a b. IsIn a (x ∷ xs) × R a b) (λ a b p. (inr p.0, p.1)) xs ys (zip_in R xs ys z.1))

abbrev pub HaveKeys : Schema → List Row → Type 0
HaveKeys schema rows = AllByRecursion (λ (row : Row). IsKeyOf (key_kind schema) row.key) rows

module _ (ss : List BoundSource) (q : Query) (some_bound_source : 0 < length ss)
    (kinds : AllByRecursion (KindsAgree ss) (option_map_or comparisons q.condition [])) (fits : FitsQuery q) where
  outside : (rights : RowView → List RowView) (rows : List Row) → HaveKeys (schema_at ss 0) rows
      → AllByRecursion (λ (row : Row). in_interval (uncut_need ss q).interval row.key ≡ false → answers_of ss q q.join rights (row_view_of (schema_at ss 0) row) ≡ []) rows
  outside rights [] keys = tt
  outside rights (row ∷ rows) keys =
      ((λ e. outside_gives_none ss q row keys.0 kinds fits e q.join rights), outside rights rows keys.1)

  failing : (rights : RowView → List RowView) (row_views : List RowView) → AllByRecursion (λ (l : RowView). meets_left ss q l ≡ false → answers_of ss q q.join rights l ≡ []) row_views
  failing rights [] = tt
  failing rights (l ∷ row_views) = ((λ e. failing_gives_none ss q l e q.join rights), failing rights row_views)

  -- What is seen for the uncut need does so, if right rows do.
  pub same_lefts : (seen plain : RowView → List RowView) (ns : List Need) (p t : RowTree) (rows : List Row)
      → IsIn (uncut_need ss q) ns → is_missing ns p ≡ false → Prunes p t → Represents t rows → HaveKeys (schema_at ss 0) rows
      → ((a b : RowView) → IsIn a (filter (meets_left ss q) (seen_row_views (schema_at ss 0) (uncut_need ss q) p)) → AlikeIn ss q 0 a b
      → answers_of ss q q.join seen a ≡ answers_of ss q q.join plain b)
      → unlimited_rows ss q (filter (meets_left ss q) (seen_row_views (schema_at ss 0) (uncut_need ss q) p)) seen
      ≡ unlimited_rows ss q (map (row_view_of (schema_at ss 0)) rows) plain
  same_lefts seen plain ns p t rows i full prunes stands keys rights =
      unlimited_rows_are ss q lefts seen
      ∙ flat_map_zip (answers_of ss q q.join seen) (answers_of ss q q.join plain) lefts (filter (meets_left ss q) inside)
      (zip_weaker (λ a b. IsIn a lefts × AlikeIn ss q 0 a b) (λ a b. answers_of ss q q.join seen a ≡ answers_of ss q q.join plain b) (λ a b r. rights a b r.0 r.1)
      lefts (filter (meets_left ss q) inside) (zip_in (AlikeIn ss q 0) lefts (filter (meets_left ss q) inside) met))
      ∙ flat_map_kept (answers_of ss q q.join plain) (meets_left ss q) inside (failing plain inside)
      ∙ flat_map_map (answers_of ss q q.join plain) (row_view_of (schema_at ss 0)) (rows_in (uncut_need ss q).interval rows)
      ∙ flat_map_kept (λ (row : Row). answers_of ss q q.join plain (row_view_of (schema_at ss 0) row)) (λ (row : Row). in_interval (uncut_need ss q).interval row.key) rows (outside plain rows keys)
      ∙ sym (flat_map_map (answers_of ss q q.join plain) (row_view_of (schema_at ss 0)) rows)
      ∙ sym (unlimited_rows_are ss q (map (row_view_of (schema_at ss 0)) rows) plain)
    where
      lefts : List RowView
      lefts = filter (meets_left ss q) (seen_row_views (schema_at ss 0) (uncut_need ss q) p)

      inside : List RowView
      inside = map (row_view_of (schema_at ss 0)) (rows_in (uncut_need ss q).interval rows)

      met : AllZip (AlikeIn ss q 0) (filter (meets_left ss q) (seen_row_views (schema_at ss 0) (uncut_need ss q) p)) (filter (meets_left ss q) (map (row_view_of (schema_at ss 0)) (rows_in (uncut_need ss q).interval rows)))
      met = zip_filter (AlikeIn ss q 0) (meets_left ss q) (meets_left ss q) (λ a b alike. same_meets ss q a b some_bound_source alike)
          (seen_row_views (schema_at ss 0) (uncut_need ss q) p) (map (row_view_of (schema_at ss 0)) (rows_in (uncut_need ss q).interval rows))
          (accepted (schema_at ss 0) ns (uncut_need ss q) p t rows i full prunes stands)
