-- Joins: of a left row's right rows none is outside its interval, and those that are seen give the
-- answers that all of them give.
use Rattle.std.proofs.Common.{◌≡◌, ℕ, ◌<◌, Bool, true, false, cond, List, [], ◌∷◌, Some, None, length, map, refl, sym, ap, ◌∙◌, subst, arith}
use Rattle.std.specs.Prelude.{ℤ, ◌&&◌, ◌==◌, not, flat_map, slice_index_or, bytes_eq, ◌<ℤ◌}
use Rattle.std.specs.Option.{option_map_or}
use Rattle.std.specs.List.{AllByRecursion, AllZip}
use Rattle.std.specs.Ordering.{is_eq, int_cmp}
use Rattle.std.proofs.lemmas.Bool.{and_parts, both_ways, eqb-true, eq-eqb}
use Rattle.std.proofs.lemmas.Cmp.{int_ranked, by_ranked, nat_list_cmp_total, tied_itself}
use Rattle.std.proofs.lemmas.Map.Text.{is_eq-slice_cmp}
use Rattle.std.proofs.lemmas.Slice.Eq.{bytes_eq-Decides}
use Rattle.vo_spec.specs.declared.values.Value.{Value}
use Rattle.vo_spec.specs.declared.values.Value.TheVariants.{Int, Text, Bool as Truth, Null}
use Rattle.vo_spec.specs.declared.values.Row.{Row}
use Rattle.vo_spec.specs.declared.queries.Cmp.TheVariants as cmp
use Rattle.vo_spec.specs.declared.queries.Join.{Join}
use Rattle.vo_spec.specs.declared.queries.QueryFault.TheVariants.{NotKeyJoin, TypeMismatch}
use Rattle.vo_spec.specs.Firsts.{first_of}
use Rattle.vo_spec.specs.Values.{is_null, same_kind, key_of, key_cmp, value_cmp, value_of_key, IsKeyOf}
use Rattle.vo_spec.specs.Conditions.{Query, is_met}
use Rattle.vo_spec.specs.Results.{BoundSource, ColumnPlace, schema_at, place_of, ref_kind, join_refs, join_places, is_key_join, join_fault, RowView, row_view_of, no_row_view, place_value, ref_value, is_joined}
use Rattle.vo_spec.specs.Scans.{in_interval}
use Rattle.vo_spec.specs.Needs.{keys_that, join_value, has_join_value, right_need}
use Rattle.vo_spec.specs.Checks.{key_kind}
use Rattle.vo_laws.proofs.ListLaws.{zip_weaker, flat_map_kept, flat_map_zip, flat_map_map}
use Rattle.vo_laws.proofs.ValueOrder.{key_again}
use Rattle.vo_laws.proofs.ConditionLaws.{key_among, compared}
use Rattle.vo_laws.proofs.SeenLaws.{rows_in}
use Rattle.vo_laws.proofs.AnswerLaws.{answer_of, AlikeIn, IsRead, agree_one, agree_two, same_answer, no_answer, joins_read}

-- Values that compare as equal are equal.

pub is_bytes : (a b : List ℕ) → bytes_eq a b ≡ true → a ≡ b
is_bytes a b e = (bytes_eq-Decides a b).0 e

integers_equal : (a b : ℤ) → is_eq (int_cmp a b) ≡ true → a ≡ b
integers_equal a b e =
    by_ranked (a <ℤ b) (a ≡ b) (b <ℤ a) (int_cmp a b) (int_ranked a b (int_cmp a b) refl)
    (λ f h. absurd (both_ways (is_eq (int_cmp a b)) (ap is_eq f) e)) (λ f h. h) (λ f h. absurd (both_ways (is_eq (int_cmp a b)) (ap is_eq f) e))

pub values_equal : (a b : Value) → is_eq (value_cmp a b) ≡ true → a ≡ b
values_equal Null Null e = refl
values_equal Null (Int b) e = absurd (cc)
values_equal Null (Text b) e = absurd (cc)
values_equal Null (Truth b) e = absurd (cc)
values_equal (Int a) Null e = absurd (cc)
values_equal (Int a) (Int b) e = ap Int (integers_equal a b e)
values_equal (Int a) (Text b) e = absurd (cc)
values_equal (Int a) (Truth b) e = absurd (cc)
values_equal (Text a) Null e = absurd (cc)
values_equal (Text a) (Int b) e = absurd (cc)
values_equal (Text a) (Text b) e = ap Text (is_bytes a b (sym (is_eq-slice_cmp a b) ∙ e))
values_equal (Text a) (Truth b) e = absurd (cc)
values_equal (Truth a) Null e = absurd (cc)
values_equal (Truth a) (Int b) e = absurd (cc)
values_equal (Truth a) (Text b) e = absurd (cc)
values_equal (Truth false) (Truth false) e = refl
values_equal (Truth false) (Truth true) e = absurd (cc)
values_equal (Truth true) (Truth false) e = absurd (cc)
values_equal (Truth true) (Truth true) e = refl

module _ (ss : List BoundSource) (j : Join) where
  key_join : join_fault ss j ≡ None → is_key_join ss j ≡ true
  key_join e = step (is_key_join ss j) refl e
    where
      step : (b : Bool) → is_key_join ss j ≡ b
          → cond (not b) (Some NotKeyJoin) (first_of ((not (same_kind (ref_kind ss j.left_ref) (ref_kind ss j.right_ref)), TypeMismatch) ∷ [])) ≡ None
          → is_key_join ss j ≡ true
      step true f e = f
      step false f e = absurd (cc)

  -- ON's left column is that of the left source, its right one the key of the right source
  pub record JoinsOnKey : Type 0 where
    pub left_side : (join_places ss j).0.bound_source ≡ 0
    pub right_side : (join_places ss j).1.bound_source ≡ 1
    pub right_column : (join_places ss j).1.column ≡ (schema_at ss 1).key

  pub joins_on_key : join_fault ss j ≡ None → JoinsOnKey
  joins_on_key e =
      let p = and_parts ((join_places ss j).0.bound_source == 0 && (join_places ss j).1.bound_source == 1) ((join_places ss j).1.column == (schema_at ss 1).key) (key_join e) in
      let r = and_parts ((join_places ss j).0.bound_source == 0) ((join_places ss j).1.bound_source == 1) p.0 in
      record {
        left_side = eqb-true (join_places ss j).0.bound_source 0 r.0;
        right_side = eqb-true (join_places ss j).1.bound_source 1 r.1;
        right_column = eqb-true (join_places ss j).1.column (schema_at ss 1).key p.1;
      }

  equal_places : (rows : List RowView) → place_value rows (place_of ss j.left_ref) ≡ place_value rows (place_of ss j.right_ref)
      → place_value rows (join_places ss j).0 ≡ place_value rows (join_places ss j).1
  equal_places rows e = step ((place_of ss j.left_ref).bound_source == 1)
    where
      step : (b : Bool) → place_value rows (cond {A = ColumnPlace × ColumnPlace} b (place_of ss j.right_ref, place_of ss j.left_ref) (place_of ss j.left_ref, place_of ss j.right_ref)).0
          ≡ place_value rows (cond {A = ColumnPlace × ColumnPlace} b (place_of ss j.right_ref, place_of ss j.left_ref) (place_of ss j.left_ref, place_of ss j.right_ref)).1
      step true = sym e
      step false = e

  left_value : (left right : RowView) → JoinsOnKey → place_value (left ∷ right ∷ []) (join_places ss j).0 ≡ join_value ss j left
  left_value left right on = at (join_places ss j).0.bound_source (join_places ss j).0.column on.left_side
    where
      at : (bound_source column : ℕ) → bound_source ≡ 0 → slice_index_or (left ∷ right ∷ []) bound_source no_row_view column ≡ slice_index_or (left ∷ []) bound_source no_row_view column
      at bound_source column e = rw e refl

  right_value : (left : RowView) (row : Row) → JoinsOnKey
      → place_value (left ∷ row_view_of (schema_at ss 1) row ∷ []) (join_places ss j).1 ≡ value_of_key (key_kind (schema_at ss 1)) row.key
  right_value left row on = at (join_places ss j).1.bound_source (join_places ss j).1.column on.right_side on.right_column
    where
      at_key : (column : ℕ) → column ≡ (schema_at ss 1).key → row_view_of (schema_at ss 1) row column ≡ value_of_key (key_kind (schema_at ss 1)) row.key
      at_key column e = rw (e, eq-eqb (schema_at ss 1).key (schema_at ss 1).key refl) refl

      at : (bound_source column : ℕ) → bound_source ≡ 1 → column ≡ (schema_at ss 1).key
          → slice_index_or (left ∷ row_view_of (schema_at ss 1) row ∷ []) bound_source no_row_view column ≡ value_of_key (key_kind (schema_at ss 1)) row.key
      at bound_source column e f = rw e (at_key column f)

  -- a right row that joins has its key where the left row looks for it
  joined_inside : (left : RowView) (row : Row) → JoinsOnKey → IsKeyOf (key_kind (schema_at ss 1)) row.key
      → is_joined ss (left ∷ row_view_of (schema_at ss 1) row ∷ []) (Some j) ≡ true → in_interval (keys_that cmp.Eq (key_of (join_value ss j left))) row.key ≡ true
  joined_inside left row on is e =
      let rows : List RowView = left ∷ row_view_of (schema_at ss 1) row ∷ [] in
      let equal : place_value rows (place_of ss j.left_ref) ≡ place_value rows (place_of ss j.right_ref) = values_equal (ref_value ss rows j.left_ref) (ref_value ss rows j.right_ref) (compared cmp.Eq (ref_value ss rows j.left_ref) (ref_value ss rows j.right_ref) e).2 in
      let same : key_of (join_value ss j left) ≡ row.key =
      ap key_of (sym (left_value left (row_view_of (schema_at ss 1) row) on) ∙ equal_places rows equal ∙ right_value left row on)
      ∙ key_again (key_kind (schema_at ss 1)) row.key is in
      key_among cmp.Eq row.key (key_of (join_value ss j left)) (ap is_eq (ap (key_cmp row.key) same ∙ tied_itself nat_list_cmp_total row.key))

  -- a left row that joins with something has a value to join by
  pub joined_has_value : (left right : RowView) → JoinsOnKey → is_joined ss (left ∷ right ∷ []) (Some j) ≡ true → has_join_value ss j left ≡ true
  joined_has_value left right on e =
      let rows : List RowView = left ∷ right ∷ [] in
      let c = compared cmp.Eq (ref_value ss rows j.left_ref) (ref_value ss rows j.right_ref) e in
      ap not (ap is_null (sym (left_value left right on)) ∙ not_null rows c.0 c.1)
    where
      not_null : (rows : List RowView) → is_null (place_value rows (place_of ss j.left_ref)) ≡ false → is_null (place_value rows (place_of ss j.right_ref)) ≡ false
          → is_null (place_value rows (join_places ss j).0) ≡ false
      not_null rows one other = step ((place_of ss j.left_ref).bound_source == 1)
        where
          step : (b : Bool) → is_null (place_value rows (cond {A = ColumnPlace × ColumnPlace} b (place_of ss j.right_ref, place_of ss j.left_ref) (place_of ss j.left_ref, place_of ss j.right_ref)).0) ≡ false
          step true = other
          step false = one

module _ (ss : List BoundSource) (q : Query) (j : Join) (is_join : q.join ≡ Some j) where
  left_read : IsRead ss q (join_places ss j).0
  left_read = step ((place_of ss j.left_ref).bound_source == 1) (subst (λ o. AllByRecursion (λ r. IsRead ss q (place_of ss r)) (option_map_or join_refs o [])) is_join (joins_read ss q))
    where
      step : (b : Bool) → AllByRecursion (λ r. IsRead ss q (place_of ss r)) (join_refs j)
          → IsRead ss q (cond {A = ColumnPlace × ColumnPlace} b (place_of ss j.right_ref, place_of ss j.left_ref) (place_of ss j.left_ref, place_of ss j.right_ref)).0
      step true all = all.1.0
      step false all = all.0

  right_outside : (left : RowView) (row : Row) → JoinsOnKey ss j → IsKeyOf (key_kind (schema_at ss 1)) row.key
      → in_interval (keys_that cmp.Eq (key_of (join_value ss j left))) row.key ≡ false → answer_of ss q (left ∷ row_view_of (schema_at ss 1) row ∷ []) ≡ []
  right_outside left row on is e = no_answer ss q (left ∷ row_view_of (schema_at ss 1) row ∷ []) (λ a.
      let joined = (and_parts (is_joined ss (left ∷ row_view_of (schema_at ss 1) row ∷ []) q.join) (is_met (ref_value ss (left ∷ row_view_of (schema_at ss 1) row ∷ [])) q.condition) a).0 in
      both_ways (in_interval (keys_that cmp.Eq (key_of (join_value ss j left))) row.key) e
      (joined_inside ss j left row on is (subst (λ o. is_joined ss (left ∷ row_view_of (schema_at ss 1) row ∷ []) o ≡ true) is_join joined)))

  rights_outside : (left : RowView) (rows : List Row) → JoinsOnKey ss j → AllByRecursion (λ (row : Row). IsKeyOf (key_kind (schema_at ss 1)) row.key) rows
      → AllByRecursion (λ (row : Row). in_interval (keys_that cmp.Eq (key_of (join_value ss j left))) row.key ≡ false
      → answer_of ss q (left ∷ row_view_of (schema_at ss 1) row ∷ []) ≡ []) rows
  rights_outside left [] on keys = tt
  rights_outside left (row ∷ rows) on keys = (right_outside left row on keys.0, rights_outside left rows on keys.1)

  -- a left row without a value to join by gives nothing, whatever the right rows are
  pub no_value_gives_none : (left : RowView) → JoinsOnKey ss j → has_join_value ss j left ≡ false
      → (rights : List RowView) → flat_map (λ right. answer_of ss q (left ∷ right ∷ [])) rights ≡ []
  no_value_gives_none left on e [] = refl
  no_value_gives_none left on e (right ∷ rights) = rw (none right, no_value_gives_none left on e rights) refl
    where
      none : (right : RowView) → answer_of ss q (left ∷ right ∷ []) ≡ []
      none right = no_answer ss q (left ∷ right ∷ []) (λ a.
          let joined = (and_parts (is_joined ss (left ∷ right ∷ []) q.join) (is_met (ref_value ss (left ∷ right ∷ [])) q.condition) a).0 in
          both_ways (has_join_value ss j left) e
          (joined_has_value ss j left right on (subst (λ o. is_joined ss (left ∷ right ∷ []) o ≡ true) is_join joined)))

  -- rows that are alike in what the query names have the same value to join by
  pub same_join_value : (a b : RowView) → 0 < length ss → AlikeIn ss q 0 a b → join_value ss j a ≡ join_value ss j b
  same_join_value a b lt alike = agree_one ss q a b lt alike (join_places ss j).0 left_read

  -- What is seen of a left row's right rows gives the answers that all right rows give with the
  -- left row.
  pub same_rights : (a b : RowView) (seen : List RowView) (rows : List Row) → join_fault ss j ≡ None → 1 < length ss → AlikeIn ss q 0 a b
      → AllByRecursion (λ (row : Row). IsKeyOf (key_kind (schema_at ss 1)) row.key) rows
      → AllZip (AlikeIn ss q 1) seen (map (row_view_of (schema_at ss 1)) (rows_in (right_need ss q j a).interval rows))
      → flat_map (λ right. answer_of ss q (a ∷ right ∷ [])) seen ≡ flat_map (λ right. answer_of ss q (b ∷ right ∷ [])) (map (row_view_of (schema_at ss 1)) rows)
  same_rights a b seen rows fault lt alike keys zip =
      flat_map_zip (λ right. answer_of ss q (a ∷ right ∷ [])) (λ right. answer_of ss q (b ∷ right ∷ [])) seen
      (map (row_view_of (schema_at ss 1)) (rows_in (right_need ss q j a).interval rows))
      (zip_weaker (AlikeIn ss q 1) (λ r s. answer_of ss q (a ∷ r ∷ []) ≡ answer_of ss q (b ∷ s ∷ []))
      (λ r s other. same_answer ss q (a ∷ r ∷ []) (b ∷ s ∷ []) (agree_two ss q a b r s lt alike other)) seen
      (map (row_view_of (schema_at ss 1)) (rows_in (right_need ss q j a).interval rows)) zip)
      ∙ flat_map_map (λ right. answer_of ss q (b ∷ right ∷ [])) (row_view_of (schema_at ss 1)) (rows_in (right_need ss q j a).interval rows)
      ∙ ap (λ v. flat_map (λ (row : Row). answer_of ss q (b ∷ row_view_of (schema_at ss 1) row ∷ [])) (rows_in (keys_that cmp.Eq (key_of v)) rows)) same_value
      ∙ flat_map_kept (λ (row : Row). answer_of ss q (b ∷ row_view_of (schema_at ss 1) row ∷ [])) (λ (row : Row). in_interval (keys_that cmp.Eq (key_of (join_value ss j b))) row.key) rows
      (rights_outside b rows (joins_on_key ss j fault) keys)
      ∙ sym (flat_map_map (λ right. answer_of ss q (b ∷ right ∷ [])) (row_view_of (schema_at ss 1)) rows)
    where
      same_value : join_value ss j a ≡ join_value ss j b
      same_value = same_join_value a b (omega arith) alike
