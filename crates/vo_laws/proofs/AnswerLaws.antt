-- The answers of a query, left row by left row: rows that are alike in what the query names give
-- the same answers, and a left row outside the interval, or that fails the left condition, gives
-- none.
use Rattle.std.proofs.Common.{◌≡◌, ℕ, zero, suc, ◌+◌, ◌<◌, ◌≤◌, Bool, true, false, cond, List, [], ◌∷◌, ◌++◌, Option, Some, None, length, map, inl, inr, refl, ap, ◌∙◌, subst, arith}
use Rattle.std.specs.Prelude.{◌&&◌, ◌⊎◌, ◌==◌, not, flat_map, slice_index_or}
use Rattle.std.specs.Option.{option_map_or}
use Rattle.std.specs.List.{list_any, AllByRecursion, position_or_len}
use Rattle.std.proofs.lemmas.List.Concat.{flat_map-append}
use Rattle.std.proofs.lemmas.Bool.{and_parts, and_from, both_ways, eqb-true, eq-eqb, ltb-true, cases_Bool, not_from_false, or_left, or_right}
use Rattle.vo_spec.specs.declared.values.Value.{Value}
use Rattle.vo_spec.specs.declared.values.Row.{Row}
use Rattle.vo_spec.specs.declared.queries.Ref.{Ref}
use Rattle.vo_spec.specs.declared.queries.Join.{Join}
use Rattle.vo_spec.specs.declared.queries.Items.{Items}
use Rattle.vo_spec.specs.declared.queries.Items.TheVariants.{All, Refs}
use Rattle.vo_spec.specs.declared.queries.Operand.{Operand}
use Rattle.vo_spec.specs.Values.{value_of_key, IsKeyOf}
use Rattle.vo_spec.specs.Tables.{column_at, has_column, cell_number}
use Rattle.vo_spec.specs.Conditions.{Condition, condition_refs, comparisons, is_true, is_met, Query, FitsOperand, FitsQuery}
use Rattle.vo_spec.specs.Results.{BoundSource, ColumnPlace, bound_source_at, schema_at, place_of, means_column_of, qualifies, item_refs, join_refs, query_refs, numbers_from, places_in, shown_places, RowView, row_view_of, no_row_view, place_value, ref_value, is_joined, is_answer, combinations, unlimited_rows}
use Rattle.vo_spec.specs.Scans.{in_interval}
use Rattle.vo_spec.specs.Needs.{all_keys, interval_of, left_truth, meets_left, is_place, shows_all, is_named_column, named_columns, named_cells, uncut_need}
use Rattle.vo_spec.specs.Checks.{key_kind}
use Rattle.vo_laws.proofs.ListLaws.{IsIn, each_from, each_left, each_right, each_both, each_map, any_in, in_filter, in_map, filtered_map, flat_map_map}
use Rattle.vo_laws.proofs.SeenLaws.{Alike}
use Rattle.vo_laws.proofs.ConditionLaws.{Same, SameLeft, same_truth, same_left, left_met, met_inside, ReadsKey, KindsAgree}

-- The first item that passes a test passes it.
passes : {A : Type 0} (test : A → Bool) (xs : List A) (d : A) → position_or_len test xs < length xs → test (slice_index_or xs (position_or_len test xs) d) ≡ true
passes test [] d lt = absurd (omega arith)
passes {A} test (x ∷ xs) d lt = step (test x) refl lt (passes test xs d)
  where
    step : (b : Bool) → test x ≡ b → cond (not b) (1 + position_or_len test xs) 0 < suc (length xs)
        → (position_or_len test xs < length xs → test (slice_index_or xs (position_or_len test xs) d) ≡ true)
        → test (slice_index_or (x ∷ xs) (cond (not b) (1 + position_or_len test xs) 0) d) ≡ true
    step true e lt more = e
    step false e lt more =
        let next : 1 + position_or_len test xs ≡ suc (position_or_len test xs) = omega arith in
        rw next (more (omega arith))

in_numbers : (first n c : ℕ) → first ≤ c → c < first + n → IsIn c (numbers_from first n)
in_numbers first zero c low high = absurd (omega arith)
in_numbers first (suc n) c low high = elim (cases_Bool (c == first)) [
  | inl e ↦ inl (eqb-true c first e)
  | inr e ↦ inr (in_numbers (first + 1) n c (above e) (omega arith))
]
  where
    above : (c == first) ≡ false → first + 1 ≤ c
    above e = let other : c ≡ first → ⊥ = λ s. both_ways (c == first) e (eq-eqb c first s) in omega arith

pub numbers_below : (first n : ℕ) → AllByRecursion (λ c. c < first + n) (numbers_from first n)
numbers_below first zero = tt
numbers_below first (suc n) =
    (omega arith, each_of_next (numbers_from (first + 1) n) (numbers_below (first + 1) n))
  where
    each_of_next : (cs : List ℕ) → AllByRecursion (λ c. c < first + 1 + n) cs → AllByRecursion (λ c. c < first + suc n) cs
    each_of_next [] all = tt
    each_of_next (c ∷ cs) all = let lt : c < first + 1 + n = all.0 in (omega arith, each_of_next cs all.1)

each_flat_map : {A B : Type 0} (P : B → Type 0) (f : A → List B) (xs : List A) → ((x : A) → AllByRecursion P (f x)) → AllByRecursion P (flat_map f xs)
each_flat_map P f [] g = tt
each_flat_map P f (x ∷ xs) g = each_both P (f x) (flat_map f xs) (g x) (each_flat_map P f xs g)

same_map : {A B : Type 0} (f g : A → B) (xs : List A) → AllByRecursion (λ x. f x ≡ g x) xs → map f xs ≡ map g xs
same_map f g [] all = refl
same_map f g (x ∷ xs) all = rw (all.0, same_map f g xs all.1) refl

module _ (ss : List BoundSource) (q : Query) where
  -- The answers row by row.

  abbrev pub answer_of : List RowView → List (List Value)
  answer_of rows = cond (is_answer ss q rows) (map (place_value rows) (shown_places ss q.items) ∷ []) []

  abbrev pub answers_of : Option Join → (RowView → List RowView) → RowView → List (List Value)
  answers_of None rights left = answer_of (left ∷ [])
  answers_of (Some j) rights left = flat_map (λ right. answer_of (left ∷ right ∷ [])) (rights left)

  joined_answers : (j : Option Join) (lefts : List RowView) (rights : RowView → List RowView)
      → flat_map answer_of (combinations j lefts rights) ≡ flat_map (answers_of j rights) lefts
  joined_answers None lefts rights = flat_map_map answer_of (λ left. left ∷ []) lefts
  joined_answers (Some j) [] rights = refl
  joined_answers (Some j) (left ∷ lefts) rights =
      flat_map-append answer_of (map (λ right. left ∷ right ∷ []) (rights left)) (combinations (Some j) lefts rights)
      ∙ ap (λ z. z ++ flat_map answer_of (combinations (Some j) lefts rights)) (flat_map_map answer_of (λ right. left ∷ right ∷ []) (rights left))
      ∙ ap (λ z. flat_map (λ right. answer_of (left ∷ right ∷ [])) (rights left) ++ z) (joined_answers (Some j) lefts rights)

  pub unlimited_rows_are : (lefts : List RowView) (rights : RowView → List RowView) → unlimited_rows ss q lefts rights ≡ flat_map (answers_of q.join rights) lefts
  unlimited_rows_are lefts rights =
      filtered_map (λ rows. map (place_value rows) (shown_places ss q.items)) (is_answer ss q) (combinations q.join lefts rights)
      ∙ joined_answers q.join lefts rights

  -- The places that a query reads are in keys and in named cells.

  abbrev pub Named : ColumnPlace → Type 0
  Named p = ((p.column == (schema_at ss p.bound_source).key) ≡ true) ⊎ IsIn (cell_number (schema_at ss p.bound_source).key p.column) (named_cells ss q p.bound_source)

  -- where there is such a side
  abbrev pub IsRead : ColumnPlace → Type 0
  IsRead p = p.bound_source < length ss → Named p

  reads_named : (bound_source column : ℕ) → column < length (schema_at ss bound_source).columns → is_named_column ss q bound_source column ≡ true
      → ((column == (schema_at ss bound_source).key) ≡ true) ⊎ IsIn (cell_number (schema_at ss bound_source).key column) (named_cells ss q bound_source)
  reads_named bound_source column lt e = elim (cases_Bool (column == (schema_at ss bound_source).key)) [
    | inl f ↦ inl f
    | inr f ↦ inr (in_map (cell_number (schema_at ss bound_source).key) (named_columns ss q bound_source) column
        (in_filter (λ c. not (c == (schema_at ss bound_source).key) && is_named_column ss q bound_source c) (numbers_from 0 (length (schema_at ss bound_source).columns)) column
        (in_numbers 0 (length (schema_at ss bound_source).columns) column (omega arith) (omega arith))
        (and_from (not (column == (schema_at ss bound_source).key)) (is_named_column ss q bound_source column) (not_from_false (column == (schema_at ss bound_source).key) f) e)))
  ]

  itself : (p : ColumnPlace) → is_place p p ≡ true
  itself p = and_from (p.bound_source == p.bound_source) (p.column == p.column) (eq-eqb p.bound_source p.bound_source refl) (eq-eqb p.column p.column refl)

  ref_named : (r : Ref) → IsIn r (query_refs q) → is_named_column ss q (place_of ss r).bound_source (place_of ss r).column ≡ true
  ref_named r i = or_right (shows_all q.items) (list_any (λ x. is_place (place_of ss x) (place_of ss r)) (query_refs q))
      (any_in (λ x. is_place (place_of ss x) (place_of ss r)) (query_refs q) r i (itself (place_of ss r)))

  ref_read : (r : Ref) → IsIn r (query_refs q) → IsRead (place_of ss r)
  ref_read r i lt =
      let means : means_column_of r (bound_source_at ss (place_of ss r).bound_source) ≡ true = passes (means_column_of r) ss _ lt in
      let has = and_parts (qualifies r (bound_source_at ss (place_of ss r).bound_source)) (has_column (schema_at ss (place_of ss r).bound_source).columns r.column) means in
      reads_named (place_of ss r).bound_source (place_of ss r).column (ltb-true _ _ has.1) (ref_named r i)

  pub refs_read : AllByRecursion (λ r. IsRead (place_of ss r)) (query_refs q)
  refs_read = each_from (λ r. IsRead (place_of ss r)) (query_refs q) ref_read

  all_named : (bound_source column : ℕ) → shows_all q.items ≡ true → is_named_column ss q bound_source column ≡ true
  all_named bound_source column e = or_left (shows_all q.items) (list_any (λ r. is_place (place_of ss r) (record { bound_source = bound_source; column = column })) (query_refs q)) e

  bound_source_read : shows_all q.items ≡ true → (bound_source : ℕ) → AllByRecursion IsRead (places_in ss bound_source)
  bound_source_read e bound_source = each_map IsRead (λ column. record { bound_source = bound_source; column = column }) (numbers_from 0 (length (schema_at ss bound_source).columns))
      (each_column (numbers_from 0 (length (schema_at ss bound_source).columns)) (numbers_below 0 (length (schema_at ss bound_source).columns)))
    where
      each_column : (cs : List ℕ) → AllByRecursion (λ c. c < 0 + length (schema_at ss bound_source).columns) cs
          → AllByRecursion (λ c. bound_source < length ss → ((c == (schema_at ss bound_source).key) ≡ true) ⊎ IsIn (cell_number (schema_at ss bound_source).key c) (named_cells ss q bound_source)) cs
      each_column [] all = tt
      each_column (c ∷ cs) all = let lt : c < 0 + length (schema_at ss bound_source).columns = all.0 in
          ((λ _. reads_named bound_source c (omega arith) (all_named bound_source c e)), each_column cs all.1)

  -- of the references, those of the items and of ON, those of the items, of ON and of the condition

  before_read : AllByRecursion (λ r. IsRead (place_of ss r)) (item_refs q.items ++ option_map_or join_refs q.join [])
  before_read = each_left (λ r. IsRead (place_of ss r)) (item_refs q.items ++ option_map_or join_refs q.join []) (option_map_or condition_refs q.condition []) refs_read

  items_read : AllByRecursion (λ r. IsRead (place_of ss r)) (item_refs q.items)
  items_read = each_left (λ r. IsRead (place_of ss r)) (item_refs q.items) (option_map_or join_refs q.join []) before_read

  pub joins_read : AllByRecursion (λ r. IsRead (place_of ss r)) (option_map_or join_refs q.join [])
  joins_read = each_right (λ r. IsRead (place_of ss r)) (item_refs q.items) (option_map_or join_refs q.join []) before_read

  conditions_read : AllByRecursion (λ r. IsRead (place_of ss r)) (option_map_or condition_refs q.condition [])
  conditions_read = each_right (λ r. IsRead (place_of ss r)) (item_refs q.items ++ option_map_or join_refs q.join []) (option_map_or condition_refs q.condition []) refs_read

  shown_read : (items : Items) → q.items ≡ items → AllByRecursion IsRead (shown_places ss items)
  shown_read All e = each_flat_map IsRead (places_in ss) (numbers_from 0 (length ss)) (bound_source_read (ap shows_all e))
  shown_read (Refs rs) e = each_map IsRead (place_of ss) rs (subst (λ items. AllByRecursion (λ r. IsRead (place_of ss r)) (item_refs items)) e items_read)

  -- Rows that agree where the query reads give the same answer.

  abbrev pub Agree : List RowView → List RowView → Type 0
  Agree rows others = (p : ColumnPlace) → IsRead p → place_value rows p ≡ place_value others p

  same_refs : (rows others : List RowView) → Agree rows others → (rs : List Ref) → AllByRecursion (λ r. IsRead (place_of ss r)) rs
      → AllByRecursion (Same (ref_value ss rows) (ref_value ss others)) rs
  same_refs rows others a [] all = tt
  same_refs rows others a (r ∷ rs) all = (a (place_of ss r) all.0, same_refs rows others a rs all.1)

  same_places : (rows others : List RowView) → Agree rows others → (ps : List ColumnPlace) → AllByRecursion IsRead ps
      → AllByRecursion (λ p. place_value rows p ≡ place_value others p) ps
  same_places rows others a [] all = tt
  same_places rows others a (p ∷ ps) all = (a p all.0, same_places rows others a ps all.1)

  same_joined : (rows others : List RowView) → Agree rows others → (j : Option Join) → AllByRecursion (λ r. IsRead (place_of ss r)) (option_map_or join_refs j [])
      → is_joined ss rows j ≡ is_joined ss others j
  same_joined rows others a None all = refl
  same_joined rows others a (Some j) all = rw (a (place_of ss j.left_ref) all.0, a (place_of ss j.right_ref) all.1.0) refl

  same_met : (rows others : List RowView) → Agree rows others → (c : Option Condition) → AllByRecursion (λ r. IsRead (place_of ss r)) (option_map_or condition_refs c [])
      → is_met (ref_value ss rows) c ≡ is_met (ref_value ss others) c
  same_met rows others a None all = refl
  same_met rows others a (Some c) all = ap is_true (same_truth (ref_value ss rows) (ref_value ss others) c (same_refs rows others a (condition_refs c) all))

  pub same_answer : (rows others : List RowView) → Agree rows others → answer_of rows ≡ answer_of others
  same_answer rows others a =
      ap (λ b. cond b (map (place_value rows) (shown_places ss q.items) ∷ []) [])
      (ap (λ b. b && is_met (ref_value ss rows) q.condition) (same_joined rows others a q.join joins_read)
      ∙ ap (λ b. is_joined ss others q.join && b) (same_met rows others a q.condition conditions_read))
      ∙ ap (λ shown. cond (is_answer ss q others) (shown ∷ []) [])
      (same_map (place_value rows) (place_value others) (shown_places ss q.items)
      (same_places rows others a (shown_places ss q.items) (shown_read q.items refl)))

  -- Lines that are alike in a side's named cells.
  abbrev pub AlikeIn : ℕ → RowView → RowView → Type 0
  AlikeIn bound_source a b = Alike (schema_at ss bound_source) (named_cells ss q bound_source) a b

  pub agree_one : (a b : RowView) → 0 < length ss → AlikeIn 0 a b → Agree (a ∷ []) (b ∷ [])
  agree_one a b lt alike p = at p.bound_source p.column
    where
      at : (bound_source column : ℕ) → IsRead (record { bound_source = bound_source; column = column })
          → slice_index_or (a ∷ []) bound_source no_row_view column ≡ slice_index_or (b ∷ []) bound_source no_row_view column
      at zero column reads = alike column (reads lt)
      at (suc bound_source) column reads = refl

  pub agree_two : (a b r s : RowView) → 1 < length ss → AlikeIn 0 a b → AlikeIn 1 r s → Agree (a ∷ r ∷ []) (b ∷ s ∷ [])
  agree_two a b r s lt alike other p = at p.bound_source p.column
    where
      at : (bound_source column : ℕ) → IsRead (record { bound_source = bound_source; column = column })
          → slice_index_or (a ∷ r ∷ []) bound_source no_row_view column ≡ slice_index_or (b ∷ s ∷ []) bound_source no_row_view column
      at zero column reads = alike column (reads (omega arith))
      at (suc zero) column reads = other column (reads lt)
      at (suc (suc bound_source)) column reads = refl

  -- Left rows that are alike meet the left condition alike.

  same_lefts_of : (a b : RowView) → Agree (a ∷ []) (b ∷ []) → (rs : List Ref) → AllByRecursion (λ r. IsRead (place_of ss r)) rs
      → AllByRecursion (SameLeft ss (ref_value ss (a ∷ [])) (ref_value ss (b ∷ []))) rs
  same_lefts_of a b agree [] all = tt
  same_lefts_of a b agree (r ∷ rs) all = ((λ e. agree (place_of ss r) all.0), same_lefts_of a b agree rs all.1)

  pub same_meets : (a b : RowView) → 0 < length ss → AlikeIn 0 a b → meets_left ss q a ≡ meets_left ss q b
  same_meets a b lt alike = step q.condition conditions_read
    where
      step : (c : Option Condition) → AllByRecursion (λ r. IsRead (place_of ss r)) (option_map_or condition_refs c [])
          → option_map_or (left_truth ss (ref_value ss (a ∷ []))) c true ≡ option_map_or (left_truth ss (ref_value ss (b ∷ []))) c true
      step None all = refl
      step (Some c) all = same_left ss (ref_value ss (a ∷ [])) (ref_value ss (b ∷ [])) c (same_lefts_of a b (agree_one a b lt alike) (condition_refs c) all)

  -- A left row that fails the left condition gives nothing.

  pub no_answer : (rows : List RowView) → (is_answer ss q rows ≡ true → ⊥) → answer_of rows ≡ []
  no_answer rows never = step (is_answer ss q rows) refl
    where
      step : (b : Bool) → is_answer ss q rows ≡ b → cond b (map (place_value rows) (shown_places ss q.items) ∷ []) [] ≡ []
      step true e = absurd (never e)
      step false e = refl

  -- none, where no combination with the left row is an answer
  pub no_answers : (left : RowView) → ((rest : List RowView) → is_answer ss q (left ∷ rest) ≡ true → ⊥) → (j : Option Join) (rights : RowView → List RowView) → answers_of j rights left ≡ []
  no_answers left never None rights = no_answer (left ∷ []) (never [])
  no_answers left never (Some j) rights = each_right_none (rights left)
    where
      each_right_none : (rs : List RowView) → flat_map (λ right. answer_of (left ∷ right ∷ [])) rs ≡ []
      each_right_none [] = refl
      each_right_none (r ∷ rs) = rw (no_answer (left ∷ r ∷ []) (never (r ∷ [])), each_right_none rs) refl

  left_alone : (left : RowView) (rest : List RowView) (rs : List Ref) → AllByRecursion (SameLeft ss (ref_value ss (left ∷ rest)) (ref_value ss (left ∷ []))) rs
  left_alone left rest [] = tt
  left_alone left rest (r ∷ rs) = ((λ e. at (place_of ss r).bound_source (place_of ss r).column (eqb-true (place_of ss r).bound_source 0 e)), left_alone left rest rs)
    where
      at : (bound_source column : ℕ) → bound_source ≡ 0 → slice_index_or (left ∷ rest) bound_source no_row_view column ≡ slice_index_or (left ∷ []) bound_source no_row_view column
      at bound_source column e = rw e refl

  pub failing_gives_none : (left : RowView) → meets_left ss q left ≡ false → (j : Option Join) (rights : RowView → List RowView) → answers_of j rights left ≡ []
  failing_gives_none left e = no_answers left (λ rest a. both_ways (meets_left ss q left) e
      (meets q.condition rest (and_parts (is_joined ss (left ∷ rest) q.join) (is_met (ref_value ss (left ∷ rest)) q.condition) a).1))
    where
      meets : (c : Option Condition) (rest : List RowView) → is_met (ref_value ss (left ∷ rest)) c ≡ true → option_map_or (left_truth ss (ref_value ss (left ∷ []))) c true ≡ true
      meets None rest m = refl
      meets (Some c) rest m = left_met ss (ref_value ss (left ∷ rest)) (ref_value ss (left ∷ [])) c (left_alone left rest (condition_refs c)) m

  -- A left row outside the interval gives nothing.

  reads_key : (row : Row) (rest : List RowView) → ReadsKey ss (ref_value ss (row_view_of (schema_at ss 0) row ∷ rest)) row.key
  reads_key row rest r e =
      let p = and_parts ((place_of ss r).bound_source == 0) ((place_of ss r).column == (schema_at ss 0).key) e in
      at (place_of ss r).bound_source (place_of ss r).column (eqb-true (place_of ss r).bound_source 0 p.0) p.1
    where
      row_view_key : (column : ℕ) → (column == (schema_at ss 0).key) ≡ true → row_view_of (schema_at ss 0) row column ≡ value_of_key (key_kind (schema_at ss 0)) row.key
      row_view_key column f = let same : column ≡ (schema_at ss 0).key = eqb-true column (schema_at ss 0).key f in
          rw f (ap (λ c. value_of_key (column_at (schema_at ss 0).columns c).kind row.key) same)

      at : (bound_source column : ℕ) → bound_source ≡ 0 → (column == (schema_at ss 0).key) ≡ true
          → (slice_index_or (row_view_of (schema_at ss 0) row ∷ rest) bound_source no_row_view column ≡ value_of_key (key_kind (schema_at ss 0)) row.key)
          × ((column_at (schema_at ss bound_source).columns column).kind ≡ key_kind (schema_at ss 0))
      at bound_source column z f =
          let same : column ≡ (schema_at ss 0).key = eqb-true column (schema_at ss 0).key f in (
            ap (λ n. slice_index_or (row_view_of (schema_at ss 0) row ∷ rest) n no_row_view column) z ∙ row_view_key column f,
            ap (λ n. (column_at (schema_at ss n).columns column).kind) z ∙ ap (λ c. (column_at (schema_at ss 0).columns c).kind) same,
          )

  pub outside_gives_none : (row : Row) → IsKeyOf (key_kind (schema_at ss 0)) row.key
      → AllByRecursion (KindsAgree ss) (option_map_or comparisons q.condition []) → FitsQuery q
      → in_interval (uncut_need ss q).interval row.key ≡ false → (j : Option Join) (rights : RowView → List RowView) → answers_of j rights (row_view_of (schema_at ss 0) row) ≡ []
  outside_gives_none row is kinds fits e = no_answers (row_view_of (schema_at ss 0) row) (λ rest a. both_ways (in_interval (uncut_need ss q).interval row.key) e
      (inside q.condition rest kinds fits (and_parts (is_joined ss (row_view_of (schema_at ss 0) row ∷ rest) q.join) (is_met (ref_value ss (row_view_of (schema_at ss 0) row ∷ rest)) q.condition) a).1))
    where
      inside : (c : Option Condition) (rest : List RowView) → AllByRecursion (KindsAgree ss) (option_map_or comparisons c [])
          → AllByRecursion (λ (x : Ref × Operand). FitsOperand x.1) (option_map_or comparisons c [])
          → is_met (ref_value ss (row_view_of (schema_at ss 0) row ∷ rest)) c ≡ true → in_interval (option_map_or (interval_of ss) c all_keys) row.key ≡ true
      inside None rest kinds fits m = refl
      inside (Some c) rest kinds fits m = met_inside ss (ref_value ss (row_view_of (schema_at ss 0) row ∷ rest)) row.key c is (reads_key row rest) kinds fits m
