-- Rows put in the order of their keys.
use Rattle.std.proofs.Common.{◌≡◌, ℕ, Bool, true, false, cond, List, [], ◌∷◌, map, inl, inr, refl, sym, ap, ◌∙◌, subst}
use Rattle.std.specs.Prelude.{◌⊎◌, filter, bytes_eq, IsTrue}
use Rattle.std.specs.List.{AllByRecursion}
use Rattle.std.proofs.lemmas.Bool.{both_ways}
use Rattle.std.proofs.lemmas.Slice.Eq.{bytes_eq-Decides}
use Rattle.vo_spec.specs.declared.values.Row.{Row}
use Rattle.vo_spec.specs.Values.{key_lt}
use Rattle.vo_spec.specs.Tables.{put_row}
use Rattle.vo_spec.specs.Representation.{AreRising}
use Rattle.vo_laws.proofs.KeyOrder.{key_lt_itself, key_lt_back, key_lt_lt}
use Rattle.vo_laws.proofs.ListLaws.{each_weaker, each_filter, each_map, each_mapped}
use Rattle.index_laws.specs.Indexes.{put_in_order, in_key_order}

-- two keys, of which one is below the other
abbrev pub Apart : List ℕ → List ℕ → Type 0
Apart a b = (key_lt a b ≡ true) ⊎ (key_lt b a ≡ true)

pub apart_back : (a b : List ℕ) → Apart a b → Apart b a
apart_back a b (inl e) = inr e
apart_back a b (inr e) = inl e

-- the first is below the second where the second isn't below the first
other_way : (a b : List ℕ) → Apart a b → key_lt b a ≡ false → key_lt a b ≡ true
other_way a b (inl e) f = e
other_way a b (inr e) f = absurd (both_ways (key_lt b a) f e)

abbrev pub RowsRise : List Row → Type 0
RowsRise rows = AreRising (map (λ (r : Row). r.key) rows)

-- the key is below those of the rows
abbrev pub AreAbove : List ℕ → List Row → Type 0
AreAbove key rows = AllByRecursion (λ k. IsTrue (key_lt key k)) (map (λ (r : Row). r.key) rows)

each_above : (key : List ℕ) (rows : List Row) → AreAbove key rows
    → AllByRecursion (λ (r : Row). key_lt key r.key ≡ true) rows
each_above key rows above = each_mapped (λ k. IsTrue (key_lt key k)) (λ (r : Row). r.key) rows above

-- what is below the key is below those that this is below
above_lower : (a b : List ℕ) (rows : List Row) → key_lt a b ≡ true → AreAbove b rows
    → AreAbove a rows
above_lower a b rows e above =
    each_weaker (λ k. IsTrue (key_lt b k)) (λ k. IsTrue (key_lt a k)) (λ k. key_lt_lt a b k e)
    (map (λ (r : Row). r.key) rows) above

each_put_in_order : (P : Row → Type 0) (row : Row) (rows : List Row) → P row → AllByRecursion P rows
    → AllByRecursion P (put_in_order row rows)
each_put_in_order P row [] p all = (p, tt)
each_put_in_order P row (r ∷ rows) p all =
    step (key_lt r.key row.key) (each_put_in_order P row rows p all.1)
  where
    step : (b : Bool) → AllByRecursion P (put_in_order row rows)
        → AllByRecursion P (cond b (r ∷ put_in_order row rows) (row ∷ r ∷ rows))
    step true rest = (all.0, rest)
    step false rest = (p, all)

-- where no key is twice, the row is put where an insertion puts it
pub put_alike : (row : Row) (rows : List Row)
    → AllByRecursion (λ (r : Row). Apart row.key r.key) rows
    → put_row row rows ≡ put_in_order row rows
put_alike row [] all = refl
put_alike row (r ∷ rows) all = step all.0 (put_alike row rows all.1)
  where
    step : Apart row.key r.key → put_row row rows ≡ put_in_order row rows
        → put_row row (r ∷ rows) ≡ put_in_order row (r ∷ rows)
    step (inl e) rest = rw (e, key_lt_back row.key r.key e) refl
    step (inr e) rest = rw (e, key_lt_back r.key row.key e) (ap (λ z. r ∷ z) rest)

pub each_in_order : (P : Row → Type 0) (rows : List Row) → AllByRecursion P rows
    → AllByRecursion P (in_key_order rows)
each_in_order P [] all = tt
each_in_order P (row ∷ rows) all =
    each_put_in_order P row (in_key_order rows) all.0 (each_in_order P rows all.1)

-- Two rows of different keys may be put in either order.

put_below : (a b : Row) (rows : List Row) → key_lt a.key b.key ≡ true
    → put_in_order a (put_in_order b rows) ≡ put_in_order b (put_in_order a rows)
put_below a b [] e = rw (e, key_lt_back a.key b.key e) refl
put_below a b (r ∷ rows) e = step (key_lt r.key b.key) refl (key_lt r.key a.key) refl
    (put_below a b rows e)
  where
    above : key_lt b.key a.key ≡ false
    above = key_lt_back a.key b.key e

    step : (x : Bool) → key_lt r.key b.key ≡ x → (y : Bool) → key_lt r.key a.key ≡ y
        → put_in_order a (put_in_order b rows) ≡ put_in_order b (put_in_order a rows)
        → put_in_order a (cond x (r ∷ put_in_order b rows) (b ∷ r ∷ rows))
        ≡ put_in_order b (cond y (r ∷ put_in_order a rows) (a ∷ r ∷ rows))
    step true f true g rest = rw (g, f) (ap (λ z. r ∷ z) rest)
    step true f false g rest = rw (g, e, f) refl
    step false f true g rest = absurd
        (both_ways (key_lt r.key b.key) f (key_lt_lt r.key a.key b.key g e))
    step false f false g rest = rw (above, e, f) refl

pub put_either : (a b : Row) (rows : List Row) → Apart a.key b.key
    → put_in_order a (put_in_order b rows) ≡ put_in_order b (put_in_order a rows)
put_either a b rows (inl e) = put_below a b rows e
put_either a b rows (inr e) = sym (put_below b a rows e)

-- What a row that is put adds to what is selected, changed and put in order.

module _ (f : Row → Row) (test : Row → Bool) where
  abbrev pub rows_that_pass : List Row → List Row
  rows_that_pass rows = in_key_order (map f (filter test rows))

  selected_put : (x : Row) (rows : List Row)
      → AllByRecursion (λ (y : Row). Apart (f x).key (f y).key) rows
      → rows_that_pass (put_in_order x rows)
      ≡ cond (test x) (put_in_order (f x) (rows_that_pass rows)) (rows_that_pass rows)
  selected_put x [] all = step (test x)
    where
      step : (b : Bool) → in_key_order (map f (cond b (x ∷ []) []))
          ≡ cond b (put_in_order (f x) []) []
      step true = refl
      step false = refl
  selected_put x (y ∷ rows) all = step (key_lt y.key x.key) (selected_put x rows all.1)
    where
      first : (b : Bool) → in_key_order
          (map f (cond b (x ∷ filter test (y ∷ rows)) (filter test (y ∷ rows))))
          ≡ cond b (put_in_order (f x) (rows_that_pass (y ∷ rows))) (rows_that_pass (y ∷ rows))
      first true = refl
      first false = refl

      behind : (b c : Bool) → rows_that_pass (put_in_order x rows)
          ≡ cond b (put_in_order (f x) (rows_that_pass rows)) (rows_that_pass rows)
          → in_key_order (map f (cond c (y ∷ filter test (put_in_order x rows))
          (filter test (put_in_order x rows))))
          ≡ cond b (put_in_order (f x) (in_key_order
          (map f (cond c (y ∷ filter test rows) (filter test rows)))))
          (in_key_order (map f (cond c (y ∷ filter test rows) (filter test rows))))
      behind true true rest = ap (put_in_order (f y)) rest
          ∙ sym (put_either (f x) (f y) (rows_that_pass rows) all.0)
      behind false true rest = ap (put_in_order (f y)) rest
      behind true false rest = rest
      behind false false rest = rest

      step : (b : Bool) → rows_that_pass (put_in_order x rows)
          ≡ cond (test x) (put_in_order (f x) (rows_that_pass rows)) (rows_that_pass rows)
          → rows_that_pass (cond b (y ∷ put_in_order x rows) (x ∷ y ∷ rows))
          ≡ cond (test x) (put_in_order (f x) (rows_that_pass (y ∷ rows))) (rows_that_pass (y ∷ rows))
      step true rest = behind (test x) (test y) rest
      step false rest = first (test x)

-- A row below all is put first.
put_first : (row : Row) (rows : List Row)
    → AllByRecursion (λ (r : Row). key_lt row.key r.key ≡ true) rows
    → put_in_order row rows ≡ row ∷ rows
put_first row [] all = refl
put_first row (r ∷ rows) all = rw (key_lt_back row.key r.key all.0) refl

-- Rows that a map takes away and another brings back.

module _ (map_out map_back : Row → Row) (test : Row → Bool) where
  abbrev AreRestored : List Row → Type 0
  AreRestored = AllByRecursion (λ (row : Row). map_back (map_out row) ≡ row)

  keys_back_apart : (key : List ℕ) (rows : List Row) → AreRestored rows → AreAbove key rows
      → AllByRecursion (λ (y : Row). Apart key (map_back y).key) (map map_out rows)
  keys_back_apart key [] restored above = tt
  keys_back_apart key (row ∷ rows) restored above = (
    inl (subst (λ (r : Row). key_lt key r.key ≡ true) (sym restored.0) above.0),
    keys_back_apart key rows restored.1 above.1,
  )

  pub read_back : (rows : List Row) → AreRestored rows → RowsRise rows
      → rows_that_pass map_back test (in_key_order (map map_out rows))
      ≡ filter (λ row. test (map_out row)) rows
  read_back [] restored rise = refl
  read_back (row ∷ rows) restored rise =
      selected_put map_back test (map_out row) (in_key_order (map map_out rows))
      (each_in_order (λ (y : Row). Apart (map_back (map_out row)).key (map_back y).key)
      (map map_out rows)
      (subst (λ (r : Row). AllByRecursion (λ (y : Row). Apart r.key (map_back y).key)
      (map map_out rows)) (sym restored.0) (keys_back_apart row.key rows restored.1 rise.0)))
      ∙ step (test (map_out row)) (read_back rows restored.1 rise.1)
    where
      kept : List Row
      kept = filter (λ r. test (map_out r)) rows

      step : (b : Bool) → rows_that_pass map_back test (in_key_order (map map_out rows)) ≡ kept
          → cond b (put_in_order (map_back (map_out row))
          (rows_that_pass map_back test (in_key_order (map map_out rows))))
          (rows_that_pass map_back test (in_key_order (map map_out rows))) ≡ cond b (row ∷ kept) kept
      step true rest = rw (rest, restored.0)
          (put_first row kept (each_filter (λ (r : Row). key_lt row.key r.key ≡ true)
          (λ r. test (map_out r)) rows (each_above row.key rows rise.0)))
      step false rest = rest

-- Rows with keys apart rise when they are in order.

put_rises : (row : Row) (rows : List Row) → AllByRecursion (λ (r : Row). Apart row.key r.key) rows
    → RowsRise rows → RowsRise (put_in_order row rows)
put_rises row [] all rise = (tt, tt)
put_rises row (r ∷ rows) all rise =
    step (key_lt r.key row.key) refl (put_rises row rows all.1 rise.1)
  where
    step : (b : Bool) → key_lt r.key row.key ≡ b → RowsRise (put_in_order row rows)
        → RowsRise (cond b (r ∷ put_in_order row rows) (row ∷ r ∷ rows))
    step true e rest = (
      each_map (λ k. IsTrue (key_lt r.key k)) (λ (x : Row). x.key) (put_in_order row rows)
          (each_put_in_order (λ (x : Row). key_lt r.key x.key ≡ true) row rows e
          (each_above r.key rows rise.0)),
      rest,
    )
    step false e rest =
        let below : key_lt row.key r.key ≡ true = other_way row.key r.key all.0 e in
        ((below, above_lower row.key r.key rows below rise.0), rise)

-- each is apart from those behind it
abbrev pub AreApart : List Row → Type 0
AreApart [] = Unit {0}
AreApart (row ∷ rows) = AllByRecursion (λ (r : Row). Apart row.key r.key) rows × AreApart rows

pub in_order_rises : (rows : List Row) → AreApart rows → RowsRise (in_key_order rows)
in_order_rises [] apart = tt
in_order_rises (row ∷ rows) apart =
    put_rises row (in_key_order rows)
    (each_in_order (λ (r : Row). Apart row.key r.key) rows apart.0) (in_order_rises rows apart.1)

-- Picking keeps the order, so that what is picked of rows in order is what was picked before.

put_picked : (test : Row → Bool) (x : Row) (rows : List Row)
    → AllByRecursion (λ (y : Row). Apart x.key y.key) rows → RowsRise rows
    → filter test (put_in_order x rows)
    ≡ cond (test x) (put_in_order x (filter test rows)) (filter test rows)
put_picked test x [] all rise = refl
put_picked test x (y ∷ rows) all rise =
    step (key_lt y.key x.key) refl (put_picked test x rows all.1 rise.1)
  where
    all_above : key_lt x.key y.key ≡ true
        → AllByRecursion (λ (r : Row). key_lt x.key r.key ≡ true) (filter test (y ∷ rows))
    all_above e = each_filter (λ (r : Row). key_lt x.key r.key ≡ true) test (y ∷ rows)
        (e, each_above x.key rows (above_lower x.key y.key rows e rise.0))

    behind : (b c : Bool) → key_lt y.key x.key ≡ true
        → filter test (put_in_order x rows)
        ≡ cond b (put_in_order x (filter test rows)) (filter test rows)
        → cond c (y ∷ filter test (put_in_order x rows)) (filter test (put_in_order x rows))
        ≡ cond b (put_in_order x (cond c (y ∷ filter test rows) (filter test rows)))
        (cond c (y ∷ filter test rows) (filter test rows))
    behind true true e rest = rw e (ap (λ z. y ∷ z) rest)
    behind false true e rest = ap (λ z. y ∷ z) rest
    behind true false e rest = rest
    behind false false e rest = rest

    first : (b : Bool) → key_lt x.key y.key ≡ true
        → cond b (x ∷ filter test (y ∷ rows)) (filter test (y ∷ rows))
        ≡ cond b (put_in_order x (filter test (y ∷ rows))) (filter test (y ∷ rows))
    first true e = sym (put_first x (filter test (y ∷ rows)) (all_above e))
    first false e = refl

    step : (b : Bool) → key_lt y.key x.key ≡ b
        → filter test (put_in_order x rows)
        ≡ cond (test x) (put_in_order x (filter test rows)) (filter test rows)
        → filter test (cond b (y ∷ put_in_order x rows) (x ∷ y ∷ rows))
        ≡ cond (test x) (put_in_order x (filter test (y ∷ rows))) (filter test (y ∷ rows))
    step true e rest = behind (test x) (test y) e rest
    step false e rest = first (test x) (other_way x.key y.key all.0 e)

pub picked_in_order : (test : Row → Bool) (rows : List Row) → AreApart rows
    → filter test (in_key_order rows) ≡ in_key_order (filter test rows)
picked_in_order test [] apart = refl
picked_in_order test (row ∷ rows) apart =
    put_picked test row (in_key_order rows)
    (each_in_order (λ (r : Row). Apart row.key r.key) rows apart.0) (in_order_rises rows apart.1)
    ∙ step (test row) (picked_in_order test rows apart.1)
  where
    step : (b : Bool) → filter test (in_key_order rows) ≡ in_key_order (filter test rows)
        → cond b (put_in_order row (filter test (in_key_order rows)))
        (filter test (in_key_order rows))
        ≡ in_key_order (cond b (row ∷ filter test rows) (filter test rows))
    step true rest = ap (put_in_order row) rest
    step false rest = rest

-- Rows of one key stay as they are.

module _ (key : List ℕ) where
  abbrev has_key : Row → Bool
  has_key row = bytes_eq row.key key

  put_of_key : (row : Row) (rows : List Row)
      → filter has_key (put_in_order row rows) ≡ filter has_key (row ∷ rows)
  put_of_key row [] = refl
  put_of_key row (r ∷ rows) = step (key_lt r.key row.key) refl (put_of_key row rows)
    where
      behind : (b c : Bool) → has_key r ≡ b → has_key row ≡ c → key_lt r.key row.key ≡ true
          → filter has_key (put_in_order row rows)
          ≡ cond c (row ∷ filter has_key rows) (filter has_key rows)
          → cond b (r ∷ filter has_key (put_in_order row rows))
          (filter has_key (put_in_order row rows))
          ≡ cond c (row ∷ cond b (r ∷ filter has_key rows) (filter has_key rows))
          (cond b (r ∷ filter has_key rows) (filter has_key rows))
      behind true true f g e rest =
          let same : r.key ≡ row.key =
          (bytes_eq-Decides r.key key).0 f ∙ sym ((bytes_eq-Decides row.key key).0 g) in
          absurd (both_ways (key_lt r.key row.key)
          (subst (λ k. key_lt r.key k ≡ false) same (key_lt_itself r.key)) e)
      behind true false f g e rest = ap (λ z. r ∷ z) rest
      behind false true f g e rest = rest
      behind false false f g e rest = rest

      step : (b : Bool) → key_lt r.key row.key ≡ b
          → filter has_key (put_in_order row rows) ≡ filter has_key (row ∷ rows)
          → filter has_key (cond b (r ∷ put_in_order row rows) (row ∷ r ∷ rows))
          ≡ filter has_key (row ∷ r ∷ rows)
      step true e rest = behind (has_key r) (has_key row) refl refl e rest
      step false e rest = refl

  pub of_key_kept : (rows : List Row)
      → filter has_key (in_key_order rows) ≡ filter has_key rows
  of_key_kept [] = refl
  of_key_kept (row ∷ rows) =
      put_of_key row (in_key_order rows)
      ∙ ap (λ z. cond (has_key row) (row ∷ z) z) (of_key_kept rows)
