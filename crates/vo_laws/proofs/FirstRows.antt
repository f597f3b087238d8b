-- Of rows with rising keys, those up to the n-th that meets a condition are the first n of those
-- that meet it.
use Rattle.std.proofs.Common.{◌≡◌, ℕ, zero, suc, Bool, true, false, cond, List, [], ◌∷◌, Some, None, map, refl, ap, ◌∙◌, subst}
use Rattle.std.specs.Prelude.{◌&&◌, slice_get, filter, take, IsTrue}
use Rattle.std.specs.List.{AllByRecursion}
use Rattle.vo_spec.specs.declared.keys.Interval.{Interval}
use Rattle.vo_spec.specs.declared.needs.Need.{Need}
use Rattle.vo_spec.specs.declared.needs.SeenRow.{SeenRow}
use Rattle.vo_spec.specs.declared.values.Row.{Row}
use Rattle.vo_spec.specs.Values.{key_lt}
use Rattle.vo_spec.specs.Cells.{whole_entry}
use Rattle.vo_spec.specs.Trees.{RowTree, row_family}
use Rattle.vo_spec.specs.Scans.{in_interval}
use Rattle.vo_spec.specs.Representation.{AreRising, Represents}
use Rattle.vo_laws.specs.Columns.{seen_row}
use Rattle.vo_laws.proofs.KeyOrder.{key_lt_itself, key_lt_back}
use Rattle.vo_laws.proofs.SeenLaws.{rows_in}
use Rattle.vo_spec.specs.Cuts.{RowCondition, cut_at}
use Rattle.vo_laws.proofs.CutIntervals.{is_upto, cut_is}

-- Rows with rising keys.

abbrev pub AreAbove : List ℕ → List SeenRow → Type 0
AreAbove key = AllByRecursion (λ (x : SeenRow). key_lt key x.key ≡ true)

abbrev pub Rise : List SeenRow → Type 0
Rise [] = Unit {0}
Rise (x ∷ xs) = AreAbove x.key xs × Rise xs

above_kept : (test : SeenRow → Bool) (key : List ℕ) (xs : List SeenRow) → AreAbove key xs → AreAbove key (filter test xs)
above_kept test key [] all = tt
above_kept test key (x ∷ xs) all = step (test x) (above_kept test key xs all.1)
  where
    step : (b : Bool) → AreAbove key (filter test xs) → AreAbove key (cond b (x ∷ filter test xs) (filter test xs))
    step true rest = (all.0, rest)
    step false rest = rest

rise_kept : (test : SeenRow → Bool) (xs : List SeenRow) → Rise xs → Rise (filter test xs)
rise_kept test [] r = tt
rise_kept test (x ∷ xs) r = step (test x) (rise_kept test xs r.1)
  where
    step : (b : Bool) → Rise (filter test xs) → Rise (cond b (x ∷ filter test xs) (filter test xs))
    step true rest = (above_kept test x.key xs r.0, rest)
    step false rest = rest

above_shown : (columns : List ℕ) (interval : Interval) (key : List ℕ) (rows : List Row) → AllByRecursion (λ k. IsTrue (key_lt key k)) (map (λ (r : Row). r.key) rows)
    → AreAbove key (map (seen_row columns) (rows_in interval rows))
above_shown columns interval key [] all = tt
above_shown columns interval key (row ∷ rows) all = step (in_interval interval row.key) (above_shown columns interval key rows all.1)
  where
    step : (b : Bool) → AreAbove key (map (seen_row columns) (rows_in interval rows)) → AreAbove key (map (seen_row columns) (cond b (row ∷ rows_in interval rows) (rows_in interval rows)))
    step true rest = (all.0, rest)
    step false rest = rest

rise_shown : (columns : List ℕ) (interval : Interval) (rows : List Row) → AreRising (map (λ (r : Row). r.key) rows) → Rise (map (seen_row columns) (rows_in interval rows))
rise_shown columns interval [] r = tt
rise_shown columns interval (row ∷ rows) r = step (in_interval interval row.key) (rise_shown columns interval rows r.1)
  where
    step : (b : Bool) → Rise (map (seen_row columns) (rows_in interval rows)) → Rise (map (seen_row columns) (cond b (row ∷ rows_in interval rows) (rows_in interval rows)))
    step true rest = (above_shown columns interval row.key rows r.0, rest)
    step false rest = rest

keys_of_rows : (rows : List Row) → map row_family.key (map whole_entry rows) ≡ map (λ (r : Row). r.key) rows
keys_of_rows [] = refl
keys_of_rows (row ∷ rows) = ap (λ z. row.key ∷ z) (keys_of_rows rows)

pub rows_rise : (columns : List ℕ) (interval : Interval) (t : RowTree) (rows : List Row) → Represents t rows → Rise (map (seen_row columns) (rows_in interval rows))
rows_rise columns interval t rows stands =
    rise_shown columns interval rows (subst AreRising (ap (map row_family.key) stands.rows_are ∙ keys_of_rows rows) stands.tree.rising)

-- Those up to the key of one of them are as many as come before it, and it.

abbrev pub upto : List ℕ → SeenRow → Bool
upto last x = is_upto last x.key

none_upto : (key : List ℕ) (xs : List SeenRow) → AreAbove key xs → filter (upto key) xs ≡ []
none_upto key [] all = refl
none_upto key (x ∷ xs) all = rw (all.0) (none_upto key xs all.1)

above_got : (key : List ℕ) (xs : List SeenRow) (m : ℕ) (x : SeenRow) → AreAbove key xs → slice_get xs m ≡ Some x → key_lt key x.key ≡ true
above_got key [] m x all e = absurd (cc)
above_got key (y ∷ xs) zero x all e = let same : y ≡ x = cc in subst (λ (z : SeenRow). key_lt key z.key ≡ true) same all.0
above_got key (y ∷ xs) (suc m) x all e = above_got key xs m x all.1 e

taken : (xs : List SeenRow) (m : ℕ) (row : SeenRow) → Rise xs → slice_get xs m ≡ Some row → filter (upto row.key) xs ≡ take (suc m) xs
taken [] m row r e = absurd (cc)
taken (x ∷ xs) zero row r e =
    let same : x ≡ row = cc in
    rw (same, key_lt_itself row.key, none_upto row.key xs (subst (λ (z : SeenRow). AreAbove z.key xs) same r.0)) refl
taken (x ∷ xs) (suc m) row r e =
    let before : key_lt row.key x.key ≡ false = key_lt_back x.key row.key (above_got x.key xs m row r.0 e) in
    rw (before, taken xs m row r.1 e) refl

swapped : (p q : SeenRow → Bool) (xs : List SeenRow) → filter p (filter q xs) ≡ filter q (filter p xs)
swapped p q [] = refl
swapped p q (x ∷ xs) = step (p x) refl (q x) refl (swapped p q xs)
  where
    step : (a : Bool) → p x ≡ a → (b : Bool) → q x ≡ b → filter p (filter q xs) ≡ filter q (filter p xs)
        → filter p (cond b (x ∷ filter q xs) (filter q xs)) ≡ filter q (cond a (x ∷ filter p xs) (filter p xs))
    step true e true f rest = rw (e, f, rest) refl
    step true e false f rest = rw (f, rest) refl
    step false e true f rest = rw (e, rest) refl
    step false e false f rest = rest

pub first_met : (meets : RowCondition) (m : ℕ) (xs : List SeenRow) (row : SeenRow) → Rise xs → slice_get (filter meets xs) m ≡ Some row
    → filter meets (filter (upto row.key) xs) ≡ take (suc m) (filter meets xs)
first_met meets m xs row r e = swapped meets (upto row.key) xs ∙ taken (filter meets xs) m row (rise_kept meets xs r) e

-- The rows of the need that is cut at a row are those of the need up to it.

pub cut_rows : (need : Need) (row : SeenRow) → in_interval need.interval row.key ≡ true → (rows : List Row)
    → map (seen_row need.columns) (rows_in (cut_at (Some row) need).interval rows) ≡ filter (upto row.key) (map (seen_row need.columns) (rows_in need.interval rows))
cut_rows need row within [] = refl
cut_rows need row within (x ∷ rows) =
    rw (cut_is need row within x.key) (step (in_interval need.interval x.key) (is_upto row.key x.key) refl (cut_rows need row within rows))
  where
    show : List Row → List SeenRow
    show = map (seen_row need.columns)

    step : (a b : Bool) → is_upto row.key x.key ≡ b
        → show (rows_in (cut_at (Some row) need).interval rows) ≡ filter (upto row.key) (show (rows_in need.interval rows))
        → show (cond (a && b) (x ∷ rows_in (cut_at (Some row) need).interval rows) (rows_in (cut_at (Some row) need).interval rows))
        ≡ filter (upto row.key) (show (cond a (x ∷ rows_in need.interval rows) (rows_in need.interval rows)))
    step true true e rest = rw (e, rest) refl
    step true false e rest = rw (e, rest) refl
    step false b e rest = rest

-- a list has no item at its end
pub all_taken : {A : Type 0} (xs : List A) (m : ℕ) → slice_get xs m ≡ None → take (suc m) xs ≡ xs
all_taken [] m e = refl
all_taken (x ∷ xs) zero e = absurd (cc)
all_taken (x ∷ xs) (suc m) e = ap (λ z. x ∷ z) (all_taken xs m e)

-- the item that a front of a list has at its end is the list's
pub got_in_front : {A : Type 0} (xs : List A) (m : ℕ) → slice_get (take (suc m) xs) m ≡ slice_get xs m
got_in_front [] zero = refl
got_in_front [] (suc m) = refl
got_in_front (x ∷ xs) zero = refl
got_in_front (x ∷ xs) (suc m) = got_in_front xs m
