-- The keys of a need that is cut at a row, and the children that a scan for it visits, are among
-- those of the need.
use Rattle.std.proofs.Common.{◌≡◌, ℕ, Bool, true, false, List, [], ◌∷◌, Option, Some, None, refl}
use Rattle.std.specs.Prelude.{◌&&◌, not}
use Rattle.std.proofs.lemmas.Bool.{and_parts, and_from, both_ways, not-true, not_from_false}
use Rattle.vo_spec.specs.declared.keys.Bound.{Bound}
use Rattle.vo_spec.specs.declared.keys.Bound.TheVariants.{Absent, Inclusive, Exclusive}
use Rattle.vo_spec.specs.declared.needs.Need.{Need}
use Rattle.vo_spec.specs.declared.needs.SeenRow.{SeenRow}
use Rattle.vo_spec.specs.declared.values.Row.{Row}
use Rattle.vo_spec.specs.Values.{key_lt}
use Rattle.vo_spec.specs.Scans.{is_above, is_below, in_interval, ends_above, begins_below, visits}
use Rattle.vo_laws.specs.Columns.{HaveColumns}
use Rattle.vo_laws.proofs.KeyOrder.{key_le_le, key_le_lt}
use Rattle.vo_spec.specs.Cuts.{cut_at}

-- not above the key
abbrev pub is_upto : List ℕ → List ℕ → Bool
is_upto last key = not (key_lt last key)

below_last : (high : Bound) (last key : List ℕ) → is_below high last ≡ true → is_upto last key ≡ true → is_below high key ≡ true
below_last Absent last key b e = refl
below_last (Inclusive high) last key b e =
    not_from_false (key_lt high key) (key_le_le key last high (not-true (key_lt last key) e) (not-true (key_lt high last) b))
below_last (Exclusive high) last key b e = key_le_lt key last high (not-true (key_lt last key) e) b

pub begins_last : (high : Bound) (last : List ℕ) (lower : Option (List ℕ)) → is_below high last ≡ true → begins_below (Inclusive last) lower ≡ true → begins_below high lower ≡ true
begins_last Absent last lower b e = refl
begins_last (Inclusive high) last None b e = refl
begins_last (Exclusive high) last None b e = refl
begins_last (Inclusive high) last (Some s) b e =
    not_from_false (key_lt high s) (key_le_le s last high (not-true (key_lt last s) e) (not-true (key_lt high last) b))
begins_last (Exclusive high) last (Some s) b e = key_le_lt s last high (not-true (key_lt last s) e) b

module _ (need : Need) (row : SeenRow) (within : in_interval need.interval row.key ≡ true) where
  abbrev pub cut : Need
  cut = cut_at (Some row) need

  pub row_below : is_below need.interval.high row.key ≡ true
  row_below = (and_parts (is_above need.interval.low row.key) (is_below need.interval.high row.key) within).1

  -- a key that the cut need has is one of the need's
  pub inside : (key : List ℕ) → in_interval cut.interval key ≡ true → in_interval need.interval key ≡ true
  inside key e = let both = and_parts (is_above need.interval.low key) (is_upto row.key key) e in
      and_from (is_above need.interval.low key) (is_below need.interval.high key) both.0 (below_last need.interval.high row.key key row_below both.1)

  -- and is one that isn't above the row's
  pub cut_is : (key : List ℕ) → in_interval cut.interval key ≡ (in_interval need.interval key && is_upto row.key key)
  cut_is key = step (is_above need.interval.low key) (is_below need.interval.high key) refl (is_upto row.key key) refl
    where
      step : (a b : Bool) → is_below need.interval.high key ≡ b → (c : Bool) → is_upto row.key key ≡ c → (a && c) ≡ ((a && b) && c)
      step true true e c f = refl
      step true false e true f = absurd (both_ways (is_below need.interval.high key) e (below_last need.interval.high row.key key row_below f))
      step true false e false f = refl
      step false b e c f = refl

  -- a child that the scan for the cut need visits is visited for the need
  pub visited : (lower upper : Option (List ℕ)) → visits cut.interval lower upper ≡ true → visits need.interval lower upper ≡ true
  visited lower upper e = let both = and_parts (ends_above need.interval.low upper) (begins_below (Inclusive row.key) lower) e in
      and_from (ends_above need.interval.low upper) (begins_below need.interval.high lower) both.0 (begins_last need.interval.high row.key lower row_below both.1)

  pub cut_columns : (rows : List Row) → HaveColumns rows need → HaveColumns rows cut
  cut_columns [] have = tt
  cut_columns (r ∷ rows) have = (λ e. have.0 (inside r.key e), cut_columns rows have.1)
