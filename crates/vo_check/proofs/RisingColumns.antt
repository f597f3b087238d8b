-- The cells that a query names of a source come in rising order.
use Rattle.std.proofs.Common.{◌≡◌, ℕ, zero, suc, ◌+◌, ◌-◌, ◌<◌, ◌≤◌, Bool, true, false, cond, List, ◌∷◌, length, map, refl, ap, ◌∙◌, arith}
use Rattle.std.specs.Prelude.{◌==◌, not, ◌&&◌, nat_lt, filter}
use Rattle.std.proofs.lemmas.Bool.{ltb-true, ltb-false, eq-eqb, both_ways}
use Rattle.vo_spec.specs.Tables.{cell_number}
use Rattle.vo_spec.specs.Results.{schema_at, numbers_from}
use Rattle.query_plan.specs.BoundQueries.{BoundQuery}
use Rattle.query_plan.specs.NamedCells.{names, is_named_cell, bound_cells}
use Rattle.tree_stream.specs.Findings.{Rises}

module _ (key : ℕ) where
  -- The cells of these columns, which come from the first one on, rise from any number that isn't
  -- above the first, and is below it behind the key: there a column's cell is one lower.
  abbrev RisesFrom : ℕ → List ℕ → Type 0
  RisesFrom first columns = (least : ℕ) → least ≤ first → (key < first → least < first) → Rises least (map (cell_number key) columns)

  one_more : (first : ℕ) (columns : List ℕ) → (first ≡ key → ⊥) → RisesFrom (first + 1) columns → RisesFrom first (first ∷ columns)
  one_more first columns other rises least low below = by (nat_lt first key) refl
    where
      by : (b : Bool) → nat_lt first key ≡ b → (least ≤ cond b first (first - 1)) × Rises (cond b first (first - 1) + 1) (map (cell_number key) columns)
      by true e = let before : first < key = ltb-true first key e in (low, rises (first + 1) (omega arith) (λ past. absurd (omega arith)))
      by false e =
          let reached : key ≤ first = ltb-false first key e in
          let behind : key < first = omega arith in
          let higher : least < first = below behind in
          (omega arith, rises (first - 1 + 1) (omega arith) (λ past. omega arith))

  -- the columns that pass a test that the key doesn't pass
  module _ (test : ℕ → Bool) (misses : test key ≡ false) where
    next : (first : ℕ) (columns : List ℕ) → RisesFrom (first + 1) columns → (b : Bool) → test first ≡ b → RisesFrom first (cond b (first ∷ columns) columns)
    next first columns rises true e = one_more first columns (λ same. both_ways (test first) (ap test same ∙ misses) e) rises
    next first columns rises false e = λ least low below. rises least (omega arith) (λ past. omega arith)

    all_rise : (count first : ℕ) → RisesFrom first (filter test (numbers_from first count))
    all_rise zero first = λ least low below. tt
    all_rise (suc count) first = next first (filter test (numbers_from (first + 1) count)) (all_rise count (first + 1)) (test first) refl

-- the key is no cell
key_missed : (key : ℕ) (is_named : ℕ → Bool) → (not (key == key) && is_named key) ≡ false
key_missed key is_named = ap (λ b. not b && is_named key) (eq-eqb key key refl)

pub columns_rise : (b : BoundQuery) (bound_source : ℕ) → Rises 0 (bound_cells b bound_source)
columns_rise b bound_source =
    let schema = schema_at b.bound_sources bound_source in
    all_rise schema.key (is_named_cell b bound_source schema.key) (key_missed schema.key (λ column. names b (record { bound_source = bound_source; column = column })))
    (length schema.columns) 0 0 (omega arith) (λ past. absurd (omega arith))
