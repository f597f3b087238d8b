-- Of which keys a table has rows, when one is put, changed or removed.
use Rattle.std.proofs.Common.{◌≡◌, ℕ, pos, ◌^◌, ◌<◌, Bool, true, false, cond, not, ◌&&◌, ◌||◌, ◌==◌, List, [], ◌∷◌, map, refl, sym, ap, ◌∙◌, arith}
use Rattle.std.specs.Prelude.{bytes_eq}
use Rattle.std.specs.Bool.{Decides}
use Rattle.std.proofs.lemmas.Bool.{eqb-true, eq-eqb, both_ways, false_from_ne_true}
use Rattle.std.proofs.lemmas.Slice.Eq.{bytes_eq-Decides}
use Rattle.vo_spec.specs.declared.values.Kind.TheVariants as kind
use Rattle.vo_spec.specs.declared.values.Row.{Row}
use Rattle.vo_spec.specs.Values.{key_of, key_lt, value_of_key}
use Rattle.vo_spec.specs.Tables.{CellChange, has_row, put_row, without_row, changed_cells, changed_row}
use Rattle.vo_laws.proofs.ValueOrder.{integer_back}
use Rattle.vo_gen.specs.Workload.{number}

-- Keys of numbers are the same where the numbers are.

key_back : (n : ℕ) → n < 2 ^ 63 → value_of_key kind.Int (key_of (number n)) ≡ number n
key_back n lt = integer_back (pos n) (record { sfits = omega arith })

one_number : (a b : ℕ) → number a ≡ number b → a ≡ b
one_number a b e = cc

one_key : (a b : ℕ) → a < 2 ^ 63 → b < 2 ^ 63 → key_of (number a) ≡ key_of (number b) → a ≡ b
one_key a b la lb e =
    one_number a b (sym (key_back a la) ∙ (ap (value_of_key kind.Int) e ∙ key_back b lb))

pub same_key : (a b : ℕ) → a < 2 ^ 63 → b < 2 ^ 63
    → bytes_eq (key_of (number a)) (key_of (number b)) ≡ (a == b)
same_key a b la lb = step (a == b) refl
  where
    told : Decides (bytes_eq (key_of (number a)) (key_of (number b))) (key_of (number a) ≡ key_of (number b))
    told = bytes_eq-Decides (key_of (number a)) (key_of (number b))

    step : (same : Bool) → (a == b) ≡ same → bytes_eq (key_of (number a)) (key_of (number b)) ≡ same
    step true e = told.1 (ap (λ n. key_of (number n)) (eqb-true a b e))
    step false e =
        false_from_ne_true (bytes_eq (key_of (number a)) (key_of (number b)))
        (λ f. both_ways (a == b) e (eq-eqb a b (one_key a b la lb (told.0 f))))

-- Rows.

other_order : (a b c : Bool) → (a || (b || c)) ≡ (b || (a || c))
other_order true true c = refl
other_order true false c = refl
other_order false true c = refl
other_order false false c = refl

pub has_put : (key : List ℕ) (row : Row) (rows : List Row)
    → has_row key (put_row row rows) ≡ (bytes_eq row.key key || has_row key rows)
has_put key row [] = refl
has_put key row (r ∷ rows) = step (key_lt row.key r.key) (has_put key row rows)
  where
    step : (b : Bool) → has_row key (put_row row rows) ≡ (bytes_eq row.key key || has_row key rows)
        → has_row key (cond b (row ∷ r ∷ rows) (r ∷ put_row row rows))
        ≡ (bytes_eq row.key key || (bytes_eq r.key key || has_row key rows))
    step true rest = refl
    step false rest =
        ap (λ x. bytes_eq r.key key || x) rest
        ∙ other_order (bytes_eq r.key key) (bytes_eq row.key key) (has_row key rows)

removed_here : (x h : Bool) → (not x && h) ≡ (not x && (x || h))
removed_here true h = refl
removed_here false h = refl

pub has_without : (key other : List ℕ) (rows : List Row)
    → has_row key (without_row other rows) ≡ (not (bytes_eq other key) && has_row key rows)
has_without key other [] = none (bytes_eq other key)
  where
    none : (x : Bool) → false ≡ (not x && false)
    none true = refl
    none false = refl
has_without key other (r ∷ rows) = step (bytes_eq r.key other) refl (has_without key other rows)
  where
    kept : (x : Bool) → bytes_eq other key ≡ x → bytes_eq r.key other ≡ false
        → (bytes_eq r.key key || (not x && has_row key rows))
        ≡ (not x && (bytes_eq r.key key || has_row key rows))
    kept true e f =
        let apart : bytes_eq r.key key ≡ false = false_from_ne_true (bytes_eq r.key key)
        (λ g. both_ways (bytes_eq r.key other) f ((bytes_eq-Decides r.key other).1
        ((bytes_eq-Decides r.key key).0 g ∙ sym ((bytes_eq-Decides other key).0 e)))) in
        rw apart refl
    kept false e f = refl

    step : (b : Bool) → bytes_eq r.key other ≡ b
        → has_row key (without_row other rows) ≡ (not (bytes_eq other key) && has_row key rows)
        → has_row key (cond (not b) (r ∷ without_row other rows) (without_row other rows))
        ≡ (not (bytes_eq other key) && (bytes_eq r.key key || has_row key rows))
    step true e rest =
        rest ∙ (removed_here (bytes_eq other key) (has_row key rows)
        ∙ ap (λ k. not (bytes_eq other key) && (bytes_eq k key || has_row key rows))
        (sym ((bytes_eq-Decides r.key other).0 e)))
    step false e rest =
        ap (λ x. bytes_eq r.key key || x) rest ∙ kept (bytes_eq other key) refl e

pub has_changed : (key other : List ℕ) (changes : List CellChange) (rows : List Row)
    → has_row key (map (changed_row other changes) rows) ≡ has_row key rows
has_changed key other changes [] = refl
has_changed key other changes (r ∷ rows) =
    step (bytes_eq r.key other) (has_changed key other changes rows)
  where
    step : (b : Bool) → has_row key (map (changed_row other changes) rows) ≡ has_row key rows
        → (bytes_eq (cond b (record { key = r.key; cells = changed_cells changes r.cells }) r).key key
        || has_row key (map (changed_row other changes) rows))
        ≡ (bytes_eq r.key key || has_row key rows)
    step true rest = ap (λ x. bytes_eq r.key key || x) rest
    step false rest = ap (λ x. bytes_eq r.key key || x) rest
