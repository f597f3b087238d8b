-- Entries without the first of a key, and rows without that key.
use Rattle.std.proofs.Common.{◌≡◌, ℕ, suc, Bool, true, false, cond, List, [], ◌∷◌, ◌++◌, length, map, refl, sym, ap, subst}
use Rattle.std.specs.Prelude.{◌||◌, not, bytes_eq}
use Rattle.std.specs.List.{AllByRecursion}
use Rattle.std.proofs.lemmas.Slice.Eq.{bytes_eq-Decides}
use Rattle.vo_spec.specs.declared.values.Row.{Row}
use Rattle.vo_spec.specs.declared.cells.PartEntry.{PartEntry}
use Rattle.vo_spec.specs.Values.{key_lt}
use Rattle.vo_spec.specs.Tables.{without_row}
use Rattle.vo_spec.specs.Cells.{whole_entry}
use Rattle.vo_spec.specs.Parts.{Family}
use Rattle.vo_spec.specs.Trees.{key_in, row_family}
use Rattle.vo_spec.specs.Inserts.{has_key}
use Rattle.vo_spec.specs.Removes.{without_entry}
use Rattle.vo_spec.specs.Representation.{AreRising}
use Rattle.vo_laws.proofs.ListLaws.{each_map, each_mapped}
use Rattle.vo_laws.proofs.InsertionNodes.{keys_in, other_back}

module _ {E M : Type 0} (family : Family E M) where
  pub without_left : (key : List ℕ) (xs ys : List E) → has_key family key xs ≡ true
      → without_entry family key (xs ++ ys) ≡ without_entry family key xs ++ ys
  without_left key [] ys h = absurd (cc)
  without_left key (x ∷ xs) ys h = step (bytes_eq (family.key x) key) h (without_left key xs ys)
    where
      step : (b : Bool) → (b || has_key family key xs) ≡ true → (has_key family key xs ≡ true → without_entry family key (xs ++ ys) ≡ without_entry family key xs ++ ys)
          → cond b (xs ++ ys) (x ∷ without_entry family key (xs ++ ys)) ≡ cond b xs (x ∷ without_entry family key xs) ++ ys
      step true e rest = refl
      step false e rest = ap (λ z. x ∷ z) (rest e)

  pub without_right : (key : List ℕ) (xs ys : List E) → has_key family key xs ≡ false
      → without_entry family key (xs ++ ys) ≡ xs ++ without_entry family key ys
  without_right key [] ys h = refl
  without_right key (x ∷ xs) ys h = step (bytes_eq (family.key x) key) h (without_right key xs ys)
    where
      step : (b : Bool) → (b || has_key family key xs) ≡ false → (has_key family key xs ≡ false → without_entry family key (xs ++ ys) ≡ xs ++ without_entry family key ys)
          → cond b (xs ++ ys) (x ∷ without_entry family key (xs ++ ys)) ≡ x ∷ (xs ++ without_entry family key ys)
      step true e rest = absurd (cc)
      step false e rest = ap (λ z. x ∷ z) (rest e)

  pub without_length : (key : List ℕ) (es : List E) → has_key family key es ≡ true → suc (length (without_entry family key es)) ≡ length es
  without_length key [] h = absurd (cc)
  without_length key (e ∷ es) h = step (bytes_eq (family.key e) key) h (without_length key es)
    where
      step : (b : Bool) → (b || has_key family key es) ≡ true → (has_key family key es ≡ true → suc (length (without_entry family key es)) ≡ length es)
          → suc (length (cond b es (e ∷ without_entry family key es))) ≡ suc (length es)
      step true f rest = refl
      step false f rest = ap suc (rest f)

  -- what holds of each entry holds of those that are left
  pub without_each : (P : E → Type 0) (key : List ℕ) (es : List E) → AllByRecursion P es → AllByRecursion P (without_entry family key es)
  without_each P key [] all = tt
  without_each P key (e ∷ es) all = step (bytes_eq (family.key e) key) (without_each P key es all.1)
    where
      step : (b : Bool) → AllByRecursion P (without_entry family key es) → AllByRecursion P (cond b es (e ∷ without_entry family key es))
      step true rest = all.1
      step false rest = (all.0, rest)

  pub without_rises : (key : List ℕ) (es : List E) → AreRising (keys_in family es) → AreRising (keys_in family (without_entry family key es))
  without_rises key [] r = tt
  without_rises key (e ∷ es) r = step (bytes_eq (family.key e) key) (without_rises key es r.1)
    where
      step : (b : Bool) → AreRising (keys_in family (without_entry family key es)) → AreRising (keys_in family (cond b es (e ∷ without_entry family key es)))
      step true rest = r.1
      step false rest = (
        each_map (λ k. key_lt (family.key e) k ≡ true) family.key (without_entry family key es)
            (without_each (λ (f : E). key_lt (family.key e) (family.key f) ≡ true) key es (each_mapped (λ k. key_lt (family.key e) k ≡ true) family.key es r.0)),
        rest,
      )

-- Of rows with rising keys no second one has the key.

others_stay : (key : List ℕ) (rows : List Row) → AllByRecursion (λ (f : PartEntry). key_lt key f.key ≡ true) (map whole_entry rows) → without_row key rows ≡ rows
others_stay key [] all = refl
others_stay key (row ∷ rows) all = rw (other_back row.key key all.0, others_stay key rows all.1) refl

pub whole_without : (key : List ℕ) (rows : List Row) → AreRising (keys_in row_family (map whole_entry rows))
    → without_entry row_family key (map whole_entry rows) ≡ map whole_entry (without_row key rows)
whole_without key [] r = refl
whole_without key (row ∷ rows) r = step (bytes_eq row.key key) refl (whole_without key rows r.1)
  where
    above : AllByRecursion (λ (f : PartEntry). key_lt row.key f.key ≡ true) (map whole_entry rows)
    above = each_mapped (λ k. key_lt row.key k ≡ true) key_in (map whole_entry rows) r.0

    step : (b : Bool) → bytes_eq row.key key ≡ b → without_entry row_family key (map whole_entry rows) ≡ map whole_entry (without_row key rows)
        → cond b (map whole_entry rows) (whole_entry row ∷ without_entry row_family key (map whole_entry rows))
        ≡ map whole_entry (cond (not b) (row ∷ without_row key rows) (without_row key rows))
    step true e rest =
        let same : row.key ≡ key = (bytes_eq-Decides row.key key).0 e in
        ap (map whole_entry) (sym (others_stay key rows (subst (λ k. AllByRecursion (λ (f : PartEntry). key_lt k f.key ≡ true) (map whole_entry rows)) same above)))
    step false e rest = ap (λ z. whole_entry row ∷ z) rest
