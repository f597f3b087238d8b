-- The search of one entry.
use Rattle.std.proofs.Common.{◌≡◌, ℕ, ◌+◌, ◌-◌, ◌<◌, Bool, true, false, List, [], ◌∷◌, length, Option, Some, None, refl, sym, ap, ◌∙◌, subst, arith}
use Rattle.std.specs.Prelude.{filter, is_none}
use Rattle.std.specs.Borrow.{Bor}
use Rattle.std.proofs.lemmas.Bool.{or_parts}
use Rattle.vo_spec.specs.declared.values.Value.{Value}
use Rattle.vo_spec.specs.declared.needs.Need.{Need}
use Rattle.vo_spec.specs.declared.needs.SeenRow.{SeenRow}
use Rattle.vo_spec.specs.declared.cells.RowPart.{RowPart}
use Rattle.vo_spec.specs.declared.cells.PartEntry.{PartEntry}
use Rattle.vo_spec.specs.Cells.{value_in}
use Rattle.vo_spec.specs.Scans.{in_interval, put_before, values_in}
use Rattle.vo_spec.specs.Pruning.{hides_any}
use Rattle.vo_spec.specs.Walks.{ScanWalk}
use Rattle.vo_spec.specs.Cuts.{RowCondition, nth_met}
use Rattle.range_proof.specs.declared.searching.Search.TheVariants.{Found, Stopped, Ended}
use Rattle.range_proof.specs.Searching.{Searches, entry_walk}

hidden_none : (row : RowPart) (columns : List ℕ) → hides_any columns row ≡ true → values_in row columns ≡ None
hidden_none row [] e = absurd (cc)
hidden_none row (c ∷ columns) e = step (value_in row c) refl e (hidden_none row columns)
  where
    step : (o : Option Value) → value_in row c ≡ o → hides_any (c ∷ columns) row ≡ true → (hides_any columns row ≡ true → values_in row columns ≡ None) → put_before o (values_in row columns) ≡ None
    step None f e rest = refl
    step (Some v) f e rest = let later : hides_any columns row ≡ true = (rw (← e, f) refl) in rw (rest later) refl

shown_some : (row : RowPart) (columns : List ℕ) → hides_any columns row ≡ false → (values : List Value) × (values_in row columns ≡ Some values)
shown_some row [] e = ([], refl)
shown_some row (c ∷ columns) e =
    let both = or_parts (is_none (value_in row c)) (hides_any columns row) e in
    step (value_in row c) both.0 (shown_some row columns both.1)
  where
    step : (o : Option Value) → is_none o ≡ false → (values : List Value) × (values_in row columns ≡ Some values) → (values : List Value) × (put_before o (values_in row columns) ≡ Some values)
    step None f rest = absurd (cc)
    step (Some v) f rest = (v ∷ rest.0, rw (rest.1) refl)

abbrev row_with : PartEntry → List Value → SeenRow
row_with e values = record { key = e.key; values = values }

abbrev one_row : SeenRow → ScanWalk
one_row row = record { rows = row ∷ []; has_end = true }

-- an entry of the interval, whose key and the need's columns are known by these
module _ (need : Need) (e : PartEntry) (meets : RowCondition) (wanted : ℕ) (key columns : List ℕ) (key_is : key ≡ e.key) (columns_are : columns ≡ need.columns) (inside : in_interval need.interval key ≡ true) where
  within : in_interval need.interval e.key ≡ true
  within = ap (in_interval need.interval) (sym key_is) ∙ inside

  pub hidden : hides_any columns e.row ≡ true → Searches Stopped meets wanted (entry_walk need e)
  hidden h = rw (within, hidden_none e.row need.columns (ap (λ cs. hides_any cs e.row) (sym columns_are) ∙ h)) (refl, refl)

  entry_is : (values : List Value) → values_in e.row need.columns ≡ Some values → entry_walk need e ≡ one_row (row_with e values)
  entry_is values v = rw (within, v) refl

  module _ (tested : List ℕ) (same : tested ≡ need.columns) (met : Bool) (told : (values : List Value) → values_in e.row tested ≡ Some values → met ≡ meets (record { key = e.key; values = values })) (shown : hides_any columns e.row ≡ false) where
    found : (values : List Value) × (values_in e.row need.columns ≡ Some values)
    found = shown_some e.row need.columns (ap (λ cs. hides_any cs e.row) (sym columns_are) ∙ shown)

    met_is : (b : Bool) → met ≡ b → meets (row_with e found.0) ≡ b
    met_is b f =
        sym (told found.0 (ap (values_in e.row) same ∙ found.1)) ∙ f

    pub unmet : met ≡ false → 0 < wanted → Searches (Ended wanted) meets wanted (entry_walk need e)
    unmet f some = subst (Searches (Ended wanted) meets wanted) (sym (entry_is found.0 found.1)) (refl, some, count (row_with e found.0) (met_is false f))
      where
        count : (row : SeenRow) → meets row ≡ false → length (filter meets (row ∷ [])) + wanted ≡ wanted
        count row g = rw g (omega arith)

    pub met_last : met ≡ true → wanted ≡ 1 → (found_key : Bor (List ℕ)) → found_key.now ≡ key → Searches (Found found_key) meets wanted (entry_walk need e)
    met_last f one found_key is = subst (Searches (Found found_key) meets wanted) (sym (entry_is found.0 found.1)) (row_with e found.0, first (row_with e found.0) (met_is true f), is ∙ key_is)
      where
        first : (row : SeenRow) → meets row ≡ true → nth_met meets wanted (row ∷ []) ≡ Some row
        first row g = rw (g, one) refl

    pub met_more : met ≡ true → 0 < wanted → (wanted ≡ 1 → ⊥) → Searches (Ended (wanted - 1)) meets wanted (entry_walk need e)
    met_more f some more = subst (Searches (Ended (wanted - 1)) meets wanted) (sym (entry_is found.0 found.1)) (refl, left, count (row_with e found.0) (met_is true f))
      where
        left : 0 < wanted - 1
        left = omega arith

        count : (row : SeenRow) → meets row ≡ true → length (filter meets (row ∷ [])) + (wanted - 1) ≡ wanted
        count row g = rw g (omega arith)
