-- Catalogs within their limits: what stays so where a table is made, dropped or changed.
use Rattle.std.proofs.Common.{◌≡◌, ℕ, zero, suc, ◌≤◌, true, List, [], ◌∷◌, Some, length, refl, sym, ap, ◌∙◌, subst, arith, remove}
use Rattle.std.specs.Prelude.{slice_get, slice_set, insert, IsTrue}
use Rattle.std.specs.List.{AllByRecursion}
use Rattle.std.proofs.lemmas.Bool.{and_parts, and_from}
use Rattle.vo_spec.specs.declared.records.CatalogTable.{CatalogTable}
use Rattle.vo_spec.specs.declared.records.Catalog.{Catalog}
use Rattle.vo_spec.specs.Values.{key_lt}
use Rattle.vo_spec.specs.Tables.{max_tables}
use Rattle.vo_spec.specs.Records.{FitsCatalog, FitsCatalogTable, are_rising}
use Rattle.vo_spec.specs.Representation.{AreRising}
use Rattle.vo_laws.proofs.KeyOrder.{key_lt_lt}
use Rattle.vo_laws.proofs.ListLaws.{each_weaker}
use Rattle.owner_roots.specs.Working.{FitCatalog, names_of}

-- A catalog that is read, and one that is written.

all_rise : (names : List (List ℕ)) → IsTrue (are_rising names) → AreRising names
all_rise [] h = tt
all_rise (a ∷ []) h = (tt, tt)
all_rise (a ∷ b ∷ names) h =
    let both = and_parts (key_lt a b) (are_rising (b ∷ names)) h in
    let rest = all_rise (b ∷ names) both.1 in
    ((both.0, each_weaker (λ k. key_lt b k ≡ true) (λ k. key_lt a k ≡ true) (λ k lt. key_lt_lt a b k both.0 lt) names rest.0), rest)

rises : (names : List (List ℕ)) → AreRising names → IsTrue (are_rising names)
rises [] r = refl
rises (a ∷ []) r = refl
rises (a ∷ b ∷ names) r = and_from (key_lt a b) (are_rising (b ∷ names)) r.0.0 (rises (b ∷ names) r.1)

pub of_catalog : (c : Catalog) → FitsCatalog c → FitCatalog c.tables
of_catalog c fits = record { count = fits.count; each = fits.each; rising = all_rise (names_of c.tables) fits.rising }

pub as_catalog : (tables : List CatalogTable) → FitCatalog tables → FitsCatalog (record { tables = tables })
as_catalog tables fits = record { count = fits.count; each = fits.each; rising = rises (names_of tables) fits.rising }

-- A table of the list.

pub each_at : {X : Type 0} (P : X → Type 0) (xs : List X) (i : ℕ) (x : X) → slice_get xs i ≡ Some x → AllByRecursion P xs → P x
each_at P [] i x e all = absurd (cc)
each_at P (y ∷ xs) zero x e all = let same : y ≡ x = cc in subst P same all.0
each_at P (y ∷ xs) (suc i) x e all = each_at P xs i x e all.1

-- A table is changed.

each_set : {X : Type 0} (P : X → Type 0) (xs : List X) (i : ℕ) (x : X) → P x → AllByRecursion P xs → AllByRecursion P (slice_set xs i x)
each_set P [] i x p all = tt
each_set P (y ∷ xs) zero x p all = (p, all.1)
each_set P (y ∷ xs) (suc i) x p all = (all.0, each_set P xs i x p all.1)

names_set : (tables : List CatalogTable) (i : ℕ) (t u : CatalogTable) → slice_get tables i ≡ Some t → u.name ≡ t.name → names_of (slice_set tables i u) ≡ names_of tables
names_set [] i t u e same = absurd (cc)
names_set (s ∷ tables) zero t u e same = let is : s ≡ t = cc in ap (λ name. name ∷ names_of tables) (same ∙ ap (λ (z : CatalogTable). z.name) (sym is))
names_set (s ∷ tables) (suc i) t u e same = ap (λ names. s.name ∷ names) (names_set tables i t u e same)

length_set : {X : Type 0} (xs : List X) (i : ℕ) (x : X) → length (slice_set xs i x) ≡ length xs
length_set [] i x = refl
length_set (y ∷ xs) zero x = refl
length_set (y ∷ xs) (suc i) x = ap suc (length_set xs i x)

pub set_fit : (tables : List CatalogTable) (i : ℕ) (t u : CatalogTable) → slice_get tables i ≡ Some t → u.name ≡ t.name → FitsCatalogTable u
    → FitCatalog tables → FitCatalog (slice_set tables i u)
set_fit tables i t u e same fits all = record {
  count = subst (λ n. n ≤ max_tables) (sym (length_set tables i u)) all.count;
  each = each_set FitsCatalogTable tables i u fits all.each;
  rising = subst AreRising (sym (names_set tables i t u e same)) all.rising;
}

-- A table is dropped.

each_removed : {X : Type 0} (P : X → Type 0) (xs : List X) (i : ℕ) → AllByRecursion P xs → AllByRecursion P (remove xs i)
each_removed P [] zero all = tt
each_removed P [] (suc i) all = tt
each_removed P (x ∷ xs) zero all = all.1
each_removed P (x ∷ xs) (suc i) all = (all.0, each_removed P xs i all.1)

names_removed : (tables : List CatalogTable) (i : ℕ) → names_of (remove tables i) ≡ remove (names_of tables) i
names_removed [] zero = refl
names_removed [] (suc i) = refl
names_removed (t ∷ tables) zero = refl
names_removed (t ∷ tables) (suc i) = ap (λ names. t.name ∷ names) (names_removed tables i)

removed_rise : (names : List (List ℕ)) (i : ℕ) → AreRising names → AreRising (remove names i)
removed_rise [] zero r = tt
removed_rise [] (suc i) r = tt
removed_rise (a ∷ names) zero r = r.1
removed_rise (a ∷ names) (suc i) r = (each_removed (λ k. key_lt a k ≡ true) names i r.0, removed_rise names i r.1)

removed_fewer : {X : Type 0} (xs : List X) (i : ℕ) → length (remove xs i) ≤ length xs
removed_fewer [] zero = omega arith
removed_fewer [] (suc i) = omega arith
removed_fewer (x ∷ xs) zero = omega arith
removed_fewer (x ∷ xs) (suc i) = let rest : length (remove xs i) ≤ length xs = removed_fewer xs i in omega arith

pub removed_fit : (tables : List CatalogTable) (i : ℕ) → FitCatalog tables → FitCatalog (remove tables i)
removed_fit tables i all =
    let fewer : length (remove tables i) ≤ length tables = removed_fewer tables i in
    let few : length tables ≤ max_tables = all.count in
    record {
      count = omega arith;
      each = each_removed FitsCatalogTable tables i all.each;
      rising = subst AreRising (sym (names_removed tables i)) (removed_rise (names_of tables) i all.rising);
    }

pub removed_nowhere : {X : Type 0} (xs : List X) (i : ℕ) → length xs ≤ i → remove xs i ≡ xs
removed_nowhere [] zero h = refl
removed_nowhere [] (suc i) h = refl
removed_nowhere (x ∷ xs) zero h = absurd (omega arith)
removed_nowhere (x ∷ xs) (suc i) h = ap (λ ys. x ∷ ys) (removed_nowhere xs i (omega arith))

-- A table is put in.

pub each_inserted : {X : Type 0} (P : X → Type 0) (xs : List X) (i : ℕ) (x : X) → P x → AllByRecursion P xs → AllByRecursion P (insert xs i x)
each_inserted P [] zero x p all = (p, tt)
each_inserted P [] (suc i) x p all = (p, tt)
each_inserted P (y ∷ xs) zero x p all = (p, all)
each_inserted P (y ∷ xs) (suc i) x p all = (all.0, each_inserted P xs i x p all.1)
