-- Lengths in bytes of the pieces of part trees.
use Rattle.std.proofs.Common.{◌≡◌, ℕ, ◌+◌, ◌*◌, ◌≤◌, List, [], ◌∷◌, length, map, refl, arith}
use Rattle.std.specs.Prelude.{flat_map}
use Rattle.std.specs.List.{AllByRecursion}
use Rattle.std.proofs.lemmas.List.{length-append}
use Rattle.vo_spec.specs.declared.cells.PartEntry.{PartEntry}
use Rattle.vo_spec.specs.Bytes.{u16_bytes, string}
use Rattle.vo_spec.specs.Cells.{row_digest}
use Rattle.vo_spec.specs.Fits.{FitsKey, FitsEntry}
use Rattle.vo_spec.specs.Inserts.{closed_entry}
use Rattle.vo_spec.specs.TreeBytes.{entry_form}
use Rattle.vo_laws.proofs.ListLaws.{each_weaker}
use Rattle.vo_laws.proofs.PrunedFits.{row_closed}

pub length-u16 : (n : ℕ) → length (u16_bytes n) ≡ 2
unfolding u16_bytes
length-u16 n = refl

pub flat_within : {A : Type 0} (f : A → List ℕ) (n : ℕ) (xs : List A) → AllByRecursion (λ x. length (f x) ≤ n) xs → length (flat_map f xs) ≤ length xs * n
flat_within f n [] all = omega arith
flat_within f n (x ∷ xs) all =
    let here : length (f x) ≤ n = all.0 in
    let rest : length (flat_map f xs) ≤ length xs * n = flat_within f n xs all.1 in
    omega (arith, length-append (f x) (flat_map f xs))

pub length-string : (bytes : List ℕ) → length (string bytes) ≡ 2 + length bytes
length-string bytes = omega (arith, length-append (u16_bytes (length bytes)) bytes, length-u16 (length bytes))

pub keys_within : (ss : List (List ℕ)) → AllByRecursion FitsKey ss → AllByRecursion (λ s. length (string s) ≤ 257) ss
keys_within ss all = each_weaker FitsKey (λ s. length (string s) ≤ 257) (λ s fits. omega (arith, length-string s, fits)) ss all

entry_within : (e : PartEntry) → FitsEntry e → length (entry_form (closed_entry e)) ≤ 290
entry_within e fits =
    let short : length e.key ≤ 255 = fits.key in
    let closed : length (row_digest e.row) ≡ 32 = row_closed e.row fits.row in
    omega (arith, length-append (string e.key) (0 ∷ row_digest e.row), length-string e.key)

pub entries_within : (es : List PartEntry) → AllByRecursion FitsEntry es → AllByRecursion (λ (e : PartEntry). length (entry_form e) ≤ 290) (map closed_entry es)
entries_within [] all = tt
entries_within (e ∷ es) all = (entry_within e all.0, entries_within es all.1)
