-- Records that were signed, and one that was not.
use Rattle.std.proofs.Common.{◌≡◌, ℕ, suc, ◌<◌, List, [], ◌∷◌, Option, Some, length, refl, sym, ◌∙◌, subst, arith}
use Rattle.std.specs.Prelude.{Bool, true, false, cond, ◌==◌, find, Contains}
use Rattle.vo_spec.specs.declared.records.Record.{Record}
use Rattle.vo_spec.specs.Records.{FitsRecord, record_bytes}
use Rattle.version_record.proofs.RecordLaws.{is_read}

some_same : (a b : Record) → Some a ≡ Some b → a ≡ b
some_same a b same = cc

-- records of one spelling are the same
pub one_record : (a b : Record) → FitsRecord a → FitsRecord b → record_bytes a ≡ record_bytes b → a ≡ b
one_record a b fits_a fits_b same =
    some_same a b
    (sym (is_read (record_bytes a) a (record { fits = fits_a; encoded = refl }))
    ∙ is_read (record_bytes a) b (record { fits = fits_b; encoded = same }))

found_case : (b : Bool) (x r : Record) (xs : List Record) (rest : Option Record) → (rest ≡ Some r → Contains xs r)
    → cond b (Some x) rest ≡ Some r → Contains (x ∷ xs) r
found_case true x r xs rest later found = (0, omega arith, some_same x r found)
found_case false x r xs rest later found =
    let there = later found in
    let inside : there.0 < length xs = there.1 in
    (suc there.0, omega arith, there.2)

pub found_inside : (signed : List Record) (version : ℕ) (r : Record) → find (λ (s : Record). s.version == version) signed ≡ Some r → Contains signed r
found_inside [] version r found = absurd cc
found_inside (x ∷ xs) version r found =
    found_case (x.version == version) x r xs (find (λ (s : Record). s.version == version) xs) (found_inside xs version r) found

pub other_bytes : (signed : List Record) (version : ℕ) (rec own : Record) → (Contains signed rec → ⊥)
    → find (λ (s : Record). s.version == version) signed ≡ Some own → FitsRecord rec → FitsRecord own
    → record_bytes rec ≡ record_bytes own → ⊥
other_bytes signed version rec own absent found fits_rec fits_own same =
    absent (subst (Contains signed) (sym (one_record rec own fits_rec fits_own same)) (found_inside signed version own found))
