-- What is spelled by bytes that say where it ends is told from them, whatever stands behind it.
use Rattle.std.proofs.Common.{◌≡◌, ℕ, suc, ◌+◌, ◌^◌, ◌<◌, List, [], ◌∷◌, ◌++◌, length, refl, sym, ap, ◌∙◌, append_assoc, All, arith}
use Rattle.std.specs.Prelude.{flat_map}
use Rattle.std.specs.Int.{w16, w64, from_be_bytes}
use Rattle.std.specs.List.{AllByRecursion}
use Rattle.std.proofs.lemmas.Nat.{from_be_bytes-to_be_bytes_2, from_be_bytes-to_be_bytes_8}
use Rattle.vo_spec.specs.Bytes.{string, u16_bytes, u64_bytes}
use Rattle.vo_spec.specs.Fits.{FitsKey}
use Rattle.vo_laws.proofs.ValueOrder.{number_length}
use Rattle.vo_laws.proofs.ByteLengths.{length-u16}

-- Pieces before anything more.

pub same_pieces : (xs ys r s : List ℕ) → length xs ≡ length ys → xs ++ r ≡ ys ++ s → (xs ≡ ys) × (r ≡ s)
same_pieces [] [] r s len e = (refl, e)
same_pieces [] (y ∷ ys) r s len e = absurd (omega arith)
same_pieces (x ∷ xs) [] r s len e = absurd (omega arith)
same_pieces (x ∷ xs) (y ∷ ys) r s len e =
    let first : x ≡ y = cc in
    let others : xs ++ r ≡ ys ++ s = cc in
    let rest = same_pieces xs ys r s (omega arith) others in
    (rw (first, rest.0) refl, rest.1)

-- what is spelled so is told from its bytes and whatever stands behind them
abbrev pub Told : {A : Type 0} → (A → List ℕ) → (A → Type 0) → Type 0
Told {A} bytes Fits = (a b : A) (r s : List ℕ) → Fits a → Fits b → bytes a ++ r ≡ bytes b ++ s → (a ≡ b) × (r ≡ s)

pub list_told : {A : Type 0} (bytes : A → List ℕ) (Fits : A → Type 0) → Told bytes Fits → (xs ys : List A) (r s : List ℕ) → AllByRecursion Fits xs → AllByRecursion Fits ys
    → length xs ≡ length ys → flat_map bytes xs ++ r ≡ flat_map bytes ys ++ s → (xs ≡ ys) × (r ≡ s)
list_told bytes Fits told [] [] r s xs_fit ys_fit len e = (refl, e)
list_told bytes Fits told [] (y ∷ ys) r s xs_fit ys_fit len e = absurd (omega arith)
list_told bytes Fits told (x ∷ xs) [] r s xs_fit ys_fit len e = absurd (omega arith)
list_told bytes Fits told (x ∷ xs) (y ∷ ys) r s xs_fit ys_fit len e =
    let first = told x y (flat_map bytes xs ++ r) (flat_map bytes ys ++ s) xs_fit.0 ys_fit.0
    (sym (append_assoc (bytes x) (flat_map bytes xs) r) ∙ e ∙ append_assoc (bytes y) (flat_map bytes ys) s) in
    let rest = list_told bytes Fits told xs ys r s xs_fit.1 ys_fit.1 (omega arith) first.1 in
    (rw (first.0, rest.0) refl, rest.1)

pub u16_told : Told u16_bytes (λ n. n < 2 ^ 16)
unfolding u16_bytes
u16_told m n r s m_fits n_fits e =
    let p = same_pieces (u16_bytes m) (u16_bytes n) r s (length-u16 m ∙ sym (length-u16 n)) e in
    (sym (from_be_bytes-to_be_bytes_2 m m_fits) ∙ ap (from_be_bytes w16) p.0 ∙ from_be_bytes-to_be_bytes_2 n n_fits, p.1)

pub u64_told : Told u64_bytes (λ n. n < 2 ^ 64)
unfolding u64_bytes
u64_told m n r s m_fits n_fits e =
    let p = same_pieces (u64_bytes m) (u64_bytes n) r s (number_length m ∙ sym (number_length n)) e in
    (sym (from_be_bytes-to_be_bytes_8 m m_fits) ∙ ap (from_be_bytes w64) p.0 ∙ from_be_bytes-to_be_bytes_8 n n_fits, p.1)

-- Keys and separators.

pub string_told : Told string FitsKey
string_told k l r s k_fits l_fits e =
    let whole : u16_bytes (length k) ++ (k ++ r) ≡ u16_bytes (length l) ++ (l ++ s) =
    sym (append_assoc (u16_bytes (length k)) k r) ∙ e
    ∙ append_assoc (u16_bytes (length l)) l s in
    let lengths = u16_told (length k) (length l) (k ++ r) (l ++ s) (omega arith) (omega arith) whole in
    same_pieces k l r s lengths.0 lengths.1

pub strings_told : (ks ls : List (List ℕ)) (r s : List ℕ) → length ks ≡ length ls
    → All FitsKey ks → All FitsKey ls
    → flat_map string ks ++ r ≡ flat_map string ls ++ s → (ks ≡ ls) × (r ≡ s)
strings_told [] [] r s len ks_fit ls_fit e = (refl, e)
strings_told [] (l ∷ ls) r s len ks_fit ls_fit e = absurd (omega arith)
strings_told (k ∷ ks) [] r s len ks_fit ls_fit e = absurd (omega arith)
strings_told (k ∷ ks) (l ∷ ls) r s len ks_fit ls_fit e =
    let whole : string k ++ (flat_map string ks ++ r) ≡ string l ++ (flat_map string ls ++ s) =
    sym (append_assoc (string k) (flat_map string ks) r) ∙ e
    ∙ append_assoc (string l) (flat_map string ls) s in
    let first = string_told k l _ _ (ks_fit 0 k (omega arith)) (ls_fit 0 l (omega arith)) whole in
    let rest = strings_told ks ls r s (omega arith) (λ i x lt. ks_fit (suc i) x (omega arith))
    (λ i x lt. ls_fit (suc i) x (omega arith)) first.1 in
    let key : k ≡ l = first.0 in
    let keys : ks ≡ ls = rest.0 in (cc, rest.1)
