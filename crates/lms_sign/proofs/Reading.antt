-- A public key's bytes are made of the parts that are read of them.
use Rattle.std.proofs.Common.{◌≡◌, ℕ, zero, suc, lit<, ◌<◌, List, [], ◌∷◌, ◌++◌, length, take, drop, get_or, refl, sym, ap, ◌∙◌, arith}
use Rattle.std.proofs.lemmas.List.{take-append-drop, length-drop}
use Rattle.std.proofs.Math.Seq.{take-length}
use Rattle.std.proofs.lemmas.Bool.Decides.{nat_tests}
use Rattle.std.proofs.lemmas.Nat.{be_bytes_4}
use Rattle.std.specs.Prelude.{Some, ◌==◌, ◌&&◌, if◌then◌else◌}
use Rattle.vo_spec.specs.declared.signatures.OtsType.{OtsType}
use Rattle.vo_spec.specs.declared.signatures.LmsType.{LmsType}
use Rattle.vo_spec.specs.Bytes.{u32_bytes, u32_at, digest_at, id_at}
use Rattle.vo_spec.specs.OtsSets.{ots_of, ots_code_of}
use Rattle.vo_spec.specs.LmsSets.{lms_of, lms_code_of}
use Rattle.vo_spec.specs.declared.signatures.Levels.TheVariants.{One, Two}
use Rattle.vo_spec.specs.Keys.{key_bytes, levels_of, is_key_by, is_public_key, names_sets}
use Rattle.vo_spec.specs.Lms.{tree_lms, tree_ots, tree_key_bytes}

lms_code_of-found : (code : ℕ) (lms : LmsType) → lms_of code ≡ Some lms → lms_code_of lms ≡ code
lms_code_of-found code lms found = grind (arith, nat_tests)

ots_code_of-found : (code : ℕ) (ots : OtsType) → ots_of code ≡ Some ots → ots_code_of ots ≡ code
ots_code_of-found code ots found = grind (arith, nat_tests)

four_small : {a b c d : ℕ} → a < 256 → b < 256 → c < 256 → d < 256
    → (i : ℕ) → get_or (a ∷ b ∷ c ∷ d ∷ []) i 0 < 256
four_small ha hb hc hd zero = ha
four_small ha hb hc hd (suc zero) = hb
four_small ha hb hc hd (suc (suc zero)) = hc
four_small ha hb hc hd (suc (suc (suc zero))) = hd
four_small ha hb hc hd (suc (suc (suc (suc i)))) = lit< tt

-- a number that was read has the bytes that it was read from
u32_bytes-u32_at : (a b c d : ℕ) (rest : List ℕ) → a < 256 → b < 256 → c < 256 → d < 256
    → u32_bytes (u32_at (a ∷ b ∷ c ∷ d ∷ rest) 0) ≡ a ∷ b ∷ c ∷ d ∷ []
unfolding u32_bytes u32_at
u32_bytes-u32_at a b c d rest ha hb hc hd =
    be_bytes_4 (a ∷ b ∷ c ∷ d ∷ []) (u32_at (a ∷ b ∷ c ∷ d ∷ rest) 0) refl (four_small ha hb hc hd) refl

-- the identifier and the root are what follows the typecodes
id_and_root : (rest : List ℕ) → length rest ≡ 48 → take 16 rest ++ take 32 (drop 16 rest) ≡ rest
id_and_root rest whole =
    let long : length (drop 16 rest) ≡ 32 = rw length-drop (omega arith) in
    let root : take 32 (drop 16 rest) ≡ drop 16 rest = rw (← long) (take-length (drop 16 rest)) in
    rw root (take-append-drop 16 rest)

pub bytes-read : (bytes : List ℕ) (lms : LmsType) (ots : OtsType) → length bytes ≡ 56
    → ((i : ℕ) → get_or bytes i 0 < 256) → tree_lms bytes ≡ Some lms → tree_ots bytes ≡ Some ots
    → tree_key_bytes lms ots (id_at bytes 8) (digest_at bytes 24) ≡ bytes
unfolding tree_key_bytes u32_at id_at digest_at
bytes-read (a ∷ b ∷ c ∷ d ∷ e ∷ f ∷ g ∷ h ∷ rest) lms ots whole small by_lms by_ots =
    let bytes = a ∷ b ∷ c ∷ d ∷ e ∷ f ∷ g ∷ h ∷ rest in
    let first = u32_bytes-u32_at a b c d (e ∷ f ∷ g ∷ h ∷ rest) (small 0) (small 1) (small 2) (small 3) in
    let second = u32_bytes-u32_at e f g h rest (small 4) (small 5) (small 6) (small 7) in
    let whole_rest : length rest ≡ 48 = omega arith in
    rw (lms_code_of-found (u32_at bytes 0) lms by_lms, ots_code_of-found (u32_at bytes 4) ots by_ots, first, second)
    (ap (λ tail. a ∷ b ∷ c ∷ d ∷ e ∷ f ∷ g ∷ h ∷ tail) (id_and_root rest whole_rest))
bytes-read _ lms ots whole small by_lms by_ots = absurd (omega arith)

-- Keys of one level and of two.

pub two_read : (bytes : List ℕ) → length bytes ≡ 60 → ((i : ℕ) → get_or bytes i 0 < 256) → u32_at bytes 0 ≡ 2
    → key_bytes Two (drop 4 bytes) ≡ bytes
two_read (a ∷ b ∷ c ∷ d ∷ rest) whole small two =
    ap (λ n. u32_bytes n ++ rest) (sym two)
    ∙ ap (λ front. front ++ rest) (u32_bytes-u32_at a b c d rest (small 0) (small 1) (small 2) (small 3))
two_read _ whole small two = absurd (omega arith)

levels_one : (bytes : List ℕ) → length bytes ≡ 56 → levels_of bytes ≡ One
levels_one bytes whole = ap (λ n. if n == 60 then Two else One) whole

levels_two : (bytes : List ℕ) → length bytes ≡ 60 → levels_of bytes ≡ Two
levels_two bytes whole = ap (λ n. if n == 60 then Two else One) whole

pub named_one : (bytes : List ℕ) → length bytes ≡ 56 → is_public_key bytes ≡ names_sets bytes
unfolding is_public_key
named_one bytes whole =
    ap (λ levels. is_key_by levels bytes) (levels_one bytes whole) ∙ ap (λ n. (n == 56) && names_sets bytes) whole

pub named_two : (bytes : List ℕ) → length bytes ≡ 60 → is_public_key bytes ≡ (u32_at bytes 0 == 2) && names_sets (drop 4 bytes)
unfolding is_public_key
named_two bytes whole = ap (λ levels. is_key_by levels bytes) (levels_two bytes whole)
