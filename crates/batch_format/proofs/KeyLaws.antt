-- Keys and counts that are read are encoded so, and what is encoded so is read; likewise things behind a byte.
use Rattle.std.proofs.Common.{◌≡◌, ℕ, ◌^◌, ◌<◌, ◌≤◌, false, ◌&&◌, cond, eqb, leb, ltb, List, [], ◌∷◌, ◌++◌, length, take, drop, Option, Some, None, refl, sym, ap, subst, ◌∙◌, append_assoc, arith, inl, inr}
use Rattle.std.specs.List.{AllByRecursion, flat_map}
use Rattle.std.proofs.lemmas.Bool.{eqb-true, ltb-false, le-ltb, leb-true, le-leb}
use Rattle.std.proofs.lemmas.List.{take_at, drop_at, take-append-drop, length-append, length-take}
use Rattle.vo_spec.specs.Bytes.{IsBytes, u16_bytes, string}
use Rattle.vo_spec.specs.Fits.{FitsKey}
use Rattle.vo_spec.specs.Tables.{max_key}
use Rattle.vo_spec.specs.Batches.{list_bytes}
use Rattle.row_bytes.specs.Reading.{byte_at, bytes_at, u16_at}
use Rattle.row_bytes.specs.Fields.{◌>>=◌, where_true, string_at, times}
use Rattle.row_bytes.proofs.Readers.{IsBytes-rest, IsBytes-drop, chosen}
use Rattle.batch_format.specs.BatchReading.{Reader, one}
use Rattle.batch_format.proofs.ReaderLaws.{Took, IsReader, some_is, bound, tested, took_then, all_true, no_some, next_found, next_again, times_found, times_again}
use Rattle.batch_format.proofs.BatchLaws.{one_found, u16_found, u16_read}
use Rattle.batch_format.specs.TreeReading.{count_within, key_at}

-- So many bytes.

abbrev pub HasLength : ℕ → List ℕ → Type 0
HasLength n bytes = length bytes ≡ n

abbrev pub as_is : List ℕ → List ℕ
as_is bytes = bytes

bytes_found : (n : ℕ) (bytes text rest : List ℕ) → IsBytes bytes → bytes_at n bytes ≡ Some (text, rest) → Took bytes text rest × HasLength n text
unfolding bytes_at
bytes_found n bytes text rest fits e =
    elim (chosen (ltb (length bytes) n) None (Some (take n bytes, drop n bytes)) (Some (text, rest)) e) [
      | inl a ↦ absurd (no_some (text, rest) a.1)
      | inr a ↦
          let long : n ≤ length bytes = ltb-false _ _ a.0 in
          let is : (take n bytes, drop n bytes) ≡ (text, rest) = some_is (take n bytes, drop n bytes) (text, rest) a.1 in
          let len : length (take n bytes) ≡ n = omega (arith, length-take n bytes) in
          subst (λ (p : List ℕ × List ℕ). Took bytes p.0 p.1 × HasLength n p.0) is
          (record { parts = sym (take-append-drop n bytes); behind = IsBytes-drop n bytes fits }, len)
    ]

bytes_again : (n : ℕ) (text rest : List ℕ) → HasLength n text → bytes_at n (text ++ rest) ≡ Some (text, rest)
unfolding bytes_at
bytes_again n text rest len =
    let long : ltb (length (text ++ rest)) n ≡ false = le-ltb _ _ (omega (arith, len, length-append text rest)) in
    rw (long, take_at text rest n len, drop_at text rest n len) refl

pub bytes_read : (n : ℕ) → IsReader (bytes_at n) as_is (HasLength n)
bytes_read n = record { found = bytes_found n; again = bytes_again n }

-- Bytes behind their length, and keys.

string_found : (bytes text rest : List ℕ) → IsBytes bytes → string_at bytes ≡ Some (text, rest) → Took bytes (string text) rest
unfolding string_at
string_found bytes text rest fits e =
    let a = bound (u16_at bytes) (λ count. bytes_at count.0 count.1) (text, rest) e in
    let n = u16_found bytes a.0.0 a.0.1 fits a.1 in
    let t = (bytes_read a.0.0).found a.0.1 text rest n.behind a.2 in
    let all : Took bytes (u16_bytes a.0.0 ++ text) rest = took_then bytes (u16_bytes a.0.0) a.0.1 text rest n t.0 in
    subst (λ (k : ℕ). Took bytes (u16_bytes k ++ text) rest) (sym t.1) all

string_again : (text rest : List ℕ) → length text < 2 ^ 16 → string_at (string text ++ rest) ≡ Some (text, rest)
unfolding string_at
string_again text rest lt =
    ap string_at (append_assoc (u16_bytes (length text)) text rest)
    ∙ rw (u16_read (length text) (text ++ rest) lt) ((bytes_read (length text)).again text rest refl)

key_found : (bytes key rest : List ℕ) → IsBytes bytes → key_at bytes ≡ Some (key, rest) → Took bytes (string key) rest × FitsKey key
unfolding key_at
key_found bytes key rest fits e =
    let b = bound (string_at bytes) (λ key. where_true (leb (length key.0) max_key) key) (key, rest) e in
    let t = tested (leb (length b.0.0) max_key) b.0 (key, rest) b.2 in
    subst (λ (p : List ℕ × List ℕ). Took bytes (string p.0) p.1 × FitsKey p.0) t.1
    (string_found bytes b.0.0 b.0.1 fits b.1, leb-true (length b.0.0) max_key t.0)

key_again : (key rest : List ℕ) → FitsKey key → key_at (string key ++ rest) ≡ Some (key, rest)
unfolding key_at
key_again key rest fits = rw (string_again key rest (omega (arith, fits)), le-leb (length key) max_key fits) refl

pub keys_read : IsReader key_at string FitsKey
keys_read = record { found = key_found; again = key_again }

-- How many things there are, and so many of them.

abbrev pub one_byte : ℕ → List ℕ
one_byte byte = byte ∷ []

abbrev pub IsWithin : ℕ → ℕ → ℕ → Type 0
IsWithin least most n = (least ≤ n) × (n ≤ most)

count_found : (least most : ℕ) (bytes : List ℕ) (n : ℕ) (rest : List ℕ) → IsBytes bytes → count_within least most bytes ≡ Some (n, rest) → Took bytes (one_byte n) rest × IsWithin least most n
unfolding byte_at
count_found least most [] n rest fits e = absurd cc
count_found least most (first ∷ bytes) n rest fits e =
    let t = tested (leb least first && leb first most) (first, bytes) (n, rest) e in
    let both = all_true (leb least first) (leb first most) t.0 in
    subst (λ (p : ℕ × List ℕ). Took (first ∷ bytes) (one_byte p.0) p.1 × IsWithin least most p.0) t.1
    (record { parts = refl; behind = IsBytes-rest first bytes fits }, (leb-true least first both.0, leb-true first most both.1))

count_again : (least most n : ℕ) (rest : List ℕ) → IsWithin least most n → count_within least most (one_byte n ++ rest) ≡ Some (n, rest)
unfolding byte_at
count_again least most n rest fits = rw (le-leb least n fits.0, le-leb n most fits.1) refl

pub counts_read : (least most : ℕ) → IsReader (count_within least most) one_byte (IsWithin least most)
counts_read least most = record { found = count_found least most; again = count_again least most }

module _ {A : Type 0} (read : Reader A) (encoding : A → List ℕ) (Fits : A → Type 0) (law : IsReader read encoding Fits) (most : ℕ) where
  abbrev pub few_at : Reader (List A)
  few_at bytes = count_within 0 most bytes >>= λ count. times read count.0 count.1

  abbrev pub AreFew : List A → Type 0
  AreFew xs = (length xs ≤ most) × AllByRecursion Fits xs

  few_found : (bytes : List ℕ) (xs : List A) (rest : List ℕ) → IsBytes bytes → few_at bytes ≡ Some (xs, rest) → Took bytes (list_bytes encoding xs) rest × AreFew xs
  few_found bytes xs rest fits e =
      let a = next_found (counts_read 0 most) (λ count. times read count) bytes (xs, rest) fits e in
      let f = times_found read encoding Fits law a.0 a.1 xs rest a.2.behind a.4 in
      let all : Took bytes (a.0 ∷ flat_map encoding xs) rest = took_then bytes (one_byte a.0) a.1 (flat_map encoding xs) rest a.2 f.0 in
      (subst (λ (k : ℕ). Took bytes (k ∷ flat_map encoding xs) rest) (sym f.1) all, (subst (λ (k : ℕ). k ≤ most) (sym f.1) a.3.1, f.2))

  few_again : (xs : List A) (rest : List ℕ) → AreFew xs → few_at (list_bytes encoding xs ++ rest) ≡ Some (xs, rest)
  few_again xs rest fits =
      next_again (counts_read 0 most) (λ count. times read count) (length xs) (flat_map encoding xs ++ rest) (omega arith, fits.0)
      ∙ times_again read encoding Fits law xs rest fits.1

  pub few_read : IsReader few_at (list_bytes encoding) AreFew
  few_read = record { found = few_found; again = few_again }

-- Things behind a byte that says what they are.

pub behind_byte : (byte : ℕ) (bytes text rest : List ℕ) → Took bytes text rest → Took (byte ∷ bytes) (byte ∷ text) rest
behind_byte byte bytes text rest t = record { parts = ap (λ (x : List ℕ). byte ∷ x) t.parts; behind = t.behind }

pub tagged_found : {A X : Type 0} {read : Reader A} {encoding : A → List ℕ} {Fits : A → Type 0} → IsReader read encoding Fits → (make : A → X) (form : X → List ℕ) (FitsX : X → Type 0) (byte : ℕ)
    → ((x : A) → form (make x) ≡ byte ∷ encoding x) → ((x : A) → Fits x → FitsX (make x))
    → (bytes : List ℕ) (y : X) (rest : List ℕ) → IsBytes bytes → one make read bytes ≡ Some (y, rest) → Took (byte ∷ bytes) (form y) rest × FitsX y
tagged_found {A = A} {X = X} {encoding = encoding} law make form FitsX byte encoded keeps bytes y rest fits e =
    let a = one_found law make bytes (y, rest) fits e in
    let t : Took (byte ∷ bytes) (form (make a.0)) a.1 =
    subst (λ (w : List ℕ). Took (byte ∷ bytes) w a.1) (sym (encoded a.0)) (behind_byte byte bytes (encoding a.0) a.1 a.2) in
    subst (λ (p : X × List ℕ). Took (byte ∷ bytes) (form p.0) p.1 × FitsX p.0) a.4 (t, keeps a.0 a.3)

pub tagged_again : {A X : Type 0} {read : Reader A} {encoding : A → List ℕ} {Fits : A → Type 0} → IsReader read encoding Fits → (make : A → X) (x : A) (rest : List ℕ) → Fits x
    → one make read (encoding x ++ rest) ≡ Some (make x, rest)
tagged_again {X = X} law make x rest fits = next_again law (λ x rest. let made : Option (X × List ℕ) = Some (make x, rest) in made) x rest fits

pub pick : {Y : Type 0} (P : ℕ → Type 0) (byte n : ℕ) (o others : Option Y) (y : Y) → cond (eqb byte n) o others ≡ Some y → (o ≡ Some y → P n) → (others ≡ Some y → P byte) → P byte
pick P byte n o others y e this less =
    elim (chosen (eqb byte n) o others (Some y) e) [
      | inl a ↦ subst P (sym (eqb-true byte n a.0)) (this a.1)
      | inr a ↦ less a.1
    ]
