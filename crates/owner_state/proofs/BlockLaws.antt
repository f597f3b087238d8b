-- Bytes behind their length of four bytes: what is read is as_block so, and what is as_block so is
-- read.
use Rattle.std.proofs.Common.{◌≡◌, ℕ, ◌^◌, ◌<◌, ◌≤◌, leb, ltb, false, List, ◌++◌, length, take, drop, Option, Some, None, refl, sym, ap, subst, ◌∙◌, append_assoc, arith, inl, inr}
use Rattle.std.proofs.lemmas.Bool.{ltb-false, le-ltb, leb-true, le-leb}
use Rattle.std.proofs.lemmas.List.{take_at, drop_at, take-append-drop, length-append, length-take}
use Rattle.std.proofs.lemmas.Nat.{be_bytes_4, from_be_bytes-to_be_bytes_4}
use Rattle.vo_spec.specs.Bytes.{IsBytes, u32_bytes, u32_of, block}
use Rattle.row_bytes.specs.Reading.{bytes_at, u32_at}
use Rattle.row_bytes.specs.Fields.{◌>>=◌, where_true, block_at}
use Rattle.row_bytes.proofs.Readers.{IsBytes-take, IsBytes-drop, IsBytes-after, chosen}
use Rattle.batch_format.proofs.ReaderLaws.{Took, IsReader, some_is, bound, tested, took_then, no_some, next_found, next_again}
use Rattle.version_record.proofs.RecordLaws.{bytes_read}
use Rattle.owner_state.specs.Reading.{within, limited_at}

-- Numbers of four bytes.

u32_same : (bytes : List ℕ) → length bytes ≡ 4 → IsBytes bytes → u32_bytes (u32_of bytes) ≡ bytes
unfolding u32_bytes u32_of
u32_same bytes len fits = be_bytes_4 bytes _ len fits refl

u32_again : (n : ℕ) → n < 2 ^ 32 → u32_of (u32_bytes n) ≡ n
unfolding u32_bytes u32_of
u32_again n lt = from_be_bytes-to_be_bytes_4 n lt

u32_below : (bytes : List ℕ) → IsBytes bytes → u32_of bytes < 2 ^ 32
unfolding u32_of
u32_below bytes fits = omega (arith, fits 0, fits 1, fits 2, fits 3)

pub u32_length : (n : ℕ) → length (u32_bytes n) ≡ 4
unfolding u32_bytes
u32_length n = refl

abbrev IsU32 : ℕ → Type 0
IsU32 n = n < 2 ^ 32

u32_found : (bytes : List ℕ) (n : ℕ) (rest : List ℕ) → IsBytes bytes → u32_at bytes ≡ Some (n, rest) → Took bytes (u32_bytes n) rest × IsU32 n
unfolding u32_at
u32_found bytes n rest fits e =
    elim (chosen (ltb (length bytes) 4) None (Some (u32_of (take 4 bytes), drop 4 bytes)) (Some (n, rest)) e) [
      | inl a ↦ absurd (no_some (n, rest) a.1)
      | inr a ↦
          let long : 4 ≤ length bytes = ltb-false _ _ a.0 in
          let len : length (take 4 bytes) ≡ 4 = omega (arith, length-take 4 bytes) in
          let front : IsBytes (take 4 bytes) = IsBytes-take 4 bytes fits in
          let is : (u32_of (take 4 bytes), drop 4 bytes) ≡ (n, rest) = some_is (u32_of (take 4 bytes), drop 4 bytes) (n, rest) a.1 in
          let parts : bytes ≡ u32_bytes (u32_of (take 4 bytes)) ++ drop 4 bytes =
          sym (ap (λ (t : List ℕ). t ++ drop 4 bytes) (u32_same (take 4 bytes) len front) ∙ take-append-drop 4 bytes) in
          subst (λ (p : ℕ × List ℕ). Took bytes (u32_bytes p.0) p.1 × IsU32 p.0) is
          (record { parts = parts; behind = IsBytes-drop 4 bytes fits }, u32_below (take 4 bytes) front)
    ]

u32_again_at : (n : ℕ) (rest : List ℕ) → IsU32 n → u32_at (u32_bytes n ++ rest) ≡ Some (n, rest)
unfolding u32_at
u32_again_at n rest lt =
    let long : ltb (length (u32_bytes n ++ rest)) 4 ≡ false = le-ltb _ _ (omega (arith, u32_length n, length-append (u32_bytes n) rest)) in
    rw (long, take_at (u32_bytes n) rest 4 (u32_length n), drop_at (u32_bytes n) rest 4 (u32_length n), u32_again n lt) refl

u32s_read : IsReader u32_at u32_bytes IsU32
u32s_read = record { found = u32_found; again = u32_again_at }

-- Blocks.

abbrev pub IsShort : List ℕ → Type 0
IsShort text = length text < 2 ^ 32

block_found : (bytes text rest : List ℕ) → IsBytes bytes → block_at bytes ≡ Some (text, rest) → Took bytes (block text) rest × IsShort text
unfolding block_at
block_found bytes text rest fits e =
    let n = next_found u32s_read bytes_at bytes (text, rest) fits e in
    let t = (bytes_read n.0).found n.1 text rest n.2.behind n.4 in
    let all = took_then bytes (u32_bytes n.0) n.1 text rest n.2 t.0 in
    (subst (λ (k : ℕ). Took bytes (u32_bytes k ++ text) rest) (sym t.1) all, subst IsU32 (sym t.1) n.3)

block_again : (text rest : List ℕ) → IsShort text → block_at (block text ++ rest) ≡ Some (text, rest)
unfolding block_at
block_again text rest short =
    ap block_at (append_assoc (u32_bytes (length text)) text rest)
    ∙ next_again u32s_read bytes_at (length text) (text ++ rest) short
    ∙ (bytes_read (length text)).again text rest refl

pub blocks_read : IsReader block_at block IsShort
blocks_read = record { found = block_found; again = block_again }

-- Blocks of at most so many bytes.

abbrev pub HasAtMost : ℕ → List ℕ → Type 0
HasAtMost most text = length text ≤ most

limited_found : (most : ℕ) (bytes text rest : List ℕ) → IsBytes bytes → limited_at most bytes ≡ Some (text, rest) → Took bytes (block text) rest × HasAtMost most text
unfolding limited_at
limited_found most bytes text rest fits e =
    let b = bound (block_at bytes) (λ found. where_true (leb (length found.0) most) found) (text, rest) e in
    let t = tested (leb (length b.0.0) most) b.0 (text, rest) b.2 in
    subst (λ (p : List ℕ × List ℕ). Took bytes (block p.0) p.1 × HasAtMost most p.0) t.1
    ((block_found bytes b.0.0 b.0.1 fits b.1).0, leb-true (length b.0.0) most t.0)

limited_again : (most : ℕ) → most < 2 ^ 32 → (text rest : List ℕ) → HasAtMost most text → limited_at most (block text ++ rest) ≡ Some (text, rest)
unfolding limited_at
limited_again most lt text rest few = rw (block_again text rest (omega (arith, few, lt)), le-leb (length text) most few) refl

pub limited_read : (most : ℕ) → most < 2 ^ 32 → IsReader (limited_at most) block (HasAtMost most)
limited_read most lt = record { found = limited_found most; again = limited_again most lt }

-- What a whole block is.

pub record IsWholeReader {A : Type 0} (read : List ℕ → Option A) (encoding : A → List ℕ) (Fits : A → Type 0) : Type 0 where
  pub found : (bytes : List ℕ) (x : A) → IsBytes bytes → read bytes ≡ Some x → (bytes ≡ encoding x) × Fits x
  pub again : (x : A) → Fits x → read (encoding x) ≡ Some x
  pub short : (x : A) → Fits x → IsShort (encoding x)

-- the bytes in front of others
front_bytes : (text rest bytes : List ℕ) → bytes ≡ text ++ rest → IsBytes bytes → IsBytes text
front_bytes text rest bytes e fits = subst IsBytes (take_at text rest (length text) refl) (IsBytes-take (length text) (text ++ rest) (subst IsBytes e fits))

module _ {A : Type 0} (read : List ℕ → Option A) (encoding : A → List ℕ) (Fits : A → Type 0) (law : IsWholeReader read encoding Fits) where
  abbrev as_block : A → List ℕ
  as_block x = block (encoding x)

  the_same : (bytes s t rest : List ℕ) → s ≡ t → Took bytes (block s) rest → Took bytes (block t) rest
  the_same bytes s t rest e took = subst (λ (x : List ℕ). Took bytes (block x) rest) e took

  within_found : (bytes : List ℕ) (x : A) (rest : List ℕ) → IsBytes bytes → within read bytes ≡ Some (x, rest) → Took bytes (as_block x) rest × Fits x
  within_found bytes x rest fits e =
      let b = bound (block_at bytes) (λ found. read found.0 >>= λ x. Some (x, found.1)) (x, rest) e in
      let c = bound (read b.0.0) (λ x. Some (x, b.0.1)) (x, rest) b.2 in
      let t = (block_found bytes b.0.0 b.0.1 fits b.1).0 in
      let behind : IsBytes (b.0.0 ++ b.0.1) = IsBytes-after (u32_bytes (length b.0.0)) (b.0.0 ++ b.0.1) bytes (t.parts ∙ append_assoc (u32_bytes (length b.0.0)) b.0.0 b.0.1) fits in
      let f = law.found b.0.0 c.0 (front_bytes b.0.0 b.0.1 (b.0.0 ++ b.0.1) refl behind) c.1 in
      let all : Took bytes (as_block c.0) b.0.1 = the_same bytes b.0.0 (encoding c.0) b.0.1 f.0 t in
      let is : (c.0, b.0.1) ≡ (x, rest) = some_is (c.0, b.0.1) (x, rest) c.2 in
      subst (λ (p : A × List ℕ). Took bytes (as_block p.0) p.1 × Fits p.0) is (all, f.1)

  within_again : (x : A) (rest : List ℕ) → Fits x → within read (as_block x ++ rest) ≡ Some (x, rest)
  within_again x rest fits = rw (block_again (encoding x) rest (law.short x fits), law.again x fits) refl

  pub within_read : IsReader (within read) as_block Fits
  within_read = record { found = within_found; again = within_again }
