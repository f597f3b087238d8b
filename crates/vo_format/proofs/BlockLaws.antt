-- Numbers of four bytes and blocks that are read are spelled so, and what is spelled so is read.
use Rattle.std.proofs.Common.{◌≡◌, ℕ, ◌^◌, ◌<◌, ◌≤◌, false, ltb, List, ◌++◌, length, take, drop, Some, None, refl, sym, ap, subst, ◌∙◌, append_assoc, arith, inl, inr}
use Rattle.std.proofs.lemmas.Bool.{ltb-false, le-ltb}
use Rattle.std.proofs.lemmas.Nat.{be_bytes_4, from_be_bytes-to_be_bytes_4}
use Rattle.std.proofs.lemmas.List.{take_at, drop_at, take-append-drop, length-append, length-take}
use Rattle.vo_spec.specs.Bytes.{IsBytes, u32_bytes, u32_of, block}
use Rattle.row_bytes.specs.Reading.{bytes_at, u32_at}
use Rattle.row_bytes.specs.Fields.{block_at}
use Rattle.row_bytes.proofs.Readers.{IsBytes-take, IsBytes-drop, chosen}
use Rattle.batch_format.proofs.ReaderLaws.{Took, some_is, bound, took_then, no_some}
use Rattle.version_record.proofs.RecordLaws.{bytes_read}

-- Numbers of four bytes.

u32_same : (bytes : List ℕ) → length bytes ≡ 4 → IsBytes bytes → u32_bytes (u32_of bytes) ≡ bytes
unfolding u32_bytes u32_of
u32_same bytes len fits = be_bytes_4 bytes _ len fits refl

u32_back : (n : ℕ) → n < 2 ^ 32 → u32_of (u32_bytes n) ≡ n
unfolding u32_bytes u32_of
u32_back n lt = from_be_bytes-to_be_bytes_4 n lt

u32_length : (n : ℕ) → length (u32_bytes n) ≡ 4
unfolding u32_bytes
u32_length n = refl

u32_found : (bytes : List ℕ) (n : ℕ) (rest : List ℕ) → IsBytes bytes → u32_at bytes ≡ Some (n, rest) → Took bytes (u32_bytes n) rest
unfolding u32_at
u32_found bytes n rest fits e =
    elim (chosen (ltb (length bytes) 4) None (Some (u32_of (take 4 bytes), drop 4 bytes)) (Some (n, rest)) e) [
      | inl a ↦ absurd (no_some (n, rest) a.1)
      | inr a ↦
          let long : 4 ≤ length bytes = ltb-false _ _ a.0 in
          let len : length (take 4 bytes) ≡ 4 = omega (arith, length-take 4 bytes) in
          let is : (u32_of (take 4 bytes), drop 4 bytes) ≡ (n, rest) = some_is (u32_of (take 4 bytes), drop 4 bytes) (n, rest) a.1 in
          subst (λ (p : ℕ × List ℕ). Took bytes (u32_bytes p.0) p.1) is
          (record { parts = sym (take-append-drop 4 bytes) ∙ ap (λ (t : List ℕ). t ++ drop 4 bytes) (sym (u32_same (take 4 bytes) len (IsBytes-take 4 bytes fits))); behind = IsBytes-drop 4 bytes fits })
    ]

u32_read : (n : ℕ) (rest : List ℕ) → n < 2 ^ 32 → u32_at (u32_bytes n ++ rest) ≡ Some (n, rest)
unfolding u32_at
u32_read n rest lt =
    let len = u32_length n in
    let long : ltb (length (u32_bytes n ++ rest)) 4 ≡ false = le-ltb _ _ (omega (arith, length-append (u32_bytes n) rest)) in
    rw (long, take_at (u32_bytes n) rest 4 len, drop_at (u32_bytes n) rest 4 len, u32_back n lt) refl

-- Bytes behind their length.

pub IsBytes-front : (xs ys : List ℕ) → IsBytes (xs ++ ys) → IsBytes xs
IsBytes-front xs ys fits = subst IsBytes (take_at xs ys (length xs) refl) (IsBytes-take (length xs) (xs ++ ys) fits)

pub block_found : (bytes text rest : List ℕ) → IsBytes bytes → block_at bytes ≡ Some (text, rest) → Took bytes (block text) rest × IsBytes text
unfolding block_at
block_found bytes text rest fits e =
    let a = bound (u32_at bytes) (λ count. bytes_at count.0 count.1) (text, rest) e in
    let n = u32_found bytes a.0.0 a.0.1 fits a.1 in
    let t = (bytes_read a.0.0).found a.0.1 text rest n.behind a.2 in
    let all : Took bytes (u32_bytes a.0.0 ++ text) rest = took_then bytes (u32_bytes a.0.0) a.0.1 text rest n t.0 in
    (subst (λ (k : ℕ). Took bytes (u32_bytes k ++ text) rest) (sym t.1) all, IsBytes-front text rest (subst IsBytes t.0.parts n.behind))

pub block_again : (text rest : List ℕ) → length text < 2 ^ 32 → block_at (block text ++ rest) ≡ Some (text, rest)
unfolding block_at
block_again text rest lt =
    ap block_at (append_assoc (u32_bytes (length text)) text rest)
    ∙ rw (u32_read (length text) (text ++ rest) lt) ((bytes_read (length text)).again text rest refl)
