-- A record that is read is spelled so, and what is spelled so is read.
use Rattle.std.proofs.Common.{◌≡◌, ℕ, ◌^◌, ◌<◌, ◌≤◌, true, false, ltb, List, [], ◌∷◌, ◌++◌, length, take, drop, Option, Some, None, codes, refl, sym, ap, subst, ◌∙◌, append_assoc, append-nil, arith, inl, inr}
use Rattle.std.specs.Prelude.{bytes_eq, IfSome}
use Rattle.std.proofs.lemmas.Bool.{ltb-false, le-ltb}
use Rattle.std.proofs.lemmas.List.{take_at, drop_at, take-append-drop, length-append, length-take}
use Rattle.std.proofs.lemmas.Slice.Eq.{bytes_eq-Decides}
use Rattle.vo_spec.specs.declared.records.Magic.{Magic}
use Rattle.vo_spec.specs.declared.records.Magic.TheVariants.{Vrec, Vrc2}
use Rattle.vo_spec.specs.declared.records.Record.{Record}
use Rattle.vo_spec.specs.Bytes.{IsBytes, u64_bytes, u64_of}
use Rattle.vo_spec.specs.Records.{record_bytes, magic_bytes, FitsRecord, IsRecord}
use Rattle.row_bytes.specs.Reading.{bytes_at, u64_at}
use Rattle.row_bytes.specs.Fields.{◌>>=◌, where_true, word_at, whole}
use Rattle.row_bytes.proofs.Readers.{IsBytes-take, IsBytes-drop, chosen}
use Rattle.row_bytes.proofs.ValueLaws.{u64_same, u64_again, u64_below, u64_length}
use Rattle.batch_format.specs.BatchReading.{one, two, three}
use Rattle.batch_format.proofs.ReaderLaws.{Took, IsReader, some_is, bound, tested, took_then, no_some, next_found, next_again}
use Rattle.batch_format.proofs.BatchLaws.{one_found}
pub use Rattle.batch_format.proofs.KeyLaws.{as_is, bytes_read}
use Rattle.version_record.specs.Reading.{magic_of_word, magic_at, record_at}

-- Numbers, and bytes that are given.

abbrev pub IsU64 : ℕ → Type 0
IsU64 n = n < 2 ^ 64

u64_found : (bytes : List ℕ) (n : ℕ) (rest : List ℕ) → IsBytes bytes → u64_at bytes ≡ Some (n, rest) → Took bytes (u64_bytes n) rest × IsU64 n
unfolding u64_at
u64_found bytes n rest fits e =
    elim (chosen (ltb (length bytes) 8) None (Some (u64_of (take 8 bytes), drop 8 bytes)) (Some (n, rest)) e) [
      | inl a ↦ absurd (no_some (n, rest) a.1)
      | inr a ↦
          let long : 8 ≤ length bytes = ltb-false _ _ a.0 in
          let len : length (take 8 bytes) ≡ 8 = omega (arith, length-take 8 bytes) in
          let front : IsBytes (take 8 bytes) = IsBytes-take 8 bytes fits in
          let is : (u64_of (take 8 bytes), drop 8 bytes) ≡ (n, rest) = some_is (u64_of (take 8 bytes), drop 8 bytes) (n, rest) a.1 in
          let parts : bytes ≡ u64_bytes (u64_of (take 8 bytes)) ++ drop 8 bytes =
          sym (ap (λ (t : List ℕ). t ++ drop 8 bytes) (u64_same (take 8 bytes) len front) ∙ take-append-drop 8 bytes) in
          subst (λ (p : ℕ × List ℕ). Took bytes (u64_bytes p.0) p.1 × IsU64 p.0) is
          (record { parts = parts; behind = IsBytes-drop 8 bytes fits }, u64_below (take 8 bytes) front)
    ]

u64_again_at : (n : ℕ) (rest : List ℕ) → IsU64 n → u64_at (u64_bytes n ++ rest) ≡ Some (n, rest)
unfolding u64_at
u64_again_at n rest lt =
    let long : ltb (length (u64_bytes n ++ rest)) 8 ≡ false = le-ltb _ _ (omega (arith, u64_length n, length-append (u64_bytes n) rest)) in
    rw (long, take_at (u64_bytes n) rest 8 (u64_length n), drop_at (u64_bytes n) rest 8 (u64_length n), u64_again n lt) refl

pub u64s_read : IsReader u64_at u64_bytes IsU64
u64s_read = record { found = u64_found; again = u64_again_at }

abbrev pub IsWord : List ℕ → List ℕ → Type 0
IsWord word found = found ≡ word

word_found : (word bytes found rest : List ℕ) → IsBytes bytes → word_at word bytes ≡ Some (found, rest) → Took bytes found rest × IsWord word found
unfolding word_at
word_found word bytes found rest fits e =
    let b = bound (bytes_at (length word) bytes) (λ found. where_true (bytes_eq found.0 word) found) (found, rest) e in
    let t = tested (bytes_eq b.0.0 word) b.0 (found, rest) b.2 in
    subst (λ (p : List ℕ × List ℕ). Took bytes p.0 p.1 × IsWord word p.0) t.1
    (((bytes_read (length word)).found bytes b.0.0 b.0.1 fits b.1).0, (bytes_eq-Decides b.0.0 word).0 t.0)

same_eq : (word : List ℕ) → bytes_eq word word ≡ true
same_eq word = (bytes_eq-Decides word word).1 refl

word_itself : (word rest : List ℕ) → word_at word (word ++ rest) ≡ Some (word, rest)
unfolding word_at
word_itself word rest = rw ((bytes_read (length word)).again word rest refl, same_eq word) refl

word_again : (word found rest : List ℕ) → IsWord word found → word_at word (found ++ rest) ≡ Some (found, rest)
word_again word found rest e = subst (λ (w : List ℕ). word_at w (found ++ rest) ≡ Some (found, rest)) e (word_itself found rest)

pub words_read : (word : List ℕ) → IsReader (word_at word) as_is (IsWord word)
words_read word = record { found = word_found word; again = word_again word }

-- What a record begins with.

abbrev Any : Magic → Type 0
Any magic = Unit {0}

word_is : (word : List ℕ) (m : Magic) → magic_of_word word ≡ Some m → word ≡ magic_bytes m
word_is word m e =
    elim (chosen (bytes_eq word (codes "VREC")) (Some Vrec) _ (Some m) e) [
      | inl a ↦ (bytes_eq-Decides word (codes "VREC")).0 a.0 ∙ ap magic_bytes (some_is Vrec m a.1)
      | inr a ↦ elim (chosen (bytes_eq word (codes "VRC2")) (Some Vrc2) None (Some m) a.1) [
        | inl b ↦ (bytes_eq-Decides word (codes "VRC2")).0 b.0 ∙ ap magic_bytes (some_is Vrc2 m b.1)
        | inr b ↦ absurd (no_some m b.1)
      ]
    ]

word_of : (m : Magic) → magic_of_word (magic_bytes m) ≡ Some m
word_of Vrec = refl
word_of Vrc2 = refl

pub magic_long : (m : Magic) → length (magic_bytes m) ≡ 4
magic_long Vrec = refl
magic_long Vrc2 = refl

magic_found : (bytes : List ℕ) (m : Magic) (rest : List ℕ) → IsBytes bytes → magic_at bytes ≡ Some (m, rest) → Took bytes (magic_bytes m) rest × Any m
unfolding magic_at
magic_found bytes m rest fits e =
    let a = next_found (bytes_read 4) (λ word rest. magic_of_word word >>= λ m. let made : Option (Magic × List ℕ) = Some (m, rest) in made) bytes (m, rest) fits e in
    let b = bound (magic_of_word a.0) (λ m. Some (m, a.1)) (m, rest) a.4 in
    let took : Took bytes (magic_bytes b.0) a.1 = subst (λ (w : List ℕ). Took bytes w a.1) (word_is a.0 b.0 b.1) a.2 in
    subst (λ (p : Magic × List ℕ). Took bytes (magic_bytes p.0) p.1 × Any p.0) (some_is (b.0, a.1) (m, rest) b.2) (took, tt)

magic_again : (m : Magic) (rest : List ℕ) → Any m → magic_at (magic_bytes m ++ rest) ≡ Some (m, rest)
unfolding magic_at
magic_again m rest any = rw ((bytes_read 4).again (magic_bytes m) rest (magic_long m), word_of m) refl

pub magics_read : IsReader magic_at magic_bytes Any
magics_read = record { found = magic_found; again = magic_again }

-- A record.

abbrev made : Magic → List ℕ → ℕ → List ℕ → Record
made magic id version catalog = record { magic = magic; id = id; version = version; catalog = catalog }

record_found : (bytes : List ℕ) (r : Record) (rest : List ℕ) → IsBytes bytes → record_at bytes ≡ Some (r, rest) → Took bytes (record_bytes r) rest × FitsRecord r
unfolding record_at record_bytes
record_found bytes r rest fits e =
    let y : Record × List ℕ = (r, rest) in
    let m = next_found magics_read (λ m. three (made m) (bytes_at 16) u64_at (bytes_at 32)) bytes y fits e in
    let a = next_found (bytes_read 16) (λ id. two (made m.0 id) u64_at (bytes_at 32)) m.1 y m.2.behind m.4 in
    let b = next_found u64s_read (λ v. one (made m.0 a.0 v) (bytes_at 32)) a.1 y a.2.behind a.4 in
    let c = one_found (bytes_read 32) (made m.0 a.0 b.0) b.1 y b.2.behind b.4 in
    let ma = took_then bytes (magic_bytes m.0) m.1 a.0 a.1 m.2 a.2 in
    let mab = took_then bytes (magic_bytes m.0 ++ a.0) a.1 (u64_bytes b.0) b.1 ma b.2 in
    let all = took_then bytes (magic_bytes m.0 ++ a.0 ++ u64_bytes b.0) b.1 c.0 c.1 mab c.2 in
    subst (λ (p : Record × List ℕ). Took bytes (record_bytes p.0) p.1 × FitsRecord p.0) c.4
    (all, record { id = a.3; version = b.3; catalog = c.3 })

record_again : (r : Record) (rest : List ℕ) → FitsRecord r → record_at (record_bytes r ++ rest) ≡ Some (r, rest)
unfolding record_at record_bytes
record_again r rest fits =
    ap record_at (append_assoc (magic_bytes r.magic ++ r.id ++ u64_bytes r.version) r.catalog rest
    ∙ append_assoc (magic_bytes r.magic ++ r.id) (u64_bytes r.version) (r.catalog ++ rest)
    ∙ append_assoc (magic_bytes r.magic) r.id (u64_bytes r.version ++ (r.catalog ++ rest)))
    ∙ next_again magics_read (λ m. three (made m) (bytes_at 16) u64_at (bytes_at 32)) r.magic (r.id ++ (u64_bytes r.version ++ (r.catalog ++ rest))) tt
    ∙ next_again (bytes_read 16) (λ id. two (made r.magic id) u64_at (bytes_at 32)) r.id (u64_bytes r.version ++ (r.catalog ++ rest)) fits.id
    ∙ next_again u64s_read (λ v. one (made r.magic r.id v) (bytes_at 32)) r.version (r.catalog ++ rest) fits.version
    ∙ next_again (bytes_read 32) (λ d rest. let made : Option (Record × List ℕ) = Some (made r.magic r.id r.version d, rest) in made) r.catalog rest fits.catalog

pub records_read : IsReader record_at record_bytes FitsRecord
records_read = record { found = record_found; again = record_again }

-- Of all the bytes.

pub whole_is : {A : Type 0} (read : Option (A × List ℕ)) (x : A) → whole read ≡ Some x → read ≡ Some (x, [])
whole_is None x e = absurd cc
whole_is (Some (y, [])) x e = cc
whole_is (Some (y, byte ∷ bytes)) x e = absurd cc

pub is_record : (bytes : List ℕ) (read : Option Record) → IsBytes bytes → read ≡ whole (record_at bytes) → IfSome read (λ rec. IsRecord bytes rec)
is_record bytes None fits e = tt
is_record bytes (Some rec) fits e =
    let f = record_found bytes rec [] fits (whole_is (record_at bytes) rec (sym e)) in
    record { fits = f.1; encoded = f.0.parts ∙ append-nil (record_bytes rec) }

pub is_read : (bytes : List ℕ) (rec : Record) → IsRecord bytes rec → whole (record_at bytes) ≡ Some rec
is_read bytes rec is =
    ap (λ (t : List ℕ). whole (record_at t)) (is.encoded ∙ sym (append-nil (record_bytes rec)))
    ∙ ap whole (record_again rec [] is.fits)
