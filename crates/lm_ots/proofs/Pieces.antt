-- Pieces end to end, and the digests and numbers found among them.
use Rattle.std.proofs.Common.{◌≡◌, ℕ, zero, suc, ◌+◌, ◌*◌, ◌^◌, ◌<◌, List, [], ◌∷◌, ◌++◌, length, get_or, refl, ap, sym, ◌∙◌, add-one, add-zero, append_assoc, arith, below_more}
use Rattle.std.proofs.Math.Seq.{drop-append_seam, take-append_seam}
use borrow.Rule.Slice.PartMut.{put_mid}
use Rattle.std.proofs.lemmas.List.{append-nil, length-append, get_or-append-add}
use Rattle.std.proofs.lemmas.Nat.{from_be_bytes-to_be_bytes_4}
use Rattle.vo_spec.specs.Bytes.{u16_bytes, u32_bytes, u32_at, digest_at, join_pieces}
use Rattle.vo_spec.specs.Ots.{public_text}

pub length-u32_bytes : (n : ℕ) → length (u32_bytes n) ≡ 4
unfolding u32_bytes
length-u32_bytes n = refl

pub joined_more : (piece : ℕ → List ℕ) (n : ℕ) → join_pieces piece (n + 1) ≡ join_pieces piece n ++ piece n
unfolding join_pieces
joined_more piece n = rw add-one refl

-- two parts that are copied into their places one after the other
pub two_parts : (first second : List ℕ) (n : ℕ) → length first ≡ n
    → put_mid n 2 (first ++ 0 ∷ 0 ∷ []) second ≡ first ++ second
two_parts first second n full =
    rw (← full, take-append_seam first (0 ∷ 0 ∷ []), drop-append_seam first (0 ∷ 0 ∷ [])) (ap (λ rest. first ++ rest) (append-nil second))

-- what was written so far goes on with the next piece
pub joined_on : (front : List ℕ) (piece : ℕ → List ℕ) (n : ℕ)
    → front ++ join_pieces piece n ++ piece n ≡ front ++ join_pieces piece (n + 1)
joined_on front piece n = rw joined_more (append_assoc front (join_pieces piece n) (piece n))

-- the text of a public key goes on with the next end
pub public_text_more : (id : List ℕ) (q : ℕ) (ends : ℕ → List ℕ) (n : ℕ)
    → public_text id q (join_pieces ends n) ++ ends n ≡ public_text id q (join_pieces ends (n + 1))
unfolding public_text
public_text_more id q ends n = joined_on (id ++ u32_bytes q ++ u16_bytes 0x8080) ends n

pub joined_same : (f g : ℕ → List ℕ) (n : ℕ) → ((i : ℕ) → i < n → f i ≡ g i) → join_pieces f n ≡ join_pieces g n
unfolding join_pieces
joined_same f g zero same = refl
joined_same f g (suc n) same =
    let front = joined_same f g n (λ i below. same i (omega arith)) in
    let last : f n ≡ g n = same n (omega arith) in
    rw (front, last) refl

pub length-join_pieces : (piece : ℕ → List ℕ) (n : ℕ) → ((i : ℕ) → length (piece i) ≡ 32)
    → length (join_pieces piece n) ≡ 32 * n
unfolding join_pieces
length-join_pieces piece zero full = refl
length-join_pieces piece (suc n) full =
    let front = length-join_pieces piece n full in
    let last : length (piece n) ≡ 32 = full n in
    rw length-append (omega arith)

-- what follows piece i among n pieces
abbrev Rest : (ℕ → List ℕ) → ℕ → ℕ → Type 0
Rest piece n i = (rest : List ℕ) × (join_pieces piece n ≡ join_pieces piece i ++ piece i ++ rest)

joined_parts : (piece : ℕ → List ℕ) (n i : ℕ) → i < n → Rest piece n i
unfolding join_pieces
joined_parts piece zero i below = absurd (omega arith)
joined_parts piece (suc n) i below =
    let earlier : (k : ℕ) → k < n → Rest piece (suc n) k = λ k h.
    let parts = joined_parts piece n k h in (
      parts.0 ++ piece n,
      ap (λ front. front ++ piece n) parts.1 ∙ append_assoc (join_pieces piece k ++ piece k) parts.0 (piece n),
    ) in
    let last : Rest piece (suc n) n = ([], sym (append-nil (join_pieces piece n ++ piece n))) in
    below_more (Rest piece (suc n)) n earlier last i (omega arith)

-- a digest stands where what is before it ends
pub digest_at-middle : (front piece back : List ℕ) (at : ℕ) → length piece ≡ 32 → at ≡ length front
    → digest_at (front ++ piece ++ back) at ≡ piece
unfolding digest_at
digest_at-middle front piece back at full place =
    rw (place, append_assoc front piece back, drop-append_seam front (piece ++ back), ← full) (take-append_seam piece back)

-- piece i stands at its place behind a front
pub digest_at-join_pieces : (front back : List ℕ) (piece : ℕ → List ℕ) (n i at : ℕ) → ((k : ℕ) → length (piece k) ≡ 32)
    → i < n → at ≡ length front + 32 * i → digest_at (front ++ join_pieces piece n ++ back) at ≡ piece i
digest_at-join_pieces front back piece n i at full below place =
    let parts = joined_parts piece n i below in
    let apart : front ++ join_pieces piece n ++ back ≡ (front ++ join_pieces piece i) ++ piece i ++ (parts.0 ++ back) =
    rw parts.1 (simp append_assoc) in
    rw apart (digest_at-middle (front ++ join_pieces piece i) (piece i) (parts.0 ++ back) at (full i)
    (rw length-append (rw (length-join_pieces piece i full) place)))

-- a number's bytes at the front are read as that number
pub u32_at-front : (n : ℕ) (back : List ℕ) → n < 2 ^ 32 → u32_at (u32_bytes n ++ back) 0 ≡ n
unfolding u32_at u32_bytes
u32_at-front n back fits = from_be_bytes-to_be_bytes_4 n fits

-- a number is read behind a front as it is without
pub u32_at-append : (front back : List ℕ) (at : ℕ) → at ≡ length front → u32_at (front ++ back) at ≡ u32_at back 0
unfolding u32_at
u32_at-append front back at place =
    let first : get_or (front ++ back) (length front) 0 ≡ get_or back 0 0 = rw add-zero at (get_or-append-add front back 0 0) in
    rw (place, first, get_or-append-add front back 1 0, get_or-append-add front back 2 0, get_or-append-add front back 3 0) refl
