-- Bytes that a write goes over, and what a write that is cut short leaves of them.
use Rattle.std.proofs.Common.{◌≡◌, ℕ, zero, suc, ◌+◌, ◌-◌, ◌<◌, ◌≤◌, ◌⊎◌, inl, inr, not, IsTrue, Bool, true, false, cond, ◌==◌, List, [], ◌∷◌, ◌++◌, length, drop, get_or, refl, sym, ap, ◌∙◌, append_assoc, append-nil, arith}
use Rattle.std.proofs.lemmas.Bool.Decides.{nat_tests}
use Rattle.std.proofs.lemmas.List.{take_at, length-append, ext_get_or}
use Rattle.std.proofs.lemmas.List.Prefix.{front_from_reads, front_reads}
use Rattle.outside.specs.DiskModel.{overwrite_at, is_written}
use Rattle.outside.specs.Moments.{IsTornImage}
use Rattle.std.proofs.Math.Seq.{drop-append-add}

misses-below : (k place count : ℕ) → k < place → IsTrue (not (is_written k ((place, count) ∷ [])))
misses-below k place count lt = grind (arith, nat_tests)

misses-above : (k place count : ℕ) → place + count ≤ k → IsTrue (not (is_written k ((place, count) ∷ [])))
misses-above k place count le = grind (arith, nat_tests)

-- what stands before a write that is cut short stays
pub torn_front : (front tail image : List ℕ) (place count : ℕ) → length front ≤ place → IsTornImage place count (front ++ tail) image → image ≡ front ++ drop (length front) image
torn_front front tail image place count before torn =
    let len = length-append front tail in
    front_from_reads 0 image front (omega (arith, torn.no_shorter, len))
    (λ k within. torn.stays k (omega (arith, len)) (misses-below k place count (omega arith)) ∙ front_reads 0 (front ++ tail) front tail refl k within)

get-at : (front : List ℕ) (x : ℕ) (tail : List ℕ) → get_or (front ++ x ∷ tail) (length front) 0 ≡ x
get-at [] x tail = refl
get-at (y ∷ front) x tail = get-at front x tail

get-beyond : (front : List ℕ) (x y : ℕ) (tail : List ℕ) (k : ℕ) → length front < k → get_or (front ++ x ∷ tail) k 0 ≡ get_or (front ++ y ∷ tail) k 0
get-beyond [] x y tail zero beyond = absurd (omega arith)
get-beyond [] x y tail (suc k) beyond = refl
get-beyond (z ∷ front) x y tail zero beyond = absurd (omega arith)
get-beyond (z ∷ front) x y tail (suc k) beyond = get-beyond front x y tail k (omega arith)

three : (k n : ℕ) → (k < n) ⊎ ((k ≡ n) ⊎ (n < k))
three k n = grind arith

-- of a write of one byte that is cut short, all but that byte stays
stays-at : (front : List ℕ) (byte : ℕ) (tail image : List ℕ) → IsTornImage (length front) 1 (front ++ byte ∷ tail) image → (k : ℕ) → k < length image
    → (k < length front) ⊎ ((k ≡ length front) ⊎ (length front < k)) → get_or image k 0 ≡ get_or (front ++ get_or image (length front) 0 ∷ tail) k 0
stays-at front byte tail image torn k within (inl below) =
    torn.stays k (omega (arith, length-append front (byte ∷ tail))) (misses-below k (length front) 1 below)
    ∙ front_reads 0 (front ++ byte ∷ tail) front (byte ∷ tail) refl k below
    ∙ sym (front_reads 0 (front ++ get_or image (length front) 0 ∷ tail) front (get_or image (length front) 0 ∷ tail) refl k below)
stays-at front byte tail image torn k within (inr (inl here)) =
    ap (λ (i : ℕ). get_or image i 0) here
    ∙ sym (ap (λ (i : ℕ). get_or (front ++ get_or image (length front) 0 ∷ tail) i 0) here ∙ get-at front (get_or image (length front) 0) tail)
stays-at front byte tail image torn k within (inr (inr above)) =
    let was = length-append front (byte ∷ tail) in
    torn.stays k (omega (arith, torn.no_longer, was)) (misses-above k (length front) 1 (omega arith))
    ∙ get-beyond front byte (get_or image (length front) 0) tail k above

pub torn_byte : (front : List ℕ) (byte : ℕ) (tail image : List ℕ) → IsTornImage (length front) 1 (front ++ byte ∷ tail) image → image ≡ front ++ get_or image (length front) 0 ∷ tail
torn_byte front byte tail image torn =
    let now : List ℕ = front ++ get_or image (length front) 0 ∷ tail in
    let was = length-append front (byte ∷ tail) in
    let is = length-append front (get_or image (length front) 0 ∷ tail) in
    let same : length image ≡ length now = omega (arith, torn.no_shorter, torn.no_longer, was, is) in
    ext_get_or 0 image now same (λ k within. stays-at front byte tail image torn k within (three k (length front)))

no-gap : (b : Bool) (n m : ℕ) → n ≤ m → cond b 0 (n - m) ≡ 0
no-gap true n m le = refl
no-gap false n m le = omega arith

-- a write over what stands behind a front
pub written_over : (front piece tail : List ℕ) → overwrite_at (length front) piece (front ++ tail) ≡ front ++ (piece ++ drop (length piece) tail)
written_over front piece tail =
    let within : length front ≤ length (front ++ tail) = omega (arith, length-append front tail) in
    rw (no-gap (length piece == 0) (length front) (length (front ++ tail)) within, drop-append-add front tail (length piece), take_at front tail (length front) refl)
    (ap (λ (t : List ℕ). t ++ piece ++ drop (length piece) tail) (append-nil front) ∙ append_assoc front piece (drop (length piece) tail))
