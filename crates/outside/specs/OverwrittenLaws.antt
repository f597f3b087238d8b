-- What a write leaves of the bytes that it goes over.
use Rattle.std.proofs.Common.{rules, suc, ap, ◌∙◌, min, ◌≡◌, ℕ, ◌+◌, ◌-◌, ◌<◌, ◌≤◌, ◌==◌, ◌⊎◌, inl, inr, max, cond, List, [], ◌∷◌, ◌++◌, length, take, drop, replicate, get_or, arith, refl}
use Rattle.std.proofs.lemmas.List.{places, length-append, length-take, length-drop, length-replicate}
use Rattle.outside.specs.DiskModel.{overwrite_at}

-- the same with a gap of any length
abbrev overlay : ℕ → ℕ → List ℕ → List ℕ → List ℕ
overlay gap place piece seen = (take place seen ++ replicate gap 0) ++ piece
    ++ drop (place + length piece) seen

length-overlay : (gap place : ℕ) (piece seen : List ℕ)
    → length (overlay gap place piece seen)
    ≡ min place (length seen) + gap + length piece + (length seen - (place + length piece))
length-overlay gap place piece seen =
    simp (length-append, length-take, length-drop, length-replicate) refl

overlay-before : (gap place : ℕ) (piece seen : List ℕ) (k : ℕ) → k < place → k < length seen
    → get_or (overlay gap place piece seen) k 0 ≡ get_or seen k 0
overlay-before gap place piece seen k before within = search (rules, places)

overlay-after : (place : ℕ) (piece seen : List ℕ) (k : ℕ) → place + length piece ≤ k
    → k < length seen
    → get_or (overlay 0 place piece seen) k 0 ≡ get_or seen k 0
overlay-after place piece seen k after within = search (rules, places)

-- the gap before a piece that has bytes
some : (n m : ℕ) → cond (suc n == 0) 0 m ≡ m
some n m = grind arith

gap-some : (place b : ℕ) (bs seen : List ℕ)
    → overwrite_at place (b ∷ bs) seen ≡ overlay (place - length seen) place (b ∷ bs) seen
gap-some place b bs seen = ap (λ gap. overlay gap place (b ∷ bs) seen)
    (some (length bs) (place - length seen))

pub length-overwrite_at : (place : ℕ) (piece seen : List ℕ)
    → length (overwrite_at place piece seen)
    ≡ max (length seen) (cond (length piece == 0) 0 (place + length piece))
length-overwrite_at place [] seen = length-overlay 0 place [] seen ∙ omega arith
length-overwrite_at place (b ∷ bs) seen =
    rw (some (length bs) (place + suc (length bs)))
    (ap length (gap-some place b bs seen)
    ∙ length-overlay (place - length seen) place (b ∷ bs) seen ∙
    omega arith)

pub get_or-overwrite_at : (place : ℕ) (piece seen : List ℕ) (k : ℕ) → (k < place)
    ⊎ (place + length piece ≤ k) → k < length seen
    → get_or (overwrite_at place piece seen) k 0 ≡ get_or seen k 0
get_or-overwrite_at place piece seen k (inl before) within =
    overlay-before _ place piece seen k before within
get_or-overwrite_at place [] seen k (inr after) within = overlay-after place [] seen k after within
get_or-overwrite_at place (b ∷ bs) seen k (inr after) within =
    let none : place - length seen ≡ 0 = omega arith in
    rw (gap-some place b bs seen, none) (overlay-after place (b ∷ bs) seen k after within)
