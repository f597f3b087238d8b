-- Readers of the front of bytes, and the laws that each keeps: what it reads is spelled so, and
-- what is spelled so is read. Readers that are put together keep them too.
use Rattle.std.proofs.Common.{◌≡◌, ℕ, suc, ◌+◌, Bool, true, false, cond, List, ◌∷◌, ◌++◌, length, take, drop, Result, Ok, Err, refl, subst, arith, inl, inr, ◌⊎◌}
use Rattle.std.proofs.lemmas.Bool.{cases_lt}
use Rattle.std.proofs.lemmas.List.{drop_at, length-take, get_or-drop, get_or-take, get_or_past}
use Rattle.vo_spec.specs.Bytes.{IsBytes}

-- Bytes.

pub IsBytes-drop : (n : ℕ) (bytes : List ℕ) → IsBytes bytes → IsBytes (drop n bytes)
IsBytes-drop n bytes h i = rw get_or-drop (h (n + i))

pub IsBytes-take : (n : ℕ) (bytes : List ℕ) → IsBytes bytes → IsBytes (take n bytes)
IsBytes-take n bytes h i =
    elim (cases_lt i n) [
      | inl lt ↦ rw (get_or-take n bytes i 0 lt) (h i)
      | inr le ↦ rw (get_or_past (take n bytes) i 0 (omega (arith, length-take n bytes))) (omega arith)
    ]

pub IsBytes-rest : (b : ℕ) (bytes : List ℕ) → IsBytes (b ∷ bytes) → IsBytes bytes
IsBytes-rest b bytes h i = h (suc i)

-- the bytes after what stands in front
pub IsBytes-after : (xs ys bytes : List ℕ) → bytes ≡ xs ++ ys → IsBytes bytes → IsBytes ys
IsBytes-after xs ys bytes e h = subst IsBytes (drop_at xs ys (length xs) refl) (IsBytes-drop (length xs) (xs ++ ys) (subst IsBytes e h))

-- Tests.

-- a test that did not fail
pub guard_ok : {A F : Type 0} (b : Bool) (d : F) (r : Result A F) (y : A) → cond b (Err d) r ≡ Ok y → (b ≡ false) × (r ≡ Ok y)
guard_ok true d r y e = absurd cc
guard_ok false d r y e = (refl, e)

pub chosen : {A : Type 0} (b : Bool) (x y z : A) → cond b x y ≡ z → ((b ≡ true) × (x ≡ z)) ⊎ ((b ≡ false) × (y ≡ z))
chosen true x y z e = inl (refl, e)
chosen false x y z e = inr (refl, e)
