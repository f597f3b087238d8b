-- The place of the first item that passes a test.
use Rattle.std.proofs.Common.{◌≡◌, ℕ, suc, ◌+◌, ◌<◌, Bool, true, false, cond, not, ◌||◌, nat_lt, List, [], ◌∷◌, length, arith, refl, ◌∙◌}
use Rattle.std.proofs.lemmas.Bool.Decides.{nat_tests}
use Rattle.std.specs.List.{list_any, position_or_len}

step : (b c : Bool) (i j n m : ℕ) → j ≡ suc i → m ≡ suc n → c ≡ nat_lt i n → (b || c) ≡ nat_lt (cond (not b) j 0) m
step true c i j n m next more rest = let h : 0 < m = omega arith in grind (arith, nat_tests)
step false c i j n m next more rest = rest ∙ grind (arith, nat_tests)

pub any_placed : {A : Type 0} (test : A → Bool) (xs : List A) → list_any test xs ≡ nat_lt (position_or_len test xs) (length xs)
any_placed test [] = refl
any_placed test (x ∷ xs) =
    let i = position_or_len test xs in
    step (test x) (list_any test xs) i (1 + i) (length xs) (length (x ∷ xs)) (omega arith) (omega arith) (any_placed test xs)
