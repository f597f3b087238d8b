-- Clients as they begin.
use Rattle.std.proofs.Common.{◌≡◌, ℕ, zero, suc, ◌+◌, List, [], ◌∷◌, ◌++◌, map, replicate, refl, ap, ◌∙◌, arith}
use Rattle.std.proofs.lemmas.List.{map-append}
use Rattle.vo_check.specs.declared.client.Client.{Client}
use Rattle.vo_world.specs.WorldModel.{least_of}

abbrev zeros : ℕ → List ℕ
zeros n = replicate n 0

one_more : (n : ℕ) → zeros n ++ 0 ∷ [] ≡ zeros (suc n)
one_more zero = refl
one_more (suc n) = ap (λ (xs : List ℕ). 0 ∷ xs) (one_more n)

pub leasts_more : (clients : List Client) (client : Client) (n : ℕ) → map least_of clients ≡ replicate n 0 → client.least ≡ 0
    → map least_of (clients ++ client ∷ []) ≡ replicate (n + 1) 0
leasts_more clients client n all none =
    let next : suc n ≡ n + 1 = omega arith in
    map-append least_of clients (client ∷ []) ∙ ap (λ (xs : List ℕ). xs ++ client.least ∷ []) all
    ∙ ap (λ (k : ℕ). zeros n ++ k ∷ []) none ∙ one_more n ∙ ap zeros next
