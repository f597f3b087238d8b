-- One more column of a source.
use Rattle.std.proofs.Common.{◌≡◌, ℕ, ◌+◌, zero, suc, List, [], ◌∷◌, ◌++◌, map, ap, arith, ◌∙◌}
use Rattle.std.proofs.lemmas.List.{map-append}
use Rattle.vo_spec.specs.Results.{numbers_from}
use Rattle.query_binding.specs.ShownColumns.{column_of, places_until}

numbers_more : (first n : ℕ) → numbers_from first (suc n) ≡ numbers_from first n ++ (first + n) ∷ []
numbers_more first zero = let e : first ≡ first + 0 = omega arith in ap (λ (m : ℕ). m ∷ []) e
numbers_more first (suc n) =
    let e : (first + 1) + n ≡ first + suc n = omega arith in
    ap (λ (ms : List ℕ). first ∷ ms) (numbers_more (first + 1) n ∙ ap (λ (m : ℕ). numbers_from (first + 1) n ++ m ∷ []) e)

pub places_more : (bound_source n : ℕ) → places_until bound_source (n + 1) ≡ places_until bound_source n ++ column_of bound_source n ∷ []
places_more bound_source n =
    let e : n + 1 ≡ suc n = omega arith in
    let z : 0 + n ≡ n = omega arith in
    ap (places_until bound_source) e
    ∙ ap (map (column_of bound_source)) (numbers_more 0 n)
    ∙ map-append (column_of bound_source) (numbers_from 0 n) ((0 + n) ∷ [])
    ∙ ap (λ (m : ℕ). places_until bound_source n ++ column_of bound_source m ∷ []) z
