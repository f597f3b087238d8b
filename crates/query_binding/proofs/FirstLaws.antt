-- The first fault of lists of tests, one after the other.
use Rattle.std.proofs.Common.{◌≡◌, List, [], ◌∷◌, ◌++◌, map, Option, Some, None, refl, ap, ◌∙◌}
use Rattle.std.proofs.lemmas.List.{map-append}
use Rattle.vo_spec.specs.Firsts.{first_some}

pub passed_more : {F : Type 0} (os ps : List (Option F)) → first_some os ≡ None → first_some (os ++ ps) ≡ first_some ps
passed_more [] ps e = refl
passed_more (None ∷ os) ps e = passed_more os ps e
passed_more (Some fault ∷ os) ps e = absurd cc

pub found_more : {F : Type 0} (os ps : List (Option F)) (fault : F) → first_some os ≡ Some fault → first_some (os ++ ps) ≡ Some fault
found_more [] ps fault e = absurd cc
found_more (None ∷ os) ps fault e = found_more os ps fault e
found_more (Some other ∷ os) ps fault e = e

pub mapped_more : {A F : Type 0} (test : A → Option F) (xs ys : List A) → first_some (map test xs) ≡ None → first_some (map test (xs ++ ys)) ≡ first_some (map test ys)
mapped_more test xs ys e = ap first_some (map-append test xs ys) ∙ passed_more (map test xs) (map test ys) e

pub mapped_found : {A F : Type 0} (test : A → Option F) (xs ys : List A) (fault : F) → first_some (map test xs) ≡ Some fault → first_some (map test (xs ++ ys)) ≡ Some fault
mapped_found test xs ys fault e = ap first_some (map-append test xs ys) ∙ found_more (map test xs) (map test ys) fault e
