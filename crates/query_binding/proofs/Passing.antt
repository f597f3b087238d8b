-- Loops over parts, each of which has tests of its own.
use Rattle.std.proofs.Common.{◌≡◌, ℕ, ◌+◌, ◌<◌, List, ◌∷◌, ◌++◌, length, map, drop, Option, Result, Ok, Err, sym, ap, subst, ◌∙◌}
use Rattle.std.proofs.Math.ListN.{get_or}
use Rattle.std.proofs.lemmas.List.{at_drop_more, map-append}
use Rattle.vo_spec.specs.declared.queries.QueryFault.{QueryFault}
use Rattle.vo_spec.specs.Firsts.{first_some}
use Rattle.query_binding.specs.declared.bind_fault.BindFault.{BindFault}
use Rattle.query_binding.specs.declared.bind_fault.BindFault.TheVariants.{Wrong, Memory}
use Rattle.query_binding.specs.Binding.{PassesBinding}
use Rattle.query_binding.proofs.FirstLaws.{passed_more, found_more, mapped_more, mapped_found}

abbrev Tests : Type 0 → Type 0
Tests B = B → Option QueryFault

next : {A B : Type 0} (test : Tests B) (of : A → List B) (all : List A → List B) → ((x : A) (xs : List A) → all (x ∷ xs) ≡ of x ++ all xs)
    → (xs : List A) (i : ℕ) (x : A) → i < length xs → x ≡ get_or xs i x
    → first_some (map test (all (drop i xs))) ≡ first_some (map test (of x ++ all (drop (i + 1) xs)))
next test of all law xs i x lt is =
    at_drop_more (λ l. first_some (map test (all l))) xs i x lt
    ∙ ap (λ y. first_some (map test (all (y ∷ drop (i + 1) xs)))) (sym is)
    ∙ ap (λ l. first_some (map test l)) (law x (drop (i + 1) xs))

pub passed_part : {A B R : Type 0} (test : Tests B) (of : A → List B) (all : List A → List B) → ((x : A) (xs : List A) → all (x ∷ xs) ≡ of x ++ all xs)
    → (xs : List A) (i : ℕ) (x : A) → i < length xs → x ≡ get_or xs i x
    → first_some (map test (all (drop i xs))) ≡ first_some (map test (all xs))
    → (r : Result R BindFault) (value : R) → r ≡ Ok value → PassesBinding r (first_some (map test (of x)))
    → first_some (map test (all (drop (i + 1) xs))) ≡ first_some (map test (all xs))
passed_part test of all law xs i x lt is same r value ok passes =
    sym (next test of all law xs i x lt is ∙ mapped_more test (of x) (all (drop (i + 1) xs)) (subst (λ q. PassesBinding q (first_some (map test (of x)))) ok passes)) ∙ same

pub found_part : {A B R : Type 0} (test : Tests B) (of : A → List B) (all : List A → List B) → ((x : A) (xs : List A) → all (x ∷ xs) ≡ of x ++ all xs)
    → (xs : List A) (i : ℕ) (x : A) → i < length xs → x ≡ get_or xs i x
    → first_some (map test (all (drop i xs))) ≡ first_some (map test (all xs))
    → (r : Result R BindFault) (fault : BindFault) → r ≡ Err fault → PassesBinding r (first_some (map test (of x)))
    → PassesBinding {A = R} (Err fault) (first_some (map test (all xs)))
found_part test of all law xs i x lt is same r (Wrong fault) err passes =
    sym same ∙ next test of all law xs i x lt is ∙ mapped_found test (of x) (all (drop (i + 1) xs)) fault (subst (λ q. PassesBinding q (first_some (map test (of x)))) err passes)
found_part test of all law xs i x lt is same r Memory err passes = tt

-- Tests in a row, the first of them in a call of their own.

pub passes_more : {R U : Type 0} (r : Result R BindFault) (o : Result U BindFault) (value : U) (os ps : List (Option QueryFault)) → o ≡ Ok value → PassesBinding o (first_some os)
    → PassesBinding r (first_some ps) → PassesBinding r (first_some (os ++ ps))
passes_more r o value os ps ok passes h = subst (PassesBinding r) (sym (passed_more os ps (subst (λ q. PassesBinding q (first_some os)) ok passes))) h

pub fails_more : {U : Type 0} (R : Type 0) (o : Result U BindFault) (fault : BindFault) (os ps : List (Option QueryFault)) → o ≡ Err fault → PassesBinding o (first_some os) → PassesBinding {A = R} (Err fault) (first_some (os ++ ps))
fails_more R o (Wrong fault) os ps err passes = found_more os ps fault (subst (λ q. PassesBinding q (first_some os)) err passes)
fails_more R o Memory os ps err passes = tt

pub passes_mapped : {A R U : Type 0} (test : Tests A) (r : Result R BindFault) (o : Result U BindFault) (value : U) (xs ys : List A) → o ≡ Ok value → PassesBinding o (first_some (map test xs))
    → PassesBinding r (first_some (map test ys)) → PassesBinding r (first_some (map test (xs ++ ys)))
passes_mapped test r o value xs ys ok passes h =
    subst (λ l. PassesBinding r (first_some l)) (sym (map-append test xs ys)) (passes_more r o value (map test xs) (map test ys) ok passes h)

pub fails_mapped : {A U : Type 0} (test : Tests A) (R : Type 0) (o : Result U BindFault) (fault : BindFault) (xs ys : List A) → o ≡ Err fault → PassesBinding o (first_some (map test xs))
    → PassesBinding {A = R} (Err fault) (first_some (map test (xs ++ ys)))
fails_mapped test R o fault xs ys err passes =
    subst (λ l. PassesBinding {A = R} (Err fault) (first_some l)) (sym (map-append test xs ys)) (fails_more R o fault (map test xs) (map test ys) err passes)
