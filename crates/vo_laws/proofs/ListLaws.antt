-- Laws of lists that std doesn't have: what holds of each item, and lists place by place.
use Rattle.std.proofs.Common.{◌≡◌, Bool, true, false, cond, List, [], ◌∷◌, ◌++◌, map, inl, inr, refl, sym, ap, ◌∙◌, subst}
use Rattle.std.specs.Prelude.{◌||◌, ◌⊎◌, filter, flat_map}
use Rattle.std.specs.List.{list_any, AllByRecursion, AllZip}
use Rattle.std.proofs.lemmas.List.Concat.{flat_map-append}
use Rattle.std.proofs.lemmas.Bool.{or_parts}

-- the item is one of the list
abbrev pub IsIn : {A : Type 0} → A → List A → Type 0
IsIn x [] = ⊥
IsIn x (y ∷ ys) = (x ≡ y) ⊎ IsIn x ys

pub each_of : {A : Type 0} (P : A → Type 0) (xs : List A) → AllByRecursion P xs → (x : A) → IsIn x xs → P x
each_of P [] all x i = absurd i
each_of P (y ∷ ys) all x (inl e) = subst P (sym e) all.0
each_of P (y ∷ ys) all x (inr i) = each_of P ys all.1 x i

pub each_from : {A : Type 0} (P : A → Type 0) (xs : List A) → ((x : A) → IsIn x xs → P x) → AllByRecursion P xs
each_from P [] f = tt
each_from P (y ∷ ys) f = (f y (inl refl), each_from P ys (λ x i. f x (inr i)))

pub each_weaker : {A : Type 0} (P Q : A → Type 0) → ((x : A) → P x → Q x) → (xs : List A) → AllByRecursion P xs → AllByRecursion Q xs
each_weaker P Q f [] all = tt
each_weaker P Q f (x ∷ xs) all = (f x all.0, each_weaker P Q f xs all.1)

pub each_left : {A : Type 0} (P : A → Type 0) (xs ys : List A) → AllByRecursion P (xs ++ ys) → AllByRecursion P xs
each_left P [] ys all = tt
each_left P (x ∷ xs) ys all = (all.0, each_left P xs ys all.1)

pub each_right : {A : Type 0} (P : A → Type 0) (xs ys : List A) → AllByRecursion P (xs ++ ys) → AllByRecursion P ys
each_right P [] ys all = all
each_right P (x ∷ xs) ys all = each_right P xs ys all.1

pub each_both : {A : Type 0} (P : A → Type 0) (xs ys : List A) → AllByRecursion P xs → AllByRecursion P ys → AllByRecursion P (xs ++ ys)
each_both P [] ys all more = more
each_both P (x ∷ xs) ys all more = (all.0, each_both P xs ys all.1 more)

pub each_filter : {A : Type 0} (P : A → Type 0) (test : A → Bool) (xs : List A) → AllByRecursion P xs → AllByRecursion P (filter test xs)
each_filter P test [] all = tt
each_filter {A} P test (x ∷ xs) all = step (test x) (each_filter P test xs all.1)
  where
    step : (b : Bool) → AllByRecursion P (filter test xs) → AllByRecursion P (cond b (x ∷ filter test xs) (filter test xs))
    step true rest = (all.0, rest)
    step false rest = rest

pub each_map : {A B : Type 0} (P : B → Type 0) (f : A → B) (xs : List A) → AllByRecursion (λ x. P (f x)) xs → AllByRecursion P (map f xs)
each_map P f [] all = tt
each_map P f (x ∷ xs) all = (all.0, each_map P f xs all.1)

pub each_mapped : {A B : Type 0} (P : B → Type 0) (f : A → B) (xs : List A) → AllByRecursion P (map f xs) → AllByRecursion (λ x. P (f x)) xs
each_mapped P f [] all = tt
each_mapped P f (x ∷ xs) all = (all.0, each_mapped P f xs all.1)

-- no item meets a test that none is found to meet
pub none_any : {A : Type 0} (test : A → Bool) (xs : List A) → list_any test xs ≡ false → AllByRecursion (λ x. test x ≡ false) xs
none_any test [] e = tt
none_any test (x ∷ xs) e = let p = or_parts (test x) (list_any test xs) e in (p.0, none_any test xs p.1)

pub any_in : {A : Type 0} (test : A → Bool) (xs : List A) (x : A) → IsIn x xs → test x ≡ true → list_any test xs ≡ true
any_in test [] x i e = absurd i
any_in test (y ∷ ys) x (inl f) e = let here : test y ≡ true = ap test (sym f) ∙ e in rw here refl
any_in test (y ∷ ys) x (inr i) e = rw (any_in test ys x i e) (or_true (test y))
  where
    or_true : (b : Bool) → (b || true) ≡ true
    or_true true = refl
    or_true false = refl

pub in_filter : {A : Type 0} (test : A → Bool) (xs : List A) (x : A) → IsIn x xs → test x ≡ true → IsIn x (filter test xs)
in_filter test [] x i e = absurd i
in_filter test (y ∷ ys) x (inl f) e = let here : test y ≡ true = ap test (sym f) ∙ e in rw here (inl f)
in_filter test (y ∷ ys) x (inr i) e = step (test y) (in_filter test ys x i e)
  where
    step : (b : Bool) → IsIn x (filter test ys) → IsIn x (cond b (y ∷ filter test ys) (filter test ys))
    step true j = inr j
    step false j = j

pub filter_in : {A : Type 0} (test : A → Bool) (xs : List A) (x : A) → IsIn x (filter test xs) → IsIn x xs × (test x ≡ true)
filter_in test [] x i = absurd i
filter_in {A} test (y ∷ ys) x i = step (test y) refl i (filter_in test ys x)
  where
    step : (b : Bool) → test y ≡ b → IsIn x (cond b (y ∷ filter test ys) (filter test ys))
        → (IsIn x (filter test ys) → IsIn x ys × (test x ≡ true)) → IsIn x (y ∷ ys) × (test x ≡ true)
    step true e (inl f) back = (inl f, ap test f ∙ e)
    step true e (inr j) back = let r = back j in (inr r.0, r.1)
    step false e j back = let r = back j in (inr r.0, r.1)

pub in_left : {A : Type 0} (xs ys : List A) (x : A) → IsIn x xs → IsIn x (xs ++ ys)
in_left [] ys x i = absurd i
in_left (z ∷ zs) ys x (inl e) = inl e
in_left (z ∷ zs) ys x (inr i) = inr (in_left zs ys x i)

pub in_right : {A : Type 0} (xs ys : List A) (x : A) → IsIn x ys → IsIn x (xs ++ ys)
in_right [] ys x i = i
in_right (z ∷ zs) ys x i = inr (in_right zs ys x i)

pub in_map : {A B : Type 0} (f : A → B) (xs : List A) (x : A) → IsIn x xs → IsIn (f x) (map f xs)
in_map f [] x i = absurd i
in_map f (y ∷ ys) x (inl e) = inl (ap f e)
in_map f (y ∷ ys) x (inr i) = inr (in_map f ys x i)

pub in_flat_map : {A B : Type 0} (f : A → List B) (xs : List A) (x : A) (b : B) → IsIn x xs → IsIn b (f x) → IsIn b (flat_map f xs)
in_flat_map f [] x b i j = absurd i
in_flat_map f (y ∷ ys) x b (inl e) j = in_left (f y) (flat_map f ys) b (subst (λ z. IsIn b (f z)) e j)
in_flat_map f (y ∷ ys) x b (inr i) j = in_right (f y) (flat_map f ys) b (in_flat_map f ys x b i j)

-- Two lists place by place.

pub zip_weaker : {A B : Type 0} (R S : A → B → Type 0) → ((a : A) (b : B) → R a b → S a b) → (xs : List A) (ys : List B) → AllZip R xs ys → AllZip S xs ys
zip_weaker R S f [] [] z = tt
zip_weaker R S f [] (y ∷ ys) z = absurd z
zip_weaker R S f (x ∷ xs) [] z = absurd z
zip_weaker R S f (x ∷ xs) (y ∷ ys) z = (f x y z.0, zip_weaker R S f xs ys z.1)

pub zip_map : {A B C D : Type 0} (R : C → D → Type 0) (f : A → C) (g : B → D) (xs : List A) (ys : List B) → AllZip (λ a b. R (f a) (g b)) xs ys → AllZip R (map f xs) (map g ys)
zip_map R f g [] [] z = tt
zip_map R f g [] (y ∷ ys) z = absurd z
zip_map R f g (x ∷ xs) [] z = absurd z
zip_map R f g (x ∷ xs) (y ∷ ys) z = (z.0, zip_map R f g xs ys z.1)

-- Lists joined end to end.

-- items that give nothing may be left out
pub flat_map_kept : {A B : Type 0} (f : A → List B) (test : A → Bool) (xs : List A) → AllByRecursion (λ x. test x ≡ false → f x ≡ []) xs
    → flat_map f (filter test xs) ≡ flat_map f xs
flat_map_kept f test [] all = refl
flat_map_kept {A} {B} f test (x ∷ xs) all = step (test x) refl (flat_map_kept f test xs all.1)
  where
    step : (b : Bool) → test x ≡ b → flat_map f (filter test xs) ≡ flat_map f xs → flat_map f (cond b (x ∷ filter test xs) (filter test xs)) ≡ f x ++ flat_map f xs
    step true e rest = ap (λ z. f x ++ z) rest
    step false e rest = rw (all.0 e) rest

-- items that give the same give the same together
pub flat_map_zip : {A B C : Type 0} (f : A → List C) (g : B → List C) (xs : List A) (ys : List B) → AllZip (λ a b. f a ≡ g b) xs ys → flat_map f xs ≡ flat_map g ys
flat_map_zip f g [] [] z = refl
flat_map_zip f g [] (y ∷ ys) z = absurd z
flat_map_zip f g (x ∷ xs) [] z = absurd z
flat_map_zip f g (x ∷ xs) (y ∷ ys) z = rw (z.0, flat_map_zip f g xs ys z.1) refl

pub flat_map_map : {A B C : Type 0} (f : B → List C) (g : A → B) (xs : List A) → flat_map f (map g xs) ≡ flat_map (λ x. f (g x)) xs
flat_map_map f g [] = refl
flat_map_map f g (x ∷ xs) = ap (λ z. f (g x) ++ z) (flat_map_map f g xs)

pub flat_map_flat_map : {A B C : Type 0} (f : B → List C) (g : A → List B) (xs : List A) → flat_map f (flat_map g xs) ≡ flat_map (λ x. flat_map f (g x)) xs
flat_map_flat_map f g [] = refl
flat_map_flat_map f g (x ∷ xs) = flat_map-append f (g x) (flat_map g xs) ∙ ap (λ z. flat_map f (g x) ++ z) (flat_map_flat_map f g xs)

-- a filter and a map as one
pub filtered_map : {A B : Type 0} (f : A → B) (test : A → Bool) (xs : List A) → map f (filter test xs) ≡ flat_map (λ x. cond (test x) (f x ∷ []) []) xs
filtered_map f test [] = refl
filtered_map {A} {B} f test (x ∷ xs) = step (test x) (filtered_map f test xs)
  where
    step : (b : Bool) → map f (filter test xs) ≡ flat_map (λ y. cond (test y) (f y ∷ []) []) xs
        → map f (cond b (x ∷ filter test xs) (filter test xs)) ≡ cond b (f x ∷ []) [] ++ flat_map (λ y. cond (test y) (f y ∷ []) []) xs
    step true rest = ap (λ z. f x ∷ z) rest
    step false rest = rest

-- items that agree on the test are kept or left out together
pub zip_filter : {A B : Type 0} (R : A → B → Type 0) (p : A → Bool) (q : B → Bool) → ((a : A) (b : B) → R a b → p a ≡ q b) → (xs : List A) (ys : List B)
    → AllZip R xs ys → AllZip R (filter p xs) (filter q ys)
zip_filter R p q same [] [] z = tt
zip_filter R p q same [] (y ∷ ys) z = absurd z
zip_filter R p q same (x ∷ xs) [] z = absurd z
zip_filter {A} {B} R p q same (x ∷ xs) (y ∷ ys) z = step (p x) (q y) (same x y z.0) (zip_filter R p q same xs ys z.1)
  where
    step : (b c : Bool) → b ≡ c → AllZip R (filter p xs) (filter q ys)
        → AllZip R (cond b (x ∷ filter p xs) (filter p xs)) (cond c (y ∷ filter q ys) (filter q ys))
    step true true e rest = (z.0, rest)
    step true false e rest = absurd (cc)
    step false true e rest = absurd (cc)
    step false false e rest = rest
