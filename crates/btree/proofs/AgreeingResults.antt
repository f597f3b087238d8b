-- Answers that agree still agree after the same next steps.
use Rattle.std.proofs.Common.{Bool, true, false, cond, Result, Ok, Err}
use Rattle.vo_spec.specs.declared.trees.UpdateFault.{UpdateFault}
use Rattle.vo_spec.specs.declared.trees.UpdateFault.TheVariants.{DuplicateKey, NoRow, Missing, Memory}
use Rattle.vo_spec.specs.Firsts.{and_then}
use Rattle.vo_spec.specs.Inserts.{result_map}
use Rattle.btree.specs.Agreement.{AgreesWithTree}

pub agrees_then : {A B : Type 0} (R : A → A → Type 0) (S : B → B → Type 0) (f g : A → Result B UpdateFault)
    (r s : Result A UpdateFault) → ((x y : A) → R x y → AgreesWithTree S (f x) (g y))
    → AgreesWithTree R r s → AgreesWithTree S (and_then f r) (and_then g s)
agrees_then R S f g (Ok x) (Ok y) on h = on x y h
agrees_then R S f g (Ok x) (Err other) on h = absurd h
agrees_then R S f g (Err DuplicateKey) (Ok y) on h = absurd h
agrees_then R S f g (Err DuplicateKey) (Err other) on h = h
agrees_then R S f g (Err NoRow) (Ok y) on h = absurd h
agrees_then R S f g (Err NoRow) (Err other) on h = h
agrees_then R S f g (Err Missing) s on h = tt
agrees_then R S f g (Err Memory) (Ok y) on h = absurd h
agrees_then R S f g (Err Memory) (Err other) on h = h

pub agrees_map : {A B : Type 0} (R : A → A → Type 0) (S : B → B → Type 0) (f g : A → B)
    (r s : Result A UpdateFault) → ((x y : A) → R x y → S (f x) (g y))
    → AgreesWithTree R r s → AgreesWithTree S (result_map f r) (result_map g s)
agrees_map R S f g (Ok x) (Ok y) on h = on x y h
agrees_map R S f g (Ok x) (Err other) on h = absurd h
agrees_map R S f g (Err DuplicateKey) (Ok y) on h = absurd h
agrees_map R S f g (Err DuplicateKey) (Err other) on h = h
agrees_map R S f g (Err NoRow) (Ok y) on h = absurd h
agrees_map R S f g (Err NoRow) (Err other) on h = h
agrees_map R S f g (Err Missing) s on h = tt
agrees_map R S f g (Err Memory) (Ok y) on h = absurd h
agrees_map R S f g (Err Memory) (Err other) on h = h

pub agrees_cond : {A : Type 0} (R : A → A → Type 0) (b : Bool) (w x y z : Result A UpdateFault)
    → AgreesWithTree R w y → AgreesWithTree R x z → AgreesWithTree R (cond b w x) (cond b y z)
agrees_cond R true w x y z h g = h
agrees_cond R false w x y z h g = g

pub agrees_weaker : {A : Type 0} (R S : A → A → Type 0) (r s : Result A UpdateFault)
    → ((x y : A) → R x y → S x y) → AgreesWithTree R r s → AgreesWithTree S r s
agrees_weaker R S (Ok x) (Ok y) on h = on x y h
agrees_weaker R S (Ok x) (Err other) on h = absurd h
agrees_weaker R S (Err DuplicateKey) (Ok y) on h = absurd h
agrees_weaker R S (Err DuplicateKey) (Err other) on h = h
agrees_weaker R S (Err NoRow) (Ok y) on h = absurd h
agrees_weaker R S (Err NoRow) (Err other) on h = h
agrees_weaker R S (Err Missing) s on h = tt
agrees_weaker R S (Err Memory) (Ok y) on h = absurd h
agrees_weaker R S (Err Memory) (Err other) on h = h
