-- Results that are made of others, and where an `Ok` among them comes from.
use Rattle.std.proofs.Common.{◌≡◌, Bool, true, false, cond, Result, Ok, Err, refl, ap}
use Rattle.vo_spec.specs.declared.trees.UpdateFault.{UpdateFault}
use Rattle.vo_spec.specs.Firsts.{and_then}
use Rattle.vo_spec.specs.Inserts.{result_map}

pub ok_same : {A : Type 0} (x y : A) → ◌≡◌ {A = Result A UpdateFault} (Ok x) (Ok y) → x ≡ y
ok_same x y h = cc

-- the result is an `Ok` whose value is made into this one
pub record MapsTo {A B : Type 0} (f : A → B) (r : Result A UpdateFault) (b : B) : Type 0 where
  pub value : A
  pub ok : r ≡ Ok value
  pub made : b ≡ f value

pub map_ok : {A B : Type 0} (f : A → B) (r : Result A UpdateFault) (b : B)
    → result_map f r ≡ Ok b → MapsTo f r b
map_ok f (Ok a) b h = record { value = a; ok = refl; made = cc }
map_ok f (Err fault) b h = absurd (cc)

-- the result is an `Ok` from whose value the next step makes this one
pub record LeadsTo {A B : Type 0} (next : A → Result B UpdateFault) (r : Result A UpdateFault) (b : B)
    : Type 0 where
  pub value : A
  pub ok : r ≡ Ok value
  pub made : next value ≡ Ok b

pub then_ok : {A B : Type 0} (next : A → Result B UpdateFault) (r : Result A UpdateFault) (b : B)
    → and_then next r ≡ Ok b → LeadsTo next r b
then_ok next (Ok a) b h = record { value = a; ok = refl; made = h }
then_ok next (Err fault) b h = absurd (cc)

-- the one or the other of two results is the `Ok`
pub cond_ok : {A R : Type 0} (b : Bool) (x y : Result A UpdateFault) (a : A)
    → cond b x y ≡ Ok a → (x ≡ Ok a → R) → (y ≡ Ok a → R) → R
cond_ok true x y a h f g = f h
cond_ok false x y a h f g = g h

-- one value made into another in two steps
pub map_map : {A B C : Type 0} (f : A → B) (g : B → C) (h : A → C) (r : Result A UpdateFault)
    → ((a : A) → g (f a) ≡ h a) → result_map g (result_map f r) ≡ result_map h r
map_map f g h (Ok a) same = ap Ok (same a)
map_map f g h (Err fault) same = refl
