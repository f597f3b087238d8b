-- What the parts of a test that is true or false say.
use Rattle.std.proofs.Common.{◌≡◌, Bool, true, false, refl, inl, inr, ◌⊎◌}
use Rattle.std.specs.Prelude.{not, ◌&&◌, ◌||◌}

pub and_left : (a b : Bool) → (a && b) ≡ true → a ≡ true
and_left true b e = refl
and_left false b e = cc

pub and_right : (a b : Bool) → (a && b) ≡ true → b ≡ true
and_right true b e = e
and_right false b e = cc

pub or_left : (a b : Bool) → (a || b) ≡ false → a ≡ false
or_left true b e = cc
or_left false b e = refl

pub or_right : (a b : Bool) → (a || b) ≡ false → b ≡ false
or_right true b e = cc
or_right false b e = e

pub or_either : (a b : Bool) → (a || b) ≡ true → (a ≡ true) ⊎ (b ≡ true)
or_either true b e = inl refl
or_either false b e = inr e

pub or_from_left : (a b : Bool) → a ≡ true → (a || b) ≡ true
or_from_left true b e = refl
or_from_left false b e = cc

pub or_from_right : (a b : Bool) → b ≡ true → (a || b) ≡ true
or_from_right true b e = refl
or_from_right false b e = e

pub not_true : (a : Bool) → not a ≡ true → a ≡ false
not_true true e = cc
not_true false e = refl

pub not_both : {P : Type 0} → (a : Bool) → a ≡ true → a ≡ false → P
not_both true e f = absurd (cc)
not_both false e f = absurd (cc)

-- a test is true or false
pub tested : (b : Bool) → (b ≡ true) ⊎ (b ≡ false)
tested true = inl refl
tested false = inr refl
