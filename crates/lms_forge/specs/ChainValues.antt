-- What signatures show of a leaf's chains, each as the number of a step and the value before it.
use Rattle.std.specs.Prelude.{ℕ, ◌+◌, ◌-◌, ◌*◌, ◌^◌, List, Option, option_map, unwrap_or}
use Rattle.vo_spec.specs.Bytes.{digest_at}
use Rattle.vo_spec.specs.OtsSets.{width_of}
use Rattle.vo_spec.specs.Ots.{coef, digits_of, randomizer, signed_value, public_end}
use Rattle.vo_spec.specs.Lms.{ots_part}
use Rattle.lms_forge.specs.Forgeries.{Forgery}

-- the one-time signature inside the forged one
abbrev pub one_time : Forgery → List ℕ
one_time f = ots_part f.tree.ots f.signature

-- the digits that the forged signature signs
abbrev pub forged_digits : Forgery → List ℕ
forged_digits f = digits_of f.tree.id f.leaf f.tree.ots (digest_at (one_time f) 4) f.message

-- the digits that the owner signs where it signs this message by the leaf
abbrev pub own_digits : Forgery → List ℕ → List ℕ
own_digits f message =
    digits_of f.tree.id f.leaf f.tree.ots (randomizer f.tree.id f.leaf f.tree.seed) message

-- the greatest digit, at which a chain ends
abbrev pub last_digit : Forgery → ℕ
last_digit f = 2 ^ width_of f.tree.ots - 1

-- what the forged signature has of chain i
abbrev pub forged_value : Forgery → ℕ → ℕ × List ℕ
forged_value f i = (
  coef (forged_digits f) i (width_of f.tree.ots),
  digest_at (one_time f) (36 + 32 * i),
)

-- what the owner's signature of this message shows of chain i
abbrev pub value_shown_by : Forgery → ℕ → List ℕ → ℕ × List ℕ
value_shown_by f i message = (
  coef (own_digits f message) i (width_of f.tree.ots),
  signed_value f.tree.id f.leaf f.tree.ots f.tree.seed (own_digits f message) i,
)

-- what the owner's signature by the leaf shows of chain i, or nothing where it made none
abbrev pub shown_value : Forgery → ℕ → Option (ℕ × List ℕ)
shown_value f i = option_map (value_shown_by f i) f.released

-- what is known of chain i: what was shown, or the end, which the public key has
abbrev pub known_value : Forgery → ℕ → ℕ × List ℕ
known_value f i = unwrap_or (shown_value f i)
    (last_digit f, public_end f.tree.id f.leaf f.tree.ots f.tree.seed i)
