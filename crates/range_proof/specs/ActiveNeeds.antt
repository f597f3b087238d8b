-- The needs as they come to a node: all of them, and those whose scans visit it.
use Rattle.std.specs.Prelude.{◌≡◌, ℕ, true, if◌then◌else◌, List, Option, Some, None}
use Rattle.vo_spec.specs.declared.needs.Need.{Need}
use Rattle.vo_spec.specs.Values.{key_lt}
use Rattle.vo_spec.specs.Pruning.{needed_columns, is_any}
use Rattle.vo_spec.specs.Representation.{is_between}

pub record NeedsAtNode : Type 0 where
  pub all : List Need
  pub active : List Need

-- of the keys between these separators, some of the needs, where there are any, name what all name
abbrev pub CoverKeys : List Need → List Need → Option (List ℕ) → Option (List ℕ) → Type 0
CoverKeys all active lower upper =
    is_any active ≡ true → (key : List ℕ) → is_between lower upper key ≡ true
    → needed_columns active key ≡ needed_columns all key

-- the narrower of two lower separators, and of two upper ones; one that is missing bounds nothing

abbrev pub max_lower : Option (List ℕ) → Option (List ℕ) → Option (List ℕ)
max_lower None b = b
max_lower (Some a) None = Some a
max_lower (Some a) (Some b) = if key_lt a b then Some b else Some a

abbrev pub min_upper : Option (List ℕ) → Option (List ℕ) → Option (List ℕ)
min_upper None b = b
min_upper (Some a) None = Some a
min_upper (Some a) (Some b) = if key_lt b a then Some b else Some a
