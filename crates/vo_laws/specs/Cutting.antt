-- Proofs for needs that are cut, and what of a tree they leave closed.
use Rattle.std.specs.Prelude.{ℕ, Bool, false, ◌||◌, List, [], ◌∷◌, slice_get, drop, Option, Some, None}
use Rattle.vo_spec.specs.declared.needs.Need.{Need}
use Rattle.vo_spec.specs.Values.{key_lt}
use Rattle.vo_spec.specs.Parts.{stub, leaf, inner, none, more}
use Rattle.vo_spec.specs.Trees.{RowTree, RowTrees}
use Rattle.vo_spec.specs.Pruning.{IsCanonical}
use Rattle.vo_spec.specs.Cuts.{RowCondition, cut_need}

-- the part tree is the proof for the need that is cut by itself
abbrev pub IsCut : Need → RowCondition → ℕ → RowTree → Type 0
IsCut need meets n p = IsCanonical (cut_need need meets n p ∷ []) p

-- A node is open whose keys begin above this one: its lower separator is, in its parent or, for the
-- first of the children, in the parent's parent and so on.
abbrev pub begins_above : List ℕ → Option (List ℕ) → Bool
begins_above key None = false
begins_above key (Some separator) = key_lt key separator

abbrev mutual
  pub opens_above : List ℕ → Option (List ℕ) → RowTree → Bool
  opens_above key lower (stub d) = false
  opens_above key lower (leaf es) = begins_above key lower
  opens_above key lower (inner ss ps) = begins_above key lower || opens_above_in key lower ss ps

  pub opens_above_in : List ℕ → Option (List ℕ) → List (List ℕ) → RowTrees → Bool
  opens_above_in key lower ss none = false
  opens_above_in key lower ss (more m p ps) =
      opens_above key lower p || opens_above_in key (slice_get ss 0) (drop 1 ss) ps
