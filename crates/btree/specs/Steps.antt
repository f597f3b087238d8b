-- What a removal leaves of the nodes on its path, and which of them open their siblings.
use Rattle.std.specs.Prelude.{ℕ, zero, suc, ◌-◌, Bool, false, nat_lt, if◌then◌else◌, List, length, Option, Some, None, slice_get, Result, Ok, Err}
use Rattle.vo_spec.specs.declared.trees.UpdateFault.{UpdateFault}
use Rattle.vo_spec.specs.declared.trees.UpdateFault.TheVariants.{Missing}
use Rattle.vo_spec.specs.Parts.{Part, leaf, inner, Family, count}
use Rattle.vo_spec.specs.Inserts.{min_fill, result_map}
use Rattle.vo_spec.specs.Removes.{shrink}
use Rattle.btree.specs.Shapes.{size_of}

-- the number of the sibling of the child of this number
abbrev pub sibling_of : ℕ → ℕ
sibling_of zero = 1
sibling_of (suc i) = i

-- Of so many children, when an underfull one and its sibling, of this size, have become one, or two
-- where the sibling has more than it needs. Where the two aren't of one kind, something is missing.
abbrev pub count_of_merged : ℕ → Option ℕ → Result ℕ UpdateFault
count_of_merged children None = Err Missing
count_of_merged children (Some size) = Ok (if nat_lt min_fill size then children else children - 1)

module _ {E M : Type 0} where
  -- how many entries or children the second has, if both are of one kind
  abbrev pub size_if_alike : Part E M → Part E M → Option ℕ
  size_if_alike (leaf es) (leaf fs) = Some (length fs)
  size_if_alike (inner ss ps) (inner ts qs) = Some (count qs)
  size_if_alike _ _ = None

  -- of so many children, when this one is underfull: an only child has no sibling
  abbrev pub count_rebalanced : ℕ → Part E M → Option (Part E M) → Result ℕ UpdateFault
  count_rebalanced children child None = Ok children
  count_rebalanced children child (Some sibling) =
      count_of_merged children (size_if_alike child sibling)

  -- of these children, when so many entries or children remain in the one of this number
  abbrev pub count_remaining : ℕ → List (Part E M) → Part E M → ℕ → Result ℕ UpdateFault
  count_remaining i ts child n =
      if nat_lt n min_fill then count_rebalanced (length ts) child (slice_get ts (sibling_of i))
      else Ok (length ts)

abbrev pub is_underfull_count : Result ℕ UpdateFault → Bool
is_underfull_count (Ok n) = nat_lt n min_fill
is_underfull_count (Err fault) = false

module _ {E M : Type 0} (family : Family E M) where
  -- how many entries or children remain in the node without the entry of this key
  abbrev pub remaining_by : List ℕ → Part E M → Result ℕ UpdateFault
  remaining_by key t = result_map size_of (shrink family key t)

  -- so few that the node opens its sibling
  abbrev pub opens_sibling_by : List ℕ → Part E M → Bool
  opens_sibling_by key t = is_underfull_count (remaining_by key t)
