-- The proof for an interval of keys: which nodes of a totals tree are visited and which children
-- taken whole, and what a part of a tree answers.
use Rattle.std.specs.Prelude.{◌≡◌, ℕ, ◌+◌, Bool, true, false, not, ◌&&◌, if◌then◌else◌, List, filter, slice_get, drop, Option, Some, None}
use Rattle.vo_spec.specs.declared.keys.Bound.{Bound}
use Rattle.vo_spec.specs.declared.keys.Bound.TheVariants.{Absent, Inclusive, Exclusive}
use Rattle.vo_spec.specs.declared.keys.Interval.{Interval}
use Rattle.vo_spec.specs.Values.{key_lt}
use Rattle.vo_spec.specs.Scans.{in_interval, is_empty_interval, visits}
use Rattle.vo_spec.specs.Parts.{stub, leaf, inner, none, more}
use Rattle.vo_spec.specs.Pruning.{Walk, is_missing_by, has_surplus_by, pruned_by}
use Rattle.totals_laws.specs.TotalsTrees.{TotalsPart, TotalsParts, no_totals, plus, reduced, totals_of_entries, totals_family}
use Rattle.totals_laws.specs.declared.totals.TotalEntry.{TotalEntry}
use Rattle.totals_laws.specs.declared.totals.Totals.{Totals}

-- The lower end of a node passes where all keys at or above its lower separator are above the lower
-- bound: the bound is missing, or the separator is there and is above it, or at it where the bound
-- is inclusive.
abbrev pub begins_inside : Bound → Option (List ℕ) → Bool
begins_inside Absent lower = true
begins_inside (Inclusive low) None = false
begins_inside (Inclusive low) (Some separator) = not (key_lt separator low)
begins_inside (Exclusive low) None = false
begins_inside (Exclusive low) (Some separator) = key_lt low separator

-- the upper end: the bound is missing, or the upper separator is there and is at or below it
abbrev pub ends_inside : Bound → Option (List ℕ) → Bool
ends_inside Absent upper = true
ends_inside (Inclusive high) None = false
ends_inside (Inclusive high) (Some separator) = not (key_lt high separator)
ends_inside (Exclusive high) None = false
ends_inside (Exclusive high) (Some separator) = not (key_lt high separator)

abbrev pub is_taken : Interval → Option (List ℕ) → Option (List ℕ) → Bool
is_taken interval lower upper = begins_inside interval.low lower && ends_inside interval.high upper

-- How a node is met: it is passed by, its totals are taken and it stays closed, or it is visited,
-- with the separators between which it stands.
pub data Reach : Type 0 where
  passed : Reach
  taken : Reach
  visited : Option (List ℕ) → Option (List ℕ) → Reach

-- a child between these separators
abbrev pub reach : Interval → Option (List ℕ) → Option (List ℕ) → Reach
reach interval lower upper =
    if visits interval lower upper
    then if is_taken interval lower upper then taken else visited lower upper
    else passed

-- the root, which is never taken
abbrev pub root_reach : Interval → Reach
root_reach interval = if is_empty_interval interval then passed else visited None None

-- where a child ends: at the separator after it, or, if it is the last one, where its parent does
abbrev pub child_end : Option (List ℕ) → Option (List ℕ) → Option (List ℕ)
child_end (Some separator) end = Some separator
child_end None end = end

-- The walk of a proof. Its state is how the node is met; among the children of a visited one, it is
-- the span of those to come.

abbrev pub is_visited : Reach → Bool
is_visited passed = false
is_visited taken = false
is_visited (visited lower upper) = true

abbrev pub onward : Interval → Reach → Option (List ℕ) → Reach
onward interval passed separator = passed
onward interval taken separator = passed
onward interval (visited lower end) separator = reach interval lower (child_end separator end)

abbrev pub past : Reach → Option (List ℕ) → Reach
past passed separator = passed
past taken separator = passed
past (visited lower end) separator = visited (child_end separator end) end

abbrev pub totals_walk : Interval → Walk TotalEntry Reach
totals_walk interval = record {
  opens = is_visited;
  onward = λ r lower upper. onward interval r upper;
  past = λ r lower upper. past r upper;
  lacks = λ e. false;
  exceeds = λ e. false;
  shown = λ e. e;
}

abbrev pub is_missing : Interval → TotalsPart → Bool
is_missing interval p = is_missing_by (totals_walk interval) (root_reach interval) p

abbrev pub has_surplus : Interval → TotalsPart → Bool
has_surplus interval p = has_surplus_by (totals_walk interval) (root_reach interval) p

-- exactly the visited nodes are open
pub record IsCanonical (interval : Interval) (p : TotalsPart) : Type 0 where
  pub complete : is_missing interval p ≡ false
  pub minimal : has_surplus interval p ≡ false

-- the proof for this interval that a tree has
abbrev pub prune_totals : Interval → TotalsPart → TotalsPart
prune_totals interval t = pruned_by (totals_walk interval) totals_family (root_reach interval) t

-- how many nodes are open
abbrev mutual
  pub open_nodes : TotalsPart → ℕ
  open_nodes (stub d) = 0
  open_nodes (leaf es) = 1
  open_nodes (inner ss ps) = open_in ps + 1

  pub open_in : TotalsParts → ℕ
  open_in none = 0
  open_in (more m p ps) = open_nodes p + open_in ps

-- What a part of a tree answers.

abbrev pub entries_inside : Interval → List TotalEntry → List TotalEntry
entries_inside interval es = filter (λ e. in_interval interval e.key) es

-- what a node gives that its parent holds these totals of, and what is gathered of it if it is
-- visited
abbrev pub by_reach : Reach → Totals → Totals → Totals
by_reach passed held gathered = no_totals
by_reach taken held gathered = held
by_reach (visited lower upper) held gathered = gathered

-- what is gathered of a visited node, and of some children of one, between these separators
abbrev mutual
  pub gathered : Interval → Option (List ℕ) → Option (List ℕ) → TotalsPart → Totals
  gathered interval lower end (stub d) = no_totals
  gathered interval lower end (leaf es) = totals_of_entries (entries_inside interval es)
  gathered interval lower end (inner ss ps) = gathered_in interval lower end ss ps

  pub gathered_in : Interval → Option (List ℕ) → Option (List ℕ) → List (List ℕ) → TotalsParts
      → Totals
  gathered_in interval lower end ss none = no_totals
  gathered_in interval lower end ss (more m p ps) =
      let upper = child_end (slice_get ss 0) end in
      plus (by_reach (reach interval lower upper) m (gathered interval lower upper p))
      (gathered_in interval upper end (drop 1 ss) ps)

abbrev pub answer : Interval → TotalsPart → Totals
answer interval p =
    reduced (by_reach (root_reach interval) no_totals (gathered interval None None p))
