-- The proof for an interval that a totals tree has: it prunes the tree, is canonical, is the only
-- part of it that is so, and has few open nodes.
use Rattle.std.proofs.Common.{◌≡◌, Bool, false, List, [], ◌∷◌, None, refl, ap}
use Rattle.std.specs.List.{AllByRecursion}
use Rattle.vo_spec.specs.declared.keys.Interval.{Interval}
use Rattle.vo_spec.specs.Parts.{entries}
use Rattle.vo_spec.specs.Representation.{IsTree, fewest_in_root}
use Rattle.vo_laws.proofs.WalkLaws as walks
use Rattle.totals_laws.specs.TotalsTrees.{TotalsPart, totals_family, SameEntry, Prunes, digest, total_entry_bytes}
use Rattle.totals_laws.specs.TotalsProofs.{totals_walk, root_reach, IsCanonical, prune_totals}
use Rattle.totals_laws.specs.declared.totals.TotalEntry.{TotalEntry}

pub pruned_prunes : (interval : Interval) (t : TotalsPart) → Prunes (prune_totals interval t) t
pruned_prunes interval t = walks.walk_prunes (totals_walk interval) totals_family SameEntry (λ e. refl) (root_reach interval) t

pub digest_same : (p t : TotalsPart) → Prunes p t → digest p ≡ digest t
digest_same = walks.digest_kept totals_family SameEntry (λ e f same. ap total_entry_bytes same)

nothing_lacks : (es : List TotalEntry) → AllByRecursion (λ (e : TotalEntry). ◌≡◌ {A = Bool} false false) es
nothing_lacks [] = tt
nothing_lacks (e ∷ es) = (refl, nothing_lacks es)

pub pruned_canonical : (interval : Interval) (t : TotalsPart) → IsTree totals_family t → IsCanonical interval (prune_totals interval t)
pruned_canonical interval t tree = record {
  complete = walks.walk_complete (totals_walk interval) totals_family (root_reach interval) (fewest_in_root totals_family t) tree.height None None t tree.shape (nothing_lacks (entries t));
  minimal = walks.walk_bare (totals_walk interval) totals_family (λ e. refl) (root_reach interval) t;
}

pub only_canonical : (interval : Interval) (p t : TotalsPart) → Prunes p t → IsCanonical interval p → p ≡ prune_totals interval t
only_canonical interval p t z is = walks.only_part (totals_walk interval) totals_family SameEntry (λ e f same l x. same) (root_reach interval) p t is.complete is.minimal z
