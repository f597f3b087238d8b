-- What is compared of two replies, and what is found.
use Rattle.std.specs.Prelude.{◌≡◌, ◌⊎◌, List, length}
use Rattle.std.specs.List.{AllZip}
use Rattle.vo_spec.specs.Fits.{FitsPart}
use Rattle.vo_spec.specs.Trees.{RowTree, digest}
use Rattle.vo_spec.specs.Pruning.{IsCanonical}
use Rattle.vo_spec.specs.Needs.{tables_used}
use Rattle.vo_spec.specs.Replies.{Reply}
use Rattle.tree_collide.specs.Preimages.{OfStrings, AreOfTrees, AreCatalogs}
use Rattle.query_plan.specs.Plans.{QueryPlan}
use Rattle.plan_run.specs.Running.{run_needs}

abbrev pub ShowTheSame : Reply → Reply → Type 0
ShowTheSame r s = (r.catalog ≡ s.catalog) × (r.trees ≡ s.trees)

-- what their catalogs hash, or two of their trees at one place
abbrev pub AreOfReplies : Reply → Reply → OfStrings
AreOfReplies r s x y = AreCatalogs r.catalog s.catalog x y ⊎ AreOfTrees r.trees s.trees x y

-- two trees of one digest
pub record AreTwins (p q : RowTree) : Type 0 where
  pub fits : FitsPart p
  pub second_fits : FitsPart q
  pub same : digest p ≡ digest q

-- the trees of two replies, each the proof for what the plan needs of it
pub record AreComparable (plan : QueryPlan) (ps qs : List RowTree) : Type 0 where
  pub count : length ps ≡ length (tables_used plan.query.bound_sources)
  pub twins : AllZip AreTwins ps qs
  pub canonical : AllZip IsCanonical (run_needs plan ps) ps
  pub second_canonical : AllZip IsCanonical (run_needs plan qs) qs
