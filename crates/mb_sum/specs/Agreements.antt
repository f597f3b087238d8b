-- What it is that a part prunes a tree, or that two byte strings of one digest are shown.
use Rattle.std.specs.Prelude.{ℕ, List, Option, Some, None}
use Rattle.vo_spec.specs.declared.trees.Agreement.{Agreement}
use Rattle.vo_spec.specs.declared.trees.Agreement.TheVariants.{Prunes as Does_prune, Collides as Found}
use Rattle.vo_spec.specs.Collides.{Collides}

-- the fact holds where nothing is found; what is found are two different byte strings of one
-- digest, which are as said
abbrev pub HoldsOrShows : Option (List ℕ × List ℕ) → Type 0 → (List ℕ → List ℕ → Type 0) → Type 0
HoldsOrShows None fact Are = fact
HoldsOrShows (Some found) fact Are = Collides found.0 found.1 × Are found.0 found.1

abbrev pub PrunesOrShows : Agreement → Type 0 → (List ℕ → List ℕ → Type 0) → Type 0
PrunesOrShows Does_prune fact Are = fact
PrunesOrShows (Found found) fact Are = Collides found.0 found.1 × Are found.0 found.1
