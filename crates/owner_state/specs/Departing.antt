-- Where an owner's roots depart from the roots of honest trees.
use Rattle.std.specs.Prelude.{◌≡◌, ◌≢◌, ℕ, ◌+◌, ◌-◌, ◌<◌, List, length, take, drop, Option, Some, None, Ok, slice_get}
use Rattle.vo_spec.specs.declared.records.Catalog.{Catalog}
use Rattle.vo_spec.specs.declared.records.Entry.{Entry}
use Rattle.vo_spec.specs.Journals.{batches_of}
use Rattle.vo_spec.specs.Honest.{Stored, after_work, catalog_of, honest_trees}
use Rattle.owner_roots.specs.declared.roots.Roots.{Roots}
use Rattle.owner_roots.specs.Next.{NextOf}
use Rattle.owner_roots.specs.Owners.{AreOwnedTo, honest_roots}
use Rattle.owner_state.specs.declared.departures.Departure.{Departure}

-- the trees of a version: those after the batches of entries 1 to this one
abbrev pub trees_at : ℕ → List Entry → List Stored
trees_at version es = honest_trees (batches_of (take version (drop 1 es)))

-- The catalog of the owner's roots behind the entry of this version.
pub record HasCatalog (key : List ℕ) (es : List Entry) (version : ℕ) (c : Catalog) : Type 0 where
  pub behind : Roots
  pub owned : AreOwnedTo key (take (version + 1) es) behind
  pub same : behind.catalog ≡ c

-- Behind each entry below this number the owner's catalog is that of the honest trees.
abbrev pub AreHonestBelow : List ℕ → ℕ → List Entry → Type 0
AreHonestBelow key n es = (version : ℕ) → version < n
    → HasCatalog key es version (catalog_of (trees_at version es))

-- The entry of this number is the first behind which it is another.
pub record IsFirstDeparture (key : List ℕ) (es : List Entry) (index : ℕ) : Type 0 where
  pub within : index < length es
  pub before : AreHonestBelow key index es
  pub catalog : Catalog
  pub behind : HasCatalog key es index catalog
  pub departs : catalog ≢ catalog_of (trees_at index es)

-- The entry of this number leads by its proofs from the roots of the honest trees before it to
-- another catalog than that of the trees after its batch.
pub record DepartsAt (es : List Entry) (index : ℕ) (stored : List Stored) : Type 0 where
  pub entry : Entry
  pub there : slice_get es index ≡ Some entry
  pub later : 0 < index
  pub trees : stored ≡ trees_at (index - 1) es
  pub after : Roots
  pub next : NextOf (honest_roots (index - 1) stored) entry.batch.commands entry.proofs (Ok after)
  pub departs : after.catalog ≢ catalog_of (after_work stored entry.batch.commands)

-- The first departure is there, or there is none.
abbrev pub Departs : List ℕ → List Entry → Option Departure → Type 0
Departs key es None = AreHonestBelow key (length es) es
Departs key es (Some d) = IsFirstDeparture key es d.index × DepartsAt es d.index d.tables
