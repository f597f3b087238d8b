-- What two byte strings of one digest are that an audit finds.
use Rattle.std.specs.Prelude.{◌⊎◌, ◌-◌, ◌≤◌, ℕ, List, ◌∷◌, slice_get, Option, IsSomeAnd}
use Rattle.vo_spec.specs.declared.records.Entry.{Entry}
use Rattle.vo_spec.specs.declared.checks.Verdict.{Verdict}
use Rattle.vo_spec.specs.declared.checks.Verdict.TheVariants.{Unsigned, Exact, Collides as Collide}
use Rattle.vo_spec.specs.Conditions.{Query}
use Rattle.vo_spec.specs.Trees.{RowTree}
use Rattle.vo_spec.specs.Replies.{Reply, IsReply}
use Rattle.vo_spec.specs.Checks.{tables_wanted}
use Rattle.vo_spec.specs.Honest.{Stored, catalog_of}
use Rattle.tree_collide.specs.Preimages.{OfStrings, AreCatalogs}
use Rattle.owner_roots.specs.Owners.{IsOwned}
use Rattle.owner_state.specs.declared.departures.Departure.{Departure}
use Rattle.owner_state.specs.Departing.{IsFirstDeparture, trees_at}
use Rattle.vo_audit.specs.Evidence.{AreHashedIn, AreHashedInBatch}

-- one of these trees and that of its table, whose name stands at its place, hash them at one place
abbrev pub AreHashedInOne : List Stored → List (List ℕ) → List RowTree → OfStrings
AreHashedInOne stored (name ∷ names) (p ∷ ps) x y = AreHashedIn stored name p x y
    ⊎ AreHashedInOne stored names ps x y
AreHashedInOne stored _ _ x y = ⊥

-- They are of the reply's catalog or of one of its trees, beside these tables.
abbrev pub AreOfReply : Query → Reply → List Stored → OfStrings
AreOfReply q r stored x y = AreCatalogs r.catalog (catalog_of stored) x y
    ⊎ AreHashedInOne stored (tables_wanted q (catalog_of stored)) r.trees x y

-- They are of a tree of the proofs of the entry of this number, beside the honest tables before it.
abbrev pub AreOfProofs : List Entry → ℕ → OfStrings
AreOfProofs es index x y = IsSomeAnd (slice_get es index)
    (λ e. AreHashedInBatch e.batch.commands e.proofs (trees_at (index - 1) es) x y)

-- That entry is the first behind which the owner's catalog isn't the honest one, and stands not
-- behind this version.
abbrev pub AreOfDeparture : List ℕ → List Entry → ℕ → OfStrings
AreOfDeparture key es version x y = (index : ℕ) × IsFirstDeparture key es index × (index ≤ version)
    × AreOfProofs es index x y

-- The strings of a verdict, if it has such, are as said.
abbrev pub Shows : Verdict → OfStrings → Type 0
Shows (Unsigned rec signature last) Are = Unit {0}
Shows (Exact version) Are = Unit {0}
Shows (Collide found) Are = Are found.0 found.1

-- They are of the reply, or of the departure that was found, if it isn't behind its version.
abbrev pub AreFound : Query → Reply → List Entry → Option Departure → OfStrings
AreFound q r es departure x y = AreOfReply q r (trees_at r.rec.version es) x y
    ⊎ IsSomeAnd departure
    (λ (d : Departure). (d.index ≤ r.rec.version) × AreOfProofs es d.index x y)

abbrev pub AreShown : List ℕ → Query → Reply → List Entry → OfStrings
AreShown key q r es x y = AreOfReply q r (trees_at r.rec.version es) x y
    ⊎ AreOfDeparture key es r.rec.version x y

-- The verdict's strings, if it has such, are of what these bytes have.
abbrev pub ShowsOf : List ℕ → List ℕ → Query → List ℕ → Verdict → Type 0
ShowsOf key journal q bytes verdict = (es : List Entry) × IsOwned key journal es × (r : Reply)
    × IsReply bytes r × Shows verdict (AreShown key q r es)
