-- The leaf that a signature names, and how old a record is.
use Rattle.std.proofs.Common.{◌≡◌, ℕ, ◌<◌, List, [], Some, refl}
use Rattle.std.proofs.lemmas.Bool.{lt-ltb, ne_eqb}
use Rattle.vo_spec.specs.declared.checks.CheckFault.TheVariants.{Stale, WrongLeaf}
use Rattle.vo_spec.specs.declared.records.Record.{Record}
use Rattle.vo_spec.specs.Checks.{age_fault, leaf_fault}
use Rattle.vo_spec.specs.Keys.{leaf_of}
use Rattle.vo_spec.specs.Records.{no_tables}
use Rattle.held_replies.specs.Testing.{bare_reply}

-- a leaf that isn't the version's
pub other_leaf : (key signature : List ℕ) (rec : Record) (q : ℕ) → leaf_of key signature ≡ Some q → (q ≡ rec.version → ⊥) → Some (WrongLeaf rec.version q) ≡ leaf_fault key (bare_reply rec signature no_tables)
other_leaf key signature rec q named other = rw (named, ne_eqb q rec.version other) refl

-- a version below the least
pub too_old : (least : ℕ) (rec : Record) → rec.version < least → Some (Stale least rec.version) ≡ age_fault least (bare_reply rec [] no_tables)
too_old least rec below = rw (lt-ltb rec.version least below) refl
