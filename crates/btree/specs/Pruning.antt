-- What a change of an open part of a tree needs, so that it prunes the changed tree.
use Rattle.std.specs.Prelude.{◌≡◌}
use Rattle.vo_spec.specs.Parts.{Part, stub, leaf, inner, Family, PrunesBy}

module _ {E M : Type 0} (family : Family E M) (EntryPrunes : E → E → Type 0) where
  -- the one prunes the other, and its root is open
  abbrev pub OpenPrunes : Part E M → Part E M → Type 0
  OpenPrunes (stub d) t = ⊥
  OpenPrunes (leaf es) t = PrunesBy family EntryPrunes (leaf es) t
  OpenPrunes (inner ss ps) t = PrunesBy family EntryPrunes (inner ss ps) t

  -- an entry has the key of that which it prunes
  abbrev pub KeepsKeys : Type 0
  KeepsKeys = (e f : E) → EntryPrunes e f → family.key e ≡ family.key f

  -- an open node gets the annotation of that which it prunes; of a stub nothing is asked
  abbrev pub KeepsAnnotations : Type 0
  KeepsAnnotations = (p t : Part E M) → OpenPrunes p t → family.annotation p ≡ family.annotation t
