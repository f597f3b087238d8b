-- The first entry of a key, looked up.
use Rattle.std.specs.Prelude.{ℕ, if◌then◌else◌, List, [], ◌∷◌, drop, slice_get, Result, Ok, Err, bytes_eq}
use Rattle.vo_spec.specs.declared.trees.UpdateFault.{UpdateFault}
use Rattle.vo_spec.specs.declared.trees.UpdateFault.TheVariants.{Missing, NoRow}
use Rattle.vo_spec.specs.Parts.{Part, Parts, stub, leaf, inner, none, more, Family}
use Rattle.vo_spec.specs.Inserts.{goes_here}

module _ {E M : Type 0} (family : Family E M) where
  abbrev pub found_entry : List ℕ → List E → Result E UpdateFault
  found_entry key [] = Err NoRow
  found_entry key (e ∷ es) = if bytes_eq (family.key e) key then Ok e else found_entry key es

  -- or why there is none: the search for the key comes to a stub, or to a leaf without the key
  abbrev mutual
    pub found : List ℕ → Part E M → Result E UpdateFault
    found key (stub d) = Err Missing
    found key (leaf es) = found_entry key es
    found key (inner ss ps) = found_in key ss ps

    pub found_in : List ℕ → List (List ℕ) → Parts E M → Result E UpdateFault
    found_in key ss none = Err Missing
    found_in key ss (more m p ps) =
        if goes_here key (slice_get ss 0) then found key p else found_in key (drop 1 ss) ps
