-- What a test answers of a proof.
use Rattle.std.specs.Prelude.{◌≡◌, Bool, true, false, Result, Ok, Err}
use Rattle.vo_spec.specs.declared.trees.ScanFault.{ScanFault}
use Rattle.vo_spec.specs.declared.trees.ScanFault.TheVariants.{Missing, Memory}

-- Missing exactly where something is, else the answer; a want of memory may come in any case
abbrev pub JudgesOrMissing : Result Bool ScanFault → Bool → Bool → Type 0
JudgesOrMissing (Ok answer) missing right = (missing ≡ false) × (answer ≡ right)
JudgesOrMissing (Err Missing) missing right = missing ≡ true
JudgesOrMissing (Err Memory) missing right = Unit {0}
