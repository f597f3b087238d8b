-- What a part lacks of a change's path.
use Rattle.std.specs.Prelude.{Result, Ok, Err}
use Rattle.std.proofs.Common.{◌≡◌, ℕ, Bool, true, false, List, refl}
use Rattle.vo_spec.specs.declared.trees.UpdateFault.{UpdateFault}
use Rattle.vo_spec.specs.Parts.{stub}
use Rattle.vo_spec.specs.Inserts.{result_map}
use Rattle.update_proof.specs.Changes.{path_is_missing}
use Rattle.update_proof.specs.Proving.{lacks}

-- what is counted of an answer lacks what the answer does
pub counted_lacks : {A B : Type 0} (count : A → B) (answer : Result A UpdateFault) → lacks (result_map count answer) ≡ lacks answer
counted_lacks count (Ok x) = refl
counted_lacks count (Err fault) = refl

pub stub_lacks : (with_row : Bool) (key digest : List ℕ) → true ≡ path_is_missing with_row key (stub digest)
stub_lacks true key digest = refl
stub_lacks false key digest = refl
