-- Of what fits: each part fits.
use Rattle.std.proofs.Common.{◌≡◌, ℕ, zero, suc, ◌<◌, ◌≤◌, List, [], ◌∷◌, length, get_or, arith, subst, sym}
use Rattle.std.specs.List.{AllByRecursion}
use Rattle.std.proofs.lemmas.Bool.{leb-true}
use Rattle.vo_spec.specs.Names.{FitsName, max_name}
use Rattle.batch_format.proofs.ReaderLaws.{all_true}

pub name_is_short : (name : List ℕ) → FitsName name → length name ≤ max_name
name_is_short [] fits = absurd cc
name_is_short (first ∷ others) fits = leb-true (length (first ∷ others)) max_name (all_true _ _ (all_true _ _ fits).0).0

pub item_fits : {X : Type 0} (P : X → Type 0) (xs : List X) (i : ℕ) (x : X) → AllByRecursion P xs → i < length xs → x ≡ get_or xs i x → P x
item_fits P [] i x h lt e = absurd (omega arith)
item_fits P (y ∷ xs) zero x h lt e = subst P (sym e) h.0
item_fits P (y ∷ xs) (suc i) x h lt e = item_fits P xs i x h.1 (omega arith) e
