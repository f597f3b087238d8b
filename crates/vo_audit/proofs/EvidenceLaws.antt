-- Strings that are hashed at one place, by the trees of a command and of those behind it.
use Rattle.std.proofs.Common.{◌≡◌, ℕ, List, ◌∷◌, Ok, drop, inr, sym, subst}
use Rattle.std.specs.Prelude.{IsOkAnd}
use Rattle.vo_spec.specs.declared.tables.Command.{Command}
use Rattle.vo_spec.specs.Trees.{RowTree}
use Rattle.vo_spec.specs.Honest.{Stored, work}
use Rattle.owner_roots.specs.Next.{trees_taken}
use Rattle.vo_audit.specs.Evidence.{AreHashedInTurn}

pub hashed_later : (c : Command) (cs : List Command) (trees : List RowTree) (stored new : List Stored) (x y : List ℕ) → work c stored ≡ Ok new
    → AreHashedInTurn cs (drop (trees_taken c) trees) new x y → AreHashedInTurn (c ∷ cs) trees stored x y
hashed_later c cs trees stored new x y e hashed =
    inr (subst (λ w. IsOkAnd w (λ after. AreHashedInTurn cs (drop (trees_taken c) trees) after x y)) (sym e) hashed)
