-- Trees that stand for plain tables are within the limits of a tree.
use Rattle.std.proofs.Common.{ℕ, ◌+◌, List, ◌∷◌, take, drop, subst, arith}
use Rattle.std.specs.List.{AllByRecursion}
use Rattle.vo_spec.specs.Fits.{FitsTree}
use Rattle.vo_spec.specs.Honest.{Stored}
use Rattle.vo_laws.proofs.ListLaws.{each_right}
use Rattle.vo_laws.proofs.TreeLevels.{whole_fits}
use Rattle.vo_laws.specs.Separators.{SeparatedIn}
use Rattle.stored_tables.specs.Representation.{IsStanding}
use Rattle.stored_tables.specs.Positions.{IsAt}
use Rattle.stored_tables.proofs.ListLaws.{parted_at}
use Rattle.stored_tables.proofs.StandingLaws.{plain_at}

separated_at : (name : List ℕ) (stored : List Stored) (at : ℕ) (s : Stored) → IsStanding stored → IsAt name stored at s → SeparatedIn s
separated_at name stored at s standing is =
    (each_right SeparatedIn (take at stored) (s ∷ drop (at + 1) stored) (subst (AllByRecursion SeparatedIn) (parted_at stored at s is.there) standing.separated)).0

pub fits_at : (name : List ℕ) (stored : List Stored) (at : ℕ) (s : Stored) → IsStanding stored → IsAt name stored at s → FitsTree s.tree
fits_at name stored at s standing is =
    let plain = plain_at name stored at s standing is in
    whole_fits s.tree plain.table.rows plain.stands.stands (separated_at name stored at s standing is) plain.fits.rows (omega (arith, plain.fits.count))
