-- Honest trees stand for tables within their limits, and their proofs are read as they are.
use Rattle.std.proofs.Common.{ℕ, List, refl, sym, inr}
use Rattle.std.specs.List.{AllByRecursion}
use Rattle.vo_spec.specs.declared.tables.Command.{Command}
use Rattle.vo_spec.specs.Batches.{FitsBatch}
use Rattle.vo_spec.specs.Tables.{tables_after}
use Rattle.vo_spec.specs.Replies.{proofs_bytes}
use Rattle.vo_spec.specs.Honest.{honest_proofs, honest_trees}
use Rattle.vo_laws.proofs.RepresentationLaws.{stands}
use Rattle.vo_laws.proofs.StoredFits.{honest_separated}
use Rattle.vo_laws.proofs.ProofSizes.{honest_proofs_fit}
use Rattle.stored_tables.specs.Representation.{IsStanding}
use Rattle.owner_roots.specs.Next.{NextOf}
use Rattle.owner_roots.specs.Owners.{honest_roots}
use Rattle.root_laws.specs.HonestRoots.{honest_next_roots}
use Rattle.root_laws.proofs.BatchSteps.{batch_proved}

pub honest_standing : (earlier : List (List Command)) → AllByRecursion FitsBatch earlier → IsStanding (honest_trees earlier)
honest_standing earlier fits =
    let i = stands earlier fits in
    record { tables = tables_after earlier; stand = i.0; fit = i.1; separated = honest_separated earlier fits }

pub read_honestly : (earlier : List (List Command)) (version : ℕ) (batch : List Command) → AllByRecursion FitsBatch earlier → FitsBatch batch
    → NextOf (honest_roots version (honest_trees earlier)) batch (proofs_bytes (honest_proofs batch (honest_trees earlier))) (honest_next_roots version batch (honest_trees earlier))
unfolding NextOf
read_honestly earlier version batch earlier_fit fits =
    inr (
      honest_proofs batch (honest_trees earlier),
      record { fits = honest_proofs_fit earlier batch earlier_fit fits; encoded = refl },
      sym (batch_proved version batch (honest_trees earlier) fits.each (honest_standing earlier earlier_fit)),
    )
