use Rattle.std.proofs.Common.{subst}
use Rattle.std.specs.Prelude.{ℤ}
use Rattle.std.specs.Int.{w64}
use Rattle.std.proofs.lemmas.Int.{to_z-of_z}
use Rattle.totals_laws.specs.declared.totals.TotalEntry.{TotalEntry}
use Rattle.totals_laws.specs.TotalsChanges.{tree_with_value}
use Rattle.mb_update.specs.ChangeResults.{ChangesTo}
use Rattle.mb_sum.specs.Views.{part_of}
use Rattle.mb_sum.proofs.Changes.{set_keeps}
use Rattle.mb_sum.proofs.part_updates.PartTotalsTotalsUpdates.set.Goals as goal

pub returns-clause-within : goal.returns-clause-within
returns-clause-within c =
    let Q : ℤ → Type 0 = λ v. ChangesTo part_of c.set_entry.result (tree_with_value c.as_bytes.result.now v (part_of c.args.self.now)) in
    let R : TotalEntry → Type 0 = λ e. Q e.value in
    set_keeps c.as_bytes.result.now c.args.value (part_of c.args.self.now) c.set_entry.result c.ranges.value c.requires.within
    (subst Q (to_z-of_z w64 c.args.value c.ranges.value) (subst R c.in_ok-entry.ensures c.set_entry.ensures))
