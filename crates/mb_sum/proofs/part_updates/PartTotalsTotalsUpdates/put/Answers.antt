use Rattle.std.proofs.Common.{subst}
use Rattle.std.specs.Prelude.{ℤ}
use Rattle.std.specs.Int.{w64}
use Rattle.std.proofs.lemmas.Int.{to_z-of_z}
use Rattle.totals_laws.specs.declared.totals.TotalEntry.{TotalEntry}
use Rattle.totals_laws.specs.TotalsChanges.{tree_with}
use Rattle.mb_update.specs.ChangeResults.{ChangesTo}
use Rattle.mb_sum.specs.Views.{part_of}
use Rattle.mb_sum.proofs.Changes.{put_keeps}
use Rattle.mb_sum.proofs.part_updates.PartTotalsTotalsUpdates.put.Goals as goal

pub returns-clause-within : goal.returns-clause-within
returns-clause-within c =
    let P : TotalEntry → Type 0 = λ e. ChangesTo part_of c.put_entry.result (tree_with e.key e.value (part_of c.args.self.now)) in
    let Q : ℤ → Type 0 = λ v. ChangesTo part_of c.put_entry.result (tree_with c.args.key.now v (part_of c.args.self.now)) in
    put_keeps c.args.key.now c.args.value (part_of c.args.self.now) c.put_entry.result c.requires.fits c.ranges.value c.requires.within
    (subst Q (to_z-of_z w64 c.args.value c.ranges.value) (subst P c.in_ok-entry.ensures c.put_entry.ensures))
