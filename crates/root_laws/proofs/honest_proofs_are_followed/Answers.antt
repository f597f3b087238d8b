use Rattle.std.proofs.Common.{◌∙◌}
use Rattle.vo_spec.specs.Honest.{honest_trees}
use Rattle.vo_spec.specs.Tables.{tables_after}
use Rattle.vo_laws.proofs.RepresentationLaws.{stands}
use Rattle.root_laws.proofs.BatchSteps.{batch_proved, accepted_roots, refused_roots, plainly_refused}
use Rattle.root_laws.proofs.Representation.{honest_standing, read_honestly}
use Rattle.root_laws.proofs.honest_proofs_are_followed.Goals as goal

pub returns : goal.returns
returns c = record {
  standing = λ stored version batch standing fits. batch_proved version batch stored fits.each standing;
  accepted = λ earlier version batch after earlier_fit fits e.
      batch_proved version batch (honest_trees earlier) fits.each (honest_standing earlier earlier_fit)
      ∙ accepted_roots version batch (honest_trees earlier) after e;
  refused = λ earlier version batch index why earlier_fit fits e.
      let stand = stands earlier earlier_fit in
      batch_proved version batch (honest_trees earlier) fits.each (honest_standing earlier earlier_fit)
      ∙ refused_roots version batch (honest_trees earlier) index why
      (plainly_refused batch (honest_trees earlier) (tables_after earlier) (index, why) fits.each stand.0 stand.1 e);
  read = read_honestly;
}
