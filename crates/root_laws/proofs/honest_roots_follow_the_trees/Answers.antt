use Rattle.vo_spec.specs.Tables.{tables_after}
use Rattle.vo_spec.specs.Honest.{honest_trees}
use Rattle.vo_laws.proofs.RepresentationLaws.{stands}
use Rattle.root_laws.proofs.BatchSteps.{accepted_roots, refused_roots, plainly_refused}
use Rattle.root_laws.proofs.Representation.{honest_standing}
use Rattle.root_laws.proofs.honest_roots_follow_the_trees.Goals as goal

pub returns : goal.returns
returns c = record {
  accepted = λ stored after version batch e. accepted_roots version batch stored after e;
  refused = λ earlier version batch index why earlier_fit fits e.
      let stand = stands earlier earlier_fit in
      refused_roots version batch (honest_trees earlier) index why
      (plainly_refused batch (honest_trees earlier) (tables_after earlier) (index, why) fits.each stand.0 stand.1 e);
  stand = honest_standing;
}
