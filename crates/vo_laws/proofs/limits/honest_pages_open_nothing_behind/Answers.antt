use Rattle.vo_spec.specs.Honest.{honest_trees}
use Rattle.vo_laws.proofs.PageLaws.{pages_open}
use Rattle.vo_laws.proofs.limits.honest_pages_open_nothing_behind.Goals as goal

pub returns : goal.returns
returns c = λ batches q n rec signature row fits one limited bound met.
    pages_open (honest_trees batches) q n rec signature row one limited bound met
