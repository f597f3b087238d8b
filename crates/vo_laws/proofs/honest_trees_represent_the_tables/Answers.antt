use Rattle.vo_spec.specs.Tables.{tables_after}
use Rattle.vo_spec.specs.Honest.{honest_trees}
use Rattle.vo_laws.proofs.RepresentationLaws.{stands}
use Rattle.vo_laws.proofs.StoredFits.{honest_trees_fit, catalog_fits, record_fits}
use Rattle.vo_laws.proofs.ReplyFits.{reply_fits}
use Rattle.vo_laws.proofs.honest_trees_represent_the_tables.Goals as goal

pub returns : goal.returns
returns c = record {
  stand = λ batches fits. (stands batches fits).0;
  trees_fit = honest_trees_fit;
  catalog_fits = λ batches fits. catalog_fits (honest_trees batches) (tables_after batches) (stands batches fits).0 (stands batches fits).1;
  record_fits = record_fits;
  reply_fits = reply_fits;
}
