use Rattle.std.proofs.Common.{arith}
use Rattle.version_record.proofs.CatalogLaws.{is_catalog, is_read}
use Rattle.version_record.proofs.catalogs.read_catalog.Goals as goal

pub returns-clause-found : goal.returns-clause-found
returns-clause-found c = is_catalog c.args.bytes.now c.catalog_in.result (λ i. omega (arith, c.type_inv.bytes i)) c.catalog_in.ensures

pub returns-clause-only : goal.returns-clause-only
returns-clause-only c = λ catalog is. is_read c.args.bytes.now c.catalog_in.result catalog c.catalog_in.ensures is
