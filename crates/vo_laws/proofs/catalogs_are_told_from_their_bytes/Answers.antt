use Rattle.vo_laws.proofs.CatalogEncoding.{catalog_told, catalogs_collide}
use Rattle.vo_laws.proofs.catalogs_are_told_from_their_bytes.Goals as goal

pub returns : goal.returns
returns c = record { told = catalog_told; collide = catalogs_collide }
