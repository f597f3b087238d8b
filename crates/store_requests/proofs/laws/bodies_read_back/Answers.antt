use Rattle.batch_format.proofs.BatchLaws.{batch_again}
use Rattle.store_requests.proofs.BodyRounds.{install_again, standing_again, version_again, query_at_again}
use Rattle.store_requests.proofs.laws.bodies_read_back.Goals as goal

pub returns : goal.returns
returns c = record { batch = batch_again; install = install_again; standing = standing_again; version = version_again; query_at = query_at_again }
