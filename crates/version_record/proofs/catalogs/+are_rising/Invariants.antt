use Rattle.std.proofs.Common.{length}
use Rattle.version_record.proofs.catalogs.+are_rising.Given as goal

abbrev pub decreases-are_rising : goal.decreases-are_rising
decreases-are_rising l = length l.tables.now
