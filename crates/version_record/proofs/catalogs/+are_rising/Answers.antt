use Rattle.version_record.proofs.Rising.{rising_if, rising_not}
use Rattle.version_record.proofs.catalogs.+are_rising.Goals as goal

pub returns-then-is_below : goal.returns-then-is_below
returns-then-is_below n c =
    rising_if _ _ _ _ _ c.is_below.result _ c.in-Some.ensures.cases.0 c.in-Some-split_first.ensures.cases.0 c.is_below.ensures c.if-is_below.true c.are_rising.ensures

pub returns-else-is_below : goal.returns-else-is_below
returns-else-is_below n c =
    rising_not _ _ _ _ _ c.is_below.result c.in-Some.ensures.cases.0 c.in-Some-split_first.ensures.cases.0 c.is_below.ensures c.if-is_below.false
