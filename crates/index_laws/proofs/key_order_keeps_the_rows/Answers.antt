use Rattle.index_laws.proofs.KeyOrdering.{of_key_kept}
use Rattle.index_laws.proofs.key_order_keeps_the_rows.Goals as goal

pub returns : goal.returns
returns c = of_key_kept
