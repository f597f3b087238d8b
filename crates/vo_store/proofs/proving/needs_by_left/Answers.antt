use Rattle.vo_store.proofs.ProofLaws.{unseen_none}
use Rattle.vo_store.proofs.proving.needs_by_left.Goals as goal

pub unreachable-requires : goal.unreachable-requires
unreachable-requires c =
    c.requires.shown (unseen_none _ (rw (c.in-Err-Missing.is, c.in-Err-Missing.field-0-is) at c.right_needs.ensures).1)
